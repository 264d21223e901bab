-- A book that has made no event keeps the tables.
use Rattle.std.proofs.Common.{◌≡◌, ℕ, ℤ, zero, suc, pos, ◌+◌, ◌*◌, ◌^◌, ◌<◌, ◌≤◌, ◌≤ℤ◌, List, [], ◌∷◌, ◌++◌, length, map, replicate}
use Rattle.std.proofs.Common.{reverse, refl, ap, ap₂, sym, ◌∙◌, arith, subst, true, false, Some, None, All, w64}
use lib.Dec.{T}
use lib.IntN.{nat_abs, negsuc}
use lib.Signed.{non_neg}
use mir.Val.{Fits}
use Rattle.std.proofs.lemmas.Grind.{common_steps}
use Rattle.std.proofs.lemmas.Int.{ints}
use Rattle.std.proofs.lemmas.List.{map-append, length-replicate, replicate_more, reverse-append}
use Rattle.std.proofs.lemmas.List.Elements.{All-replicate, All-cons, All-weaker}
use Rattle.order_2d.specs.OrderPairs.{OrderPair}
use Rattle.pipe_model.specs.declared.tree.Program.{Program}
use Rattle.pipe_model.specs.Runs.ControlRun.{EmptyControlRun}
use Rattle.pipe_model.specs.Language.Programs.{natural, pipeline_of}
use Rattle.pipe_model.specs.Runs.Run.{Run, EmptyRun}
use Rattle.pipe_model.specs.Runs.State.{initial_state}
use Rattle.pipe_model.specs.Language.SyntaxTree.{SyntaxTree, tree_of}
use Rattle.pipe_frame.specs.Ties.{Tie, BelongsTo}
use Rattle.run_laws.proofs.ListOrders.StartsOfRuns.{run_starts_sound}
use Rattle.frame_book.specs.Invariant.{IsBook}
use Rattle.frame_book.specs.Rooms.{IsPlanned, IsFresh, rooms_of, room_in}
use Rattle.frame_rows.specs.Totals.{total}
use Rattle.frame_book.specs.KeptTokens.{IsAtHome}
use Rattle.frame_book.specs.NewBooks.{IsPlannedProgram}
use Rattle.schedule_laws.specs.StartCounts.{most_instances}
use Rattle.frame_rows.specs.IterationRows.{IterationRow, empty_row}
use Rattle.frame_book.specs.CallEffects.{identities_of_orders}
use Rattle.frame_book.specs.Tables.{Tables}
use Rattle.frame_rows.proofs.Totals.{total_append}

-- a number that is not negative
pub abs_is : (z : ℤ) → pos 0 ≤ℤ z → nat_abs z ≡ natural z
abs_is (pos n) l = refl
abs_is (negsuc n) l = absurd (omega (arith, ints, l))

pub non_neg_is : (z : ℤ) → pos 0 ≤ℤ z → T (non_neg z)
non_neg_is (pos n) l = tt
non_neg_is (negsuc n) l = absurd (omega (arith, ints, l))

-- small numbers fit
pub fits_small : (x y : ℕ) → x ≡ y → y + 1 ≤ 262145 → (x < 2 ^ 32) × Fits w64 x × Fits w64 (x + 1) × Fits w64 (2 * (x + 1))
    × Fits w64 (2 * (x + 1) + 1)
fits_small x y e l =
    let a : x < 2 ^ 32 = omega (arith, e, l) in
    let b : x + 1 < 2 ^ 32 = omega (arith, e, l) in
    let d : 2 * (x + 1) < 2 ^ 32 = omega (arith, e, l) in
    let f : 2 * (x + 1) + 1 < 2 ^ 32 = omega (arith, e, l) in
    (a, grind (arith, common_steps), grind (arith, common_steps), grind (arith, common_steps), grind (arith, common_steps))

-- equal items in either direction
pub reverse_same : {X : Type 0} → (n : ℕ) (x : X) → reverse (replicate n x) ≡ replicate n x
reverse_same zero x = refl
reverse_same (suc n) x =
    let e : n + 1 ≡ suc n = omega arith in
    reverse-append (x ∷ []) (replicate n x) ∙ (ap (λ l. l ++ x ∷ []) (reverse_same n x) ∙ (replicate_more n x ∙ ap (λ k. replicate k x) e))

map_same : {X Y : Type 0} → (f : X → Y) (n : ℕ) (x : X) → map f (replicate n x) ≡ replicate n (f x)
map_same f zero x = refl
map_same f (suc n) x = ap (λ l. f x ∷ l) (map_same f n x)

total_same : {X : Type 0} → (m : X → ℕ) (n : ℕ) (x : X) → total m (replicate n x) ≡ n * m x
total_same m zero x = omega arith
total_same m (suc n) x = let h = total_same m n x in let e : suc n * m x ≡ m x + n * m x = grind arith in omega (arith, h, e)

module _ {M : Type 0} (Whole : SyntaxTree → M → Type 0) (ReadyAt : SyntaxTree → List ℤ → M → ℕ → List (List ℤ) → Type 0) (tie : M → Tie)
    (program : Program) (input : List ℤ) (limit : ℕ) (planned : IsPlannedProgram (tree_of program) input) (some : 0 < limit)
    (home : List M) (many : length home ≡ limit)
    (o : OrderPair) (whole : All (λ m. Whole (tree_of program) m × BelongsTo (tie m) (identities_of_orders o)) home)
    (down : o.down.log ≡ []) (right : o.right.log ≡ [])
    (down_room : 2 * most_instances (tree_of program) < o.down.capacity)
    (right_room : 2 * most_instances (tree_of program) < o.right.capacity) (room : ℕ)
    (wide : natural program.limits.iterations + 1 ≤ room) where
  abbrev pub n : ℕ
  n = natural program.limits.iterations

  abbrev pub s : ℕ
  s = natural program.limits.stages

  abbrev pub spare : List (IterationRow M)
  spare = empty_row 1 ∷ replicate n (empty_row s)

  abbrev pub tables : Tables M
  tables = record {
    program = program;
    input = input;
    limit = limit;
    rows = [];
    room = room;
    spare = spare;
    pool = record { home = home; size = length home };
    orders = o;
    ledger = record { log = []; room = 2 * most_instances (tree_of program) + 1 };
    closed = false;
    stopped = false;
    reads = 0;
  }

  turned : reverse spare ≡ replicate n (empty_row s) ++ empty_row 1 ∷ []
  turned = reverse-append (empty_row 1 ∷ []) (replicate n (empty_row s)) ∙ ap (λ l. l ++ empty_row 1 ∷ []) (reverse_same n (empty_row s))

  rooms : rooms_of {M = M} [] spare ≡ replicate n s ++ 1 ∷ []
  rooms = ap (map (λ (r : IterationRow M). r.room)) turned
      ∙ (map-append (λ (r : IterationRow M). r.room) (replicate n (empty_row s)) (empty_row 1 ∷ [])
      ∙ ap (λ l. l ++ 1 ∷ []) (map_same (λ (r : IterationRow M). r.room) n (empty_row s)))

  rooms_in : room_in {M = M} [] spare ≡ most_instances (tree_of program)
  rooms_in =
      let a : total (λ (r : IterationRow M). r.room) (reverse spare) ≡ total (λ (r : IterationRow M). r.room)
      (replicate n (empty_row s) ++ empty_row 1 ∷ []) = ap (total (λ (r : IterationRow M). r.room)) turned in
      let b = total_append (λ (r : IterationRow M). r.room) (replicate n (empty_row s)) (empty_row 1 ∷ []) in
      let d : total (λ (r : IterationRow M). r.room) (replicate n (empty_row s)) ≡ n * s =
      total_same (λ (r : IterationRow M). r.room) n (empty_row s) in
      let e : total (λ (r : IterationRow M). r.room) (reverse spare) ≡ most_instances (tree_of program) = a
      ∙ (b ∙ (let z : total (λ (r : IterationRow M). r.room) (empty_row {M = M} 1 ∷ []) ≡ 1 = refl in ap₂ (λ p q. p + q) d z)) in
      omega (arith, e)

  pub new_keeps : IsBook Whole ReadyAt tie tables
  new_keeps =
      let t = rooms_in in
      let bounded = planned.bounded in
      record {
        sized = record {
          planned = subst (IsPlanned (pipeline_of (tree_of program) input)) (sym rooms) planned.planned;
          fresh = All-cons IsFresh (empty_row 1) (replicate n (empty_row s)) refl (All-replicate IsFresh n (empty_row s) refl);
          bounded = omega (arith, t, bounded);
          down_room = omega (arith, t, down_room);
          right_room = omega (arith, t, right_room);
          log_room = omega (arith, t);
        };
        logged = record {
          run = EmptyControlRun;
          sound = (let run : Run (pipeline_of (tree_of program) input) limit [] initial_state =
              EmptyRun in run_starts_sound run);
          entries = refl;
        };
        rows = record { each = tt; marks = λ i k l. absurd (omega (arith, l)); started = refl };
        actions = record { performs = λ i. tt; matches = λ i f e. absurd (let q : None ≡ Some f = e in cc) };
        counted = λ i u. refl;
        tokens = record {
          tokens = λ g i f t e. absurd (let q : None ≡ Some f = e in cc);
          nows = λ i t e. absurd (let q : None ≡ Some t = e in cc);
          at_home = All-weaker (λ m. Whole (tree_of program) m × BelongsTo (tie m) (identities_of_orders o))
              (IsAtHome (Whole (tree_of program)) tie (identities_of_orders o)) (λ m q. record { whole = q.0; belongs = q.1 }) home whole;
        };
        down = down;
        right = right;
        stopped = refl;
        closed = ((λ x. absurd (let q : false ≡ true = x in cc)), (λ q. absurd (let e : None ≡ Some q.frame = q.is in cc)));
        alive = omega arith;
        size = many;
        some = some;
        last = omega arith;
        reads = omega arith;
        reserve = (let l = length-replicate n (empty_row {M = M} s) in omega (arith, l, wide));
        rise = λ i j d l w. absurd (omega (arith, w));
      }
