-- Records, line after line.
use Rattle.std.proofs.Common.{◌≡◌, ◌∙◌, ap, sym, subst, refl, arith, ℕ, ◌+◌, ◌<◌, ◌≤◌, List, [], ◌∷◌, ◌++◌, length, take}
use Rattle.std.specs.Prelude.{slice_index_or}
use Rattle.std.specs.List.{AllZip}
use Rattle.std.proofs.lemmas.List.{length-append}
use Rattle.std.proofs.lemmas.List.Elements.{All-push}
use Rattle.std.proofs.lemmas.Slice.Zip.{AllZip-long}
use Rattle.std.proofs.Math.Seq.{get_or-append_seam, take-append_seam}
use mathlib.Core.List.{append-nil, append_assoc}
use Rattle.pipe_model.specs.declared.event.Event.{Event}
use Rattle.pipe_model.specs.declared.tree.Declaration.{Declaration}
use Rattle.record_parser.specs.RecordLines.{CannotFollow, IsFirstBadLine, IsLogLine, IsOutcomeLine, IsRecord, lines_of}

-- ---- one more line

zip_push : {A B : Type 0} (R : A → B → Type 0) (xs : List A) (ys : List B) (x : A) (y : B) → AllZip R xs ys → R x y
    → AllZip R (xs ++ x ∷ []) (ys ++ y ∷ [])
zip_push R [] [] x y h r = (r, tt)
zip_push R [] (b ∷ bs) x y h r = absurd h
zip_push R (a ∷ as') [] x y h r = absurd h
zip_push R (a ∷ as') (b ∷ bs) x y h r = (h.0, zip_push R as' bs x y h.1 r)

zip_nil : {A B : Type 0} (R : A → B → Type 0) (xs : List A) → AllZip R xs [] → xs ≡ []
zip_nil R [] h = refl
zip_nil R (x ∷ xs) h = absurd h

pub with_event : (cells : List Declaration) (lines : List (List ℕ)) (events : List Event) (line : List ℕ) (e : Event)
    → IsLogLine cells line e → IsRecord cells lines events
    → IsRecord cells (lines ++ line ∷ []) (events ++ e ∷ [])
with_event cells lines events line e h r = record {
  passed = r.passed;
  log = r.log ++ line ∷ [];
  parts = ap (λ ls. ls ++ line ∷ []) r.parts ∙ append_assoc r.passed r.log (line ∷ []);
  outcome = r.outcome;
  read = zip_push (IsLogLine cells) r.log events line e r.read h;
}

pub with_outcome : (cells : List Declaration) (lines : List (List ℕ)) (line : List ℕ) → IsOutcomeLine cells line → IsRecord cells lines []
    → IsRecord cells (lines ++ line ∷ []) []
with_outcome cells lines line h r =
    let none = zip_nil (IsLogLine cells) r.log r.read in
    record {
      passed = r.passed ++ line ∷ [];
      log = [];
      parts = ap (λ ls. ls ++ line ∷ []) (r.parts ∙ ap (λ l. r.passed ++ l) none ∙ append-nil r.passed)
          ∙ sym (append-nil (r.passed ++ line ∷ []));
      outcome = All-push (IsOutcomeLine cells) r.passed line r.outcome h;
      read = tt;
    }

-- ---- all lines

-- the first `number` lines of the text are a record of these events, and `rest` is what follows them
pub record HasRead (cells : List Declaration) (text rest : List ℕ) (number : ℕ) (events : List Event) : Type 0 where
  pub done : List (List ℕ)
  pub lines : lines_of text ≡ done ++ lines_of rest
  pub count : length done ≡ number
  pub record_done : IsRecord cells done events
  pub bound : number + length rest ≤ length text

pub one_more : (cells : List Declaration) (text rest line following : List ℕ) (number : ℕ) (old new : List Event)
    → HasRead cells text rest number old
    → lines_of rest ≡ line ∷ lines_of following → length following < length rest
    → ((lines : List (List ℕ)) → IsRecord cells lines old → IsRecord cells (lines ++ line ∷ []) new)
    → HasRead cells text following (number + 1) new
one_more cells text rest line following number old new h e shorter more =
    let count = h.count in
    let bound = h.bound in
    record {
      done = h.done ++ line ∷ [];
      lines = h.lines ∙ ap (λ ls. h.done ++ ls) e ∙ sym (append_assoc h.done (line ∷ []) (lines_of following));
      count = omega (arith, length-append h.done (line ∷ []), count);
      record_done = more h.done h.record_done;
      bound = omega (arith, shorter, bound);
    }

pub bad_line : (cells : List Declaration) (text rest line following : List ℕ) (number : ℕ) (events : List Event)
    → HasRead cells text rest number events
    → lines_of rest ≡ line ∷ lines_of following → CannotFollow cells events line → IsFirstBadLine cells (lines_of text) number
bad_line cells text rest line following number events h e bad =
    let count = h.count in
    let whole : lines_of text ≡ h.done ++ line ∷ lines_of following = h.lines ∙ ap (λ ls. h.done ++ ls) e in
    let size = ap length whole in
    let front : take number (lines_of text) ≡ h.done = ap (λ n. take n (lines_of text)) (sym count) ∙ ap (take (length h.done)) whole
    ∙ take-append_seam h.done (line ∷ lines_of following) in
    let here : slice_index_or (lines_of text) number [] ≡ line =
    ap (λ n. slice_index_or (lines_of text) n []) (sym count) ∙ ap (λ ls. slice_index_or ls (length h.done) []) whole
    ∙ get_or-append_seam h.done line (lines_of following) [] in
    record {
      within = omega (arith, size, count, length-append h.done (line ∷ lines_of following));
      before = events;
      record_before = subst (λ ls. IsRecord cells ls events) (sym front) h.record_done;
      bad = subst (CannotFollow cells events) (sym here) bad;
    }

-- there are at most as many events as bytes
pub events_are_few : (cells : List Declaration) (text rest : List ℕ) (number : ℕ) (events : List Event)
    → HasRead cells text rest number events
    → length events ≤ length text
events_are_few cells text rest number events h =
    let long = AllZip-long (IsLogLine cells) h.record_done.log events h.record_done.read in
    let parts = ap length h.record_done.parts in
    let count = h.count in
    let bound = h.bound in
    omega (arith, long, parts, length-append h.record_done.passed h.record_done.log, count, bound)
