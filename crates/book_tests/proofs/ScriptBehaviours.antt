-- What the iterations of a script's program do, and why a book has room for them.
use Rattle.std.proofs.Common.{◌≡◌, ℕ, zero, suc, ℤ, pos, Bool, true, false, List, [], ◌∷◌, ◌++◌, ◌<◌, ◌≤◌, ◌+◌, ◌-◌, ◌⊎◌, if◌then◌else◌}
use Rattle.std.proofs.Common.{nat_lt, refl, sym, ◌∙◌, ap, subst, arith, length, replicate, inl, inr, get_or}
use Rattle.std.specs.Prelude.{◌≤ℤ◌}
use Rattle.std.specs.Ordering.{int_eq}
use Rattle.std.proofs.lemmas.Bool.{cases_lt, ltb-true, lt-ltb, le-ltb}
use Rattle.std.proofs.Math.Seq.{get_or-append_seam}
use Rattle.std.proofs.lemmas.List.{get_or-replicate, get_or_append_left, length-replicate, length-append}
use Rattle.std.proofs.lemmas.Nat.{mul-le}
use Rattle.std.proofs.lemmas.Int.{ints}
use Rattle.pipe_model.specs.declared.node.Kind.TheVariants.{Wait}
use Rattle.pipe_model.specs.declared.column.ColumnEnd.TheVariants.{End}
use Rattle.pipe_model.specs.Language.Evaluation.{Setting, Environment, execute_all}
use Rattle.pipe_model.specs.Language.Interaction.{Return, bind, with_budget}
use Rattle.pipe_model.specs.Language.Programs.{natural, pipeline_of, setting_of}
use Rattle.pipe_model.specs.Language.SyntaxTree.{SyntaxTree}
use Rattle.pipe_model.specs.Pipelines.Behaviour.{Behaviour, Staging}
use Rattle.pipe_model.specs.Pipelines.Pipeline.{AlwaysClosesLoop, HasLegalStages}
use Rattle.frame_book.specs.NewBooks.{IsPlannedProgram}
use Rattle.schedule_laws.specs.StartCounts.{most_instances}
use Rattle.frame_book.specs.Rooms.{IsPlanned, NamesAtMost}
use Rattle.book_tests.specs.declared.program.Source.{Source}
use Rattle.book_tests.specs.ScriptPrograms.{IsSmall, tree_of_source, waits_after, waits_of}
use Rattle.book_tests.specs.StageWaits.{iteration_behaviour, waiting}

-- the environment after stage `here`, which is the iteration's instance number `count`
abbrev at_stage : ℕ → ℕ → Environment
at_stage here count = record { locals = []; stage = record { number = pos here; count = count } }

-- the body after stage `here`, if two steps of the budget are left
body_waits : (setting : Setting) (l here n : ℕ)
    → with_budget 10 (suc (suc l)) (bind (execute_all setting (waits_after here n) (at_stage here (suc here))) (λ env. Return End))
    ≡ waiting setting.world.stages here n
body_waits setting l here zero = refl
body_waits setting l here (suc n) = by_room
    (subst (λ c. with_budget 10 10 (bind (execute_all setting (waits_after (suc here) n) (at_stage (suc here) c)) (λ env. Return End))
    ≡ waiting setting.world.stages (suc here) n)
    (let next : suc (suc here) ≡ suc here + 1 = omega arith in next) (body_waits setting 8 (suc here) n))
    (nat_lt (suc here) setting.world.stages) refl
  where
    above : nat_lt here (suc here) ≡ true
    above = lt-ltb here (suc here) (omega arith)

    by_room : with_budget 10 10 (bind (execute_all setting (waits_after (suc here) n) (at_stage (suc here) (suc here + 1)))
        (λ env. Return End)) ≡ waiting setting.world.stages (suc here) n
        → (b : Bool) → nat_lt (suc here) setting.world.stages ≡ b
        → with_budget 10 (suc (suc l)) (bind (execute_all setting (waits_after here (suc n)) (at_stage here (suc here)))
        (λ env. Return End)) ≡ waiting setting.world.stages here (suc n)
    by_room rest true e = rw (above, e) (ap (λ d. Staging Wait (pos (suc here)) d) rest)
    by_room rest false e = rw (above, e) refl

-- what each iteration of a script's program does
pub iterations_are_known : (s : Source) → IsSmall s → (input : List ℤ) (i : ℕ)
    → (pipeline_of (tree_of_source s) input).behaviour i ≡ iteration_behaviour s.turns (waits_of s.three) s.stages i
iterations_are_known s small input i = by_turn (nat_lt i s.turns) refl
  where
    by_turn : (b : Bool) → nat_lt i s.turns ≡ b → (pipeline_of (tree_of_source s) input).behaviour i ≡ iteration_behaviour s.turns
        (waits_of s.three) s.stages i
    by_turn true e =
        let turns = small.turns in
        let early = ltb-true i s.turns e in
        let less : nat_lt i s.iterations ≡ true = lt-ltb i s.iterations (omega (arith, turns, early)) in
        let other : int_eq (pos i) (pos s.iterations) ≡ false = rw (less) refl in
        rw (e, other) (body_waits (setting_of (tree_of_source s) input i) 4 0 (waits_of s.three))
    by_turn false e = rw (e) refl

-- ---- stages rise

legal_if : (first : Bool) (n : ℤ) (b : Bool) (x y : Behaviour) → HasLegalStages first n x → HasLegalStages first n y
    → HasLegalStages first n (if b then x else y)
legal_if first n true x y hx hy = hx
legal_if first n false x y hx hy = hy

legal_waiting : (first : Bool) (stages here n : ℕ) → HasLegalStages first (pos here) (waiting stages here n)
legal_waiting first stages here zero = λ e. absurd (cc (e))
legal_waiting first stages here (suc n) =
    let above : nat_lt here (suc here) ≡ true = lt-ltb here (suc here) (omega arith) in
    legal_if first (pos here) (nat_lt (suc here) stages) _ _
    ((λ e. cc (e)), (grind (arith, ints), legal_waiting false stages (suc here) n)) (λ e. absurd (cc (e)))

-- ---- how many stages an iteration names

few_if : (m : ℕ) (b : Bool) (x y : Behaviour) → (b ≡ true → NamesAtMost m x) → NamesAtMost m y → NamesAtMost m (if b then x else y)
few_if m true x y hx hy = hx refl
few_if m false x y hx hy = hy

few_waiting : (stages here n m : ℕ) → stages ≤ suc (here + m) → NamesAtMost m (waiting stages here n)
few_waiting stages here zero m h = tt
few_waiting stages here (suc n) zero h =
    few_if zero (nat_lt (suc here) stages) _ _ (λ e. let less = ltb-true (suc here) stages e in absurd (omega (arith, h, less))) tt
few_waiting stages here (suc n) (suc m) h =
    few_if (suc m) (nat_lt (suc here) stages) _ _ (λ e. (m, refl, few_waiting stages (suc here) n m (omega (arith, h)))) tt

-- ---- a book has room

planned : (s : Source) → IsSmall s → (input : List ℤ) → IsPlanned (pipeline_of (tree_of_source s) input)
    (replicate s.iterations s.stages ++ 1 ∷ [])
planned s small input = record {
  proper = record {
    legal = λ i. subst (λ d. HasLegalStages true (pos 0) d) (sym (iterations_are_known s small input i))
        (legal_if true (pos 0) (nat_lt i s.turns) _ _ (legal_waiting true s.stages 0 (waits_of s.three)) (λ e. refl));
    closes = subst AlwaysClosesLoop (sym (iterations_are_known s small input s.iterations))
        (let past : nat_lt s.iterations s.turns ≡ false = le-ltb s.iterations s.turns small.turns in rw (past) refl);
  };
  rows = length-append (replicate s.iterations s.stages) (1 ∷ []) ∙ ap (λ n. n + 1) (length-replicate s.iterations s.stages);
  room = λ i within. room i (cases_lt i s.iterations)
      (subst (λ n. i < n) (length-append (replicate s.iterations s.stages) (1 ∷ []) ∙ ap (λ n. n + 1)
      (length-replicate s.iterations s.stages)) within);
}
  where
    rooms : List ℕ
    rooms = replicate s.iterations s.stages ++ 1 ∷ []

    long : length (replicate s.iterations s.stages) ≡ s.iterations
    long = length-replicate s.iterations s.stages

    room : (i : ℕ) → (i < s.iterations) ⊎ (s.iterations ≤ i) → i < s.iterations + 1
        → (m : ℕ) × (get_or rooms i 0 ≡ suc m) × NamesAtMost m ((pipeline_of (tree_of_source s) input).behaviour i)
    room i (inl less) within =
        let stage = small.stage in (
          s.stages - 1,
          get_or_append_left (replicate s.iterations s.stages) (1 ∷ []) 0 i (rw (long) less)
              ∙ (get_or-replicate s.iterations i s.stages 0 less ∙ omega (arith, stage)),
          subst (λ d. NamesAtMost (s.stages - 1) d) (sym (iterations_are_known s small input i))
              (few_if (s.stages - 1) (nat_lt i s.turns) _ _ (λ e. few_waiting s.stages 0 (waits_of s.three) (s.stages - 1) (omega arith))
              tt),
        )
    room i (inr more) within =
        let turns = small.turns in
        let past : nat_lt i s.turns ≡ false = le-ltb i s.turns (omega (arith, turns, more)) in
        let last : i ≡ s.iterations = omega (arith, more, within) in (
          0,
          subst (λ k. get_or rooms k 0 ≡ 1) (long ∙ sym last) (get_or-append_seam (replicate s.iterations s.stages) 1 [] 0),
          subst (λ d. NamesAtMost 0 d) (sym (iterations_are_known s small input i)) (rw (past) tt),
        )

pub sources_are_planned : (s : Source) → IsSmall s → (tree : SyntaxTree) → tree ≡ tree_of_source s → (input : List ℤ)
    → IsPlannedProgram tree input
sources_are_planned s small tree same input =
    let iterations : tree.limits.iterations ≡ pos s.iterations = ap (λ (t : SyntaxTree). t.limits.iterations) same in
    let stages : tree.limits.stages ≡ pos s.stages = ap (λ (t : SyntaxTree). t.limits.stages) same in
    let all = mul-le s.iterations s.stages 65536 4 small.iterations small.stages in
    record {
      planned = subst (λ (t : SyntaxTree). IsPlanned (pipeline_of t input)
          (replicate (natural t.limits.iterations) (natural t.limits.stages) ++ 1 ∷ [])) (sym same) (planned s small input);
      bounded = subst (λ (t : SyntaxTree). most_instances t ≤ 262145) (sym same) (omega (arith, all));
      some_iterations = subst (λ z. pos 0 ≤ℤ z) (sym iterations) (grind (arith, ints));
      some_stages = subst (λ z. pos 0 ≤ℤ z) (sym stages) (grind (arith, ints));
    }
