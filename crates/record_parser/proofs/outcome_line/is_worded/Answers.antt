use Rattle.std.proofs.Common.{◌≡◌, ◌∙◌, ◌++◌, ◌∷◌, ap, sym, subst, refl, List, ℕ, true, false}
use Rattle.std.specs.Prelude.{codes}
use Rattle.std.specs.Str.{bytes_eq}
use Rattle.pipe_model.specs.declared.tree.Declaration.{Declaration}
use Rattle.record_parser.specs.ByteDivisions.{IsFreeOf}
use Rattle.record_parser.specs.LogForms.{space}
use Rattle.record_parser.specs.OutcomeForms.{IsOutcomeTrapText, IsRaceText, IsWordedOutcome, RaceLine, TrapLine}
use Rattle.record_parser.proofs.Divisions.{at_first, never_divided}
use Rattle.record_parser.proofs.FreeFields.{free_by_test}
use Rattle.record_parser.proofs.Tests.{false_map, true_map}
use Rattle.record_parser.proofs.outcome_line.is_worded.Goals as goal

not_divided : (cells : List Declaration) (line : List ℕ) → IsFreeOf space line → IsWordedOutcome cells line → ⊥
not_divided cells line f (RaceLine text h e) = never_divided space line (codes "race") text f e
not_divided cells line f (TrapLine text h e) = never_divided space line (codes "trap") text f e

-- by the first word
by_word : (cells : List Declaration) (line word fields : List ℕ) → line ≡ word ++ space ∷ fields → IsFreeOf space word
    → (word ≡ codes "race" → IsRaceText cells fields → ⊥) → (word ≡ codes "trap" → IsOutcomeTrapText fields → ⊥)
    → IsWordedOutcome cells line → ⊥
by_word cells line word fields e f race trap (RaceLine text h is) =
    let parts = at_first space line word fields (codes "race") text e f is (free_by_test space (codes "race") refl) in
    race parts.0 (subst (IsRaceText cells) (sym parts.1) h)
by_word cells line word fields e f race trap (TrapLine text h is) =
    let parts = at_first space line word fields (codes "trap") text e f is (free_by_test space (codes "trap") refl) in
    trap parts.0 (subst IsOutcomeTrapText (sym parts.1) h)

race_is_no_trap : {word : List ℕ} → word ≡ codes "race" → word ≡ codes "trap" → ⊥
race_is_no_trap e f =
    let z : true ≡ false = ap (λ l. bytes_eq l (codes "race")) (sym e ∙ f) in
    absurd (cc)

pub returns-in_default-clause-no : goal.returns-in_default-clause-no
returns-in_default-clause-no c = λ h. not_divided c.args.cells.now c.args.line.now c.in_default.ensures.none h

pub returns-then-is_race_word-clause-yes : goal.returns-then-is_race_word-clause-yes
returns-then-is_race_word-clause-yes c = true_map c.is_race.result c.is_race.ensures.yes (λ h.
    RaceLine c.in-Some.fields.now h (c.in-Some.ensures.parts ∙ ap (λ w. w ++ space ∷ c.in-Some.fields.now)
    (c.is_race_word.ensures.0 c.if-is_race_word.true)))

pub returns-then-is_race_word-clause-no : goal.returns-then-is_race_word-clause-no
returns-then-is_race_word-clause-no c = false_map c.is_race.result c.is_race.ensures.no (λ no h.
    by_word c.args.cells.now c.args.line.now c.in-Some.word.now c.in-Some.fields.now c.in-Some.ensures.parts c.in-Some.ensures.first
    (λ e r. no r) (λ e t. race_is_no_trap (c.is_race_word.ensures.0 c.if-is_race_word.true) e) h)

pub returns-then-is_trap_word-clause-yes : goal.returns-then-is_trap_word-clause-yes
returns-then-is_trap_word-clause-yes c = true_map c.is_outcome_trap.result c.is_outcome_trap.ensures.yes (λ h.
    TrapLine c.in-Some.fields.now h (c.in-Some.ensures.parts ∙ ap (λ w. w ++ space ∷ c.in-Some.fields.now)
    (c.is_trap_word.ensures.0 c.if-is_trap_word.true)))

pub returns-then-is_trap_word-clause-no : goal.returns-then-is_trap_word-clause-no
returns-then-is_trap_word-clause-no c = false_map c.is_outcome_trap.result c.is_outcome_trap.ensures.no (λ no h.
    by_word c.args.cells.now c.args.line.now c.in-Some.word.now c.in-Some.fields.now c.in-Some.ensures.parts c.in-Some.ensures.first
    (λ e r. race_is_no_trap e (c.is_trap_word.ensures.0 c.if-is_trap_word.true)) (λ e t. no t) h)

pub returns-clause-no : goal.returns-clause-no
returns-clause-no c = λ h.
    by_word c.args.cells.now c.args.line.now c.in-Some.word.now c.in-Some.fields.now c.in-Some.ensures.parts c.in-Some.ensures.first
    (λ e r. (let z : true ≡ false = sym (c.is_race_word.ensures.1 e) ∙ c.if-is_race_word.false in absurd (cc)))
    (λ e t. (let z : true ≡ false = sym (c.is_trap_word.ensures.1 e) ∙ c.if-is_trap_word.false in absurd (cc))) h
