-- What follows where a status and a text agree with the serial elision: the status is 0, 2 or 3, and it is the only one.
use Rattle.std.proofs.Common.{◌≡◌, ◌≢◌, ◌∙◌, ℕ, ℤ, List, [], ◌∷◌, Option, Some, None, refl, sym, inl, inr}
use Rattle.pipe_model.specs.declared.report.Report.{Report}
use Rattle.pipe_model.specs.declared.trap.TrapAt.{TrapAt}
use Rattle.pipe_model.specs.Language.SyntaxTree.{SyntaxTree}
use Rattle.command_results.specs.Headline.{AgreesWithElision, IsRunStatus}
use Rattle.command_results.specs.SerialResults.{ElisionHasNoRace, elision_trap}

-- the status, by whether there are reports and a trap
data Verdict (tree : SyntaxTree) (input : List ℤ) (status : ℕ) : Type 0 where
  Racy : (ElisionHasNoRace tree input → ⊥) → status ≡ 2 → Verdict tree input status
  Calm : ElisionHasNoRace tree input → elision_trap tree input ≡ None → status ≡ 0 → Verdict tree input status
  Trapping : ElisionHasNoRace tree input → elision_trap tree input ≢ None → status ≡ 3 → Verdict tree input status

without_race : {tree : SyntaxTree} {input : List ℤ} {status : ℕ} {text : List ℕ} (trap : Option TrapAt) → trap ≡ elision_trap tree input
    → AgreesWithElision tree input [] status text → Verdict tree input status
without_race {tree} {input} None e a = let free = a.silent.0 refl in Calm free (sym e) (a.untrapped.1 (free, sym e))
without_race {tree} {input} (Some t) e a =
    let free = a.silent.0 refl in
    let some : elision_trap tree input ≢ None = λ none. (let d : Some t ≡ None = e ∙ none in cc (d)) in
    Trapping free some (a.trapped.1 (free, some))

verdict : {tree : SyntaxTree} {input : List ℤ} (reports : List Report) {status : ℕ} {text : List ℕ}
    → AgreesWithElision tree input reports status text
    → Verdict tree input status
verdict {tree} {input} [] a = without_race (elision_trap tree input) refl a
verdict {tree} {input} (r ∷ rs) a =
    let some : ElisionHasNoRace tree input → ⊥ = λ free. (let d : r ∷ rs ≡ [] = a.silent.1 free in cc (d)) in Racy some (a.racy.1 some)

-- the status says that the program was run
pub agreed_status : {tree : SyntaxTree} {input : List ℤ} {reports : List Report} {status : ℕ} {text : List ℕ}
    → AgreesWithElision tree input reports status text → IsRunStatus status
agreed_status {reports = reports} a = elim (verdict reports a) [
  | Racy some e ↦ inr (inl e)
  | Calm free none e ↦ inl e
  | Trapping free some e ↦ inr (inr e)
]

-- two that agree with the elision of one program have the same status, and the same text unless the status is 2
pub one_agreement : {tree : SyntaxTree} {input : List ℤ} {reports other_reports : List Report} {status other : ℕ} {text other_text : List ℕ}
    → AgreesWithElision tree input reports status text → AgreesWithElision tree input other_reports other other_text
    → (status ≡ other) × (status ≢ 2 → text ≡ other_text)
one_agreement {reports = reports} a b = elim (verdict reports a) [
  | Racy some e ↦ (e ∙ sym (b.racy.1 some), λ not_two. absurd (not_two e))
  | Calm free none e ↦ (e ∙ sym (b.untrapped.1 (free, none)), λ not_two. a.otherwise free ∙ sym (b.otherwise free))
  | Trapping free some e ↦ (e ∙ sym (b.trapped.1 (free, some)), λ not_two. a.otherwise free ∙ sym (b.otherwise free))
]

-- and the same text if they have the same reports
pub one_text : {tree : SyntaxTree} {input : List ℤ} {reports : List Report} {status other : ℕ} {text other_text : List ℕ}
    → AgreesWithElision tree input reports status text → AgreesWithElision tree input reports other other_text → text ≡ other_text
one_text {reports = reports} a b = elim (verdict reports a) [
  | Racy some e ↦ a.races e ∙ sym (b.races (b.racy.1 some))
  | Calm free none e ↦ a.otherwise free ∙ sym (b.otherwise free)
  | Trapping free some e ↦ a.otherwise free ∙ sym (b.otherwise free)
]
