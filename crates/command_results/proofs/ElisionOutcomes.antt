-- The result of a program's serial elision: its reports are right, and its status and text are the elision's.
use Rattle.std.proofs.Common.{◌≡◌, ◌≢◌, ◌∙◌, ◌++◌, ℕ, ℤ, List, [], Some, None, inl, inr, refl, ap, sym, arith, append-nil}
use Rattle.pipe_model.specs.declared.report.Report.{Report}
use Rattle.pipe_model.specs.declared.trap.TrapAt.{TrapAt}
use Rattle.pipe_model.specs.Races.Reports.{AreRight}
use Rattle.pipe_model.specs.Language.SyntaxTree.{SyntaxTree}
use Rattle.pipe_model.specs.Texts.{trap_lines}
use Rattle.pipe_model.proofs.Members.{none_among}
use Rattle.dag_build.proofs.FirstRaceLaws.{first_races_are_right, no_report_is_race_free}
use Rattle.command_results.specs.Headline.{AgreesWithElision, IsRunStatus}
use Rattle.command_results.specs.SerialResults.{ElisionHasNoRace, ElisionResult, Races, Finishes, Traps, elision_accesses, elision_columns}
use Rattle.command_results.specs.SerialResults.{elision_output_text, elision_trap}

-- the status of a program that was run
pub outcome_status : {tree : SyntaxTree} {input : List ℤ} {status : ℕ} {text : List ℕ} {reports : List Report}
    → ElisionResult tree input status text reports → IsRunStatus status
outcome_status (Races reports some first) = inr (inl refl)
outcome_status (Finishes free ends) = inl refl
outcome_status (Traps t free ends) = inr (inr refl)

-- if the elision has no race, the empty list of reports is right
none_are_right : (tree : SyntaxTree) (input : List ℤ) → ElisionHasNoRace tree input → AreRight (elision_columns tree input)
    (elision_accesses tree input) []
none_are_right tree input free = record {
  name = λ r among. absurd (none_among r among);
  all = λ a b race. absurd (free a b race);
  rise = λ i j d l w. absurd (omega (arith, w));
}

-- the reports are right for the elision's own dag
pub outcome_is_right : {tree : SyntaxTree} {input : List ℤ} {status : ℕ} {text : List ℕ} {reports : List Report}
    → ElisionResult tree input status text reports
    → AreRight (elision_columns tree input) (elision_accesses tree input) reports
outcome_is_right {tree} {input} (Races reports some first) = first_races_are_right (elision_columns tree input)
    (elision_accesses tree input) reports first
outcome_is_right {tree} {input} (Finishes free ends) = none_are_right tree input free
outcome_is_right {tree} {input} (Traps t free ends) = none_are_right tree input free

-- the trap exists
traps : (tree : SyntaxTree) (input : List ℤ) (at : TrapAt) → elision_trap tree input ≡ Some at → elision_trap tree input ≢ None
traps tree input at some none = let d : None ≡ Some at = sym none ∙ some in cc (d)

-- whether there are reports, the status and the text are as the elision says
pub outcome_agrees : {tree : SyntaxTree} {input : List ℤ} {status : ℕ} {text : List ℕ} {reports : List Report}
    → ElisionResult tree input status text reports
    → AgreesWithElision tree input reports status text
outcome_agrees {tree} {input} (Races reports some first) = record {
  silent = no_report_is_race_free (elision_columns tree input) (elision_accesses tree input) reports first;
  racy = (λ e. some, λ e. refl);
  races = λ e. refl;
  otherwise = λ free. absurd (some free);
  trapped = ((λ e. absurd (omega (arith, e))), λ free. absurd (some free.0));
  untrapped = ((λ e. absurd (omega (arith, e))), λ free. absurd (some free.0));
}
outcome_agrees {tree} {input} (Finishes free ends) = record {
  silent = (λ e. free, λ e. refl);
  racy = ((λ e. absurd (omega (arith, e))), λ some. absurd (some free));
  races = λ e. absurd (omega (arith, e));
  otherwise = λ e. sym (append-nil (elision_output_text tree input)) ∙ ap (λ t. elision_output_text tree input ++ trap_lines t) (sym ends);
  trapped = ((λ e. absurd (omega (arith, e))), λ some. absurd (some.1 ends));
  untrapped = (λ e. (free, ends), λ e. refl);
}
outcome_agrees {tree} {input} (Traps t free ends) = record {
  silent = (λ e. free, λ e. refl);
  racy = ((λ e. absurd (omega (arith, e))), λ some. absurd (some free));
  races = λ e. absurd (omega (arith, e));
  otherwise = λ e. ap (λ t. elision_output_text tree input ++ trap_lines t) (sym ends);
  trapped = (λ e. (free, traps tree input t ends), λ e. refl);
  untrapped = ((λ e. absurd (omega (arith, e))), λ none. absurd (traps tree input t ends none.1));
}
