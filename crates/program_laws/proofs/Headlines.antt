-- The headline follows from a finished run and right reports.
use Rattle.std.proofs.Common.{◌≡◌, ◌∙◌, sym, ap, subst, refl, ℕ, ℤ, List, [], ◌∷◌, ◌++◌, Option, Some, None, arith}
use Rattle.pipe_model.specs.declared.access.NodeAccess.{NodeAccess}
use Rattle.pipe_model.specs.declared.event.RunLog.{RunLog}
use Rattle.pipe_model.specs.declared.node.Node.{Node}
use Rattle.pipe_model.specs.declared.report.Report.{Report}
use Rattle.pipe_model.specs.declared.trap.TrapAt.{TrapAt}
use Rattle.pipe_model.proofs.Members.{among_right, none_among}
use Rattle.pipe_model.specs.Races.DeterminacyRaces.{Among, Here, Later, IsDeterminacyRace, IsRaceFree}
use Rattle.pipe_model.specs.Races.Reports.{AreRight, NamesRace}
use Rattle.pipe_model.specs.Runs.RunLogs.{accesses_after, columns_after, state_after}
use Rattle.pipe_model.specs.Texts.{output_lines, trap_lines}
use Rattle.pipe_model.specs.Language.ProgramsOfTrees.{whole_of}
use Rattle.pipe_model.specs.Language.SyntaxTree.{SyntaxTree}
use Rattle.pipe_model.specs.Pipelines.WholePrograms.{program_output, program_trap}
use Rattle.pipe_model.specs.Runs.WholeProgramRuns.{run_output, run_trap}
use Rattle.program_laws.specs.ProgramHeadline.{AgreesWithElision, HasNoProgramRace, RunsMeetTheHeadline, exit_status, printed_text}
use Rattle.program_laws.specs.ProgramRunLaws.{MeetsElision}
use Rattle.program_laws.proofs.ProgramElisions.{accepted_programs_meet_the_elision}

-- a report names a race
named_race : (columns : List (List Node)) (accesses : List NodeAccess) (r : Report) (n : NamesRace columns accesses r)
    → IsDeterminacyRace columns accesses n.earlier n.later
named_race columns accesses r n = record {
  first = subst (λ l. Among n.earlier l) (sym n.stands) (among_right n.earlier n.front (n.earlier ∷ (n.between ++ n.later ∷ n.rest)) Here);
  second = subst (λ l. Among n.later l) (sym n.stands) (among_right n.later n.front (n.earlier ∷ (n.between ++ n.later ∷ n.rest))
      (Later n.earlier (among_right n.later n.between (n.later ∷ n.rest) Here)));
  conflict = n.conflict;
  parallel = n.parallel;
}

-- without a report there is no race
no_report : (columns : List (List Node)) (accesses : List NodeAccess) → AreRight columns accesses [] → IsRaceFree columns accesses
no_report columns accesses right a b race = let h = right.all a b race in none_among h.0 h.1

-- with a report there is one
some_report : (columns : List (List Node)) (accesses : List NodeAccess) (r : Report) (rs : List Report) → AreRight columns accesses (r ∷ rs)
    → IsRaceFree columns accesses → ⊥
some_report columns accesses r rs right free =
    let n = right.name r Here in
    free n.earlier n.later (named_race columns accesses r n)

-- what is printed agrees with the serial elision, by cases on the reports and the trap
agreement : (tree : SyntaxTree) (input : List ℤ) (limit : ℕ) (log : RunLog) (reports : List Report) (lines : List ℕ)
    → AreRight (columns_after log.events) (accesses_after log.events) reports → MeetsElision (whole_of tree input) limit log
    → (trap : Option TrapAt) → run_trap (whole_of tree input) (state_after log.events) ≡ trap
    → AgreesWithElision tree input reports lines (exit_status reports trap)
    (printed_text reports lines (run_output (whole_of tree input) (state_after log.events)) trap)
agreement tree input limit log (r ∷ rs) lines right m trap is =
    let racy : HasNoProgramRace (whole_of tree input) → ⊥ =
    λ free. some_report (columns_after log.events) (accesses_after log.events) r rs right (m.races.1 free) in
    record {
      silent = ((λ e. absurd (cc (e))), (λ free. absurd (racy free)));
      racy = ((λ e. racy), (λ h. refl));
      races = λ e. refl;
      otherwise = λ free. absurd (racy free);
      trapped = ((λ e. absurd (omega (arith, e))), (λ h. absurd (racy h.0)));
      untrapped = ((λ e. absurd (omega (arith, e))), (λ h. absurd (racy h.0)));
    }
agreement tree input limit log [] lines right m None is =
    let w = whole_of tree input in
    let own = no_report (columns_after log.events) (accesses_after log.events) right in
    let free = m.races.0 own in
    let none : program_trap w ≡ None = sym (m.trap own) ∙ is in
    let text : output_lines (run_output w (state_after log.events)) ++ trap_lines None ≡ output_lines (program_output w) ++ trap_lines
    (program_trap w) =
    ap (λ o. output_lines o ++ trap_lines None) (m.output own) ∙ ap (λ t. output_lines (program_output w) ++ trap_lines t) (sym none) in
    record {
      silent = ((λ e. free), (λ h. refl));
      racy = ((λ e. absurd (omega (arith, e))), (λ h. absurd (h free)));
      races = λ e. absurd (omega (arith, e));
      otherwise = λ h. text;
      trapped = ((λ e. absurd (omega (arith, e))), (λ h. absurd (h.1 none)));
      untrapped = ((λ e. (free, none)), (λ h. refl));
    }
agreement tree input limit log [] lines right m (Some t) is =
    let w = whole_of tree input in
    let own = no_report (columns_after log.events) (accesses_after log.events) right in
    let free = m.races.0 own in
    let some : program_trap w ≡ Some t = sym (m.trap own) ∙ is in
    let text : output_lines (run_output w (state_after log.events)) ++ trap_lines (Some t) ≡ output_lines (program_output w) ++ trap_lines
    (program_trap w) =
    ap (λ o. output_lines o ++ trap_lines (Some t)) (m.output own) ∙ ap (λ x. output_lines (program_output w) ++ trap_lines x) (sym some) in
    record {
      silent = ((λ e. free), (λ h. refl));
      racy = ((λ e. absurd (omega (arith, e))), (λ h. absurd (h free)));
      races = λ e. absurd (omega (arith, e));
      otherwise = λ h. text;
      trapped = ((λ e. (free, (λ none. cc (sym some ∙ none)))), (λ h. refl));
      untrapped = ((λ e. absurd (omega (arith, e))), (λ h. (let e = sym some ∙ h.1 in absurd (cc (e)))));
    }

pub runs_meet_the_headline : RunsMeetTheHeadline
runs_meet_the_headline tree input limit log reports lines a run right =
    let m = accepted_programs_meet_the_elision tree input limit log a run in
    record {
      run = run;
      reported = right;
      agrees = agreement tree input limit log reports lines right m (run_trap (whole_of tree input) (state_after log.events)) refl;
      throttled = m.throttled;
    }
