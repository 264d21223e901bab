use Rattle.std.proofs.Common.{◌≡◌, IfOk, Ok, Err, Result, sym, subst, None}
use Rattle.pipe_model.specs.declared.tree.Program.{Program}
use Rattle.pipe_model.specs.Language.CheckingRules.{fault_of}
use Rattle.pipe_model.specs.Language.SyntaxTree.{tree_of}
use Rattle.stage_code.specs.CodeOfTrees.{flat_code}
use Rattle.stage_code.specs.FlatCode.{FlatCode}
use Rattle.stage_code.specs.Meaning.{RunsProgram}
use Rattle.stage_code.proofs.Meaning.{flat_runs}
use Rattle.stage_code.proofs.lower.lower.Goals as goal

-- what holds of an `Ok` by its value
since_is : {E : Type 0} (P : FlatCode → Type 0) (r : Result FlatCode E) (code : FlatCode) → P code → IfOk r (λ found. found ≡ code)
    → IfOk r P
since_is P (Ok found) code h is = subst P (sym is) h
since_is P (Err e) code h is = is

pub returns-clause-runs : goal.returns-clause-runs
returns-clause-runs c =
    let program = c.program.result.now in
    let runs = subst (λ (p : Program). RunsProgram (tree_of p) (flat_code (tree_of program))) c.program.ensures.program
    (flat_runs (tree_of program) (subst (λ (p : Program). fault_of (tree_of p) ≡ None) (sym c.program.ensures.program)
    c.program.ensures.obeys)) in
    since_is (λ code. RunsProgram (tree_of c.args.checked.now) code) c.lower_program.result
    (flat_code (tree_of program)) runs c.lower_program.ensures
