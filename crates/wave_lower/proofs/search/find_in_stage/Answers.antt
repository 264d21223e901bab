use Rattle.std.proofs.Common.{sym, subst, Ok}
use Rattle.pipe_model.specs.declared.tree.StageKind.TheVariants as kinds
use Rattle.pipe_model.specs.Language.SyntaxTree.{expression_of, stage_statement}
use Rattle.wave_laws.specs.Waves.MarkFlags.{flags_of_statement}
use Rattle.std.specs.Prelude.{false}
use Rattle.wave_lower.specs.Searches.{Finds}
use Rattle.wave_lower.proofs.Finds.{after_one}
use Rattle.wave_lower.proofs.search.find_in_stage.Goals as goal

pub returns-in-Some : goal.returns-in-Some
returns-in-Some c =
    subst (λ n. Finds (Ok c.after_expression.result) c.args.next (flags_of_statement c.args.stage false (stage_statement kinds.Wait n)))
    (sym c.in-Some.is)
    (after_one c.args.stage c.args.next c.after_expression.result (expression_of c.in-Some.e) c.if-stage.false c.after_expression.ensures)
