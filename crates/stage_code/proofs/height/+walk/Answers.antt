use Rattle.std.proofs.Common.{◌<◌, ◌∙◌, length, ap, arith}
use Rattle.pipe_check.proofs.Statements.{one_counts}
use Rattle.pipe_model.specs.Language.SpellablePrograms.{statement_count, statement_counts}
use Rattle.pipe_model.specs.Language.SyntaxTree.{expression_of, statement_of, statements_of}
use Rattle.pipe_model.proofs.NestedBlocks.{if_seen, while_seen}
use Rattle.stage_code.specs.Heights.{height_of_statement}
use Rattle.stage_code.proofs.Heights.{statement_low, if_low, while_low}
use Rattle.stage_code.proofs.height.+walk.Goals as goal

pub height_of_block-height_of_statement-requires : goal.height_of_block-height_of_statement-requires
height_of_block-height_of_statement-requires t c =
    let items = c.deref-s-items.result.now in
    let w : c.loop-s.s-index < length items = omega arith in
    let counted = one_counts items c.loop-s.s-index c.s-item.result w c.s-item.is in
    let whole = ap (λ ss. statement_counts (statements_of ss)) c.deref-s-items.ensures.value in (
      omega (arith, c.decreases, counted, whole),
      statement_low items c.loop-s.s-index c.loop-s.most _ c.s-item.result w c.s-item.is c.loop-s.invariant c.requires,
    )

pub height_of_statement-height_of_block-requires : goal.height_of_statement-height_of_block-requires
height_of_statement-height_of_block-requires t c =
    let is = ap statement_of c.in-If.is ∙ if_seen c.in-If.e c.in-If.a c.in-If.b in
    let counted = ap statement_count is in
    (omega (arith, c.decreases, counted), (if_low (expression_of c.in-If.e) _ _ _ is c.requires).0)

pub height_of_statement-height_of_block-requires-in-If : goal.height_of_statement-height_of_block-requires-in-If
height_of_statement-height_of_block-requires-in-If t c =
    let is = ap statement_of c.in-If.is ∙ if_seen c.in-If.e c.in-If.a c.in-If.b in
    let counted = ap statement_count is in
    (omega (arith, c.decreases, counted), (if_low (expression_of c.in-If.e) _ _ _ is c.requires).1)

pub height_of_statement-height_of_block-requires-in-While : goal.height_of_statement-height_of_block-requires-in-While
height_of_statement-height_of_block-requires-in-While t c =
    let is = ap statement_of c.in-While.is ∙ while_seen c.in-While.e c.in-While.a in
    let counted = ap statement_count is in
    (omega (arith, c.decreases, counted), while_low (expression_of c.in-While.e) _ _ is c.requires)

pub height_of_statement-returns-in-If : goal.height_of_statement-returns-in-If
height_of_statement-returns-in-If t c =
    let is = ap height_of_statement (ap statement_of c.in-If.is ∙ if_seen c.in-If.e c.in-If.a c.in-If.b) in
    grind (arith, is)

pub height_of_statement-returns-in-While : goal.height_of_statement-returns-in-While
height_of_statement-returns-in-While t c =
    let is = ap height_of_statement (ap statement_of c.in-While.is ∙ while_seen c.in-While.e c.in-While.a) in
    grind (arith, is)
