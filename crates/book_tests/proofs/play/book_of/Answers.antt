use Rattle.std.proofs.Common.{◌∙◌, sym, subst, All, None}
use Rattle.std.proofs.lemmas.List.Elements.{All-replicate}
use Rattle.pipe_model.specs.Language.SyntaxTree.{tree_of}
use Rattle.pipe_frame.specs.Ties.{AreSeenLists, BelongsTo}
use Rattle.frame_book.specs.CallEffects.{identities_of_orders}
use Rattle.book_tests.specs.declared.plan.Plan.{Plan}
use Rattle.book_tests.specs.PlanStates.{IsPlanOf, plan_tie}
use Rattle.book_tests.proofs.PlanSteps.{plan_of_source}
use Rattle.book_tests.proofs.ScriptBehaviours.{sources_are_planned}
use Rattle.book_tests.proofs.play.book_of.Goals as goal

pub new-requires-clause-planned : goal.new-requires-clause-planned
new-requires-clause-planned c = sources_are_planned c.args.source c.requires.small (tree_of c.args.program.now)
    c.requires.program c.new-input.result

pub new-requires-clause-whole : goal.new-requires-clause-whole
new-requires-clause-whole c =
    let plan = c.new-plan.result in
    let tree = tree_of c.args.program.now in
    let same = c.new-plan.ensures in
    let whole = plan_of_source c.args.source c.requires.small tree c.requires.program plan
    (same.0, same.1 ∙ c.waits.ensures, same.2) in
    let orders = c.in_ok-orders.orders in
    let belongs = subst (λ d. AreSeenLists None d orders.right.identity) (sym c.in_ok-orders.ensures.identity) tt in
    let P : Plan → Type 0 = λ m. IsPlanOf tree m × BelongsTo (plan_tie m) (identities_of_orders orders) in
    subst (λ ms. All P ms) (sym (c.in_ok-payloads.ensures.items_if_clones_equal (λ y e. e)))
    (All-replicate P c.args.throttle plan (whole, belongs))
