use Rattle.std.proofs.Common.{◌≡◌, ◌∙◌, Some, arith, sym}
use Rattle.pipe_model.specs.declared.node.NodeId.{NodeId}
use Rattle.pipe_span.specs.Tables.{predecessor_of, entry_to}
use Rattle.pipe_span.proofs.TracedPaths.{IsTracedTo, goes_forward, edge_begins, has_predecessor, is_in, is_node, no_path_yet, one_step_back}
use Rattle.pipe_span.proofs.TracedPaths.{step_back, whole_path}
use Rattle.pipe_span.proofs.trace.traced.Goals as goal

pub loop-y-init : goal.loop-y-init
loop-y-init c = (is_node _ _ _ _ c.requires.rows c.requires.last, no_path_yet _ _ _ _ _ c.new-path.ensures.items)

pub before-requires-clause-within : goal.before-requires-clause-within
before-requires-clause-within c = is_in _ _ _ _ c.requires.rows c.loop-y.invariant.0

pub before-requires-clause-predecessor : goal.before-requires-clause-predecessor
before-requires-clause-predecessor c = has_predecessor _ _ _ _ c.requires.rows c.loop-y.invariant.0

pub loop-y-smaller : goal.loop-y-smaller
loop-y-smaller c =
    let step = step_back c.args.columns.now c.args.weights.now c.args.rows.now c.in-Some.y c.loop-y.x c.requires.rows c.loop-y.invariant.0
    (sym c.in-Some.ensures) in
    let begins = edge_begins step.edge in
    let bounded = c.requires.bounded.instances c.in-Some.y.iteration in
    let same = c.requires.rows.lengths c.in-Some.y.iteration in
    goes_forward step.edge (omega (arith, begins.1, bounded, same))

pub loop-y-preserved : goal.loop-y-preserved
loop-y-preserved c =
    let step = step_back c.args.columns.now c.args.weights.now c.args.rows.now c.in-Some.y c.loop-y.x c.requires.rows c.loop-y.invariant.0
    (sym c.in-Some.ensures) in
    (edge_begins step.edge, one_step_back _ _ _ _ _ _ _ _ c.requires.rows step c.loop-y.invariant.1 c.in_ok-push.ensures.items)

traced_at_end : (c : goal.After-reverse) → IsTracedTo c.args.columns.now c.args.weights.now c.args.rows.now c.args.last
    c.reverse.new.self.items
traced_at_end c =
    let none : (y : NodeId) → predecessor_of c.loop-y.x (entry_to c.args.rows.now c.loop-y.x).predecessor ≡ Some y → ⊥ =
    λ y e. c.in_default.not-Some y (c.before-in-loop-y.ensures ∙ e) in
    rw c.reverse.ensures.items
    (whole_path _ _ _ _ _ _ _ c.requires.rows c.loop-y.invariant.0 none c.loop-y.invariant.1 c.in_ok-push-2.ensures.items)

pub returns-clause-traced : goal.returns-clause-traced
returns-clause-traced c = (traced_at_end c).traced

pub returns-clause-weight : goal.returns-clause-weight
returns-clause-weight c = (traced_at_end c).weight
