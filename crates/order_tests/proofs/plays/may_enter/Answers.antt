-- The left neighbour has passed the number.
use Rattle.std.proofs.Common.{w64, List, ◌∙◌, ◌≡◌, ◌-◌, ◌<◌, suc, sym, subst, arith, length}
use mathlib.Core.Path.{subst₂}
use Rattle.std.proofs.lemmas.Bool.{OnTrue_at, OnTrue_from}
use Rattle.std.proofs.lemmas.Int.{to_z-of_z}
use Rattle.order_tests.proofs.PlayedEvents.{column_nodes, left_passed, status_is}
use Rattle.order_tests.proofs.plays.may_enter.Goals as goal
use Rattle.pipe_model.specs.declared.node.Node.{Node}
use Rattle.pipe_model.specs.declared.status.Status.{Status}
use Rattle.pipe_model.specs.Runs.Allowed.{HasPassed, LeftHasPassed}
use Rattle.pipe_model.specs.Runs.ControlParts.{control_after}
use Rattle.pipe_model.specs.declared.node.Kind.TheVariants.{Wait}

pub returns : goal.returns
returns c = OnTrue_from c.has_passed.result (c.args.kind ≡ Wait → LeftHasPassed (control_after c.args.play.now.events).frames c.args.i
    c.args.number) (λ passed waits.
    let columns = c.args.play.now.columns.items in
    let same = c.requires.played.same_length in
    let next : c.args.i ≡ suc (c.args.i - 1) = omega (arith, c.if-i-eq0.false) in
    let inside : c.args.i - 1 < length columns = omega (arith, next, c.requires.begun) in
    let nodes = column_nodes columns (c.args.i - 1) c.index.result.now inside c.index.ensures in
    let status = status_is c.args.play.now.statuses.items (c.args.i - 1) c.index-2.result.now
    (omega (arith, inside, same)) c.index-2.ensures in
    let by_parts : (w : Status) (x : List Node) → w ≡ c.index-2.result.now → x ≡ c.as_slice-left.result.now → HasPassed w x c.args.number =
    λ w x same_status same_nodes. subst₂ (λ (v : Status) (y : List Node). HasPassed v y c.args.number) (sym same_status) (sym same_nodes)
    (subst (λ n. HasPassed c.index-2.result.now c.as_slice-left.result.now n) (to_z-of_z w64 c.args.number c.ranges.number)
    (OnTrue_at passed c.has_passed.ensures)) in
    left_passed c.requires.played c.args.i c.requires.begun (c.args.i - 1) c.args.number next
    (by_parts _ _ status (nodes ∙ sym c.as_slice-left.ensures)))
