use Rattle.std.proofs.Common.{◌≡◌, ◌<◌, ap₂, length, subst, sym, List}
use Rattle.std.specs.Result.{IfOk}
use Rattle.pipe_model.specs.declared.event.Event.{Event}
use Rattle.pipe_model.specs.Language.CheckingRules.{BreaksNoRule}
use Rattle.pipe_model.specs.Language.ProgramsOfTrees.{pipeline_after_init}
use Rattle.pipe_model.specs.Language.SyntaxTree.{SyntaxTree, tree_of}
use Rattle.schedule_play.specs.PlayStates.{pipeline_played}
use Rattle.record_check.specs.CheckedLoops.{IsLoopAnswer}
use Rattle.record_check.proofs.check_loop.check_coded.Goals as goal

pub check_on-requires : goal.check_on-requires
check_on-requires g c =
    let made = c.in-Ok.ensures in
    record {
      code = c.requires.code;
      input = sym made.input;
      play = made.play;
      new = made.new;
      accepted = subst (λ (t : SyntaxTree). BreaksNoRule t) (sym made.tree) c.requires.accepted;
      limit = subst (λ n. 0 < n) (sym made.limit) c.requires.throttle;
      short = subst (λ (es : List Event). length es < 4294967296) (sym c.as_slice.ensures) c.requires.short;
    }

pub returns-in-Ok : goal.returns-in-Ok
returns-in-Ok g c =
    let v = c.in-Ok.player in
    let made = c.in-Ok.ensures in
    let p = pipeline_after_init (tree_of c.args.checked.now) c.args.input.now in
    let events = c.as_slice.result.now in
    let r = c.check_on.result in
    let same : pipeline_played v ≡ p = ap₂ pipeline_after_init made.tree made.input in
    subst (λ es. IfOk r (IsLoopAnswer p c.args.throttle es)) c.as_slice.ensures
    (subst (λ l. IfOk r (IsLoopAnswer p l events)) made.limit
    (subst (λ q. IfOk r (IsLoopAnswer q v.book.limit events)) same c.check_on.ensures))
