use Rattle.std.proofs.Common.{◌≡◌, ◌∙◌, ap, subst, sym}
use Rattle.pipe_frame.specs.Replies.{after_instances, replies_of}
use Rattle.pipe_model.specs.Language.SyntaxTree.{tree_of}
use Rattle.stage_interp.specs.RemainingBehaviour.{Represents}
use Rattle.frame_book.specs.BookStates.{pipeline_in, replies_at}
use Rattle.schedule_play.specs.declared.running_instance.NextAction.TheVariants as actions
use Rattle.schedule_play.specs.RunningIterations.{RunningIterationState, IsRunningIteration}
use Rattle.schedule_play.specs.RunningInstances.{IsUnderWay}
use Rattle.schedule_play.proofs.UnderWay.{after_instances-push, instance_ends}
use Rattle.schedule_play.proofs.running_iteration.RunningIteration.end.Goals as goal

pub name_next-requires-clause-belongs : goal.name_next-requires-clause-belongs
name_next-requires-clause-belongs g c = c.requires.lists

pub name_next-requires-clause-performs : goal.name_next-requires-clause-performs
name_next-requires-clause-performs g c =
    let book = c.args.book.now in
    let inside = c.self.inside in
    let i = inside.token.iteration in
    let replies = replies_at book i in
    let instance = subst (λ (h : RunningIterationState). IsRunningIteration g.B.PlayedCode.code g.B.PlayedCode.cells
    (tree_of book.program) book.input (replies_at book h.token.iteration) h) (sym c.self.view_is) c.requires.instance in
    let at : inside.running.next ≡ actions.End c.args.end = ap (λ (h : RunningIterationState). h.next) c.self.view_is ∙ c.requires.ends in
    let t = after_instances ((pipeline_in book).behaviour i) replies in
    let run = inside.token.payload.machine.run in
    let trace = inside.running.trace in
    let under_way = subst (IsUnderWay g.B.PlayedCode.code g.B.PlayedCode.cells book.input t run trace) at instance.under_way in
    let ends = instance_ends g.B.PlayedCode.code g.B.PlayedCode.cells book.input t run trace c.args.end under_way in
    ends.performs

pub name_next-requires-clause-ready : goal.name_next-requires-clause-ready
name_next-requires-clause-ready g c = λ names.
    let code = g.B.PlayedCode.code in
    let cells = g.B.PlayedCode.cells in
    let book = c.args.book.now in
    let inside = c.self.inside in
    let i = inside.token.iteration in
    let replies = replies_at book i in
    let instance = subst (λ (h : RunningIterationState). IsRunningIteration g.B.PlayedCode.code g.B.PlayedCode.cells
    (tree_of book.program) book.input (replies_at book h.token.iteration) h) (sym c.self.view_is) c.requires.instance in
    let at : inside.running.next ≡ actions.End c.args.end = ap (λ (h : RunningIterationState). h.next) c.self.view_is ∙ c.requires.ends in
    let machine = inside.token.payload.machine in
    let trace = inside.running.trace in
    let d = (pipeline_in book).behaviour i in
    let under_way = subst (IsUnderWay code cells book.input (after_instances d replies) machine.run trace) at instance.under_way in
    let ends = instance_ends code cells book.input (after_instances d replies) machine.run trace c.args.end under_way in
    record {
      whole = instance.whole;
      represents = subst (Represents code cells book.input machine.run) (sym (after_instances-push d replies (replies_of trace)))
          (ends.represents names);
    }
