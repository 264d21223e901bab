use Rattle.std.proofs.Common.{◌++◌, ◌∷◌, [], List, subst, sym}
use Rattle.pipe_frame.specs.Replies.{accessed}
use Rattle.pipe_model.specs.declared.ticket.Entry.{Entry}
use Rattle.pipe_model.specs.Pipelines.Behaviour.{behaviour_after_all}
use Rattle.schedule_play.specs.RunningInstances.{IsUnderWay}
use Rattle.schedule_play.proofs.UnderWay.{access_is_next, goes_on, stopped_here}
use Rattle.schedule_play.proofs.running_instance.RunningInstance.access.Goals as goal

pub returns-clause-goes_on : goal.returns-clause-goes_on
returns-clause-goes_on c = λ t under_way.
    let code = c.args.code.now in
    let cells = c.args.cells.now.shard.cells in
    let input = c.args.input.now in
    let run = c.args.machine.now.run in
    let now = c.make_access-rest.new.machine.run in
    let trace = c.args.self.now.trace in
    let next = c.args.self.now.next in
    let a = c.make_access-rest.result.0 in
    let e = c.make_access-rest.result.1 in
    let entry : Entry = record { ticket = c.args.ticket; access = a } in
    let ran = c.make_access-rest.ensures.ran (behaviour_after_all t (accessed trace))
    (stopped_here code cells input t run trace next c.requires.pending under_way) in
    let items = c.note.ensures in
    let after = goes_on code cells input t run now trace next e a c.args.ticket under_way ran in
    subst (λ (l : List Entry). IsUnderWay code cells input t now l c.action_at-self.result) (sym items)
    (subst (IsUnderWay code cells input t now (trace ++ entry ∷ [])) (sym c.action_at-self.ensures) after)

pub returns-clause-event : goal.returns-clause-event
returns-clause-event c = λ t p before i under_way state.
    let code = c.args.code.now in
    let cells = c.args.cells.now.shard.cells in
    let input = c.args.input.now in
    let run = c.args.machine.now.run in
    let trace = c.args.self.now.trace in
    let ran = c.make_access-rest.ensures.ran (behaviour_after_all t (accessed trace))
    (stopped_here code cells input t run trace c.args.self.now.next c.requires.pending under_way) in
    access_is_next code cells input t c.make_access-rest.new.machine.run trace c.make_access-rest.result.1 c.make_access-rest.result.0 p
    before i ran
    (c.make_access-rest.ensures.reply p.store before state)
