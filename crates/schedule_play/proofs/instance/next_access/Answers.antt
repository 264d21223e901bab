use Rattle.std.proofs.Common.{◌≡◌, [], Option, false, true, subst, sym}
use Rattle.std.specs.Prelude.{is_some}
use Rattle.pipe_model.specs.declared.access.Access.{Access}
use Rattle.stage_interp.specs.RemainingBehaviour.{IsStopped, RanInstance}
use Rattle.schedule_play.specs.OneAccess.{AccessState, access_list}
use Rattle.schedule_play.proofs.PendingAccess.{makes_access}
use Rattle.schedule_play.proofs.instance.next_access.Goals as goal

pub unreachable-requires : goal.unreachable-requires
unreachable-requires g c =
    let code = c.args.code.now in
    let input = c.args.input.now in
    let cells = c.args.cells.now.shard.cells in
    let machine = c.args.machine.now in
    let t = c.requires.before.0 in
    let begun = c.new-memory.ensures in
    let run = c.go_on-end.new.self.run in
    let stopped = subst (λ (m : AccessState). IsStopped code m.cells.shard.cells input machine.run t) (sym begun) c.requires.before.1 in
    let over = subst (λ (m : AccessState). RanInstance code m.cells.shard.cells input t (access_list m.made)
    (access_list c.go_on-end.new.memory.made) run c.go_on-end.result)
    begun (c.go_on-end.ensures.ran t stopped) in
    let ran = subst (λ (made : Option Access). RanInstance code cells input t [] (access_list made) run c.go_on-end.result)
    (sym c.access.ensures.access) over in
    let some = makes_access code cells input machine.run run t c.go_on-end.result c.go_on-end.new.memory.stopped c.access.result
    c.requires.before.1 ran
    c.go_on-end.ensures.stops c.access.ensures.stops in
    let none : false ≡ true = subst (λ (made : Option Access). is_some made ≡ true) c.in-None.is some in
    absurd (cc (none))

pub returns-clause-ran : goal.returns-clause-ran
returns-clause-ran g c = λ t before.
    let code = c.args.code.now in
    let input = c.args.input.now in
    let cells = c.args.cells.now.shard.cells in
    let begun = c.new-memory.ensures in
    let run = c.go_on-end.new.self.run in
    let stopped = subst (λ (m : AccessState). IsStopped code m.cells.shard.cells input c.args.machine.now.run t) (sym begun) before in
    let over = subst (λ (m : AccessState). RanInstance code m.cells.shard.cells input t (access_list m.made)
    (access_list c.go_on-end.new.memory.made) run c.go_on-end.result)
    begun (c.go_on-end.ensures.ran t stopped) in
    let ran = subst (λ (made : Option Access). RanInstance code cells input t [] (access_list made) run c.go_on-end.result)
    (sym c.access.ensures.access) over in
    subst (λ (made : Option Access). RanInstance code cells input t [] (access_list made) run c.go_on-end.result) c.in-Some.is ran
