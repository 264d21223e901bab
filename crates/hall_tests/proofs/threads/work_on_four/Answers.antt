use denote.Param.Send.{sendable}
use Rattle.program_hall.proofs.carried.Carried.TheSendSync as carried
use Rattle.pipe_hall.proofs.Crossing.{crosses}
use Rattle.pipe_model.proofs.list.ListOf.TheSendSync as lists
use Rattle.stage_code.proofs.code.Code.TheSendSync as codes
use Rattle.std.proofs.Crossing as std
use Rattle.hall_tests.proofs.threads.work_on_four.Goals as goal

pub join-key-requires-send-F : goal.join-key-requires-send-F
join-key-requires-send-F g c κs within =
    let brand = c.type_bounds.send-B in
    let runtime = c.type_bounds.sync-R in
    search (crosses, carried.the_send, codes.the_sync, lists.the_sync, std.crosses, sendable) depth 20

pub join-key-requires-send-A : goal.join-key-requires-send-A
join-key-requires-send-A g c κs within = let brand = c.type_bounds.send-B in search (crosses, carried.the_send, sendable) depth 20
