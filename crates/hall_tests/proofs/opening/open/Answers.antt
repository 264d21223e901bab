use Rattle.std.proofs.Common.{sym, subst, Option}
use Rattle.hall_table.specs.SeatViews.{HallConstants}
use Rattle.hall_table.specs.WorkerSeats.{name_of}
use Rattle.pipe_model.specs.Language.SyntaxTree.{tree_of}
use Rattle.program_hall.proofs.Openings.{map_both}
use Rattle.hall_tests.specs.PreparedPrograms.{IsHallOf}
use Rattle.hall_tests.proofs.opening.open.Goals as goal

pub returns-clause-hall : goal.returns-clause-hall
returns-clause-hall g c =
    let prepared = c.args.prepared.now in
    map_both c.open.result c.open.ensures.hall c.open.ensures.hall (λ opened h same.
    subst (λ (o : Option HallConstants). IsHallOf (name_of opened.0.hall.table o) (tree_of prepared.checked) prepared.input) (sym h.are)
    (record { tree_is = h.tree_is; input_is = h.input_is }))
