-- What contracts see of a hall.
use Rattle.std.specs.Prelude.{Some}
use Rattle.atomic_table.specs.Seated.{TableId}
use Rattle.hall_table.specs.Openings.{start_in}
use Rattle.hall_table.specs.WorkerSeats.{HallState}
use Rattle.hall_table.specs.declared.opening.Opening.{Opening}

-- the hall of a table, by what it was opened with
abbrev pub hall_state : {M : Type 0} → TableId → Opening M → HallState
hall_state z o = record { hall = record { table = z; constants = Some (start_in o).constants }; before = (start_in o).before }
