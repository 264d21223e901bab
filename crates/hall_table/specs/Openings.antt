-- What a hall was opened with.
use Rattle.hall_table.specs.SeatViews.{HallStart, start_of}
use Rattle.hall_table.specs.declared.opening.Opening.{Opening}

-- as plain data
abbrev pub start_in : {M : Type 0} → Opening M → HallStart
start_in o = start_of o.book.value o.before.value
