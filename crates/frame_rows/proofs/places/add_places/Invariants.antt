use Rattle.std.proofs.Common.{◌≡◌, ◌++◌, pos, replicate}
use Rattle.std.specs.Prelude.{vec_capacity}
use Rattle.frame_rows.specs.RowsOfFrames.{no_marks}
use Rattle.frame_rows.proofs.places.add_places.Given as goal

abbrev pub invariant-loop : goal.invariant-loop
invariant-loop l = (l.numbers.items ≡ l.initial.numbers.items ++ replicate l.counter (pos 0))
    × (l.marks.items ≡ l.initial.marks.items ++ replicate l.counter no_marks)
    × (vec_capacity l.numbers ≡ vec_capacity l.initial.numbers) × (vec_capacity l.marks ≡ vec_capacity l.initial.marks)
