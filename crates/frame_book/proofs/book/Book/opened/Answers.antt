use Rattle.std.proofs.Common.{arith, refl}
use Rattle.std.proofs.lemmas.List.{length-replicate}
use Rattle.std.specs.Prelude.{vec_capacity}
use Rattle.pipe_model.specs.Language.Programs.{natural}
use Rattle.frame_rows.specs.IterationRows.{empty_row}
use Rattle.frame_book.proofs.Iterations.SpareRows.{rows_alike}
use Rattle.frame_book.proofs.Keeping.New.{new_keeps}
use Rattle.frame_rows.proofs.AliveRows.{alive_none}
use Rattle.frame_rows.proofs.PlacedRows.{places_none}
use Rattle.frame_book.proofs.book.Book.opened.Goals as goal

pub invariant_of-result : goal.invariant_of-result
invariant_of-result g c =
    let i = c.args.program.limits.iterations in
    let s = c.args.program.limits.stages in
    let rows = c.in-Ok.ensures.rows.1 in
    let wide = c.in-Ok.ensures.alive.1 in
    let long = length-replicate (natural i) (empty_row {M = g.row.M.Denot} (natural s)) in
    rw (
      c.in-Ok.ensures.rows.0,
      c.in-Ok.ensures.alive.0,
      c.in-Ok.ensures.places,
      rows_alike {M = g.row.M.Denot} (natural i) (natural s),
      c.in-Ok.ensures.ledger,
      c.new.ensures,
    ) (
      new_keeps g.M.Stands.whole g.M.Stands.ready_at g.M.Stands.tie c.args.program c.args.input c.args.throttle
          c.requires.planned c.requires.throttle
          c.args.payloads.items c.requires.payloads
          c.args.orders c.requires.whole c.requires.started.0 c.requires.started.1 c.requires.room.0 c.requires.room.1
          (vec_capacity c.in-Ok.rooms.rows) (omega (arith, rows)),
      alive_none _ _ (omega (arith, wide, long)),
      places_none _ refl refl,
    )
