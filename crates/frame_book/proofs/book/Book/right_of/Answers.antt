use Rattle.std.proofs.Common.{◌<◌, ◌+◌, ◌^◌, arith, length, not, sym, subst}
use Rattle.std.proofs.lemmas.Grind.{common_steps}
use Rattle.pipe_model.specs.Runs.Allowed.{MayEnter}
use Rattle.pipe_model.specs.Language.Programs.{pipeline_of}
use Rattle.pipe_model.specs.Language.SyntaxTree.{tree_of}
use Rattle.run_laws.proofs.RunStates.Frames.{frame_at_within}
use Rattle.frame_book.specs.BookStates.{state_of}
use Rattle.frame_book.specs.BookTables.{tables_of}
use Rattle.frame_book.specs.Tables.{book_state}
use Rattle.frame_book.proofs.Iterations.SpareRows.{few_rows}
use Rattle.frame_rows.proofs.FrameRows.{rows_length}
use Rattle.frame_rows.specs.Places.{spare_rows}
use Rattle.frame_book.proofs.book.Book.right_of.Goals as goal

pub returns-then-iteration-len-clause-none : goal.returns-then-iteration-len-clause-none
returns-then-iteration-len-clause-none g c = λ m.
    let may = subst (λ v. MayEnter (state_of v) (c.args.iteration + 1)) (sym c.self.view_is) m in
    let s = state_of (book_state (tables_of c.self.inside)) in
    let a = frame_at_within s.frames (c.args.iteration + 1) may.frame may.is in
    let e = rows_length (not s.stopped) s.frames c.self.inside.rows.items c.self.invariant.0.rows.each in
    let past = c.if-iteration-len.true in
    let l : c.args.iteration + 1 < length c.self.inside.rows.items = omega (arith, a, e) in
    let q = c.len.ensures in
    absurd (grind (arith, common_steps))

pub overflow_add-result : goal.overflow_add-result
overflow_add-result g c =
    let a = few_rows (pipeline_of (tree_of c.self.inside.program) c.self.inside.input) c.self.inside.rows.items (spare_rows
    c.self.inside.places.spare) _
    _ _ c.self.invariant.0.sized in
    let z = c.self.invariant.0.sized.bounded in
    let l : length c.self.inside.rows.items < 2 ^ 31 = omega (arith, a, z) in
    let past = c.if-iteration-len.false in
    let q = c.len.ensures in
    let w : c.args.iteration + 1 < 2 ^ 32 = grind (arith, common_steps) in
    grind (arith, common_steps)
