use Rattle.std.proofs.Common.{◌≡◌, ℕ, List, arith, ap, ap₂, get_or, sym, subst}
use Rattle.std.specs.Result.{IfOk}
use Rattle.pipe_frame.specs.Ties.{BelongsTo, ListIdentities}
use Rattle.pipe_model.specs.declared.tree.Program.{Program}
use Rattle.pipe_model.specs.Language.SyntaxTree.{tree_of}
use Rattle.schedule_laws.specs.StartCounts.{most_instances}
use Rattle.stage_code.specs.FlatCode.{FlatCode}
use Rattle.stage_interp.specs.RemainingBehaviour.{IsCodeOf}
use Rattle.frame_book.specs.NewBooks.{IsPlannedProgram, new_book}
use Rattle.book_laws.proofs.PlannedPrograms.{accepted_programs_are_planned}
use Rattle.schedule_play.specs.Runners.{CanRun, no_tie}
use Rattle.schedule_play.proofs.opening.open_book.Goals as goal

pub new-requires-clause-planned : goal.new-requires-clause-planned
new-requires-clause-planned g c =
    let accepted = c.requires.accepted in
    subst (λ (p : Program). IsPlannedProgram (tree_of p) c.args.input.now) (sym c.program.ensures.program)
    (accepted_programs_are_planned (tree_of c.args.checked.now) c.args.input.now accepted)

pub new-requires-clause-whole : goal.new-requires-clause-whole
new-requires-clause-whole g c = λ k d less.
    let code = g.B.PlayedCode.code in
    let cells = g.B.PlayedCode.cells in
    let machine = (get_or c.in-Ok.runners.items k d).machine in
    let lists = c.orders-orders.ensures.down.identity in (
      subst (λ (p : Program). CanRun code cells (tree_of p) machine) (sym c.program.ensures.program) (record {
        code_of = subst (λ (x : FlatCode). IsCodeOf (tree_of c.args.checked.now) x) c.requires.code c.requires.code_of;
        made = c.in-Ok.ensures.made k d less;
        served = c.requires.served;
      }),
      subst (λ (l : List ℕ). BelongsTo no_tie (record { down = l; right = c.orders-orders.result.right.identity })) (sym lists) tt,
    )

pub new-requires-clause-room : goal.new-requires-clause-room
new-requires-clause-room g c =
    let accepted = c.requires.accepted in
    let planned = accepted_programs_are_planned (tree_of c.args.checked.now) c.args.input.now accepted in
    let bounded = planned.bounded in
    let same : most_instances (tree_of c.program.result.now) ≡ most_instances (tree_of c.args.checked.now) =
    ap (λ (p : Program). most_instances (tree_of p)) c.program.ensures.program in
    let down = c.orders-orders.ensures.down.capacity in
    let right = c.orders-orders.ensures.right.capacity in
    (omega (arith, bounded, same, down), omega (arith, bounded, same, right))

pub returns-in-Ok-clause-tree : goal.returns-in-Ok-clause-tree
returns-in-Ok-clause-tree g c =
    subst (λ (p : Program). IfOk c.new.result (λ book. tree_of book.program ≡ tree_of p)) c.program.ensures.program c.new.ensures.tree

pub returns-in-Ok-clause-book : goal.returns-in-Ok-clause-book
returns-in-Ok-clause-book g c =
    let lists = ap₂ (λ a b. record { down = a; right = b }) c.orders-orders.ensures.down.identity c.orders-orders.ensures.right.identity in
    subst (λ (l : ListIdentities). IfOk c.new.result (λ book. book ≡ new_book book.program c.args.input.now c.args.throttle l)) lists
    c.new.ensures.book
