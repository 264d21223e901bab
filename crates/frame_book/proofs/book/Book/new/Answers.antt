use Rattle.std.proofs.Common.{◌<◌, ◌*◌, All, subst, sym}
use Rattle.pipe_frame.specs.Ties.{BelongsTo}
use Rattle.schedule_laws.specs.StartCounts.{most_instances}
use Rattle.pipe_model.specs.Language.SyntaxTree.{tree_of}
use Rattle.frame_book.specs.CallEffects.{identities_of_orders}
use Rattle.frame_book.specs.NewBooks.{IsPlannedProgram}
use Rattle.frame_book.proofs.book.Book.new.Goals as goal

pub opened-requires-clause-planned : goal.opened-requires-clause-planned
opened-requires-clause-planned g c =
    subst (λ t. IsPlannedProgram t c.in-Ok.input) (sym c.in-Ok.ensures.program)
    (subst (IsPlannedProgram (tree_of c.args.program.now)) (sym c.in-Ok.ensures.input) c.requires.planned)

pub opened-requires-clause-throttle : goal.opened-requires-clause-throttle
opened-requires-clause-throttle g c = c.requires.throttle

pub opened-requires-clause-payloads : goal.opened-requires-clause-payloads
opened-requires-clause-payloads g c = c.requires.payloads

pub opened-requires-clause-whole : goal.opened-requires-clause-whole
opened-requires-clause-whole g c =
    subst (λ t. All (λ m. g.M.Stands.whole t m × BelongsTo (g.M.Stands.tie m) (identities_of_orders c.args.orders)) c.args.payloads.items)
    (sym c.in-Ok.ensures.program) c.requires.whole

pub opened-requires-clause-started : goal.opened-requires-clause-started
opened-requires-clause-started g c = c.requires.started

pub opened-requires-clause-room : goal.opened-requires-clause-room
opened-requires-clause-room g c =
    subst (λ t. (2 * most_instances t < c.args.orders.down.capacity) × (2 * most_instances t < c.args.orders.right.capacity))
    (sym c.in-Ok.ensures.program) c.requires.room
