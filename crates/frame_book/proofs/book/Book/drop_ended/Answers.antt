use Rattle.std.proofs.Common.{sym, subst, arith}
use Rattle.frame_rows.specs.AliveLists.{ListsAlive}
use Rattle.frame_book.proofs.book.Book.drop_ended.Goals as goal

pub invariant_of-self : goal.invariant_of-self
invariant_of-self g c = (
  c.self.invariant.0,
  record {
    list = subst (λ rs. ListsAlive rs c.drop_ended.new.alive.items) c.as_slice.ensures.value (c.drop_ended.ensures.list
        (subst (λ rs. ListsAlive rs c.self.inside.alive.items) (sym c.as_slice.ensures.value) c.self.invariant.1.list));
    room = (let room = c.self.invariant.1.room in let few = c.drop_ended.ensures.length in
        let same = c.drop_ended.ensures.capacity in omega (arith, room, few, same));
  },
  c.self.invariant.2,
)
