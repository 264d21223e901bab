-- What a slot lends.
use Rattle.std.specs.Borrow.{Lends, MutBor, Fml}
use denote.RattleType.{RattleType}
use Rattle.frame_book.specs.BookStates.{BookState}
use Rattle.frame_book.specs.contracts.book.Book as book
use Rattle.om_shared.specs.contracts.writer.OmWriter as writer
use Rattle.order_2d.specs.contracts.list_writer.OmWriterListWriter.TheImpl.{ghosts as late_lists}
use Rattle.pipe_frame.specs.declared.stands.Stands.{Ghosts}
use Rattle.hall_shards.specs.ShardValues.{ShardValue}
use Rattle.hall_shards.specs.contracts.shard.Shard as shard
use Rattle.hall_table.specs.contracts.slot.Slot as slot
use Rattle.hall_table.specs.declared.slot.Slot.{Slot}
use Rattle.hall_table.specs.declared.slot.Slot.TheVariants as slots

module _ (M : RattleType) (stands : Ghosts M.Denot) where
  -- a slot lends its book, or its shard
  abbrev pub LendsBook : MutBor (Slot M.Denot) → MutBor BookState → Fml
  LendsBook s r = Lends (slot.the_row M stands) (book.the_row M writer.the_row stands late_lists) s r (λ w. slots.Book w)

  abbrev pub LendsShard : MutBor (Slot M.Denot) → MutBor ShardValue → Fml
  LendsShard s r = Lends (slot.the_row M stands) shard.the_row s r (λ w. slots.Shard w)
