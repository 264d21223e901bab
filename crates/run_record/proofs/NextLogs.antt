-- The log with the next entry of a merge, of more and more shards.
use Rattle.std.proofs.Common.{◌≡◌, ℕ, ◌+◌, ◌<◌, List, true, false, nat_lt, Option, Some, None, refl, below_more, arith}
use Rattle.std.proofs.lemmas.Bool.Decides.{nat_tests}
use Rattle.run_record.specs.declared.cursors.NextLog.{NextLog}
use Rattle.run_record.specs.declared.cursors.NextLog.TheVariants.{Book, Shard}
use Rattle.run_record.specs.LogCursors.{IsFirst, is_before, next_ticket, ticket_at}

-- ---- tickets

below_all : (a l j : ℕ) → nat_lt a l ≡ true → nat_lt j l ≡ false → nat_lt a j ≡ true
below_all a l j less most = grind (arith, nat_tests)

not_above : (a j : ℕ) → nat_lt a j ≡ true → nat_lt j a ≡ false
not_above a j less = grind (arith, nat_tests)

not_below_itself : (a : ℕ) → nat_lt a a ≡ false
not_below_itself a = grind (arith, nat_tests)

before_all : (a l j : Option ℕ) → is_before a l ≡ true → is_before j l ≡ false → is_before a j ≡ true
before_all None l j less most = absurd (cc)
before_all (Some a) l None less most = refl
before_all (Some a) None (Some j) less most = absurd (cc)
before_all (Some a) (Some l) (Some j) less most = below_all a l j less most

not_before : (a j : Option ℕ) → is_before a j ≡ true → is_before j a ≡ false
not_before None j less = absurd (cc)
not_before (Some a) None less = refl
not_before (Some a) (Some j) less = not_above a j less

not_before_itself : (a : Option ℕ) → is_before a a ≡ false
not_before_itself None = refl
not_before_itself (Some a) = not_below_itself a

-- ---- the first of several logs

-- no shard of the first n comes before it
each_not : (book : Option ℕ) (tickets : List (Option ℕ)) (n : ℕ) (log : NextLog) → IsFirst book tickets n log
    → (j : ℕ) → j < n → is_before (ticket_at tickets j) (next_ticket book tickets log) ≡ false
each_not book tickets n Book h = h
each_not book tickets n (Shard k) h = h.of_each

book_not : (book : Option ℕ) (tickets : List (Option ℕ)) (n : ℕ) (log : NextLog) → IsFirst book tickets n log
    → is_before book (next_ticket book tickets log) ≡ false
book_not book tickets n Book h = not_before_itself book
book_not book tickets n (Shard k) h = not_before (ticket_at tickets k) book h.of_book

-- one more shard is not before it
pub first_kept : (book : Option ℕ) (tickets : List (Option ℕ)) (n : ℕ) (log : NextLog) → IsFirst book tickets n log
    → is_before (ticket_at tickets n) (next_ticket book tickets log) ≡ false → IsFirst book tickets (n + 1) log
first_kept book tickets n Book h most = below_more (λ j. is_before (ticket_at tickets j) book ≡ false) n h most
first_kept book tickets n (Shard k) h most =
    let within = h.within in
    record {
      within = omega (arith, within);
      of_book = h.of_book;
      of_lower = h.of_lower;
      of_each = below_more (λ j. is_before (ticket_at tickets j) (ticket_at tickets k) ≡ false) n h.of_each most;
    }

-- one more shard is before it
pub first_replaced : (book : Option ℕ) (tickets : List (Option ℕ)) (n : ℕ) (log : NextLog) → IsFirst book tickets n log
    → is_before (ticket_at tickets n) (next_ticket book tickets log) ≡ true → IsFirst book tickets (n + 1) (Shard n)
first_replaced book tickets n log h less =
    record {
      within = omega arith;
      of_book = before_all (ticket_at tickets n) (next_ticket book tickets log) book less (book_not book tickets n log h);
      of_lower = lower;
      of_each = below_more (λ j. is_before (ticket_at tickets j) (ticket_at tickets n) ≡ false) n
          (λ j low. not_before (ticket_at tickets n) (ticket_at tickets j) (lower j low)) (not_before_itself (ticket_at tickets n));
    }
  where
    lower : (j : ℕ) → j < n → is_before (ticket_at tickets n) (ticket_at tickets j) ≡ true
    lower j low =
        before_all (ticket_at tickets n) (next_ticket book tickets log) (ticket_at tickets j) less (each_not book tickets n log h j low)

-- ---- the first of the shards, and the book

not_below_least : (a l b : ℕ) → nat_lt a l ≡ false → nat_lt l b ≡ false → nat_lt a b ≡ false
not_below_least a l b most least = grind (arith, nat_tests)

not_before_least : (a l b : Option ℕ) → is_before a l ≡ false → is_before l b ≡ false → is_before a b ≡ false
not_before_least None l b most least = refl
not_before_least (Some a) None b most least = absurd (cc)
not_before_least (Some a) (Some l) None most least = absurd (cc)
not_before_least (Some a) (Some l) (Some b) most least = not_below_least a l b most least

not_before_none : (a b : Option ℕ) → is_before a None ≡ false → is_before a b ≡ false
not_before_none None b none = refl
not_before_none (Some a) b none = absurd (cc)

-- no shard has an entry left
pub book_alone : (book : Option ℕ) (tickets : List (Option ℕ)) (n : ℕ) → IsFirst None tickets n Book → IsFirst book tickets n Book
book_alone book tickets n h j low = not_before_none (ticket_at tickets j) book (h j low)

-- the first shard comes before the book
pub shard_first : (book : Option ℕ) (tickets : List (Option ℕ)) (n k : ℕ) → IsFirst None tickets n (Shard k)
    → is_before (ticket_at tickets k) book ≡ true → IsFirst book tickets n (Shard k)
shard_first book tickets n k h less = record {
  within = h.within;
  of_book = less;
  of_lower = h.of_lower;
  of_each = h.of_each;
}

-- the book comes before the first shard, or at the same ticket
pub book_first : (book : Option ℕ) (tickets : List (Option ℕ)) (n k : ℕ) → IsFirst None tickets n (Shard k)
    → is_before (ticket_at tickets k) book ≡ false → IsFirst book tickets n Book
book_first book tickets n k h most j low = not_before_least (ticket_at tickets j) (ticket_at tickets k) book (h.of_each j low) most
