-- How the counts of a seat change when tokens are given out and taken back.
use Rattle.std.proofs.Common.{◌≡◌, ◌∙◌, [], arith, ap, refl, subst, sym, Some, None}
use Rattle.pipe_frame.specs.TokenCounts.{Exchanges, TokenCounts, tokens_begun, tokens_next, tokens_rescued}
use Rattle.pipe_frame.specs.declared.results.Begun.{Begun}
use Rattle.pipe_frame.specs.declared.results.Begun.TheVariants as begun
use Rattle.pipe_frame.specs.declared.results.Next.{Next}
use Rattle.pipe_frame.specs.declared.results.Next.TheVariants as nexts
use Rattle.pipe_frame.specs.declared.results.Rescue.{Rescue}
use Rattle.pipe_frame.specs.declared.results.Rescue.TheVariants as rescue
use Rattle.pipe_frame.specs.declared.token.FrameToken.{FrameToken}
use Rattle.frame_book.specs.BookStates.{BookState}
use Rattle.hall_table.specs.HallRule.{view_of}
use Rattle.hall_table.specs.SeatViews.{InstanceData}
use Rattle.hall_table.specs.Steps.{ViewAndSlots, after_book, one_given, one_returned, without_run}
use Rattle.hall_table.specs.WorkerSeats.{HasTaken}

module _ (c d : TokenCounts) where
  same_counts : d ≡ c → Exchanges 0 0 c d
  same_counts e = subst (Exchanges 0 0 c) (sym e) refl

  gave_one : d ≡ one_given c → Exchanges 1 0 c d
  gave_one e = subst (Exchanges 1 0 c) (sym e) (omega arith)

  returned_one : d ≡ one_returned c → Exchanges 0 1 c d
  returned_one e = subst (Exchanges 0 1 c) (sym e) (omega arith)

  given_and_returned : d ≡ one_given (one_returned c) → Exchanges 1 1 c d
  given_and_returned e = subst (Exchanges 1 1 c) (sym e) (omega arith)

-- ---- the book was taken, and given back, without a token or beside one

module _ {M : Type 0} {m n z : ViewAndSlots M} {b : BookState} (c : BookState) where
  pub none_moves : HasTaken m n b None → z ≡ (view_of (after_book n.0.it c None), []) → Exchanges 0 0 m.0.it.tokens z.0.it.tokens
  none_moves h given = same_counts m.0.it.tokens z.0.it.tokens (ap (λ (x : ViewAndSlots M). x.0.it.tokens) given ∙ h.counts)

  pub token_given : HasTaken m n b None → z ≡ (view_of (without_run (after_book n.0.it c None)), [])
      → Exchanges 1 0 m.0.it.tokens z.0.it.tokens
  token_given h given = gave_one m.0.it.tokens z.0.it.tokens (ap (λ (x : ViewAndSlots M). x.0.it.tokens) given ∙ ap one_given h.counts)

  pub token_returned : {d : InstanceData} → HasTaken m n b (Some d) → z ≡ (view_of (after_book n.0.it c None), [])
      → Exchanges 0 1 m.0.it.tokens z.0.it.tokens
  token_returned h given = returned_one m.0.it.tokens z.0.it.tokens (ap (λ (x : ViewAndSlots M). x.0.it.tokens) given ∙ h.counts)

  pub token_given_and_returned : {d : InstanceData} → HasTaken m n b (Some d) → z ≡ (view_of (without_run (after_book n.0.it c None)), [])
      → Exchanges 1 1 m.0.it.tokens z.0.it.tokens
  token_given_and_returned h given = given_and_returned m.0.it.tokens z.0.it.tokens
      (ap (λ (x : ViewAndSlots M). x.0.it.tokens) given ∙ ap one_given h.counts)

-- ---- results without a token

pub none_begun : {M : Type 0} (r : Begun M) → ((t : FrameToken M) → r ≡ begun.Started t → ⊥) → tokens_begun r ≡ 0
none_begun begun.Stopped none = refl
none_begun begun.Closed none = refl
none_begun begun.NotYet none = refl
none_begun begun.Throttled none = refl
none_begun (begun.Started t) none = absurd (none t refl)

pub none_rescued : {M : Type 0} (r : Rescue M) → ((t : FrameToken M) → r ≡ rescue.Token t → ⊥) → tokens_rescued r ≡ 0
none_rescued rescue.Stopped none = refl
none_rescued rescue.Finished none = refl
none_rescued rescue.MayBegin none = refl
none_rescued rescue.Nothing none = refl
none_rescued (rescue.Token t) none = absurd (none t refl)

pub none_next : {M : Type 0} (r : Next M) → ((t : FrameToken M) → r ≡ nexts.Go t → ⊥) → tokens_next r ≡ 0
none_next nexts.Stopped none = refl
none_next nexts.Ended none = refl
none_next nexts.Suspended none = refl
none_next (nexts.Go t) none = absurd (none t refl)
