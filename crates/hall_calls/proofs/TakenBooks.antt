-- A worker that has taken the book, and gives it back after a call.
use Rattle.std.proofs.Common.{◌≡◌, ℕ, List, [], ◌∷◌, ◌++◌, refl, sym, ap, ap₂, ◌∙◌, subst, Option, Some, None, append-nil}
use Rattle.atomic_table.specs.Seated.{TableId}
use Rattle.pipe_model.specs.declared.event.Event.{Event}
use Rattle.pipe_model.specs.declared.stage.StageEnd.{StageEnd}
use Rattle.pipe_model.specs.declared.ticket.Entry.{Entry}
use Rattle.pipe_model.specs.Runs.ControlRun.{ControlRun}
use Rattle.pipe_model.specs.Runs.RunLogs.{state_after}
use Rattle.pipe_model.specs.Runs.State.{State}
use Rattle.pipe_frame.specs.CallResults.{AdvanceReturns, advance_events, begin_events, rescue_events}
use Rattle.pipe_frame.specs.HallViews.{BeginsWith, Sees}
use Rattle.pipe_frame.specs.ResultTokens.{IfGo, IfStarted, IfToken}
use Rattle.pipe_frame.specs.RunningTokens.{IsTokenOf}
use Rattle.pipe_frame.specs.Ties.{Tie}
use Rattle.pipe_frame.specs.TokenCounts.{TokenCounts}
use Rattle.pipe_frame.specs.TokenFields.{TokenFields}
use Rattle.pipe_frame.specs.declared.results.Begun.{Begun}
use Rattle.pipe_frame.specs.declared.results.Begun.TheVariants as begun
use Rattle.pipe_frame.specs.declared.results.Next.{Next}
use Rattle.pipe_frame.specs.declared.results.Next.TheVariants as nexts
use Rattle.pipe_frame.specs.declared.results.Rescue.{Rescue}
use Rattle.pipe_frame.specs.declared.results.Rescue.TheVariants as rescue
use Rattle.pipe_frame.specs.declared.token.FrameToken.{FrameToken}
use Rattle.frame_book.specs.BookStates.{BookState, HasRisingTickets, Kept, Out, Spent, events_of, state_of}
use Rattle.frame_book.specs.CallEffects.{after_advance, after_begin, after_rescue}
use Rattle.hall_table.specs.BookCalls.{IsBookCall}
use Rattle.hall_table.specs.HallRule.{view_of}
use Rattle.hall_table.specs.SeatViews.{HallConstants, InstanceData, TheBook, constants_of}
use Rattle.hall_table.specs.Steps.{BookSnapshot, ViewAndSlots, after_book, having, worker_seat}
use Rattle.hall_table.specs.declared.slot.Slot.{Slot}
use Rattle.atomic_table.specs.Table.{rest}
use Rattle.hall_table.specs.WorkerSeats.{HasTaken, HoldsBook, IsDataOf, IsIdle, StaysIdle, counts_with, hall_of, name_of}
use Rattle.hall_table.specs.declared.slot.Slot.TheVariants as slots
use Rattle.hall_calls.proofs.BookCalls.{events_stamped, unchanged_call}
use Rattle.hall_calls.proofs.LentSlots.{lent_value, only_value, there}
use Rattle.hall_calls.proofs.EndingCalls.{ends_not_stopped, finishes, holds_back, waits_not_stopped}

-- ---- the book is taken

-- by a seat that was idle, and may have taken in an instance's seat since
module _ (M : Type 0) (m k n : ViewAndSlots M) (b : BookState) (back : Option InstanceData) (idle : IsIdle m)
    (constants : k.0.it.constants ≡ m.0.it.constants) (seen : k.0.it.seen ≡ m.0.it.seen) (held : k.0.it.held ≡ m.0.it.held)
    (empty : k.1 ≡ m.1) (run : k.0.it.run ≡ back)
    (counts : k.0.it.tokens ≡ counts_with back m.0.it.tokens)
    (taken : n ≡ having k 0 (TheBook b)) (shot : BookSnapshot k.0.it 0 b) where
  knew : m.0.it.constants ≡ Some (constants_of b)
  knew = idle.knows ∙ ap (λ x. Some x) (shot.constants idle.constants (constants ∙ idle.knows))

  pub has_taken : HasTaken m n b back
  has_taken = record {
    holds = record {
      slots = ap (λ (x : ViewAndSlots M). x.1) taken ∙ ap (λ cs. (0, slots.Book b) ∷ cs) (empty ∙ idle.slots);
      held = ap (λ (x : ViewAndSlots M). x.0.it.held) taken ∙ ap (λ hs. (0, TheBook b) ∷ hs) (held ∙ idle.held);
      run = ap (λ (x : ViewAndSlots M). x.0.it.run) taken ∙ run;
    };
    knew = knew;
    knows = ap (λ (x : ViewAndSlots M). x.0.it.constants) taken;
    seen = subst (BeginsWith (events_of b.log)) seen shot.seen;
    counts = ap (λ (x : ViewAndSlots M). x.0.it.tokens) taken ∙ counts;
    control = shot.control;
    tokens = shot.tokens;
    traces = shot.traces;
  }

-- by a further worker's seat
module _ (M : Type 0) (m k n : ViewAndSlots M) (b : BookState) where
  pub holds_beside : k ≡ (view_of (worker_seat m.0.it), []) → n ≡ having k 0 (TheBook b) → HoldsBook n b b None
  holds_beside split taken = record {
    slots = ap (λ (y : ViewAndSlots M). y.1) taken ∙ ap (λ (y : ViewAndSlots M). (0, slots.Book b) ∷ y.1) split;
    held = ap (λ (y : ViewAndSlots M). y.0.it.held) taken ∙ ap (λ (y : ViewAndSlots M). (0, TheBook b) ∷ y.0.it.held) split;
    run = ap (λ (y : ViewAndSlots M). y.0.it.run) taken ∙ ap (λ (y : ViewAndSlots M). y.0.it.run) split;
  }

-- ---- the book is lent by the slot where it lies

pub same_book : {M : Type 0} (b c : BookState) → ◌≡◌ {A = Slot M} (slots.Book b) (slots.Book c) → b ≡ c
same_book b c e = cc

pub same_slot : (M : Type 0) (n : ViewAndSlots M) (b c : BookState) → n.1 ≡ (0, slots.Book b) ∷ [] → n.1 ≡ (0, slots.Book c) ∷ [] → b ≡ c
same_slot M n b c e f =
    same_book {M = M} b c (lent_value M n 0 (slots.Book c) f (slots.Book b) (e ∙ sym (only_value M n 0 (slots.Book c) f (slots.Book b))))

module _ {M : Type 0} {n : ViewAndSlots M} {b : BookState} {back : Option InstanceData} (h : HoldsBook n b b back) where
  pub slot_there : (s : Slot M) × (n.1 ≡ (0, s) ∷ rest n.1)
  slot_there = there M n 0 (slots.Book b) h.slots

  pub book_is : (s : Slot M) → n.1 ≡ (0, s) ∷ rest n.1 → s ≡ slots.Book b
  book_is s e = lent_value M n 0 (slots.Book b) h.slots s e

  -- what a call has made of it lies in the slot then
  pub in_slot : (c : BookState) → ◌≡◌ {A = List (ℕ × Slot M)} ((0, slots.Book c) ∷ rest n.1) ((0, slots.Book c) ∷ [])
  in_slot c = only_value M n 0 (slots.Book b) h.slots (slots.Book c)

  pub holds_call : (c : BookState) → HoldsBook {M = M} (n.0, (0, slots.Book c) ∷ rest n.1) b c back
  holds_call c = record { slots = in_slot c; held = h.held; run = h.run }

  pub lent_is : (s : Slot M) (x : BookState) → n.1 ≡ (0, s) ∷ rest n.1 → s ≡ slots.Book x → x ≡ b
  lent_is s x e f = same_book x b (sym f ∙ book_is s e)

module _ {M : Type 0} {m n : ViewAndSlots M} {s : Slot M} {x : BookState} (e : n.1 ≡ (0, s) ∷ rest n.1) (f : s ≡ slots.Book x) where
  pub lent : (b : BookState) × HasTaken m n b None → HasTaken m n x None
  lent t = subst (λ y. HasTaken m n y None) (sym (lent_is t.1.holds s x e f)) t.1

  pub lent_with : {k : TokenFields} {t : Tie} → (b : BookState) × (d : InstanceData) × HasTaken m n b (Some d) × IsDataOf b k t d
      → (d : InstanceData) × HasTaken m n x (Some d) × IsDataOf x k t d
  lent_with {k} {t} q =
      let same = sym (lent_is q.2.holds s x e f) in
      (q.1, subst (λ y. HasTaken m n y (Some q.1)) same q.2, subst (λ y. IsDataOf y k t q.1) same q.3)

-- ---- the book is given back

module _ {M : Type 0} {m n : ViewAndSlots M} {b : BookState} {back : Option InstanceData} (h : HasTaken m n b back) {z : ViewAndSlots M}
    (c : BookState) {counts : TokenCounts} (given : z ≡ (view_of (record (after_book n.0.it c None) { tokens = counts }), [])) where
  pub seen_after : z.0.it.seen ≡ events_of c.log
  seen_after = ap (λ (x : ViewAndSlots M). x.0.it.seen) given

  pub runs_after : (f : TokenFields) → IsTokenOf (events_of c.log) f → IsTokenOf z.0.it.seen f
  runs_after f r = subst (λ es. IsTokenOf es f) (sym seen_after) r

  pub stays_idle : constants_of c ≡ constants_of b → ControlRun c.limit (events_of c.log) (state_of c) → StaysIdle m z
  stays_idle same control =
      let knows : z.0.it.constants ≡ Some (constants_of b) = ap (λ (x : ViewAndSlots M). x.0.it.constants) given ∙ h.knows in
      record {
        idle = record {
          constants = constants_of b;
          knows = knows;
          control = subst (λ es. ControlRun b.limit es (state_after es)) (sym seen_after)
              (subst (λ (a : HallConstants). ControlRun a.limit (events_of c.log) (state_of c)) same control);
          run = ap (λ (x : ViewAndSlots M). x.0.it.run) given;
          held = ap (λ (x : ViewAndSlots M). x.0.it.held) given;
          slots = ap (λ (x : ViewAndSlots M). x.1) given;
        };
        constants = knows ∙ sym h.knew;
      }

  pub sees : (own : List Event) (Returns : State → Type 0) → events_of c.log ≡ events_of b.log ++ own → Returns (state_of b)
      → Sees m.0.it.seen z.0.it.seen own Returns
  sees own Returns adds r = record { base = events_of b.log; later = h.seen; adds = seen_after ∙ adds; returns = r }

-- the name of the hall, by the book
pub name_is : {M : Type 0} {m n : ViewAndSlots M} {b : BookState} {back : Option InstanceData} (id : TableId) → HasTaken m n b back
    → name_of id m.0.it.constants ≡ name_of id (Some (constants_of b))
name_is id h = ap (name_of id) h.knew

-- a seat that has taken the book is of the same hall, and knows the constants of the book after a call
module _ {M : Type 0} {m n : ViewAndSlots M} {b : BookState} {back : Option InstanceData} (h : HasTaken m n b back) where
  pub hall_is : (id id' : TableId) → id' ≡ id → hall_of id' n ≡ hall_of id m
  hall_is id id' own = ap₂ name_of own (h.knows ∙ sym h.knew)

  pub knows_after : (c : BookState) → constants_of c ≡ constants_of b → n.0.it.constants ≡ Some (constants_of c)
  knows_after c same = h.knows ∙ ap (λ x. Some x) (sym same)

-- ---- results without a token

-- nothing has begun
pub record NothingBegun {M : Type 0} (b c : BookState) (r : Begun M) : Type 0 where
  pub call : IsBookCall b None c None
  pub constants : constants_of c ≡ constants_of b
  pub adds : events_of c.log ≡ events_of b.log ++ begin_events r

pub same_events : (b c : BookState) → c ≡ b → events_of c.log ≡ events_of b.log ++ []
same_events b c e = ap (λ (x : BookState). events_of x.log) e ∙ sym (append-nil (events_of b.log))

pub unchanged : (b c : BookState) → c ≡ b → IsBookCall b None c None
unchanged b c e = subst (λ x. IsBookCall b None x None) (sym e) (unchanged_call b)

pub nothing_begun : {M : Type 0} (b c : BookState) (r : Begun M) → ((t : FrameToken M) → r ≡ begun.Started t → ⊥) → c ≡ after_begin b r
    → NothingBegun b c r
nothing_begun b c begun.Stopped none e = record { call = unchanged b c e; constants = ap constants_of e; adds = same_events b c e }
nothing_begun b c begun.Closed none e = record { call = unchanged b c e; constants = ap constants_of e; adds = same_events b c e }
nothing_begun b c begun.NotYet none e = record { call = unchanged b c e; constants = ap constants_of e; adds = same_events b c e }
nothing_begun b c begun.Throttled none e = record { call = unchanged b c e; constants = ap constants_of e; adds = same_events b c e }
nothing_begun b c (begun.Started t) none e = absurd (none t refl)

-- no token was found
pub record NothingFound {M : Type 0} (b c : BookState) (r : Rescue M) : Type 0 where
  pub call : IsBookCall b None c None
  pub constants : constants_of c ≡ constants_of b
  pub adds : events_of c.log ≡ events_of b.log ++ rescue_events (state_of b) r

pub nothing_found : {M : Type 0} (b c : BookState) (r : Rescue M) → ((t : FrameToken M) → r ≡ rescue.Token t → ⊥) → c ≡ after_rescue b r
    → NothingFound b c r
nothing_found b c rescue.Stopped none e = record { call = unchanged b c e; constants = ap constants_of e; adds = same_events b c e }
nothing_found b c rescue.Finished none e = record { call = unchanged b c e; constants = ap constants_of e; adds = same_events b c e }
nothing_found b c (rescue.Token t) none e = absurd (none t refl)
nothing_found b c rescue.MayBegin none e = record { call = unchanged b c e; constants = ap constants_of e; adds = same_events b c e }
nothing_found b c rescue.Nothing none e = record { call = unchanged b c e; constants = ap constants_of e; adds = same_events b c e }

-- an instance has ended, and its token is in the book, or spent
pub ended_without : {M : Type 0} (b c : BookState) (d : InstanceData) (f : TokenFields) (trace : List Entry) (end : StageEnd) (r : Next M)
    → ((t : FrameToken M) → r ≡ nexts.Go t → ⊥)
    → d.fields ≡ f → d.entries ≡ trace → AdvanceReturns (state_of b) f.iteration f.index end r → c ≡ after_advance b f end trace r
    → ControlRun c.limit (events_of c.log) (state_of c) → HasRisingTickets c.log → IsBookCall b (Some d) c None
ended_without b c d f trace end nexts.Stopped none sf st returned e control rise = holds_back b c d f trace end (Kept f) _ sf st refl e
ended_without b c d f trace end nexts.Ended none sf st returned e control rise =
    finishes b c d f trace end Spent _ sf st (ends_not_stopped end returned.1) (λ q. (let z : Spent ≡ Out = q in cc)) e control rise
ended_without b c d f trace end nexts.Suspended none sf st returned e control rise =
    finishes b c d f trace end _ _ sf st (waits_not_stopped (state_of b) f.iteration end returned.1) (λ q. cc) e control rise
ended_without b c d f trace end (nexts.Go t) none sf st returned e control rise = absurd (none t refl)

pub advanced : {M : Type 0} (b c : BookState) (f : TokenFields) (trace : List Entry) (end : StageEnd) (r : Next M)
    → c ≡ after_advance b f end trace r
    → (constants_of c ≡ constants_of b) × (events_of c.log ≡ events_of b.log ++ advance_events f.iteration end r)
advanced b c f trace end r e = (
  ap constants_of e,
  ap (λ (x : BookState). events_of x.log) e
      ∙ events_stamped b.log f.now (advance_events f.iteration end r),
)

-- a fact of a token that is not there
pub none_started : {M : Type 0} (r : Begun M) (P : FrameToken M → Type 0) → ((t : FrameToken M) → r ≡ begun.Started t → ⊥) → IfStarted r P
none_started begun.Stopped P none = tt
none_started begun.Closed P none = tt
none_started begun.NotYet P none = tt
none_started begun.Throttled P none = tt
none_started (begun.Started t) P none = absurd (none t refl)

pub none_found : {M : Type 0} (r : Rescue M) (P : FrameToken M → Type 0) → ((t : FrameToken M) → r ≡ rescue.Token t → ⊥) → IfToken r P
none_found rescue.Stopped P none = tt
none_found rescue.Finished P none = tt
none_found rescue.MayBegin P none = tt
none_found rescue.Nothing P none = tt
none_found (rescue.Token t) P none = absurd (none t refl)

pub none_goes : {M : Type 0} (r : Next M) (P : FrameToken M → Type 0) → ((t : FrameToken M) → r ≡ nexts.Go t → ⊥) → IfGo r P
none_goes nexts.Stopped P none = tt
none_goes nexts.Ended P none = tt
none_goes nexts.Suspended P none = tt
none_goes (nexts.Go t) P none = absurd (none t refl)
