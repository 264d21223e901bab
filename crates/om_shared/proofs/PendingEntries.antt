-- The last entries of the log, whose elements have no label yet.
use Rattle.std.proofs.Common.{◌≡◌, ℕ, zero, suc, ◌+◌, ◌-◌, ◌*◌, ◌%◌, ◌<◌, ◌≤◌, List, [], ◌∷◌, ◌++◌, length, set, slice_index, take}
use Rattle.std.proofs.Common.{refl, sym, ap, ◌∙◌, subst, arith, inl, inr, length-append, length-set, append_assoc, append-nil}
use Rattle.std.proofs.lemmas.Bool.{cases_eq, cases_lt}
use Rattle.std.proofs.lemmas.List.{get_or-append-add, get_or-set_other, get_or-set_same, get_or_past, length-take-le}
use Rattle.std.proofs.lemmas.List.{take_more}
use Rattle.pipe_model.specs.Orders.OrderList.{IsLog, insert_after, list_of_log}
use Rattle.om_relabel.specs.declared.links.Links.{Links}
use Rattle.om_relabel.specs.LabelledLinks.{AreLabelled, elements}
use Rattle.om_list.specs.ChosenLabels.{HasChosenLabel}
use Rattle.om_list.specs.KeptLists.{IsKept}
use Rattle.om_list.proofs.Insertions.{kept_inserted}
use Rattle.om_shared.specs.declared.view.Stage.TheVariants.{Moving, Resting}
use Rattle.om_shared.specs.Rule.{view}
use Rattle.om_shared.specs.Seats.{AreLabelsOf, IsBetween, IsResting, IsStored, stage_of}
use Rattle.om_shared.specs.SharedLists.{HasChosenLabels}
use Rattle.om_shared.specs.Steps.{SeatState, at_stage, labelling, with_entries}
use Rattle.om_shared.proofs.WriterSteps.{after_storing}

-- ---- the seat of the writer

-- the writer rests if no entry is pending
pub rests_without : (capacity words sequence : ℕ) (links : Links) (pending : List ℕ) (m : SeatState) → pending ≡ []
    → IsBetween (stage_of pending) capacity words sequence links pending m → IsResting capacity words sequence links m
rests_without capacity words sequence links pending m none b =
    let r : IsBetween Resting capacity words sequence links [] m =
    subst (λ (ps : List ℕ). IsBetween (stage_of ps) capacity words sequence links ps m) none b in
    let log : m.0.log ≡ r.done = r.log ∙ append-nil r.done in
    let long = ap (length {A = ℕ}) log in
    let bounded = r.fits.1 in
    record {
      labels = r.labels;
      seat = r.seat;
      agree = r.agree;
      kept = subst (IsKept links) (sym log) r.kept;
      below = r.below;
      even = r.fits.0;
      bounded = omega (arith, bounded, long);
    }

pub none_pending : (capacity words sequence : ℕ) (links : Links) (pending : List ℕ) (m : SeatState) → pending ≡ []
    → IsResting capacity words sequence links m → IsBetween (stage_of pending) capacity words sequence links pending m
none_pending capacity words sequence links pending m none r =
    let b : IsBetween Resting capacity words sequence links [] m = record {
      labels = r.labels;
      done = m.0.log;
      seat = r.seat;
      agree = r.agree;
      log = sym (append-nil m.0.log);
      kept = r.kept;
      valid = r.kept.valid;
      below = r.below;
      fits = (r.even, r.bounded);
    } in
    subst (λ (ps : List ℕ). IsBetween (stage_of ps) capacity words sequence links ps m) (sym none) b

-- the sequence number is odd
pub starts_pending : (capacity words sequence : ℕ) (links : Links) (pending : List ℕ) (m m' : SeatState)
    → IsResting capacity words sequence links m → pending ≡ []
    → m' ≡ (view m.0.log m.0.learned (at_stage Moving (sequence + 1) m.0.role), m.1)
    → IsBetween Moving capacity words (sequence + 1) links pending m'
starts_pending capacity words sequence links pending m m' r none e =
    let log : m'.0.log ≡ m.0.log = ap (λ (n : SeatState). n.0.log) e in
    let long = ap (length {A = ℕ}) log in
    let below = r.below in
    let even = r.even in
    let bounded = r.bounded in
    record {
      labels = r.labels;
      done = m.0.log;
      seat = record {
        words_are = r.seat.words_are;
        role = ap (λ (n : SeatState). n.0.role) e ∙ ap (at_stage Moving (sequence + 1)) r.seat.role;
        wide = r.seat.wide;
        empty = ap (λ (n : SeatState). n.1) e ∙ r.seat.empty;
      };
      agree = r.agree;
      log = log ∙ (sym (append-nil m.0.log) ∙ ap (λ (ps : List ℕ). m.0.log ++ ps) (sym none));
      kept = r.kept;
      valid = subst (IsLog 1) (sym log) r.kept.valid;
      below = omega (arith, below, long);
      fits = (omega (arith, even), omega (arith, bounded));
    }

-- entries more are pending
pub more_pending : (capacity words sequence : ℕ) (xs : List ℕ) (links : Links) (pending pending' : List ℕ) (m m' : SeatState)
    → (IsLog 1 m.0.log → IsLog 1 (m.0.log ++ xs)) → length m.0.log + length xs < capacity → pending' ≡ pending ++ xs
    → m' ≡ (with_entries xs m.0.role m.0, m.1)
    → IsBetween Moving capacity words sequence links pending m → IsBetween Moving capacity words sequence links pending' m'
more_pending capacity words sequence xs links pending pending' m m' valid room more e b =
    let log : m'.0.log ≡ m.0.log ++ xs = ap (λ (n : SeatState). n.0.log) e in
    let long = ap (length {A = ℕ}) log ∙ length-append m.0.log xs in
    record {
      labels = b.labels;
      done = b.done;
      seat = record {
        words_are = b.seat.words_are;
        role = ap (λ (n : SeatState). n.0.role) e ∙ b.seat.role;
        wide = b.seat.wide;
        empty = ap (λ (n : SeatState). n.1) e ∙ b.seat.empty;
      };
      agree = b.agree;
      log = log ∙ (ap (λ (l : List ℕ). l ++ xs) b.log
          ∙ (append_assoc b.done pending xs ∙ ap (λ (ps : List ℕ). b.done ++ ps) (sym more)));
      kept = b.kept;
      valid = subst (IsLog 1) (sym log) (valid b.valid);
      below = omega (arith, room, long);
      fits = b.fits;
    }

-- ---- the links

-- an entry of a log is below the number of its element
log_entry : (e : ℕ) (log : List ℕ) (k : ℕ) → IsLog e log → k < length log → slice_index log k < e + k
log_entry e [] k h l = absurd (omega (arith, l))
log_entry e (z ∷ log) zero h l = let a = h.0 in omega (arith, a)
log_entry e (z ∷ log) (suc k) h l = let a = log_entry (e + 1) log k h.1 (omega (arith, l)) in omega (arith, a)

pub pending_entry : (done pending : List ℕ) (k : ℕ) → IsLog 1 (done ++ pending) → k < length pending
    → slice_index pending k ≤ length done + k
pending_entry done pending k h l =
    let long = length-append done pending in
    let a = log_entry 1 (done ++ pending) (length done + k) h (omega (arith, l, long)) in
    let b = get_or-append-add done pending k 0 in
    omega (arith, a, b)

-- one more label is chosen
one_more_chosen : (log labels xs between : List ℕ) (x : ℕ) (new : List ℕ) → HasChosenLabels log labels xs between
    → HasChosenLabel (list_of_log (log ++ xs)) between x new → HasChosenLabels log labels (xs ++ x ∷ []) new
one_more_chosen log labels [] between x new h one =
    (new, subst (λ (p : List ℕ × List ℕ). HasChosenLabel (list_of_log p.0) p.1 x new) (λ i. (append-nil log i, h i)) one, refl)
one_more_chosen log labels (y ∷ ys) between x new h one = (
  h.0,
  h.1,
  one_more_chosen (log ++ y ∷ []) h.0 ys between x new h.2
      (subst (λ (l : List ℕ). HasChosenLabel (list_of_log l) between x new) (sym (append_assoc log (y ∷ []) ys)) one),
)

-- one pending element more is in the links
pub one_more_linked : (old new : Links) (done pending labels : List ℕ) (k x : ℕ) → IsLog 1 (done ++ pending)
    → k < length pending → x ≡ slice_index pending k → AreLabelled new
    → elements new ≡ insert_after x (length old.label.items) (elements old)
    → length new.label.items ≡ length old.label.items + 1
    → HasChosenLabel (elements old) old.label.items x new.label.items
    → IsKept old (done ++ take k pending) → HasChosenLabels done labels (take k pending) old.label.items
    → IsKept new (done ++ take (k + 1) pending) × HasChosenLabels done labels (take (k + 1) pending) new.label.items
one_more_linked old new done pending labels k x h l is labelled list long one kept chosen =
    let taken : length (take k pending) ≡ k = length-take-le k pending (omega (arith, l)) in
    let both = length-append done (take k pending) in
    let below = pending_entry done pending k h l in
    let more : take (k + 1) pending ≡ take k pending ++ x ∷ [] =
    take_more pending k 0 l ∙ ap (λ (n : ℕ). take k pending ++ n ∷ []) (sym is) in
    let log : (done ++ take k pending) ++ x ∷ [] ≡ done ++ take (k + 1) pending =
    append_assoc done (take k pending) (x ∷ []) ∙ ap (λ (ys : List ℕ). done ++ ys) (sym more) in (
      subst (IsKept new) log
          (kept_inserted old new (done ++ take k pending) kept x (omega (arith, below, is, both, taken)) labelled list long),
      subst (λ (ys : List ℕ). HasChosenLabels done labels ys new.label.items) (sym more)
          (one_more_chosen done labels (take k pending) old.label.items x new.label.items chosen
          (subst (λ (xs : List ℕ). HasChosenLabel xs old.label.items x new.label.items) kept.list one)),
    )

-- ---- the words

-- the words of elements that have no label yet are 0
pub none_stored : (capacity words sequence : ℕ) (old new : Links) (pending : List ℕ) (m : SeatState)
    → length old.label.items ≤ length new.label.items → IsBetween Moving capacity words sequence old pending m
    → IsStored capacity words sequence new 0 m
none_stored capacity words sequence old new pending m more b = record {
  labels = b.labels;
  seat = b.seat;
  stored = λ x l. absurd (omega (arith, l));
  others = λ x l. b.agree x ∙ get_or_past old.label.items x 0 (omega (arith, l, more));
}

-- one label more is stored
pub one_more_stored : (capacity words sequence : ℕ) (links : Links) (n label : ℕ) (m m' : SeatState)
    → length links.label.items ≤ capacity → n < length links.label.items → label ≡ slice_index links.label.items n
    → m' ≡ (view m.0.log m.0.learned (labelling ((n + 1) - 1) label m.0.role), m.1)
    → IsStored capacity words sequence links n m → IsStored capacity words sequence links (n + 1) m'
one_more_stored capacity words sequence links n label m m' fits l label_is is before =
    let e = after_storing m m' Moving n label sequence before.labels is before.seat.role in
    let wide = before.seat.wide in
    record {
      labels = set before.labels n label;
      seat = record {
        words_are = before.seat.words_are;
        role = ap (λ (k : SeatState). k.0.role) e;
        wide = length-set before.labels n label ∙ before.seat.wide;
        empty = ap (λ (k : SeatState). k.1) e ∙ before.seat.empty;
      };
      stored = λ x below. elim (cases_eq x n) [
        | inl here ↦ rw here (get_or-set_same before.labels n label 0 (omega (arith, l, fits, wide)) ∙ label_is)
        | inr apart ↦ get_or-set_other before.labels n x label 0 apart ∙ before.stored x (omega (arith, below, apart))
      ];
      others = λ x above. get_or-set_other before.labels n x label 0 (λ here. absurd (omega (arith, here, above, l)))
          ∙ before.others x above;
    }

-- all labels are stored
pub all_stored : (capacity words sequence : ℕ) (links : Links) (n : ℕ) (m : SeatState) → length links.label.items ≤ n
    → (s : IsStored capacity words sequence links n m) → AreLabelsOf s.labels links
all_stored capacity words sequence links n m all s x = elim (cases_lt x (length links.label.items)) [
  | inl below ↦ s.stored x (omega (arith, below, all))
  | inr above ↦ s.others x above ∙ sym (get_or_past links.label.items x 0 above)
]

-- the writer rests once the sequence number is even
pub rests_labelled : (capacity words sequence : ℕ) (links : Links) (n : ℕ) (m m' : SeatState)
    → length links.label.items ≤ n → IsKept links m.0.log → length m.0.log < capacity
    → sequence % 2 ≡ 1 → sequence + 1 ≤ 2 * length m.0.log
    → m' ≡ (view m.0.log m.0.learned (at_stage Resting (sequence + 1) m.0.role), m.1)
    → IsStored capacity words sequence links n m → IsResting capacity words (sequence + 1) links m'
rests_labelled capacity words sequence links n m m' all kept below odd bounded e s =
    let log : m'.0.log ≡ m.0.log = ap (λ (k : SeatState). k.0.log) e in
    let long = ap (length {A = ℕ}) log in
    record {
      labels = s.labels;
      seat = record {
        words_are = s.seat.words_are;
        role = ap (λ (k : SeatState). k.0.role) e ∙ ap (at_stage Resting (sequence + 1)) s.seat.role;
        wide = s.seat.wide;
        empty = ap (λ (k : SeatState). k.1) e ∙ s.seat.empty;
      };
      agree = all_stored capacity words sequence links n m all s;
      kept = subst (IsKept links) (sym log) kept;
      below = omega (arith, below, long);
      even = omega (arith, odd);
      bounded = omega (arith, bounded, long);
    }
