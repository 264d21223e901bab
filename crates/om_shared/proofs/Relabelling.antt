-- Labels that move: the words and the links have the same new labels.
use Rattle.std.proofs.Common.{◌≡◌, ◌≢◌, ℕ, ◌+◌, ◌-◌, ◌^◌, ◌<◌, ◌≤◌, List, length, set, slice_index, Bool, true, false, refl, sym, ap, ◌∙◌}
use Rattle.std.proofs.Common.{subst, arith, ◌⊎◌, inl, inr, length-set}
use Rattle.pipe_model.specs.Orders.OrderList.{has}
use Rattle.om_relabel.specs.declared.label_range.LabelRange.{LabelRange}
use Rattle.om_relabel.specs.declared.links.Links.{Links}
use Rattle.om_relabel.specs.LabelledLinks.{AreLabelled, label_of}
use Rattle.om_relabel.specs.Labels.{LabelsRise}
use Rattle.om_relabel.specs.Links.{chain}
use Rattle.om_relabel.specs.Ranges.{elements_of, spread_label}
use Rattle.om_relabel.proofs.SpreadLabels.{IsSparseRange, IsSpread, index_of, one_more_spread, range_element, spread_list_rises}
use Rattle.om_list.specs.KeptLists.{IsKept}
use Rattle.om_shared.specs.declared.view.Stage.{Stage}
use Rattle.om_shared.specs.declared.view.Stage.TheVariants.{Moving, Settled}
use Rattle.om_shared.specs.Rule.{RiseAlong, label_at, view}
use Rattle.om_shared.specs.Seats.{IsMoved, IsReady, IsResting}
use Rattle.om_shared.specs.Steps.{SeatState, labelling}
use Rattle.om_shared.proofs.WriterSteps.{after_storing}

is_true : (b : Bool) → (b ≡ true) ⊎ (b ≢ true)
is_true true = inl refl
is_true false = inr (λ e. cc)

-- labels that are both spread over a range are the same
spread_agree : (links : Links) (range : LabelRange) → range.count ≡ length (elements_of links range) → (a b : ℕ → ℕ)
    → IsSpread links a range range.count → IsSpread links b range range.count → (x : ℕ) → a x ≡ b x
spread_agree links range count a b da db x = elim (is_true (has x (elements_of links range))) [
  | inl inside ↦ (
      let k = index_of (elements_of links range) x inside in
      let l = k.1 in
      let below : k.0 < range.count = omega (arith, l, count) in
      ap a (sym k.2) ∙ (da.spread k.0 below ∙ (sym (db.spread k.0 below) ∙ ap b k.2)))
  | inr out ↦ da.others x out ∙ sym (db.others x out)
]

-- the words of the elements of a range
pub element_word : (links : Links) (log : List ℕ) (range : LabelRange) (capacity words k element : ℕ) → IsKept links log
    → IsSparseRange links range → length log < capacity → words ≡ capacity + 1 → k < range.count
    → element ≡ slice_index (elements_of links range) k → (element + 1 < words) × (element < length links.label.items)
element_word links log range capacity words k element kept s below words_are l at =
    let inside = range_element links kept.labelled range s k l in
    let count = kept.count in
    (omega (arith, inside, at, count, below, words_are), omega (arith, inside, at))

-- one label more has been stored
pub one_more_moved : (capacity words sequence : ℕ) (links : Links) (range : LabelRange) (k element label : ℕ)
    (m m' : SeatState)
    → AreLabelled links → IsSparseRange links range → length links.label.items ≤ capacity → k < range.count
    → element ≡ slice_index (elements_of links range) k → label ≡ spread_label range k
    → m' ≡ (view m.0.log m.0.learned (labelling ((element + 1) - 1) label m.0.role), m.1)
    → IsMoved Moving capacity words sequence links range k m
    → IsMoved Moving capacity words sequence links range (k + 1) m'
one_more_moved capacity words sequence links range k element label m m' h s fits l at label_is is before =
    let e = after_storing m m' Moving element label sequence before.labels is before.seat.role in
    let wide = before.seat.wide in
    let one = one_more_spread links h range s before.labels (omega (arith, fits, wide)) k element label l at label_is
    record { spread = before.spread; others = before.others } in
    record {
      labels = set before.labels element label;
      seat = record {
        words_are = before.seat.words_are;
        role = ap (λ (n : SeatState). n.0.role) e;
        wide = length-set before.labels element label ∙ before.seat.wide;
        empty = ap (λ (n : SeatState). n.1) e ∙ before.seat.empty;
      };
      spread = one.spread;
      others = one.others;
    }

-- all labels of the range have been stored
pub enough_moved : (stage : Stage) (capacity words sequence : ℕ) (links : Links) (range : LabelRange) (k n : ℕ)
    (m : SeatState) → n ≤ k
    → IsMoved stage capacity words sequence links range k m → IsMoved stage capacity words sequence links range n m
enough_moved stage capacity words sequence links range k n m l i = record {
  labels = i.labels;
  seat = i.seat;
  spread = λ j b. i.spread j (omega (arith, b, l));
  others = i.others;
}

-- the labels rise once all are stored
pub moved_rises : (capacity words sequence : ℕ) (links : Links) (log : List ℕ) (range : LabelRange) (m : SeatState)
    → IsKept links log
    → IsSparseRange links range → (k : IsMoved Moving capacity words sequence links range range.count m)
    → RiseAlong k.labels log
moved_rises capacity words sequence links log range m kept s k =
    subst (LabelsRise (label_at k.labels) 0 (2 ^ 62)) kept.list
    (spread_list_rises links kept.labelled range s (label_at k.labels) record { spread = k.spread; others = k.others })

-- links with other labels
kept_relabelled : (old new : Links) (log : List ℕ) → IsKept old log → new.next.items ≡ old.next.items
    → length new.label.items ≡ length old.label.items → AreLabelled new → IsKept new log
kept_relabelled old new log k next long labelled = record {
  valid = k.valid;
  count = long ∙ k.count;
  list = ap chain next ∙ k.list;
  labelled = labelled;
}

-- the words have the labels of the links with the new ones, and the writer may insert
pub ready : (capacity words sequence : ℕ) (old new : Links) (range : LabelRange) (m m' : SeatState)
    → range.count ≡ length (elements_of old range) → IsResting capacity words sequence old m → m'.0.log ≡ m.0.log
    → IsMoved Settled capacity words (sequence + 2) old range range.count m'
    → IsSpread old (label_of new) range range.count
    → new.next.items ≡ old.next.items → length new.label.items ≡ length old.label.items → AreLabelled new
    → IsReady capacity words (sequence + 2) new m'
ready capacity words sequence old new range m m' count k log moved spread next long labelled =
    let below = k.below in
    let even = k.even in
    let bounded = k.bounded in
    let same = ap (length {A = ℕ}) log in
    record {
      stage = Settled;
      labels = moved.labels;
      seat = moved.seat;
      agree = spread_agree old range count (label_at moved.labels) (label_of new)
          record { spread = moved.spread; others = moved.others } spread;
      kept = subst (IsKept new) (sym log) (kept_relabelled old new m.0.log k.kept next long labelled);
      below = omega (arith, below, same);
      even = omega (arith, even);
      bounded = omega (arith, bounded, same);
    }
