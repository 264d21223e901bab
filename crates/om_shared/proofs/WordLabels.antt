-- The words have the labels of the links.
use Rattle.std.proofs.Common.{◌≡◌, ℕ, ◌^◌, List, [], ◌∷◌, ◌++◌, length, slice_index, take, refl, ap, sym, ◌∙◌, subst, arith}
use Rattle.std.proofs.Common.{length-append}
use Rattle.std.proofs.lemmas.Grind.{same_number_lists}
use Rattle.std.proofs.lemmas.List.{get_or-take, length-take-le}
use Rattle.pipe_model.specs.Orders.OrderList.{list_of_log}
use Rattle.om_relabel.specs.declared.links.Links.{Links}
use Rattle.om_relabel.specs.LabelledLinks.{elements}
use Rattle.om_relabel.specs.Labels.{LabelsRise}
use Rattle.om_list.specs.ChosenLabels.{HasChosenLabel, HasMadeRoom, middle_after}
use Rattle.om_list.specs.KeptLists.{IsKept}
use Rattle.om_list.proofs.Insertions.{kept_rises}
use Rattle.om_shared.specs.Seats.{IsBetween, IsResting, labels_in, word_labels}
use Rattle.om_shared.specs.Steps.{SeatState}
use Rattle.om_shared.specs.declared.view.Stage.{Stage}
use Rattle.om_shared.specs.declared.view.Stage.TheVariants.{Resting}
use Rattle.om_shared.proofs.PendingEntries.{none_pending}

pub word_labels_are : (stage : Stage) (capacity words sequence : ℕ) (links : Links) (pending : List ℕ) (m : SeatState)
    → IsBetween stage capacity words sequence links pending m → word_labels links m.0 ≡ links.label.items
word_labels_are stage capacity words sequence links pending m b =
    let n : ℕ = length links.label.items in
    let wide = b.seat.wide in
    let below = b.below in
    let count = b.kept.count in
    let parts = ap (length {A = ℕ}) b.log ∙ length-append b.done pending in
    let long : length (take n b.labels) ≡ n = length-take-le n b.labels (omega (arith, wide, below, count, parts)) in
    ap (labels_in n) b.seat.role
    ∙ same_number_lists (take n b.labels) links.label.items long
    (λ k l. get_or-take n b.labels k 0 (omega (arith, l, long)) ∙ b.agree k)

pub resting_labels_are : (capacity words sequence : ℕ) (links : Links) (m : SeatState)
    → IsResting capacity words sequence links m → word_labels links m.0 ≡ links.label.items
resting_labels_are capacity words sequence links m r =
    word_labels_are Resting capacity words sequence links [] m (none_pending capacity words sequence links [] m refl r)

pub words_rise : (capacity words sequence : ℕ) (links : Links) (m : SeatState) → IsResting capacity words sequence links m
    → LabelsRise (λ x. slice_index (word_labels links m.0) x) 0 (2 ^ 62) (list_of_log m.0.log)
words_rise capacity words sequence links m r =
    subst (λ ls. LabelsRise (λ x. slice_index ls x) 0 (2 ^ 62) (list_of_log m.0.log))
    (sym (resting_labels_are capacity words sequence links m r)) (kept_rises links m.0.log r.kept)

-- the words have the chosen label after an insertion
pub words_are_chosen : (old between new : Links) (m m' m2 : SeatState) (x : ℕ) → IsKept old m.0.log → IsKept between m'.0.log
    → m'.0.log ≡ m.0.log → HasMadeRoom (elements old) old.label.items x between.label.items
    → new.label.items ≡ between.label.items ++ middle_after (elements between) between.label.items x ∷ []
    → word_labels old m.0 ≡ old.label.items → word_labels new m2.0 ≡ new.label.items
    → HasChosenLabel (list_of_log m.0.log) (word_labels old m.0) x (word_labels new m2.0)
words_are_chosen old between new m m' m2 x before ready log room middle old_is new_is =
    let labels : List ℕ = between.label.items in
    let list = ready.list ∙ ap list_of_log log in
    let chosen : HasChosenLabel (list_of_log m.0.log) old.label.items x new.label.items = record {
      before = labels;
      room = subst (λ xs. HasMadeRoom xs old.label.items x labels) before.list room;
      middle = middle ∙ ap (λ xs. labels ++ middle_after xs labels x ∷ []) list;
    } in
    subst (λ ls. HasChosenLabel (list_of_log m.0.log) ls x (word_labels new m2.0)) (sym old_is)
    (subst (λ ls. HasChosenLabel (list_of_log m.0.log) old.label.items x ls) (sym new_is) chosen)
