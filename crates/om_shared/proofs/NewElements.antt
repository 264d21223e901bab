-- A new element, by the labels that the writer has stored.
use Rattle.std.proofs.Common.{◌≡◌, ◌≢◌, ℕ, zero, suc, ◌+◌, ◌*◌, ◌%◌, ◌^◌, ◌<◌, ◌≤◌, List, [], ◌∷◌, ◌++◌, length, get_or, slice_index}
use Rattle.std.proofs.Common.{slice_set, refl, sym, ap, ◌∙◌, subst, arith, inl, inr}
use Rattle.std.proofs.lemmas.Bool.{cases_eq}
use Rattle.std.proofs.lemmas.List.{get_or_push, get_or-set_other, get_or-set_same, length_push}
use Rattle.pipe_model.specs.Orders.OrderList.{list_of_log}
use Rattle.om_relabel.specs.declared.links.Links.{Links}
use Rattle.om_relabel.specs.LabelledLinks.{label_of}
use Rattle.om_relabel.proofs.RisingLabels.{rises_same}
use Rattle.om_list.specs.KeptLists.{IsKept}
use Rattle.om_list.proofs.Insertions.{kept_rises}
use Rattle.om_shared.specs.declared.view.Role.TheVariants.{Writing}
use Rattle.om_shared.specs.declared.view.Stage.{Stage}
use Rattle.om_shared.specs.declared.view.Stage.TheVariants.{Resting}
use Rattle.om_shared.specs.Rule.{RiseAlong, label_at, view}
use Rattle.om_shared.specs.Seats.{AreLabelsOf, IsResting}
use Rattle.om_shared.specs.Steps.{SeatState, with_insertion}

push_other : (labels : List ℕ) (l x : ℕ) → x ≢ length labels → get_or (labels ++ l ∷ []) x 0 ≡ get_or labels x 0
push_other [] l zero n = absurd (n refl)
push_other [] l (suc x) n = refl
push_other (y ∷ ys) l zero n = refl
push_other (y ∷ ys) l (suc x) n = push_other ys l x (λ e. n (ap suc e))

-- the words with the label of the new element
agree_pushed : (words labels : List ℕ) (label : ℕ) → length labels < length words
    → ((x : ℕ) → slice_index words x ≡ slice_index labels x)
    → (x : ℕ) → slice_index (slice_set words (length labels) label) x ≡ slice_index (labels ++ label ∷ []) x
agree_pushed words labels label small agree x = elim (cases_eq x (length labels)) [
  | inl here ↦ rw here
      (get_or-set_same words (length labels) label 0 small ∙ sym (get_or_push labels label 0 (length labels) refl))
  | inr apart ↦ get_or-set_other words (length labels) x label 0 apart ∙ (agree x ∙ sym (push_other labels label x apart))
]

pub agree_stored : (words labels new : List ℕ) (e label : ℕ) → e ≡ length labels → length labels < length words
    → new ≡ labels ++ label ∷ []
    → ((x : ℕ) → slice_index words x ≡ slice_index labels x) → (x : ℕ)
    → slice_index (slice_set words e label) x ≡ slice_index new x
agree_stored words labels new e label at small is agree x = rw (at, is) (agree_pushed words labels label small agree x)

-- the stored labels rise
pub stored_rises : (new : Links) (log : List ℕ) (labels : List ℕ) → IsKept new log → AreLabelsOf labels new
    → RiseAlong labels log
stored_rises new log labels kept agree =
    rises_same (label_of new) (label_at labels) 0 (2 ^ 62) (list_of_log log) (λ y m. agree y) (kept_rises new log kept)

-- the writer rests again
pub rests : (capacity words sequence : ℕ) (new : Links) (labels : List ℕ) (stage : Stage) (x : ℕ) (m m' m2 : SeatState)
    → words ≡ capacity + 1 → length labels ≡ capacity → m.1 ≡ []
    → m' ≡ (view m.0.log m.0.learned (Writing stage sequence labels), m.1)
    → m2 ≡ (with_insertion x m'.0, m'.1) → IsKept new (m.0.log ++ x ∷ []) → AreLabelsOf labels new
    → length m.0.log + 1 < capacity
    → sequence % 2 ≡ 0 → sequence ≤ 2 * length m.0.log + 2 → IsResting capacity words sequence new m2
rests capacity words sequence new labels stage x m m' m2 words_are wide empty e1 e2 kept agree below even bounded =
    let e : m2 ≡ (view (m.0.log ++ x ∷ []) m.0.learned (Writing Resting sequence labels), m.1) =
    e2 ∙ ap (λ (n : SeatState). (with_insertion x n.0, n.1)) e1 in
    let log : m2.0.log ≡ m.0.log ++ x ∷ [] = ap (λ (n : SeatState). n.0.log) e in
    let long = ap (length {A = ℕ}) log ∙ length_push m.0.log x in
    record {
      labels = labels;
      seat = record {
        words_are = words_are;
        role = ap (λ (n : SeatState). n.0.role) e;
        wide = wide;
        empty = ap (λ (n : SeatState). n.1) e ∙ empty;
      };
      agree = agree;
      kept = subst (IsKept new) (sym log) kept;
      below = omega (arith, below, long);
      even = even;
      bounded = omega (arith, bounded, long);
    }
