-- An insertion: links, labels and log with the new element.
use Rattle.std.proofs.Common.{◌≡◌, ◌≢◌, ℕ, ◌+◌, ◌^◌, ◌<◌, ◌≤◌, ◌↔◌, List, [], ◌∷◌, ◌++◌, length, slice_index, slice_set, true, IsTrue, ltb}
use Rattle.std.proofs.Common.{refl, sym, ap, ◌∙◌, subst, arith, eq-eqb, ne_eqb, inl, inr, length-set}
use Rattle.std.proofs.lemmas.Bool.{cases_eq, lt-ltb, ltb-true}
use Rattle.std.proofs.lemmas.List.{get_or_append_left, get_or_push, get_or-set_other, get_or-set_same, length_push}
use Rattle.pipe_model.specs.Orders.OrderList.{has, insert_after, list_of_log, IsBeforeIn}
use Rattle.run_laws.proofs.ListOrders.InsertionLists.{HasBelow, entries_insert_elements, has_below-insert_after}
use Rattle.om_relabel.specs.declared.links.Links.{Links}
use Rattle.om_relabel.specs.declared.links.TheConstants.{END, MOST_ELEMENTS, TOP}
use Rattle.om_relabel.specs.LabelledLinks.{AreLabelled, elements, label_of}
use Rattle.om_relabel.specs.Labels.{LabelsRise}
use Rattle.om_relabel.specs.Links.{AreLinked, AreLinkedBack, chain, first_of, followed, label_after, label_or}
use Rattle.om_relabel.proofs.RisingLabels.{before_by_label, rises_same}
use Rattle.om_relabel.proofs.Walks.{length_followed}
use Rattle.om_list.specs.KeptLists.{IsKept, links_back, links_with}
use Rattle.om_list.proofs.LinkedLists.{BackAfter, LinksAfter, back_inserted, first_inserted, followed_is, length_inserted, link_within}
use Rattle.om_list.proofs.LinkedLists.{linked_inserted, rises_inserted}

links_changed : (next : List ℕ) (x : ℕ) → x < length next
    → LinksAfter (λ y. slice_index next y) (λ y. slice_index (links_with next x) y) x (length next)
links_changed next x l =
    let long = length-set next x (length next) in
    record {
      here = get_or_append_left (slice_set next x (length next)) (slice_index next x ∷ []) 0 x (omega (arith, l, long))
          ∙ get_or-set_same next x (length next) 0 l;
      new = get_or_push (slice_set next x (length next)) (slice_index next x) 0 (length next) long;
      other = λ y below apart. get_or_append_left (slice_set next x (length next)) (slice_index next x ∷ []) 0 y
          (omega (arith, below, long))
          ∙ get_or-set_other next x y (length next) 0 apart;
    }

back_changed : (prev : List ℕ) (x after : ℕ) → (after ≢ END → after < length prev)
    → BackAfter (λ y. slice_index prev y) (λ y. slice_index (links_back prev x after) y) x (length prev) after
back_changed prev x after there = elim (cases_eq after END) [
  | inl end ↦ rw (eq-eqb after END end) record {
    new = get_or_push prev x 0 (length prev) refl;
    next = λ apart. absurd (apart end);
    other = λ y below apart. get_or_append_left prev (x ∷ []) 0 y below;
  }
  | inr apart ↦ (
      let long = length-set prev after (length prev) in
      let inside = there apart in
      rw (ne_eqb after END apart) record {
        new = get_or_push (slice_set prev after (length prev)) x 0 (length prev) long;
        next = λ _. get_or_append_left (slice_set prev after (length prev)) (x ∷ []) 0 after (omega (arith, inside, long))
            ∙ get_or-set_same prev after (length prev) 0 inside;
        other = λ y below other. get_or_append_left (slice_set prev after (length prev)) (x ∷ []) 0 y (omega (arith, below, long))
            ∙ get_or-set_other prev after y (length prev) 0 other;
      })
]

back_long : (prev : List ℕ) (x after : ℕ) → length (links_back prev x after) ≡ length prev + 1
back_long prev x after = elim (cases_eq after END) [
  | inl end ↦ rw (eq-eqb after END end) (length_push prev x)
  | inr apart ↦ rw (ne_eqb after END apart)
      (length_push (slice_set prev after (length prev)) x ∙ ap (λ n. n + 1) (length-set prev after (length prev)))
]

chain_starts : (next : List ℕ) → 0 < length next → first_of (chain next) ≡ 0
chain_starts [] l = absurd (omega (arith, l))
chain_starts (u ∷ next) l = refl

-- a link that is not END is below the number of elements
pub link_below : (links : Links) → AreLabelled links → (x : ℕ) → x < length links.label.items
    → slice_index links.next.items x ≢ END → slice_index links.next.items x < length links.label.items
link_below links h x l apart = elim (link_within (λ y. slice_index links.next.items y) (elements links) x h.linked (h.each x l)) [
  | inl end ↦ absurd (apart end)
  | inr there ↦ h.only (slice_index links.next.items x) there
]

-- a new label changes no other
label_after_same : (links : Links) → AreLabelled links → (x label : ℕ) → x < length links.label.items
    → label_or (λ y. slice_index (links.label.items ++ label ∷ []) y) TOP (slice_index links.next.items x)
    ≡ label_after links.label.items (slice_index links.next.items x)
label_after_same links h x label l =
    let u : ℕ = slice_index links.next.items x in
    elim (cases_eq u END) [
      | inl end ↦ rw (eq-eqb u END end) refl
      | inr apart ↦ rw (ne_eqb u END apart) (get_or_append_left links.label.items (label ∷ []) 0 u (link_below links h x l apart))
    ]

-- the lists of a labelled list with a new element after x
pub record IsInserted (old new : Links) (x label : ℕ) : Type 0 where
  pub next : new.next.items ≡ links_with old.next.items x
  pub prev : new.prev.items ≡ links_back old.prev.items x (slice_index old.next.items x)
  pub labels : new.label.items ≡ old.label.items ++ label ∷ []

inserted_list : (links : Links) → AreLabelled links → (x : ℕ) → x < length links.label.items
    → chain (links_with links.next.items x) ≡ insert_after x (length links.label.items) (elements links)
inserted_list links h x l =
    let next : List ℕ = links.next.items in
    let same = h.same in
    let e : ℕ = length links.label.items in
    let changed = subst (λ n. LinksAfter (λ y. slice_index next y) (λ y. slice_index (links_with next x) y) x n) same
    (links_changed next x (omega (arith, l, same))) in
    let linked : AreLinked (λ y. slice_index (links_with next x) y) (insert_after x e (elements links)) =
    linked_inserted (λ y. slice_index next y) (λ y. slice_index (links_with next x) y)
    (label_of links) 0 TOP (elements links) x e h.rises h.only changed h.linked in
    let links_long : length (links_with next x) ≡ length next + 1 =
    length_push (slice_set next x (length next)) (slice_index next x)
    ∙ ap (λ n. n + 1) (length-set next x (length next)) in
    let inserted_long : length (insert_after x e (elements links)) ≡ length next + 1 =
    length_inserted x e (elements links) (h.each x l) ∙ ap (λ n. n + 1) (length_followed (λ y. slice_index next y) 0 (length next)) in
    let starts : first_of (insert_after x e (elements links)) ≡ 0 =
    first_inserted x e (elements links) ∙ chain_starts next (omega (arith, l, same)) in
    ap (λ y. followed (λ z. slice_index (links_with next x) z) y (length (links_with next x))) (sym starts)
    ∙ followed_is (λ y. slice_index (links_with next x) y) (insert_after x e (elements links)) (length (links_with next x))
    (links_long ∙ sym inserted_long) linked

pub list_inserted : (old new : Links) → AreLabelled old → (x label : ℕ) → IsInserted old new x label → x < length old.label.items
    → elements new ≡ insert_after x (length old.label.items) (elements old)
list_inserted old new h x label i l = ap chain i.next ∙ inserted_list old h x l

-- links and labels with a new element after x
pub labelled_inserted : (old new : Links) → AreLabelled old → (x label : ℕ) → IsInserted old new x label → x < length old.label.items
    → label_of old x < label → label < label_after old.label.items (slice_index old.next.items x)
    → length old.label.items < MOST_ELEMENTS → AreLabelled new
labelled_inserted old new h x label i l above below bounded =
    let next : List ℕ = old.next.items in
    let prev : List ℕ = old.prev.items in
    let labels : List ℕ = old.label.items in
    let e : ℕ = length labels in
    let list = list_inserted old new h x label i l in
    let same = h.same in
    let same_back = h.same_back in
    let long : length new.label.items ≡ e + 1 = ap (length {A = ℕ}) i.labels ∙ length_push labels label in
    let next_long : length new.next.items ≡ length next + 1 =
    ap (length {A = ℕ}) i.next ∙ (length_push (slice_set next x (length next)) (slice_index next x)
    ∙ ap (λ n. n + 1) (length-set next x (length next))) in
    let prev_long : length new.prev.items ≡ length prev + 1 = ap (length {A = ℕ}) i.prev ∙ back_long prev x (slice_index next x) in
    let now : ℕ → ℕ = λ y. slice_index (labels ++ label ∷ []) y in
    let new_is : now e ≡ label = get_or_push labels label 0 e refl in
    let old_is : (y : ℕ) → y < e → now y ≡ slice_index labels y = λ y w. get_or_append_left labels (label ∷ []) 0 y w in
    let all : HasBelow (e + 1) (insert_after x e (elements old)) =
    has_below-insert_after e (elements old) x l record { each = h.each; only = h.only } in
    let rises_now : LabelsRise now 0 TOP (elements old) =
    rises_same (label_of old) now 0 TOP (elements old) (λ y m. old_is y (h.only y m)) h.rises in
    let after_is : label_or now TOP (slice_index next x) ≡ label_after labels (slice_index next x) = label_after_same old h x label l in
    let x_is = old_is x l in
    let no_end : (y : ℕ) → has y (elements old) ≡ true → y ≢ END = λ y m q. let w = h.only y m in omega (arith, q, w, bounded) in
    let changed = subst (λ n. LinksAfter (λ y. slice_index next y) (λ y. slice_index (links_with next x) y) x n) same
    (links_changed next x (omega (arith, l, same))) in
    let back = subst (λ n. BackAfter (λ y. slice_index prev y) (λ y. slice_index (links_back prev x (slice_index next x)) y) x n
    (slice_index next x)) same_back
    (back_changed prev x (slice_index next x) (λ apart. let w = link_below old h x l apart in omega (arith, w, same_back))) in
    record {
      same = omega (arith, next_long, same, long);
      same_back = omega (arith, prev_long, same_back, long);
      some = omega (arith, long);
      bounded = omega (arith, long, bounded);
      each = λ y w. subst (λ xs. has y xs ≡ true) (sym list) (all.each y (omega (arith, w, long)));
      only = λ y m. (let w = all.only y (subst (λ xs. has y xs ≡ true) list m) in omega (arith, w, long));
      linked = subst (AreLinked (λ y. slice_index new.next.items y)) (sym list)
          (subst (λ ns. AreLinked (λ y. slice_index ns y) (insert_after x e (elements old))) (sym i.next)
          (linked_inserted (λ y. slice_index next y) (λ y. slice_index (links_with next x) y)
          (label_of old) 0 TOP (elements old) x e h.rises h.only changed h.linked));
      back = subst (AreLinkedBack (λ y. slice_index new.prev.items y) END) (sym list)
          (subst (λ ps. AreLinkedBack (λ y. slice_index ps y) END (insert_after x e (elements old))) (sym i.prev)
          (back_inserted (λ y. slice_index next y) (λ y. slice_index prev y) (λ y. slice_index (links_back prev x (slice_index next x)) y)
          (label_of old) 0 TOP END (elements old) x e h.rises (λ y m. (h.only y m, no_end y m)) h.linked (h.each x l) back h.back));
      rises = subst (LabelsRise (label_of new) 0 TOP) (sym list)
          (subst (λ ls. LabelsRise (λ y. slice_index ls y) 0 TOP (insert_after x e (elements old))) (sym i.labels)
          (rises_inserted (λ y. slice_index next y) now 0 TOP (elements old) x e no_end rises_now h.linked
          (omega (arith, x_is, new_is, above)) (omega (arith, new_is, after_is, below))));
    }

-- an insertion keeps links, labels and log
pub kept_inserted : (old new : Links) (log : List ℕ) → IsKept old log → (x : ℕ) → x ≤ length log → AreLabelled new
    → elements new ≡ insert_after x (length old.label.items) (elements old) → length new.label.items ≡ length old.label.items + 1
    → IsKept new (log ++ x ∷ [])
kept_inserted old new log k x l labelled list long =
    let count = k.count in
    let entries = entries_insert_elements log x in
    let number : length old.label.items ≡ 1 + length log = omega (arith, count) in
    record {
      valid = entries.names k.valid (omega (arith, l));
      count = (let long_log = length_push log x in omega (arith, long_log, count, long));
      list = list ∙ (ap (insert_after x (length old.label.items)) k.list
          ∙ (ap (λ n. insert_after x n (list_of_log log)) number ∙ sym entries.list));
      labelled = labelled;
    }

-- two elements are in the order of their labels
pub before_is : (links : Links) (log : List ℕ) → IsKept links log → (x y a b : ℕ) → x ≤ length log → y ≤ length log
    → a ≡ label_of links x → b ≡ label_of links y → IsTrue (ltb a b) ↔ IsBeforeIn (list_of_log log) x y
before_is links log k x y a b lx ly ea eb =
    let count = k.count in
    let there : (z : ℕ) → z ≤ length log → has z (list_of_log log) ≡ true = λ z l.
    subst (λ xs. has z xs ≡ true) k.list (k.labelled.each z (omega (arith, l, count))) in
    let p = before_by_label (label_of links) 0 TOP (list_of_log log) x y
    (subst (LabelsRise (label_of links) 0 TOP) k.list k.labelled.rises) (there x lx) (there y ly) in (
      (λ t. let l = ltb-true a b t in p.1 (omega (arith, l, ea, eb))),
      (λ s. let l = p.0 s in lt-ltb a b (omega (arith, l, ea, eb))),
    )

-- the labels rise along the list of the log
pub kept_rises : (links : Links) (log : List ℕ) → IsKept links log → LabelsRise (label_of links) 0 (2 ^ 62) (list_of_log log)
kept_rises links log k = subst (LabelsRise (label_of links) 0 (2 ^ 62)) k.list k.labelled.rises
