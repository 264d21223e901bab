-- What seats know, if the table changes.
use Rattle.std.proofs.Common.{◌≡◌, ◌≢◌, ℕ, ◌%◌, ◌≤◌, List, ◌∷◌, length, get_or, set, sym, ap, ◌∙◌, subst, arith, ⊎_elim}
use mathlib.Core.Option.{Option, some}
use lib.ListN.{get_elem?}
use lib.Seq.{set-get_or}
use Rattle.atomic_table.specs.Table.{State, keeps, stepped}
use Rattle.atomic_table.proofs.Lists.{at_set}
use Rattle.om_shared.specs.SharedLists.{StartsWith}
use Rattle.om_shared.specs.declared.view.View.{View}
use Rattle.om_shared.specs.declared.view.Role.{Role}
use Rattle.om_shared.specs.declared.view.Role.TheVariants.{Writing, Asking, Spent}
use Rattle.om_shared.specs.declared.view.Stage.{Stage}
use Rattle.om_shared.specs.Rule.{AreCurrent, AreOfElements, Contents, FitsStage, IsOrdered, Knows, KnowsAs, RiseAlong}

-- one seat has another view
pub one_view : (K : ℕ → View → Type 0) (views : List View) (id : ℕ) (v : View) → K id v
    → ((j : ℕ) (d : View) → j ≢ id → get_elem? views j ≡ some d → K j d)
    → (j : ℕ) (d : View) → get_elem? (set views id v) j ≡ some d → K j d
one_view K views id v mine others j d e =
    ⊎_elim (λ (t : (j ≡ id) × (v ≡ d)). subst (λ (x : ℕ × View). K x.0 x.1) (λ i. (sym t.0 i, t.1 i)) mine)
    (λ (t : (j ≢ id) × (get_elem? views j ≡ some d)). others j d t.0 t.1) (at_set views id j v d e)

module _ (capacity : ℕ) (s : State ℕ View) (r : IsOrdered capacity s) where
  -- what a seat knows, by its role
  pub known : (id : ℕ) (v : View) (o : Role) → v.role ≡ o → get_elem? s.views id ≡ some v → KnowsAs r.now id v.log o
  known id v o is at = subst (λ (x : Role). KnowsAs r.now id v.log x) is (r.each id v at).role

  -- other views of the same words
  pub with_views : (words : List ℕ) (homes : List (Option ℕ)) (views : List View) → words ≡ s.words
      → ((j : ℕ) (v : View) → get_elem? views j ≡ some v → Knows r.now j v)
      → IsOrdered capacity record { words = words; homes = homes; views = views }
  with_views words homes views same each = record {
    now = r.now;
    words = same ∙ r.words;
    wide = r.wide;
    room = r.room;
    valid = r.valid;
    fits = r.fits;
    rises = r.rises;
    each = each;
  }

  -- a step that changes no word
  pub unmoved : (i id : ℕ) (taken : List (ℕ × ℕ)) (v : View) → Knows r.now id v
      → IsOrdered capacity (stepped s i (get_or s.words i 0) id taken v keeps)
  unmoved i id taken v mine =
      with_views _ _ _ (set-get_or s.words i 0) (one_view (Knows r.now) s.views id v mine (λ j d _. r.each j d))

  pub sequence_is : get_or s.words 0 0 ≡ r.now.sequence
  sequence_is = ap (λ (ws : List ℕ). get_or ws 0 0) r.words

  -- a step of the writer that changes no log: notes that may still count stay right
  pub rewritten : (i n id : ℕ) (taken : List (ℕ × ℕ)) (v : View) (stage : Stage) (sequence : ℕ) (labels : List ℕ)
      → set s.words i n ≡ sequence ∷ labels → length labels ≡ capacity
      → FitsStage stage sequence (length r.now.log)
      → (sequence % 2 ≡ 0 → RiseAlong labels r.now.log) → id ≡ r.now.writer
      → r.now.sequence ≤ sequence
      → Knows record { writer = r.now.writer; log = r.now.log; stage = stage; sequence = sequence; labels = labels } id v
      → ((at : ℕ) (seen : List ℕ) (notes : List (ℕ × ℕ)) → at ≤ r.now.sequence → at % 2 ≡ 0 → at ≡ sequence
      → StartsWith r.now.log seen → AreOfElements (length seen) notes
      → (at ≡ r.now.sequence → AreCurrent r.now.labels notes) → AreCurrent labels notes)
      → IsOrdered capacity (stepped s i n id taken v keeps)
  rewritten i n id taken v stage sequence labels words wide fits rises own more mine notes = record {
    now = now;
    words = words;
    wide = wide;
    room = r.room;
    valid = r.valid;
    fits = fits;
    rises = rises;
    each = one_view (Knows now) s.views id v mine
        (λ j d other at. record { learned = (r.each j d at).learned; role = others j d.log d.role other (r.each j d at).role });
  }
    where
      now : Contents
      now = record { writer = r.now.writer; log = r.now.log; stage = stage; sequence = sequence; labels = labels }

      others : (j : ℕ) (seen : List ℕ) (o : Role) → j ≢ id → KnowsAs r.now j seen o → KnowsAs now j seen o
      others j seen (Writing st sq ls) other k = absurd (other (k.0 ∙ sym own))
      others j seen Spent other k = tt
      others j seen (Asking at ns) other k =
          let a = k.1 in
          (k.0, omega (arith, a, more), k.2, λ even here. notes at seen ns k.1 even here k.0 k.2 (λ e. k.3 even e))
