-- Seats that are split off, and seats that learn what others have seen.
use Rattle.std.proofs.Common.{◌≡◌, ◌≢◌, ℕ, List, [], set, refl, sym, ◌∙◌, subst, arith, ⊎_elim, append-nil}
use mathlib.Core.Option.{none, some}
use lib.ListN.{get_elem?}
use Rattle.atomic_table.specs.Table.{State, step, keeps, Allows, Splits, Joins}
use Rattle.atomic_table.proofs.Lists.{at_set, at_snoc}
use Rattle.om_shared.specs.SharedLists.{StartsWith}
use Rattle.om_shared.specs.declared.view.View.{View}
use Rattle.om_shared.specs.declared.view.Role.{Role}
use Rattle.om_shared.specs.declared.view.Role.TheVariants.{Writing, Asking, Spent}
use Rattle.om_shared.specs.declared.view.Stage.{Stage}
use Rattle.om_shared.specs.Rule.{IsOrdered, Knows, KnowsAs, pass_view, spent_view, view}
use Rattle.om_shared.specs.Steps.{SeatState, checked_learned}
use Rattle.om_shared.proofs.KnownSeats.{known, one_view, unmoved, with_views}

pub writing_lives : (o : Role) (stage : Stage) (sequence : ℕ) (labels : List ℕ) → o ≡ Writing stage sequence labels
    → o ≢ Spent
writing_lives o stage sequence labels e f = let h : Writing stage sequence labels ≡ Spent = sym e ∙ f in cc

pub asking_lives : (o : Role) (at : ℕ) (notes : List (ℕ × ℕ)) → o ≡ Asking at notes → o ≢ Spent
asking_lives o at notes e f = let h : Asking at notes ≡ Spent = sym e ∙ f in cc

module _ (capacity : ℕ) where
  -- what a seat has seen is a prefix of the log
  seen_prefix : (s : State ℕ View) (r : IsOrdered capacity s) (id : ℕ) (seen : List ℕ) (o : Role) → o ≢ Spent
      → KnowsAs r.now id seen o → StartsWith r.now.log seen
  seen_prefix s r id seen (Writing st sq ls) live k = ([], sym k.1 ∙ sym (append-nil seen))
  seen_prefix s r id seen (Asking at ns) live k = k.0
  seen_prefix s r id seen Spent live k = absurd (live refl)

  -- a pass may see any prefix of the log
  pass_knows : (s : State ℕ View) (r : IsOrdered capacity s) (id : ℕ) (seen : List ℕ) → StartsWith r.now.log seen
      → Knows r.now id (pass_view seen)
  pass_knows s r id seen prefix = record { learned = (r.now.log, refl); role = (prefix, omega arith, tt, λ _ _. tt) }

  -- a further pass, which has seen as much
  pub splits_pass : (id : ℕ) (v : View) → v.role ≢ Spent → Splits (IsOrdered capacity) id v v (pass_view v.log)
  splits_pass id v live s r at =
      let prefix = seen_prefix s r id v.log v.role live (r.each id v at).role in
      with_views capacity s r _ _ _ refl (λ j d e. ⊎_elim
      (λ x. one_view (Knows r.now) s.views id v (r.each id v at) (λ i y _. r.each i y) j d x)
      (λ (t : pass_view v.log ≡ d). subst (Knows r.now j) t (pass_knows s r j v.log prefix))
      (at_snoc (set s.views id v) (pass_view v.log) d j e))

  -- a seat is joined into another, which then has the view `both`
  joins : (id : ℕ) (v : View) (other : ℕ) (w both : View)
      → ((s : State ℕ View) (r : IsOrdered capacity s) → Knows r.now id v → Knows r.now other w → Knows r.now id both)
      → Joins (IsOrdered capacity) id v other w both spent_view
  joins id v other w both mine s r at apart there =
      let was : get_elem? s.views other ≡ some w =
      ⊎_elim (λ x. absurd (apart x.0)) (λ x. x.1) (at_set s.views id other both w there) in
      let left = mine s r (r.each id v at) (r.each other w was) in
      with_views capacity s r _ _ _ refl (one_view (Knows r.now) (set s.views id both) other spent_view
      record { learned = (r.now.log, refl); role = tt }
      (λ j d _. one_view (Knows r.now) s.views id both left (λ i y _. r.each i y) j d))

  -- a seat learns what another had seen
  pub learns_log : (id : ℕ) (v : View) (other : ℕ) (w : View) → w.role ≢ Spent
      → Joins (IsOrdered capacity) id v other w (view v.log w.log v.role) spent_view
  learns_log id v other w live = joins id v other w (view v.log w.log v.role)
      (λ s r mine theirs. record { learned = seen_prefix s r other w.log w.role live theirs.role; role = mine.role })

  -- a pass takes all that another seat had seen
  pub takes_in : (id : ℕ) (v : View) (other : ℕ) (w : View) → w.role ≢ Spent
      → Joins (IsOrdered capacity) id v other w (pass_view w.log) spent_view
  takes_in id v other w live = joins id v other w (pass_view w.log)
      (λ s r mine theirs. pass_knows s r id w.log (seen_prefix s r other w.log w.role live theirs.role))

  -- the log that the writer learned of is a prefix of its log
  pub checks_learned : (slots id : ℕ) (m : SeatState)
      → Allows (IsOrdered capacity) slots id m 0 (λ n. n) (checked_learned (step slots 0 0 0 none) m)
  checks_learned slots id m s r _ have _ = (
    m.0,
    keeps,
    tt,
    unmoved capacity s r 0 id m.1 m.0 (r.each id m.0 have),
    (
      refl,
      λ st sq ls is.
          let k = known capacity s r id m.0 (Writing st sq ls) is have in
          subst (λ (l : List ℕ). StartsWith l m.0.learned) (sym k.1) (r.each id m.0 have).learned,
    ),
  )
