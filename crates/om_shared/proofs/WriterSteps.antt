-- The steps of the writer keep the rule.
use Rattle.std.proofs.Common.{◌≡◌, ◌≢◌, ℕ, suc, ◌+◌, ◌-◌, ◌*◌, ◌%◌, ◌<◌, ◌≤◌, ◌^◌, List, [], ◌∷◌, ◌++◌, length, set, refl, sym, ap}
use Rattle.std.proofs.Common.{◌∙◌, subst, arith, le_refl, length-set, length-append, append_assoc, get_or-set_other}
use mathlib.Core.Option.{none}
use lib.Seq.{set-get_or}
use Rattle.atomic_table.specs.Table.{State, step, keeps, Allows}
use Rattle.pipe_model.specs.Orders.OrderList.{IsLog, list_of_log}
use Rattle.run_laws.proofs.ListOrders.InsertionLists.{entries_insert_elements, list_has_below}
use Rattle.om_relabel.proofs.RisingLabels.{rises_same}
use Rattle.om_shared.specs.declared.view.View.{View}
use Rattle.om_shared.specs.declared.view.Role.{Role}
use Rattle.om_shared.specs.declared.view.Role.TheVariants.{Writing, Asking, Spent}
use Rattle.om_shared.specs.declared.view.Stage.{Stage}
use Rattle.om_shared.specs.declared.view.Stage.TheVariants.{Resting, Moving, Settled}
use Rattle.om_shared.specs.SharedLists.{StartsWith}
use Rattle.om_shared.specs.Rule.{AreCurrent, AreOfElements, Contents, FitsStage, IsOrdered, Knows, KnowsAs, RiseAlong, label_at, view}
use Rattle.om_shared.specs.Steps.{SeatState, announced, announced_pair, at_stage, labelling, published, rested, stored}
use Rattle.om_shared.specs.Steps.{turned_to, with_entries}
use Rattle.om_shared.proofs.KnownSeats.{known, one_view, rewritten}
use Rattle.om_shared.proofs.SeenLogs.{prefix_extended}

-- the writer may store a sequence number, and is then at a stage
abbrev pub MayTurn : Stage → (capacity slots id : ℕ) → SeatState → ℕ → Type 0
MayTurn to capacity slots id m n =
    Allows (IsOrdered capacity) slots id m 0 (λ _. n) (λ _. turned_to to (step slots 0 n 0 none) m n)

-- the writer may store a label of element x
abbrev pub MayStore : (capacity slots id : ℕ) → SeatState → ℕ → ℕ → Type 0
MayStore capacity slots id m x label =
    Allows (IsOrdered capacity) slots id m (x + 1) (λ _. label) (λ _. stored (step slots (x + 1) label 0 none) m label)

-- the writer may announce an insertion after x
abbrev pub MayPublish : (capacity slots id : ℕ) → SeatState → ℕ → Type 0
MayPublish capacity slots id m x =
    Allows (IsOrdered capacity) slots id m (x + 1) (λ n. n) (published (step slots (x + 1) 0 0 none) m)

-- the writer may announce an insertion after x and one after its element, which have no labels yet
abbrev pub MayAnnouncePair : (capacity slots id : ℕ) → SeatState → ℕ → Type 0
MayAnnouncePair capacity slots id m x =
    Allows (IsOrdered capacity) slots id m (x + 1) (λ n. n) (announced_pair (step slots (x + 1) 0 0 none) m)

-- the writer may announce an insertion after x whose element has no label yet
abbrev pub MayAnnounce : (capacity slots id : ℕ) → SeatState → ℕ → Type 0
MayAnnounce capacity slots id m x =
    Allows (IsOrdered capacity) slots id m (x + 1) (λ n. n) (announced (step slots (x + 1) 0 0 none) m)

-- the element whose label is in a word
pub element_at : (x : ℕ) → (x + 1) - 1 ≡ x
element_at x = omega arith

-- a log with two more entries, of which the second is after the element of the first
pub pair_is_log : (log : List ℕ) (x : ℕ) → x ≤ length log → IsLog 1 log → IsLog 1 (log ++ x ∷ (1 + length log) ∷ [])
pair_is_log log x lx v =
    let more : length (log ++ x ∷ []) ≡ length log + 1 = length-append log (x ∷ []) in
    subst (IsLog 1) (append_assoc log (x ∷ []) ((1 + length log) ∷ []))
    ((entries_insert_elements (log ++ x ∷ []) (1 + length log)).names
    ((entries_insert_elements log x).names v (omega (arith, lx))) (omega (arith, more)))

module _ (capacity : ℕ) where
  -- what the writer knows of a stage that the rule bounds
  fits_stage : (s : State ℕ View) (r : IsOrdered capacity s) (stage : Stage) → stage ≡ r.now.stage
      → FitsStage stage r.now.sequence (length r.now.log)
  fits_stage s r stage is = subst (λ (st : Stage). FitsStage st r.now.sequence (length r.now.log)) (sym is) r.fits

  -- the writer stores another sequence number, at a stage that fits it
  turns : (slots id : ℕ) (m : SeatState) (from to : Stage) (sequence : ℕ) (labels : List ℕ)
      → m.0.role ≡ Writing from sequence labels
      → (FitsStage from sequence (length m.0.log) → FitsStage to (sequence + 1) (length m.0.log))
      → ((sequence + 1) % 2 ≡ 0 → RiseAlong labels m.0.log)
      → MayTurn to capacity slots id m (sequence + 1)
  turns slots id m from to sequence labels is fits up s r _ have _ =
      let k = known capacity s r id m.0 (Writing from sequence labels) is have in
      let old : FitsStage from sequence (length m.0.log) =
      subst (λ (x : ℕ × List ℕ). FitsStage from x.0 (length x.1)) (λ i. (sym k.3 i, sym k.1 i)) (fits_stage s r from k.2) in
      let same = k.3 in
      let v : View = view m.0.log m.0.learned (at_stage to (sequence + 1) m.0.role) in
      let now : Contents =
      record { writer = r.now.writer; log = r.now.log; stage = to; sequence = sequence + 1; labels = r.now.labels } in
      let mine : KnowsAs now id m.0.log (at_stage to (sequence + 1) m.0.role) =
      subst (λ (o : Role). KnowsAs now id m.0.log (at_stage to (sequence + 1) o)) (sym is) (k.0, k.1, refl, refl, k.4) in (
        v,
        keeps,
        tt,
        rewritten capacity s r 0 (sequence + 1) id m.1 v to (sequence + 1) r.now.labels
            (ap (λ (ws : List ℕ). set ws 0 (sequence + 1)) r.words) r.wide
            (subst (λ (l : List ℕ). FitsStage to (sequence + 1) (length l)) k.1 (fits old))
            (λ even. subst (λ (x : List ℕ × List ℕ). RiseAlong x.0 x.1) (λ i. (k.4 i, k.1 i)) (up even))
            k.0 (omega (arith, same)) record { learned = (r.each id m.0 have).learned; role = mine }
            (λ at seen ns le even here _ _ _. absurd (omega (arith, le, here, same))),
        refl,
      )

  pub starts_moving : (slots id : ℕ) (m : SeatState) (sequence : ℕ) (labels : List ℕ)
      → m.0.role ≡ Writing Resting sequence labels
      → MayTurn Moving capacity slots id m (sequence + 1)
  starts_moving slots id m sequence labels is s r l have fits =
      let k = known capacity s r id m.0 (Writing Resting sequence labels) is have in
      let f = fits_stage s r Resting k.2 in
      let even = f.0 in
      let same = k.3 in
      turns slots id m Resting Moving sequence labels is
      (λ f. (let a = f.0 in let b = f.1 in (omega (arith, a), omega (arith, b))))
      (λ e. absurd (omega (arith, e, even, same))) s r l have fits

  pub ends_moving : (slots id : ℕ) (m : SeatState) (sequence : ℕ) (labels : List ℕ)
      → m.0.role ≡ Writing Moving sequence labels
      → RiseAlong labels m.0.log
      → MayTurn Settled capacity slots id m (sequence + 1)
  ends_moving slots id m sequence labels is up =
      turns slots id m Moving Settled sequence labels is
      (λ f. (let a = f.0 in let b = f.1 in (omega (arith, a), omega (arith, b)))) (λ _. up)

  -- all elements have their labels, and the sequence number has risen less often than there are insertions
  pub settles : (slots id : ℕ) (m : SeatState) (sequence : ℕ) (labels : List ℕ)
      → m.0.role ≡ Writing Moving sequence labels
      → sequence + 1 ≤ 2 * length m.0.log → RiseAlong labels m.0.log
      → MayTurn Resting capacity slots id m (sequence + 1)
  settles slots id m sequence labels is bounded up =
      turns slots id m Moving Resting sequence labels is (λ f. (let a = f.0 in (omega (arith, a), bounded))) (λ _. up)

  -- the writer stores a label, which changes no note that counts
  stores : (slots id : ℕ) (m : SeatState) (x label : ℕ) (stage : Stage) (sequence : ℕ) (labels : List ℕ)
      → m.0.role ≡ Writing stage sequence labels
      → ((s : State ℕ View) (r : IsOrdered capacity s) → KnowsAs r.now id m.0.log (Writing stage sequence labels)
      → (r.now.sequence % 2 ≡ 0 → RiseAlong (set r.now.labels x label) r.now.log)
      × ((seen : List ℕ) (notes : List (ℕ × ℕ)) → r.now.sequence % 2 ≡ 0 → StartsWith r.now.log seen
      → AreOfElements (length seen) notes → AreCurrent r.now.labels notes
      → AreCurrent (set r.now.labels x label) notes))
      → MayStore capacity slots id m x label
  stores slots id m x label stage sequence labels is still s r _ have _ =
      let k = known capacity s r id m.0 (Writing stage sequence labels) is have in
      let v : View = view m.0.log m.0.learned (labelling x label m.0.role) in
      let labels' : List ℕ = set r.now.labels x label in
      let now : Contents =
      record { writer = r.now.writer; log = r.now.log; stage = r.now.stage; sequence = r.now.sequence; labels = labels' } in
      let back : x ≡ (x + 1) - 1 = omega arith in
      let next : x + 1 ≡ suc x = omega arith in
      let mine : KnowsAs now id m.0.log (labelling x label m.0.role) =
      subst (λ (o : Role). KnowsAs now id m.0.log (labelling x label o)) (sym is)
      (k.0, k.1, k.2, k.3, ap (λ (ls : List ℕ). set ls x label) k.4) in
      let h = still s r k in (
        v,
        keeps,
        tt,
        rewritten capacity s r (x + 1) label id m.1 v r.now.stage r.now.sequence labels' (rw (next, r.words) refl)
            (length-set r.now.labels x label ∙ r.wide) r.fits h.0 k.0 (le_refl r.now.sequence)
            record { learned = (r.each id m.0 have).learned; role = mine }
            (λ at seen ns le even here prefix named old.
            h.1 seen ns (ap (λ (z : ℕ). z % 2) (sym here) ∙ even) prefix named (old here)),
        ap (λ (y : ℕ). (view m.0.log m.0.learned (labelling y label m.0.role), m.1)) back,
      )

  -- while labels move, no note counts
  pub stores_moved : (slots id : ℕ) (m : SeatState) (x label sequence : ℕ) (labels : List ℕ)
      → m.0.role ≡ Writing Moving sequence labels
      → MayStore capacity slots id m x label
  stores_moved slots id m x label sequence labels is = stores slots id m x label Moving sequence labels is
      (λ s r k.
      let odd = (fits_stage s r Moving k.2).0 in (
        (λ even. absurd (omega (arith, even, odd))),
        (λ seen ns even _ _ _. absurd (omega (arith, even, odd))),
      ))

  still_current : (labels : List ℕ) (e label count : ℕ) (notes : List (ℕ × ℕ)) → count < e → AreOfElements count notes
      → AreCurrent labels notes → AreCurrent (set labels e label) notes
  still_current labels e label count [] lt named k = tt
  still_current labels e label count (n ∷ ns) lt named k = (
    k.0 ∙ sym (get_or-set_other labels e n.0 label 0 (λ x. let q = named.0 in absurd (omega (arith, x, q, lt)))),
    still_current labels e label count ns lt named.1 k.1,
  )

  -- the label of an element that is in no log yet
  pub stores_new : (slots id : ℕ) (m : SeatState) (e label : ℕ) (stage : Stage) (sequence : ℕ) (labels : List ℕ)
      → m.0.role ≡ Writing stage sequence labels → length m.0.log < e
      → MayStore capacity slots id m e label
  stores_new slots id m e label stage sequence labels is new = stores slots id m e label stage sequence labels is
      (λ s r k.
      let long = ap (λ (x : List ℕ). length x) k.1 in
      let h = list_has_below r.now.log r.valid in (
        (λ even. rises_same (label_at r.now.labels) (label_at (set r.now.labels e label)) 0 (2 ^ 62) (list_of_log r.now.log)
            (λ y inside.
            let q = h.only y inside in
            get_or-set_other r.now.labels e y label 0 (λ x. absurd (omega (arith, x, q, long, new)))) (r.rises even)),
        (λ seen ns _ prefix named current.
            let p = ap (λ (x : List ℕ). length x) prefix.1 in
            let q = length-append seen prefix.0 in
            still_current r.now.labels e label (length seen) ns (omega (arith, p, q, long, new)) named current),
      ))

  even_fits : (stage : Stage) (sequence count : ℕ) → sequence % 2 ≡ 0 → FitsStage stage sequence count
      → sequence ≤ 2 * count + 2
  even_fits Resting sequence count even f = let a = f.1 in omega (arith, a)
  even_fits Moving sequence count even f = let a = f.0 in absurd (omega (arith, a, even))
  even_fits Settled sequence count even f = f.1

  -- after this step the new entries are in the log, and the writer's role is another
  enters : (slots id : ℕ) (m : SeatState) (x n sequence : ℕ) (news : ℕ → List ℕ) (labels : List ℕ) (from to : Stage) (role : Role)
      → m.0.role ≡ Writing from sequence labels → role ≡ Writing to sequence labels
      → length (news x) ≡ n → (IsLog 1 m.0.log → IsLog 1 (m.0.log ++ news x)) → length m.0.log + n < capacity
      → (FitsStage from sequence (length m.0.log) → FitsStage to sequence (length m.0.log + n))
      → (sequence % 2 ≡ 0 → RiseAlong labels (m.0.log ++ news x))
      → Allows (IsOrdered capacity) slots id m (x + 1) (λ k. k) (λ _ m'. m' ≡ (with_entries (news ((x + 1) - 1)) role m.0, m.1))
  enters slots id m x n sequence news labels from to role is becomes_role many valid small fits up s r _ have _ =
      let k = known capacity s r id m.0 (Writing from sequence labels) is have in
      let long = ap (λ (l : List ℕ). length l) k.1 in
      let log' : List ℕ = r.now.log ++ news x in
      let more = length-append r.now.log (news x) in
      let back : x ≡ (x + 1) - 1 = omega arith in
      let longer : length m.0.log + n ≡ length log' = omega (arith, more, long, many) in
      let old : FitsStage from sequence (length m.0.log) =
      subst (λ (x : ℕ × List ℕ). FitsStage from x.0 (length x.1)) (λ i. (sym k.3 i, sym k.1 i)) (fits_stage s r from k.2) in
      let now : Contents =
      record { writer = r.now.writer; log = log'; stage = to; sequence = r.now.sequence; labels = r.now.labels } in
      let log_is : m.0.log ++ news x ≡ log' = ap (λ (l : List ℕ). l ++ news x) k.1 in
      let knows : KnowsAs now id (m.0.log ++ news x) role =
      subst (λ (o : Role). KnowsAs now id (m.0.log ++ news x) o) (sym becomes_role) (k.0, log_is, refl, k.3, k.4) in
      let learned = prefix_extended r.now.log m.0.learned (news x) (r.each id m.0 have).learned in
      let mine : Knows now id (with_entries (news x) role m.0) = record { learned = learned; role = knows } in (
        with_entries (news x) role m.0,
        keeps,
        tt,
        record {
          now = now;
          words = set-get_or s.words (x + 1) 0 ∙ r.words;
          wide = r.wide;
          room = omega (arith, more, long, small, many);
          valid = subst (λ (l : List ℕ). IsLog 1 (l ++ news x)) k.1 (valid (subst (IsLog 1) (sym k.1) r.valid));
          fits = subst (λ (k : ℕ × ℕ). FitsStage to k.0 k.1) (λ i. (k.3 i, longer i)) (fits old);
          rises = λ even. subst (λ (y : List ℕ × List ℕ). RiseAlong y.0 y.1) (λ i. (k.4 i, log_is i))
              (up (ap (λ (n : ℕ). n % 2) k.3 ∙ even));
          each = one_view (Knows now) s.views id (with_entries (news x) role m.0) mine
              (λ j d other at. others s r (news x) id k.0 j d other (r.each j d at));
        },
        ap (λ (y : ℕ). (with_entries (news y) role m.0, m.1)) back,
      )
    where
      with_log : {s : State ℕ View} (r : IsOrdered capacity s) (xs : List ℕ) → Contents
      with_log {s} r xs =
          let log = r.now.log ++ xs in
          record { writer = r.now.writer; log = log; stage = to; sequence = r.now.sequence; labels = r.now.labels }

      in_role : (s : State ℕ View) (r : IsOrdered capacity s) (xs : List ℕ) (id : ℕ) → id ≡ r.now.writer
          → (j : ℕ) (seen : List ℕ) (o : Role)
          → j ≢ id → KnowsAs r.now j seen o → KnowsAs (with_log r xs) j seen o
      in_role s r xs id own j seen (Writing st sq ls) other k = absurd (other (k.0 ∙ sym own))
      in_role s r xs id own j seen Spent other k = tt
      in_role s r xs id own j seen (Asking at ns) other k = (prefix_extended r.now.log seen xs k.0, k.1, k.2, k.3)

      others : (s : State ℕ View) (r : IsOrdered capacity s) (xs : List ℕ) (id : ℕ) → id ≡ r.now.writer → (j : ℕ) (d : View)
          → j ≢ id
          → Knows r.now j d → Knows (with_log r xs) j d
      others s r xs id own j d other k = record {
        learned = prefix_extended r.now.log d.learned xs k.learned;
        role = in_role s r xs id own j d.log d.role other k.role;
      }

  -- a log with one more entry
  one_more : (log : List ℕ) (x : ℕ) → x ≤ length log → IsLog 1 log → IsLog 1 (log ++ x ∷ [])
  one_more log x lx v = (entries_insert_elements log x).names v (omega (arith, lx))

  -- the element has its label, and the writer rests
  pub publishes : (slots id : ℕ) (m : SeatState) (x sequence : ℕ) (labels : List ℕ) (stage : Stage)
      → m.0.role ≡ Writing stage sequence labels
      → sequence % 2 ≡ 0 → x ≤ length m.0.log → length m.0.log + 1 < capacity
      → RiseAlong labels (m.0.log ++ x ∷ [])
      → MayPublish capacity slots id m x
  publishes slots id m x sequence labels stage is even lx small up =
      enters slots id m x 1 sequence (λ y. y ∷ []) labels stage Resting (rested m.0.role) is (ap rested is) refl
      (one_more m.0.log x lx) small
      (λ f. (let a = even_fits stage sequence (length m.0.log) even f in (even, omega (arith, a)))) (λ _. up)

  -- the element has no label yet, and labels move
  pub announces : (slots id : ℕ) (m : SeatState) (x sequence : ℕ) (labels : List ℕ)
      → m.0.role ≡ Writing Moving sequence labels
      → sequence % 2 ≡ 1 → x ≤ length m.0.log → length m.0.log + 1 < capacity
      → MayAnnounce capacity slots id m x
  announces slots id m x sequence labels is odd lx small =
      enters slots id m x 1 sequence (λ y. y ∷ []) labels Moving Moving m.0.role is is refl (one_more m.0.log x lx) small
      (λ f. (let a = f.0 in let b = f.1 in (omega (arith, a), omega (arith, b))))
      (λ even. absurd (omega (arith, odd, even)))

  -- the same of two elements, of which the second is after the first
  pub announces_pair : (slots id : ℕ) (m : SeatState) (x sequence : ℕ) (labels : List ℕ)
      → m.0.role ≡ Writing Moving sequence labels
      → sequence % 2 ≡ 1 → x ≤ length m.0.log → length m.0.log + 2 < capacity
      → MayAnnouncePair capacity slots id m x
  announces_pair slots id m x sequence labels is odd lx small =
      enters slots id m x 2 sequence (λ y. y ∷ (1 + length m.0.log) ∷ []) labels Moving Moving m.0.role is is refl
      (pair_is_log m.0.log x lx) small
      (λ f. (let a = f.0 in let b = f.1 in (omega (arith, a), omega (arith, b))))
      (λ even. absurd (omega (arith, odd, even)))

-- ---- the seat of the writer

-- the seat after a label was stored
pub after_storing : (m m' : SeatState) (stage : Stage) (e label sequence : ℕ) (labels : List ℕ)
    → m' ≡ (view m.0.log m.0.learned (labelling ((e + 1) - 1) label m.0.role), m.1)
    → m.0.role ≡ Writing stage sequence labels
    → m' ≡ (view m.0.log m.0.learned (Writing stage sequence (set labels e label)), m.1)
after_storing m m' stage e label sequence labels is role =
    let back : (e + 1) - 1 ≡ e = omega arith in
    is ∙ (ap (λ (k : ℕ). (view m.0.log m.0.learned (labelling k label m.0.role), m.1)) back
    ∙ ap (λ (o : Role). (view m.0.log m.0.learned (labelling e label o), m.1)) role)

-- the insertion may be published, by the seat after the label was stored
pub publishes_after : (capacity slots id : ℕ) (m m' : SeatState) (x sequence : ℕ) (labels : List ℕ) (stage : Stage)
    → m' ≡ (view m.0.log m.0.learned (Writing stage sequence labels), m.1) → sequence % 2 ≡ 0
    → x ≤ length m.0.log → length m.0.log + 1 < capacity
    → RiseAlong labels (m.0.log ++ x ∷ [])
    → MayPublish capacity slots id m' x
publishes_after capacity slots id m m' x sequence labels stage e even lx small up =
    subst (λ (k : SeatState). MayPublish capacity slots id k x) (sym e)
    (publishes capacity slots id (view m.0.log m.0.learned (Writing stage sequence labels), m.1) x sequence labels stage refl even
    lx small up)

-- labels have moved, by the sequence number at which they began to
pub ends_moving_at : (capacity slots id : ℕ) (m : SeatState) (sequence from : ℕ) (labels : List ℕ) → from ≡ sequence + 1
    → m.0.role ≡ Writing Moving from labels → RiseAlong labels m.0.log
    → MayTurn Settled capacity slots id m (sequence + 2)
ends_moving_at capacity slots id m sequence from labels e role up =
    let two : from + 1 ≡ sequence + 2 = omega (arith, e) in
    subst (λ (n : ℕ). MayTurn Settled capacity slots id m n) two (ends_moving capacity slots id m from labels role up)
