-- Fronts are added one at a time, or taken away again: each step changes the ends of one worker.
use Rattle.std.proofs.Common.{◌≡◌, ◌∙◌, ◌<◌, ◌+◌, ◌++◌, ◌∷◌, [], ℕ, List, All, inl, inr, get_or, length, map, set, take, refl, sym, ap}
use Rattle.std.proofs.Common.{subst, arith}
use Rattle.std.proofs.Math.Seq.{map-set_same}
use Rattle.std.proofs.lemmas.Bool.{cases_eq}
use Rattle.std.proofs.lemmas.Grind.{get_or-set_at}
use Rattle.std.proofs.lemmas.List.{get_or-map, get_or-set_other, length-map, length-set, map-append, nil_from_length, same_from_push}
use Rattle.std.proofs.lemmas.List.{take_all, take_more}
use Rattle.std.proofs.lemmas.List.Elements.{All-get_or, All-nil, All-push, All-set}
use Rattle.crossbeam_deque.specs.Handles.{worker_deque, worker_view}
use Rattle.work_deques.proofs.TestedLists.{All_init, All_last}
use Rattle.work_deques.specs.FrontsSoFar.{AreSoFar, IsSoFar, IsWhole}
use Rattle.work_deques.specs.WorkerEnds.{AreAllEnds, Deque, deque_of, deque_of_front, front_deques, front_parts, own_tally, parts_of_front}
use Rattle.work_deques.specs.declared.ends.Ends.{Ends}
use Rattle.work_deques.specs.declared.front.Front.{Front}
use Rattle.work_deques.specs.declared.tally.Tally.{Tally}

-- ---- one worker

module _ (deques : List Deque) (w k j parts : ℕ) (fronts : List Deque) where
  -- another worker's deque makes a front, or takes one back
  other_made : (some : ℕ) → (j ≡ k → ⊥) → IsSoFar deques w k some j parts fronts → IsSoFar deques w (k + 1) some j parts fronts
  other_made some apart h = record {
    before = h.before;
    here = h.here;
    after = h.after;
    more = λ l. h.more (omega (arith, l, apart));
    usual = λ l. h.usual (omega (arith, l));
  }

  other_unmade : (some : ℕ) → (j ≡ k → ⊥) → IsSoFar deques w (k + 1) some j parts fronts → IsSoFar deques w k some j parts fronts
  other_unmade some apart h = record {
    before = h.before;
    here = h.here;
    after = h.after;
    more = λ l. h.more (omega (arith, l));
    usual = λ l. h.usual (omega (arith, l, apart));
  }

  -- another worker is given a front, or gives one away
  other_given : (made some some' : ℕ) → (j ≡ w → ⊥) → IsSoFar deques w made some j parts fronts → IsSoFar deques w made some' j parts fronts
  other_given made some some' apart h = record {
    before = h.before;
    here = λ e. absurd (apart e);
    after = h.after;
    more = h.more;
    usual = h.usual;
  }

  -- the worker has all fronts: the next one follows
  next : length deques ≡ k → j < k → IsSoFar deques w k k j parts fronts → IsSoFar deques (w + 1) 0 0 j parts fronts
  next all l h = record {
    before = λ b. elim (cases_eq j w) as (λ _. fronts ≡ deques) [
      | inl e ↦ h.here e ∙ take_all k deques (omega (arith, all))
      | inr apart ↦ h.before (omega (arith, b, apart))
    ];
    here = λ e. h.after (omega (arith, e));
    after = λ b. h.after (omega (arith, b));
    more = λ b. absurd (omega (arith, b));
    usual = λ _. omega (arith, h.more l);
  }

  last : length deques ≡ k → j < k → IsSoFar deques (w + 1) 0 0 j parts fronts → IsSoFar deques w k k j parts fronts
  last all l h = record {
    before = λ b. h.before (omega (arith, b));
    here = λ e. h.before (omega (arith, e)) ∙ sym (take_all k deques (omega (arith, all)));
    after = λ b. elim (cases_eq j (w + 1)) as (λ _. fronts ≡ []) [
      | inl e ↦ h.here e
      | inr apart ↦ h.after (omega (arith, b, apart))
    ];
    more = λ _. omega (arith, h.usual (omega arith));
    usual = λ b. absurd (omega (arith, b, l));
  }

-- ---- all workers

module _ {T Q : Type 0} where
  -- which deque a worker has
  pub deque_at : (deques : List Deque) (ends : List (Ends T Q)) (k : ℕ) (e : Ends T Q) → map deque_of ends ≡ deques → k < length ends
      → e ≡ get_or ends k e
      → get_or deques k (deque_of e) ≡ deque_of e
  deque_at deques ends k e own l at =
      ap (λ ds. get_or ds k (deque_of e)) (sym own) ∙ get_or-map deque_of ends k e (deque_of e) l ∙ ap deque_of (sym at)

  module _ (deques : List Deque) (w made some made' some' : ℕ) (ends : List (Ends T Q)) (k : ℕ) (old new : Ends T Q) where
    abbrev Here : ℕ → ℕ → ℕ → Ends T Q → Type 0
    Here made some j e = IsSoFar deques w made some j (own_tally e).parts (front_deques e)

    -- the ends of one worker change
    changed : AreSoFar deques w made some ends → k < length ends → old ≡ get_or ends k old → deque_of new ≡ deque_of old
        → All (λ p. p ≡ 1) (front_parts new)
        → (Here made some k old → Here made' some' k new)
        → ((j parts : ℕ) (fronts : List Deque) → (j ≡ k → ⊥) → IsSoFar deques w made some j parts fronts
        → IsSoFar deques w made' some' j parts fronts)
        → AreSoFar deques w made' some' (set ends k new)
    changed h l at same one here other = record {
      own = map-set_same deque_of ends k new old (same ∙ ap deque_of at) ∙ h.own;
      one_part = All-set (λ e. All (λ p. p ≡ 1) (front_parts e)) ends k new one h.one_part;
      each = λ j d lj.
          let within : j < length ends = omega (arith, length-set ends k new, lj) in
          elim (cases_eq j k) as (λ _. Here made' some' j (get_or (set ends k new) j d)) [
            | inl e ↦
                let was = subst (Here made some k) (sym at) (h.each k old l) in
                let is = subst (λ i. Here made' some' i new) (sym e) (here was) in
                subst (Here made' some' j) (sym (get_or-set_at ends k j new d e l)) is
            | inr apart ↦ subst (Here made' some' j) (sym (get_or-set_other ends k j new d apart)) (other j _ _ apart (h.each j d within))
          ];
    }

  module _ (deques : List Deque) (w k : ℕ) (ends : List (Ends T Q)) where
    parts_at : (made some i : ℕ) (e : Ends T Q) → AreSoFar deques w made some ends → i < length ends → e ≡ get_or ends i e
        → All (λ p. p ≡ 1) (front_parts e)
    parts_at made some i e h l at = subst (λ (x : Ends T Q). All (λ p. p ≡ 1) (front_parts x)) (sym at)
        (All-get_or (λ x. All (λ p. p ≡ 1) (front_parts x)) ends i e l h.one_part)

    -- the next deque makes a front
    pub makes : (old new : Ends T Q) → AreSoFar deques w k k ends → k < length ends → old ≡ get_or ends k old → deque_of new ≡ deque_of old
        → new.fronts ≡ old.fronts → (own_tally old).parts ≡ (own_tally new).parts + 1 → AreSoFar deques w (k + 1) k (set ends k new)
    makes old new h l at same fronts parts =
        let deques_same : front_deques new ≡ front_deques old = ap (λ fs. map deque_of_front fs.items) fronts in
        let parts_same : front_parts new ≡ front_parts old = ap (λ fs. map parts_of_front fs.items) fronts in
        changed deques w k k (k + 1) k ends k old new h l at same
        (subst (λ ps. All (λ p. p ≡ 1) ps) (sym parts_same) (parts_at k k k old h l at))
        (λ b. record {
          before = λ i. deques_same ∙ b.before i;
          here = λ e. deques_same ∙ b.here e;
          after = λ i. deques_same ∙ b.after i;
          more = λ _. omega (arith, parts, b.usual (omega arith));
          usual = λ i. absurd (omega (arith, i));
        })
        (λ j p fs apart. other_made deques w k j p fs k apart)

    -- a deque takes a front back
    pub unmakes : (old new : Ends T Q) → AreSoFar deques w (k + 1) k ends → k < length ends → old ≡ get_or ends k old
        → deque_of new ≡ deque_of old
        → new.fronts ≡ old.fronts → (own_tally new).parts ≡ (own_tally old).parts + 1 → AreSoFar deques w k k (set ends k new)
    unmakes old new h l at same fronts parts =
        let deques_same : front_deques new ≡ front_deques old = ap (λ fs. map deque_of_front fs.items) fronts in
        let parts_same : front_parts new ≡ front_parts old = ap (λ fs. map parts_of_front fs.items) fronts in
        changed deques w (k + 1) k k k ends k old new h l at same
        (subst (λ ps. All (λ p. p ≡ 1) ps) (sym parts_same) (parts_at (k + 1) k k old h l at))
        (λ b. record {
          before = λ i. deques_same ∙ b.before i;
          here = λ e. deques_same ∙ b.here e;
          after = λ i. deques_same ∙ b.after i;
          more = λ i. absurd (omega (arith, i));
          usual = λ _. omega (arith, parts, b.more (omega arith));
        })
        (λ j p fs apart. other_unmade deques w k j p fs k apart)

    -- the next worker is given the front of the next deque
    pub adds : (old new : Ends T Q) (f : Front T Q) → AreSoFar deques w (k + 1) k ends → w < length ends → old ≡ get_or ends w old
        → new.own ≡ old.own
        → new.fronts.items ≡ old.fronts.items ++ f ∷ [] → parts_of_front f ≡ 1 → k < length deques → (d : Deque)
        → deque_of_front f ≡ get_or deques k d
        → AreSoFar deques w (k + 1) (k + 1) (set ends w new)
    adds old new f h l at own items part lk d deque =
        let deques_more : front_deques new ≡ front_deques old ++ deque_of_front f ∷ [] = ap (map deque_of_front) items
        ∙ map-append deque_of_front old.fronts.items (f ∷ []) in
        let parts_more : front_parts new ≡ front_parts old ++ parts_of_front f ∷ [] = ap (map parts_of_front) items
        ∙ map-append parts_of_front old.fronts.items (f ∷ []) in
        let one = All-push (λ p. p ≡ 1) (front_parts old) (parts_of_front f) (parts_at (k + 1) k w old h l at) part in
        let parts : (own_tally new).parts ≡ (own_tally old).parts = ap (λ (v : Tally). v.parts) (ap worker_view own) in
        changed deques w (k + 1) k (k + 1) (k + 1) ends w old new h l at (ap worker_deque own)
        (subst (λ ps. All (λ p. p ≡ 1) ps) (sym parts_more) one)
        (λ b. record {
          before = λ i. absurd (omega (arith, i));
          here = λ e. deques_more ∙ ap (λ ds. ds ++ deque_of_front f ∷ []) (b.here e) ∙ ap (λ x. take k deques ++ x ∷ []) deque
              ∙ sym (take_more deques k d lk);
          after = λ i. absurd (omega (arith, i));
          more = λ i. omega (arith, parts, b.more i);
          usual = λ i. omega (arith, parts, b.usual i);
        })
        (λ j p fs apart. other_given deques w k j p fs (k + 1) k (k + 1) apart)

    without_last : (e : Ends T Q) (fs : List (Front T Q)) (f : Front T Q) (d : Deque) → k < length deques → e.fronts.items ≡ fs ++ f ∷ []
        → front_deques e ≡ take (k + 1) deques
        → (map deque_of_front fs ≡ take k deques) × (deque_of_front f ≡ get_or deques k d)
    without_last e fs f d lk items all =
        let split : front_deques e ≡ map deque_of_front fs ++ deque_of_front f ∷ [] = ap (map deque_of_front) items
        ∙ map-append deque_of_front fs (f ∷ []) in
        same_from_push _ _ _ _ (sym split ∙ all ∙ take_more deques k d lk)

    -- the last front of a worker that has the fronts of the first deques
    pub last_deque : (made : ℕ) (e : Ends T Q) (fs : List (Front T Q)) (f : Front T Q) (d : Deque) → AreSoFar deques w made (k + 1) ends
        → w < length ends → e ≡ get_or ends w e
        → e.fronts.items ≡ fs ++ f ∷ [] → k < length deques → deque_of_front f ≡ get_or deques k d
    last_deque made e fs f d h l at items lk = (without_last e fs f d lk items (ap front_deques at ∙ (h.each w e l).here refl)).1

    pub last_part : (made some : ℕ) (e : Ends T Q) (fs : List (Front T Q)) (f : Front T Q) → AreSoFar deques w made some ends
        → w < length ends → e ≡ get_or ends w e
        → e.fronts.items ≡ fs ++ f ∷ [] → parts_of_front f ≡ 1
    last_part made some e fs f h l at items =
        let split : front_parts e ≡ map parts_of_front fs ++ parts_of_front f ∷ [] = ap (map parts_of_front) items
        ∙ map-append parts_of_front fs (f ∷ []) in
        All_last (λ p. p ≡ 1) (map parts_of_front fs) (parts_of_front f)
        (subst (λ ps. All (λ p. p ≡ 1) ps) split (parts_at made some w e h l at))

    -- the last worker gives away its last front
    pub takes : (old new : Ends T Q) (f : Front T Q) → AreSoFar deques w (k + 1) (k + 1) ends → w < length ends → old ≡ get_or ends w old
        → new.own ≡ old.own
        → old.fronts.items ≡ new.fronts.items ++ f ∷ [] → k < length deques → AreSoFar deques w (k + 1) k (set ends w new)
    takes old new f h l at own items lk =
        let parts_less : front_parts old ≡ front_parts new ++ parts_of_front f ∷ [] = ap (map parts_of_front) items
        ∙ map-append parts_of_front new.fronts.items (f ∷ []) in
        let one = All_init (λ p. p ≡ 1) (front_parts new) (parts_of_front f)
        (subst (λ ps. All (λ p. p ≡ 1) ps) parts_less (parts_at (k + 1) (k + 1) w old h l at)) in
        let parts : (own_tally new).parts ≡ (own_tally old).parts = ap (λ (v : Tally). v.parts) (ap worker_view own) in
        changed deques w (k + 1) (k + 1) (k + 1) k ends w old new h l at (ap worker_deque own) one
        (λ b. record {
          before = λ i. absurd (omega (arith, i));
          here = λ e. (without_last old new.fronts.items f (deque_of old) lk items (b.here e)).0;
          after = λ i. absurd (omega (arith, i));
          more = λ i. omega (arith, parts, b.more i);
          usual = λ i. omega (arith, parts, b.usual i);
        })
        (λ j p fs apart. other_given deques w k j p fs (k + 1) (k + 1) k apart)

  -- how many workers there are
  pub all_counted : (deques : List Deque) (w made some : ℕ) (ends : List (Ends T Q)) → AreSoFar deques w made some ends
      → length deques ≡ length ends
  all_counted deques w made some ends h = ap length (sym h.own) ∙ length-map ends deque_of

  -- a worker has all its fronts: the next one follows
  pub turns : (deques : List Deque) (w : ℕ) (ends : List (Ends T Q)) → AreSoFar deques w (length ends) (length ends) ends
      → AreSoFar deques (w + 1) 0 0 ends
  turns deques w ends h = record {
    own = h.own;
    one_part = h.one_part;
    each = λ j d l. next deques w (length ends) j _ _ (all_counted deques w _ _ ends h) l (h.each j d l);
  }

  pub returns : (deques : List Deque) (w : ℕ) (ends : List (Ends T Q)) → AreSoFar deques (w + 1) 0 0 ends
      → AreSoFar deques w (length ends) (length ends) ends
  returns deques w ends h = record {
    own = h.own;
    one_part = h.one_part;
    each = λ j d l. last deques w (length ends) j _ _ (all_counted deques (w + 1) _ _ ends h) l (h.each j d l);
  }

  -- no worker has fronts
  pub none : (ends : List (Ends T Q)) → All IsWhole ends → AreSoFar (map deque_of ends) 0 0 0 ends
  none ends h = record {
    own = refl;
    one_part = λ j d l. subst (λ fs. All (λ p. p ≡ 1) (map parts_of_front fs)) (sym (h j d l).1) (All-nil (λ p. p ≡ 1));
    each = λ j d l.
        let empty : front_deques (get_or ends j d) ≡ [] = ap (map deque_of_front) (h j d l).1 in
        record {
          before = λ i. absurd (omega (arith, i));
          here = λ _. empty;
          after = λ _. empty;
          more = λ i. absurd (omega (arith, i));
          usual = λ _. omega (arith, (h j d l).0);
        };
  }

  pub none_left : (deques : List Deque) (ends : List (Ends T Q)) → AreSoFar deques 0 0 0 ends → All IsWhole ends
  none_left deques ends h = λ j d l.
      let e = get_or ends j d in
      let b = h.each j d l in
      let empty : front_deques e ≡ [] = elim (cases_eq j 0) as
      (λ _. front_deques e ≡ []) [ inl z ↦ b.here z | inr apart ↦ b.after (omega (arith, apart)) ] in
      let count = ap length empty in (
        omega (arith, b.usual (omega arith)),
        nil_from_length e.fronts.items
            (omega (arith, count, length-map e.fronts.items deque_of_front)),
      )

  -- all workers have fronts
  pub all_ends : (w : ℕ) (ends : List (Ends T Q)) → w ≡ length ends → AreSoFar (map deque_of ends) w 0 0 ends → AreAllEnds ends
  all_ends w ends counted h = λ j d l. record {
    fronts = (h.each j d l).before (omega (arith, counted, l));
    one_part = h.one_part j d l;
    own_parts = omega (arith, counted, (h.each j d l).usual (omega arith), length-map ends deque_of);
  }

  pub from_all_ends : (ends : List (Ends T Q)) → AreAllEnds ends → AreSoFar (map deque_of ends) (length ends) 0 0 ends
  from_all_ends ends h = record {
    own = refl;
    one_part = λ j d l. (h j d l).one_part;
    each = λ j d l. record {
      before = λ _. (h j d l).fronts;
      here = λ e. absurd (omega (arith, e, l));
      after = λ i. absurd (omega (arith, i, l));
      more = λ i. absurd (omega (arith, i));
      usual = λ _. omega (arith, (h j d l).own_parts, length-map ends deque_of);
    };
  }
