-- The access history finds the first race, though it keeps only three instances.
use Rattle.std.proofs.Common.{ℕ, true, ◌≡◌, ltb, inl, inr, ap, Bool, cond, subst, false, refl, sym, ◌∙◌, arith}
use Rattle.std.proofs.Common.{List, ◌<◌, ◌≤◌, suc, length, ◌+◌, [], ◌∷◌}
use Rattle.std.proofs.lemmas.Bool.{ltb-true, cases_lt, ltb-false, cases_eq}
use Rattle.std.specs.declared.option.Option.{Option}
use Rattle.std.specs.declared.option.Option.TheVariants.{Some, None}
use Rattle.pipe_model.specs.Orders.AccessHistory.{race_with, later, AccessHistory, check_access}
use Rattle.pipe_model.specs.Races.CellRaces.{NotedAccess, noted_access, access_at, KindsConflict}
use Rattle.pipe_model.specs.Orders.AccessHistory.{updated_history, FoundRace, race_or, found_race_from, found_race, empty_history}
use Rattle.pipe_model.specs.Races.Columns.{at}
use Rattle.pipe_model.specs.declared.access.AccessKind.{AccessKind}
use Rattle.pipe_model.specs.declared.access.AccessKind.TheVariants.{Write, Read}
use Rattle.pipe_model.specs.declared.node.NodeId.{NodeId}
use Rattle.run_laws.proofs.RaceHistories.KeptInstances.{race_with_is, ordered_both, none_races, some_races}
use Rattle.run_laws.specs.OrderRaces.{IsOrdered, AreOrders, IsRightInOrders, RacesInOrders, HistoriesOfOrders}

module _ (down right : NodeId → ℕ) where
  module _ (accesses : List NotedAccess) where
    -- the kept writer is the last one, and every earlier writer is before it
    pub record KeepsWriter (n : ℕ) (kept : Option NodeId) : Type 0 where
      pub none : kept ≡ None → (k : ℕ) → k < n → (access_at accesses k).kind ≡ Write → ⊥
      pub some : (w : NodeId) → kept ≡ Some w → (k : ℕ) × (k < n) × (access_at accesses k ≡ noted_access w Write)
      pub last : (w : NodeId) → kept ≡ Some w → (k : ℕ) → k < n → (access_at accesses k).kind ≡ Write
          → IsOrdered down right (access_at accesses k).who w

    -- the kept reader is the last one in an order
    pub record KeepsReader (order : NodeId → ℕ) (n : ℕ) (kept : Option NodeId) : Type 0 where
      pub none : kept ≡ None → (k : ℕ) → k < n → (access_at accesses k).kind ≡ Read → ⊥
      pub some : (w : NodeId) → kept ≡ Some w → (k : ℕ) × (k < n) × (access_at accesses k ≡ noted_access w Read)
      pub most : (w : NodeId) → kept ≡ Some w → (k : ℕ) → k < n → (access_at accesses k).kind ≡ Read
          → order (access_at accesses k).who ≤ order w

    -- the kind of an access
    pub kind_at : (n : ℕ) (x : NodeId) (kind : AccessKind) → access_at accesses n ≡ noted_access x kind
        → (access_at accesses n).kind ≡ kind
    kind_at n x kind e = ap (λ (a : NotedAccess). a.kind) e

    -- the instance of an access
    pub who_at : (n : ℕ) (x : NodeId) (kind : AccessKind) → access_at accesses n ≡ noted_access x kind
        → (access_at accesses n).who ≡ x
    who_at n x kind e = ap (λ (a : NotedAccess). a.who) e

    -- access n of the first n + 1
    pub same_place : (n k : ℕ) → k < suc n → n ≤ k → access_at accesses k ≡ access_at accesses n
    same_place n k l w = let e : k ≡ n = omega arith in ap (access_at accesses) e

    -- a read keeps the writer
    writer_after_read : (n : ℕ) (x : NodeId) (kept : Option NodeId) → access_at accesses n ≡ noted_access x Read
        → KeepsWriter n kept → KeepsWriter (suc n) kept
    writer_after_read n x kept at h = record {
      none = λ e k l w. elim (cases_lt k n) [
        | inl less ↦ h.none e k less w
        | inr ge ↦ (let p = kind_at k x Read (same_place n k l ge ∙ at) in let q : Read ≡ Write = sym p ∙ w in cc)
      ];
      some = λ w e. (let s = h.some w e in let b = s.1 in (s.0, omega arith, s.2));
      last = λ w e k l q. elim (cases_lt k n) [
        | inl less ↦ h.last w e k less q
        | inr ge ↦ (
            let p = kind_at k x Read (same_place n k l ge ∙ at) in
            absurd (let r : Read ≡ Write = sym p ∙ q in cc))
      ];
    }

    -- a write is the writer
    writer_after_write : (n : ℕ) (x : NodeId) → access_at accesses n ≡ noted_access x Write
        → ((k : ℕ) → k < n → (access_at accesses k).kind ≡ Write → IsOrdered down right (access_at accesses k).who x)
        → KeepsWriter (suc n) (Some x)
    writer_after_write n x at fine = record {
      none = λ e k l w. (let r : Some x ≡ None = e in cc);
      some = λ w e. (
        n,
        omega arith,
        at ∙ (
            let r : Some x ≡ Some w = e in
            let r' : x ≡ w = cc in
            ap (λ z. noted_access z Write) r'),
      );
      last = λ w e k l q. (
          let r : Some x ≡ Some w = e in
          let r' : x ≡ w =
          cc in subst (λ z. IsOrdered down right (access_at accesses k).who z) r'
          (elim (cases_lt k n) [
            | inl less ↦ fine k less q
            | inr ge ↦ inl (who_at k x Write (same_place n k l ge ∙ at))
          ]));
    }

    -- a write keeps the reader
    reader_after_write : (order : NodeId → ℕ) (n : ℕ) (x : NodeId) (kept : Option NodeId)
        → access_at accesses n ≡ noted_access x Write → KeepsReader order n kept → KeepsReader order (suc n) kept
    reader_after_write order n x kept at h = record {
      none = λ e k l w. elim (cases_lt k n) [
        | inl less ↦ h.none e k less w
        | inr ge ↦ (let p = kind_at k x Write (same_place n k l ge ∙ at) in let q : Write ≡ Read = sym p ∙ w in cc)
      ];
      some = λ w e. (let s = h.some w e in let b = s.1 in (s.0, omega arith, s.2));
      most = λ w e k l q. elim (cases_lt k n) [
        | inl less ↦ h.most w e k less q
        | inr ge ↦ (
            let p = kind_at k x Write (same_place n k l ge ∙ at) in
            absurd (let r : Write ≡ Read = sym p ∙ q in cc))
      ];
    }

    -- the later of two is one of them, and at least as late as both
    data IsLatest (order : NodeId → ℕ) (x : NodeId) : Option NodeId → NodeId → Type 0 where
      Only : IsLatest order x None x
      New : (y : NodeId) → order y ≤ order x → IsLatest order x (Some y) x
      Old : (y : NodeId) → order x ≤ order y → IsLatest order x (Some y) y

    -- `latest`, by the test
    latest_by : (order : NodeId → ℕ) (x y : NodeId) (t : Bool) → ltb (order y) (order x) ≡ t
        → IsLatest order x (Some y) (cond t x y)
    latest_by order x y true e = New y (let p = ltb-true (order y) (order x) e in omega arith)
    latest_by order x y false e = Old y (ltb-false (order y) (order x) e)

    -- the result of `later`
    latest : (order : NodeId → ℕ) (kept : Option NodeId) (x : NodeId) → IsLatest order x kept (later order kept x)
    latest order None x = Only
    latest order (Some y) x = latest_by order x y (ltb (order y) (order x)) refl

    -- a read that is later than all others is the reader
    new_reader : (order : NodeId → ℕ) (n : ℕ) (x : NodeId) → access_at accesses n ≡ noted_access x Read
        → ((k : ℕ) → k < n → (access_at accesses k).kind ≡ Read → order (access_at accesses k).who ≤ order x)
        → KeepsReader order (suc n) (Some x)
    new_reader order n x at most = record {
      none = λ e k l w. (let r : Some x ≡ None = e in cc);
      some = λ w e. (
        n,
        omega arith,
        at ∙ (
            let r : Some x ≡ Some w = e in
            let r' : x ≡ w = cc in
            ap (λ z. noted_access z Read) r'),
      );
      most = λ w e k l q. (
          let r : Some x ≡ Some w = e in
          let r' : x ≡ w =
          cc in subst (λ z. order (access_at accesses k).who ≤ order z) r'
          (elim (cases_lt k n) [
            | inl less ↦ most k less q
            | inr ge ↦ (let s = ap order (who_at k x Read (same_place n k l ge ∙ at)) in omega (arith, s))
          ]));
    }

    -- the reader after a read
    reader_after_read : (order : NodeId → ℕ) (n : ℕ) (x w : NodeId) {kept : Option NodeId}
        → access_at accesses n ≡ noted_access x Read → IsLatest order x kept w → KeepsReader order n kept
        → KeepsReader order (suc n) (Some w)
    reader_after_read order n x w at Only h = new_reader order n x at (λ k l q. absurd (h.none refl k l q))
    reader_after_read order n x w at (New y le) h =
        new_reader order n x at (λ k l q. let p = h.most y refl k l q in omega (arith, p, le))
    reader_after_read order n x w at (Old y le) h = record {
      none = λ e k l q. (let r : Some y ≡ None = e in cc);
      some = λ v e. (let s = h.some v e in let b = s.1 in (s.0, omega arith, s.2));
      most = λ v e k l q. elim (cases_lt k n) [
        | inl less ↦ h.most v e k less q
        | inr ge ↦ (
            let r : Some y ≡ Some v = e in
            let r' : y ≡ v = cc in
            let t = ap order r' in
            let s = ap order (who_at k x Read (same_place n k l ge ∙ at)) in
            omega (arith, s, le, t))
      ];
    }

    -- if the kept writer is before x, every earlier writer is
    writers_ordered : (n : ℕ) (x : NodeId) (kept : Option NodeId) → KeepsWriter n kept
        → ((w : NodeId) → kept ≡ Some w → IsOrdered down right w x) → (k : ℕ) → k < n
        → (access_at accesses k).kind ≡ Write → IsOrdered down right (access_at accesses k).who x
    writers_ordered n x None h f k l q = absurd (h.none refl k l q)
    writers_ordered n x (Some w) h f k l q =
        ordered_both down right (access_at accesses k).who w x (h.last w refl k l q) (f w refl)

    -- if the kept reader is at most x in an order, every earlier reader is
    pub readers_ordered : (order : NodeId → ℕ) (n : ℕ) (x : NodeId) (kept : Option NodeId) → KeepsReader order n kept
        → ((w : NodeId) → kept ≡ Some w → order w ≤ order x) → (k : ℕ) → k < n → (access_at accesses k).kind ≡ Read
        → order (access_at accesses k).who ≤ order x
    readers_ordered order n x None h f k l q = absurd (h.none refl k l q)
    readers_ordered order n x (Some w) h f k l q =
        let p = h.most w refl k l q in
        let r = f w refl in
        omega (arith, p, r)

    -- an instance before x is at most x in down-first
    pub ordered_down : (w x : NodeId) → IsOrdered down right w x → down w ≤ down x
    ordered_down w x f = elim f [ inl s ↦ (let e = ap down s in omega (arith, e)) | inr s ↦ omega (arith, s) ]

    -- an instance before x is at most x in right-first
    pub ordered_right : (w x : NodeId) → IsOrdered down right w x → right w ≤ right x
    ordered_right w x f = elim f [ inl s ↦ (let e = ap right s in omega (arith, e)) | inr s ↦ omega (arith, s) ]

    module _ (orders : AreOrders down right accesses) where
      -- an instance that is at most x in both orders is before it
      reader_ordered : (n : ℕ) (x : NodeId) → n < length accesses → (access_at accesses n).who ≡ x → (k : ℕ) → k < n
          → down (access_at accesses k).who ≤ down x → right (access_at accesses k).who ≤ right x
          → IsOrdered down right (access_at accesses k).who x
      reader_ordered n x l at k w d r = elim (cases_eq (down (access_at accesses k).who) (down x)) [
        | inl s ↦ inl (orders.down_apart k n (omega arith) l (s ∙ ap down (sym at)) ∙ at)
        | inr m ↦ elim (cases_eq (right (access_at accesses k).who) (right x)) [
          | inl s ↦ inl (orders.right_apart k n (omega arith) l (s ∙ ap right (sym at)) ∙ at)
          | inr o ↦ inr (omega arith, omega arith)
        ]
      ]

      -- the history of the first n accesses, if no race was found
      pub record IsHistory (n : ℕ) (kept : AccessHistory) : Type 0 where
        pub writers : KeepsWriter n kept.writer
        pub rights : KeepsReader down n kept.rightmost
        pub downs : KeepsReader right n kept.downmost

      -- nothing is found: every earlier conflicting access is before x
      pub none_found : (n : ℕ) (x : NodeId) (kind : AccessKind) (kept : AccessHistory) → IsHistory n kept
          → n < length accesses → access_at accesses n ≡ noted_access x kind
          → check_access down right kept x kind ≡ None
          → (k : ℕ) → k < n → KindsConflict (access_at accesses k).kind kind
          → IsOrdered down right (access_at accesses k).who x
      none_found n x Read kept h l at e k w c =
          let p = none_races down right (race_with_is down right x Write kept.writer None) e in
          elim c [
            | inl q ↦ writers_ordered n x kept.writer h.writers p.0 k w q
            | inr q ↦ absurd (let r : Read ≡ Write = q in cc)
          ]
      none_found n x Write kept h l at e k w c =
          let p = none_races down right (race_with_is down right x Write kept.writer
          (race_with down right x Read kept.rightmost (race_with down right x Read kept.downmost None))) e in
          let q = none_races down right (race_with_is down right x Read kept.rightmost
          (race_with down right x Read kept.downmost None))
          p.1 in
          let r = none_races down right (race_with_is down right x Read kept.downmost None) q.1 in
          by_kind (access_at accesses k).kind refl p.0 q.0 r.0
        where
          by_kind : (other : AccessKind) → (access_at accesses k).kind ≡ other
              → ((v : NodeId) → kept.writer ≡ Some v → IsOrdered down right v x)
              → ((v : NodeId) → kept.rightmost ≡ Some v → IsOrdered down right v x)
              → ((v : NodeId) → kept.downmost ≡ Some v → IsOrdered down right v x)
              → IsOrdered down right (access_at accesses k).who x
          by_kind Write s f g i = writers_ordered n x kept.writer h.writers f k w s
          by_kind Read s f g i = reader_ordered n x l (who_at n x Write at) k w
              (readers_ordered down n x kept.rightmost h.rights (λ v z. ordered_down v x (g v z)) k w s)
              (readers_ordered right n x kept.downmost h.downs (λ v z. ordered_right v x (i v z)) k w s)

      -- what is found: an earlier conflicting access that is not before x
      record IsFound (n : ℕ) (x : NodeId) (kind : AccessKind) (e : NotedAccess) : Type 0 where
        place : ℕ
        earlier : place < n
        is : access_at accesses place ≡ e
        conflict : KindsConflict e.kind kind
        apart : IsOrdered down right e.who x → ⊥

      -- what is found with the kept writer is such an access
      found_writer : (n : ℕ) (x w : NodeId) (kind : AccessKind) (kept : Option NodeId) (e : NotedAccess)
          → KeepsWriter n kept → kept ≡ Some w → (IsOrdered down right w x → ⊥) → noted_access w Write ≡ e
          → IsFound n x kind e
      found_writer n x w kind kept e h s f q = let at = h.some w s in record {
        place = at.0;
        earlier = at.1;
        is = at.2 ∙ q;
        conflict = inl (ap (λ (a : NotedAccess). a.kind) (sym q));
        apart = subst (λ (a : NotedAccess). IsOrdered down right a.who x → ⊥) q f;
      }

      -- what is found with a kept reader is such an access
      found_reader : (order : NodeId → ℕ) (n : ℕ) (x w : NodeId) (kept : Option NodeId) (e : NotedAccess)
          → KeepsReader order n kept → kept ≡ Some w → (IsOrdered down right w x → ⊥) → noted_access w Read ≡ e
          → IsFound n x Write e
      found_reader order n x w kept e h s f q = let at = h.some w s in record {
        place = at.0;
        earlier = at.1;
        is = at.2 ∙ q;
        conflict = inr refl;
        apart = subst (λ (a : NotedAccess). IsOrdered down right a.who x → ⊥) q f;
      }

      -- what the history finds is such an access
      one_found : (n : ℕ) (x : NodeId) (kind : AccessKind) (kept : AccessHistory) (e : NotedAccess) → IsHistory n kept
          → check_access down right kept x kind ≡ Some e → IsFound n x kind e
      one_found n x Read kept e h q =
          elim (some_races down right e (race_with_is down right x Write kept.writer None) q) [
            | inl a ↦ found_writer n x a.0 Read kept.writer e h.writers a.1 a.2 a.3
            | inr r ↦ absurd (let z : None ≡ Some e = r in cc)
          ]
      one_found n x Write kept e h q =
          elim (some_races down right e (race_with_is down right x Write kept.writer
          (race_with down right x Read kept.rightmost (race_with down right x Read kept.downmost None))) q) [
            | inl a ↦ found_writer n x a.0 Write kept.writer e h.writers a.1 a.2 a.3
            | inr r ↦ elim (some_races down right e (race_with_is down right x Read kept.rightmost
                (race_with down right x Read kept.downmost None)) r) [
                  | inl a ↦ found_reader down n x a.0 kept.rightmost e h.rights a.1 a.2 a.3
                  | inr s ↦ elim (some_races down right e (race_with_is down right x Read kept.downmost None) s) [
                    | inl a ↦ found_reader right n x a.0 kept.downmost e h.downs a.1 a.2 a.3
                    | inr t ↦ absurd (let z : None ≡ Some e = t in cc)
                  ]
                ]
          ]

      -- the history with one more access
      pub history_next : (n : ℕ) (x : NodeId) (kind : AccessKind) (kept : AccessHistory) → IsHistory n kept
          → access_at accesses n ≡ noted_access x kind
          → ((k : ℕ) → k < n → KindsConflict (access_at accesses k).kind kind
          → IsOrdered down right (access_at accesses k).who x)
          → IsHistory (suc n) (updated_history down right kept x kind)
      history_next n x Read kept h at fine = record {
        writers = writer_after_read n x kept.writer at h.writers;
        rights = reader_after_read down n x (later down kept.rightmost x) at (latest down kept.rightmost x) h.rights;
        downs = reader_after_read right n x (later right kept.downmost x) at (latest right kept.downmost x) h.downs;
      }
      history_next n x Write kept h at fine = record {
        writers = writer_after_write n x at (λ k l q. fine k l (inl q));
        rights = reader_after_write down n x kept.rightmost at h.rights;
        downs = reader_after_write right n x kept.downmost at h.downs;
      }

      -- what is found is the first race that the orders define
      abbrev pub IsRight : Option FoundRace → Type 0
      IsRight found = IsRightInOrders down right accesses found

      -- access number n and those after it
      pub record IsRest (n : ℕ) (xs : List NotedAccess) : Type 0 where
        pub long : length accesses ≡ n + length xs
        pub each : (t : ℕ) → t < length xs → access_at accesses (n + t) ≡ access_at xs t

      -- `first_race_from_is`, by what the history finds
      first_race_by : (n : ℕ) (x : NodeId) (kind : AccessKind) (kept : AccessHistory) (found : Option NotedAccess)
          (rest : Option FoundRace)
          → IsHistory n kept → n < length accesses → access_at accesses n ≡ noted_access x kind
          → check_access down right kept x kind ≡ found
          → ((m k : ℕ) → m < n → RacesInOrders down right accesses m k → ⊥)
          → (((k : ℕ) → RacesInOrders down right accesses n k → ⊥) → check_access down right kept x kind ≡ None
          → IsRight rest) → IsRight (race_or n found rest)
      first_race_by n x kind kept None rest h l at e before go = go (λ k r. none_here k r) e
        where
          none_here : (k : ℕ) → RacesInOrders down right accesses n k → ⊥
          none_here k r =
              r.apart (subst (λ z. IsOrdered down right (access_at accesses k).who z) (sym (who_at n x kind at))
              (none_found n x kind kept h l at e k r.earlier
              (subst (λ z. KindsConflict (access_at accesses k).kind z) (kind_at n x kind at) r.conflict)))
      first_race_by n x kind kept (Some f) rest h l at e before go =
          let found = one_found n x kind kept f h e in
          record {
            racy = (
              found.place,
              record {
                within = l;
                earlier = found.earlier;
                conflict = subst₂' found.place f found.is found.conflict;
                apart = λ z. found.apart (subst (λ (a : NotedAccess). IsOrdered down right a.who x) found.is
                    (subst (λ v. IsOrdered down right (access_at accesses found.place).who v) (who_at n x kind at)
                    z));
              },
              found.is,
            );
            first = λ m k w r. before m k w r;
          }
        where
          subst₂' : (place : ℕ) (f : NotedAccess) → access_at accesses place ≡ f → KindsConflict f.kind kind
              → KindsConflict (access_at accesses place).kind (access_at accesses n).kind
          subst₂' place f s c =
              subst (λ z. KindsConflict (access_at accesses place).kind z) (sym (kind_at n x kind at))
              (subst (λ (a : NotedAccess). KindsConflict a.kind kind) (sym s) c)

      -- the first race of access number n or a later one
      pub first_race_from_is : (xs : List NotedAccess) (n : ℕ) (kept : AccessHistory) → IsRest n xs → IsHistory n kept
          → ((m k : ℕ) → m < n → RacesInOrders down right accesses m k → ⊥)
          → IsRight (found_race_from down right n kept xs)
      first_race_from_is [] n kept rest h before = λ m k r. (
          let w = r.within in
          let l = rest.long in
          before m k (omega (arith, w, l)) r)
      first_race_from_is (x ∷ xs) n kept rest h before =
          let long = rest.long in
          let here : access_at accesses n ≡ noted_access x.who x.kind = (
          let z : n ≡ n + 0 = omega arith in
          ap (access_at accesses) z ∙ rest.each 0 (omega arith)) in
          first_race_by n x.who x.kind kept (check_access down right kept x.who x.kind)
          (found_race_from down right (suc n) (updated_history down right kept x.who x.kind) xs) h (omega arith)
          here refl before
          (λ none e. first_race_from_is xs (suc n) (updated_history down right kept x.who x.kind)
          (record {
            long = omega arith;
            each = λ t l. (
                let z : suc n + t ≡ n + suc t = omega arith in
                ap (access_at accesses) z ∙ rest.each (suc t) (omega arith));
          })
          (history_next n x.who x.kind kept h here (none_found n x.who x.kind kept h (omega arith) here e))
          (λ m k w r. elim (cases_lt m n) [
            | inl less ↦ before m k less r
            | inr ge ↦ (
                let z : m ≡ n = omega arith in
                none k (subst (λ i. RacesInOrders down right accesses i k) z r))
          ]))

      -- the first race
      pub first_race_is : IsRight (found_race down right accesses)
      first_race_is = first_race_from_is accesses 0 empty_history (record {
        long = omega arith;
        each = λ t l. (
            let z : 0 + t ≡ t = omega arith in
            ap (access_at accesses) z);
      })
          (record {
            writers = record {
              none = λ e k l w. absurd (omega arith);
              some = λ w e. absurd (let r : None ≡ Some w = e in cc);
              last = λ w e k l q. absurd (omega arith);
            };
            rights = record {
              none = λ e k l w. absurd (omega arith);
              some = λ w e. absurd (let r : None ≡ Some w = e in cc);
              most = λ w e k l q. absurd (omega arith);
            };
            downs = record {
              none = λ e k l w. absurd (omega arith);
              some = λ w e. absurd (let r : None ≡ Some w = e in cc);
              most = λ w e k l q. absurd (omega arith);
            };
          })
          (λ m k w r. absurd (omega arith))

-- the law of histories, for any two orders
pub histories_of_orders : HistoriesOfOrders
histories_of_orders down right accesses ok = first_race_is down right accesses ok
