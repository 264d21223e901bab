-- The places of the rows while rows change.
use Rattle.std.proofs.Common.{◌≡◌, ◌≢◌, ℕ, ℤ, pos, zero, suc, ◌+◌, ◌-◌, ◌*◌, ◌<◌, ◌≤◌, List, [], ◌∷◌, ◌++◌, length, set, get_or}
use Rattle.std.proofs.Common.{replicate, refl}
use Rattle.std.proofs.Common.{ap, sym, ◌∙◌, arith, subst, Some, None, inl, inr, take, drop, length-append}
use Rattle.std.proofs.Math.Nat.{mul-le-mul_right}
use Rattle.std.proofs.Math.Seq.{set-append_seam}
use Rattle.std.proofs.lemmas.Bool.{cases_eq, cases_lt}
use Rattle.std.proofs.lemmas.List.{length-set, length_push, length-replicate, get_or-set_same, get_or-set_other, get_or_append_left}
use Rattle.std.proofs.lemmas.List.{get_or-drop, get_or-take, get_or_push, length-take-le, length-drop, ext_get_or}
use Rattle.pipe_model.specs.declared.marks.Marks.{Marks}
use Rattle.frame_rows.specs.IterationRows.{IterationRow, HasMarks, empty_row, head_marks, left_marks, marks_at, marks_of_row, row_at}
use Rattle.frame_rows.specs.IterationRows.{with_instance}
use Rattle.frame_rows.specs.Places.{HoldsRow, HoldsRows, PlaceTable, place_of, with_place}
use Rattle.frame_rows.specs.RowsOfFrames.{no_marks}
use Rattle.frame_rows.proofs.AliveRows.{other_row, earlier_row}
use Rattle.frame_rows.proofs.FrameRows.{row_at_within}
use Rattle.frame_rows.proofs.StartRows.{head_marks_is, marks_within}

-- ---- where places are

-- the places of an earlier iteration are below those of a later one
below : (s i j k : ℕ) → j < i → k < s → j * s + k < i * s
below s i j k l m =
    let a : suc j * s ≤ i * s = mul-le-mul_right s (omega (arith, l)) in
    let b : suc j * s ≡ s + j * s = omega arith in
    omega (arith, a, b, m)

-- a place of another row
other_place : {M : Type 0} → (rs : List (IterationRow M)) (p : PlaceTable) (i j k l : ℕ) (r x : IterationRow M) → HoldsRows rs p
    → row_at rs i ≡ Some r → row_at rs j ≡ Some x → k < r.room → l < x.room → j ≢ i → place_of p j l ≢ place_of p i k
other_place rs p i j k l r x h at there lk ll n e = elim (cases_lt j i) [
  | inl less ↦ (
      let w = row_at_within rs i r at in
      let fits = h.apart j x there (omega (arith, less, w)) in
      let b = below p.stages i j l less (omega (arith, ll, fits)) in
      absurd (omega (arith, b, e)))
  | inr ge ↦ (
      let w = row_at_within rs j x there in
      let less : i < j = omega (arith, ge, n) in
      let fits = h.apart i r at (omega (arith, less, w)) in
      let b = below p.stages j i k less (omega (arith, lk, fits)) in
      absurd (omega (arith, b, e)))
]

-- ---- what is read

-- the place of an instance is there
pub place_within : {M : Type 0} → (rs : List (IterationRow M)) (p : PlaceTable) (i k : ℕ) (r : IterationRow M) → HoldsRows rs p
    → row_at rs i ≡ Some r → k < length r.marks → place_of p i k < length p.marks
place_within rs p i k r h at l =
    let x = h.each i r at in
    let a = x.there in
    let b = x.within in
    let c = x.both in
    let d = h.both in
    omega (arith, a, b, c, d, l)

-- the places of instances that have not started are there too
pub place_free : {M : Type 0} → (rs : List (IterationRow M)) (p : PlaceTable) (i k : ℕ) (r : IterationRow M) → HoldsRows rs p
    → row_at rs i ≡ Some r → k < r.room → (place_of p i k < length p.numbers) × (place_of p i k < length p.marks)
place_free rs p i k r h at l =
    let x = h.each i r at in
    let a = x.there in
    let d = h.both in
    (omega (arith, a, l), omega (arith, a, d, l))

pub marks_are : {M : Type 0} → (rs : List (IterationRow M)) (p : PlaceTable) (i k : ℕ) (r : IterationRow M) → HoldsRows rs p
    → row_at rs i ≡ Some r → k < length r.marks → get_or p.marks (place_of p i k) no_marks ≡ get_or r.marks k no_marks
marks_are rs p i k r h at l = let x = h.each i r at in let c = x.both in x.marks k (omega (arith, l, c))

pub numbers_within : {M : Type 0} → (rs : List (IterationRow M)) (p : PlaceTable) (i : ℕ) (r : IterationRow M) → HoldsRows rs p
    → row_at rs i ≡ Some r → place_of p i (length r.numbers) ≤ length p.numbers
numbers_within rs p i r h at =
    let x = h.each i r at in
    let a = x.there in
    let b = x.within in
    omega (arith, a, b)

pub numbers_are : {M : Type 0} → (rs : List (IterationRow M)) (p : PlaceTable) (i : ℕ) (r : IterationRow M) → HoldsRows rs p
    → row_at rs i ≡ Some r → take (length r.numbers) (drop (place_of p i 0) p.numbers) ≡ r.numbers
numbers_are rs p i r h at =
    let x = h.each i r at in
    let n = length r.numbers in
    let enough = numbers_within rs p i r h at in
    let rest : length (drop (place_of p i 0) p.numbers) ≡ _ = length-drop (place_of p i 0) p.numbers in
    let wide : length (take n (drop (place_of p i 0) p.numbers)) ≡ n =
    length-take-le n (drop (place_of p i 0) p.numbers) (omega (arith, enough, rest)) in
    ext_get_or (pos 0) (take n (drop (place_of p i 0) p.numbers)) r.numbers wide (λ k l. (
    let m : k < n = subst (λ z. k < z) wide l in
    let z : place_of p i 0 + k ≡ place_of p i k = omega arith in
    get_or-take n (drop (place_of p i 0) p.numbers) k (pos 0) m
    ∙ (get_or-drop (place_of p i 0) p.numbers k (pos 0) ∙ (ap (λ q. get_or p.numbers q (pos 0)) z ∙ x.numbers k m))))

-- ---- what a start reads

row_there : {M : Type 0} → (rs : List (IterationRow M)) (i : ℕ) → i < length rs → (r : IterationRow M) × (row_at rs i ≡ Some r)
row_there [] i l = absurd (omega (arith, l))
row_there (r ∷ rs) zero l = (r, refl)
row_there (r ∷ rs) (suc i) l = row_there rs i (omega (arith, l))

marked_row : {M : Type 0} → (rs : List (IterationRow M)) (i k : ℕ) → HasMarks rs i k
    → (r : IterationRow M) × (row_at rs i ≡ Some r) × (k < length r.marks)
marked_row rs i k l =
    let q = row_there rs i (marks_within rs i k l) in
    (q.0, q.1, subst (λ o. k < length (marks_of_row o)) q.1 l)

pub placed_within : {M : Type 0} → (rs : List (IterationRow M)) (p : PlaceTable) (i k : ℕ) → HoldsRows rs p → HasMarks rs i k
    → place_of p i k < length p.marks
placed_within rs p i k h l = let q = marked_row rs i k l in place_within rs p i k q.0 h q.1 q.2

pub placed_marks : {M : Type 0} → (rs : List (IterationRow M)) (p : PlaceTable) (i k : ℕ) → HoldsRows rs p → HasMarks rs i k
    → get_or p.marks (place_of p i k) no_marks ≡ marks_at rs i k
placed_marks rs p i k h l =
    let q = marked_row rs i k l in
    marks_are rs p i k q.0 h q.1 q.2 ∙ sym (ap (λ o. get_or (marks_of_row o) k no_marks) q.1)

-- the marks of the left parent of an instance
pub left_marks_at : {M : Type 0} → (rs : List (IterationRow M)) (i j : ℕ) → 0 < i → left_marks rs i (Some j) ≡ Some (marks_at rs (i - 1) j)
left_marks_at rs zero j l = absurd (omega (arith, l))
left_marks_at rs (suc i) j l = let z : suc i - 1 ≡ i = omega arith in ap (λ n. Some (marks_at rs n j)) (sym z)

-- the last row
pub head_has_marks : {M : Type 0} → (rs : List (IterationRow M)) → 0 < length rs
    → ((r : IterationRow M) → row_at rs (length rs - 1) ≡ Some r → 0 < length r.marks) → HasMarks rs (length rs - 1) 0
head_has_marks rs some h =
    let q = row_there rs (length rs - 1) (omega (arith, some)) in
    subst (λ o. 0 < length (marks_of_row o)) (sym q.1) (h q.0 q.1)

pub head_marks_at : {M : Type 0} → (rs : List (IterationRow M)) → 0 < length rs → head_marks rs ≡ Some (marks_at rs (length rs - 1) 0)
head_marks_at rs some =
    let q = row_there rs (length rs - 1) (omega (arith, some)) in
    head_marks_is rs q.0 q.1 ∙ ap (λ o. Some (get_or (marks_of_row o) 0 no_marks)) (sym q.1)

-- ---- rows that change

pub row_at_set : {M : Type 0} → (rs : List (IterationRow M)) (i : ℕ) (y : IterationRow M) → i < length rs → row_at (set rs i y) i ≡ Some y
row_at_set [] i y l = absurd (omega (arith, l))
row_at_set (r ∷ rs) zero y l = refl
row_at_set (r ∷ rs) (suc i) y l = row_at_set rs i y (omega (arith, l))

same_of : {X : Type 0} {x y : X} → Some x ≡ Some y → x ≡ y
same_of e = cc

-- a row changes, but not its instances
pub places_kept : {M : Type 0} → (rs : List (IterationRow M)) (p : PlaceTable) (i : ℕ) (r y : IterationRow M) → row_at rs i ≡ Some r
    → y.numbers ≡ r.numbers → y.marks ≡ r.marks → y.room ≡ r.room → HoldsRows rs p → HoldsRows (set rs i y) p
places_kept {M} rs p i r y at en em er h =
    let wide : length (set rs i y) ≡ length rs = length-set rs i y in
    let own : row_at (set rs i y) i ≡ Some y = row_at_set rs i y (row_at_within rs i r at) in record {
      each = λ j x there. elim (cases_eq j i) [
        | inl s ↦ (
            let z : y ≡ x = same_of (sym own ∙ subst (λ q. row_at (set rs i y) q ≡ Some x) s there) in
            let k = h.each i r at in
            subst (λ q. HoldsRow p q x) (sym s) (subst (HoldsRow p i) z (record {
              there = subst (λ n. place_of p i n ≤ length p.numbers) (sym er) k.there;
              within = (let a = k.within in let b = ap length en in omega (arith, a, b, er));
              both = (let a = k.both in let b = ap length en in let c = ap length em in omega (arith, a, b, c));
              numbers = subst (λ ns. (k : ℕ) → k < length ns → get_or p.numbers (place_of p i k) (pos 0) ≡ get_or ns k (pos 0)) (sym en)
                  k.numbers;
              marks = (let q = k.marks in subst (λ (ns : List ℤ). (k : ℕ) → k < length ns → get_or p.marks (place_of p i k) no_marks
                  ≡ get_or y.marks k no_marks) (sym en) (subst (λ ms. (k : ℕ) → k < length r.numbers
                  → get_or p.marks (place_of p i k) no_marks ≡ get_or ms k no_marks) (sym em) q));
            })))
        | inr n ↦ h.each j x (sym (other_row rs i j y n) ∙ there)
      ];
      both = h.both;
      apart = λ j x there l. elim (cases_eq j i) [
        | inl s ↦ (
            let z : y ≡ x = same_of (sym own ∙ subst (λ q. row_at (set rs i y) q ≡ Some x) s there) in
            let a = h.apart i r at (omega (arith, l, s, wide)) in
            let b : x.room ≡ r.room = ap (λ (q : IterationRow M). q.room) (sym z) ∙ er in
            omega (arith, a, b))
        | inr n ↦ h.apart j x (sym (other_row rs i j y n) ∙ there) (omega (arith, l, wide))
      ];
      next = λ l. (let a = h.next l in rw wide a);
    }

-- the same of a row that is known by an equation
pub places_same : {M : Type 0} → (rs : List (IterationRow M)) (p : PlaceTable) (i : ℕ) (r y z : IterationRow M) → row_at rs i ≡ Some r
    → y ≡ z → z.numbers ≡ r.numbers → z.marks ≡ r.marks → z.room ≡ r.room → HoldsRows rs p → HoldsRows (set rs i y) p
places_same {M} rs p i r y z at e en em er h = places_kept rs p i r y at (ap (λ (x : IterationRow M). x.numbers) e ∙ en)
    (ap (λ (x : IterationRow M). x.marks) e ∙ em) (ap (λ (x : IterationRow M). x.room) e ∙ er) h

-- an instance starts, and its place gets its number and marks
pub places_entered : {M : Type 0} → (rs : List (IterationRow M)) (p : PlaceTable) (i : ℕ) (r : IterationRow M) (n : ℤ) (m : Marks)
    → row_at rs i ≡ Some r → length r.numbers < r.room → HoldsRows rs p
    → HoldsRows (set rs i (with_instance n m r)) (with_place (place_of p i (length r.numbers)) n m p)
places_entered {M} rs p i r n m at free h =
    let y = with_instance n m r in
    let c = length r.numbers in
    let at_place = place_of p i c in
    let q = with_place at_place n m p in
    let k = h.each i r at in
    let wide : length (set rs i y) ≡ length rs = length-set rs i y in
    let own : row_at (set rs i y) i ≡ Some y = row_at_set rs i y (row_at_within rs i r at) in
    let as_long : length q.numbers ≡ length p.numbers = length-set p.numbers at_place n in
    let as_long_2 : length q.marks ≡ length p.marks = length-set p.marks at_place m in
    let inside : at_place < length p.numbers = (let a = k.there in omega (arith, a, free)) in
    let inside_2 : at_place < length p.marks = (let b = h.both in omega (arith, inside, b)) in
    let more : length (r.numbers ++ n ∷ []) ≡ c + 1 = length_push r.numbers n in
    let more_2 : length (r.marks ++ m ∷ []) ≡ length r.marks + 1 = length_push r.marks m in
    let even : length r.marks ≡ c = k.both in
    let mine : HoldsRow q i y = record {
      there = (let a = k.there in omega (arith, a, as_long));
      within = omega (arith, more, free);
      both = omega (arith, more, more_2, even);
      numbers = λ j l. elim (cases_eq j c) [
        | inl s ↦ rw s (get_or-set_same p.numbers at_place n (pos 0) inside ∙ sym (get_or_push r.numbers n (pos 0) c refl))
        | inr o ↦ (
            let less : j < c = omega (arith, l, more, o) in
            get_or-set_other p.numbers at_place (place_of p i j) n (pos 0) (λ e. (omega (arith, e, o)))
            ∙ (k.numbers j less ∙ sym (get_or_append_left r.numbers (n ∷ []) (pos 0) j less)))
      ];
      marks = λ j l. elim (cases_eq j c) [
        | inl s ↦ rw s (get_or-set_same p.marks at_place m no_marks inside_2
            ∙ sym (get_or_push r.marks m no_marks c even))
        | inr o ↦ (
            let less : j < c = omega (arith, l, more, o) in
            get_or-set_other p.marks at_place (place_of p i j) m no_marks (λ e. (omega (arith, e, o)))
            ∙ (k.marks j less ∙ sym (get_or_append_left r.marks (m ∷ []) no_marks j (omega (arith, less, even)))))
      ];
    } in record {
      each = λ j x there. elim (cases_eq j i) [
        | inl s ↦ (
            let z : y ≡ x = same_of (sym own ∙ subst (λ w. row_at (set rs i y) w ≡ Some x) s there) in
            subst (λ w. HoldsRow q w x) (sym s) (subst (HoldsRow q i) z mine))
        | inr o ↦ (
            let was : row_at rs j ≡ Some x = sym (other_row rs i j y o) ∙ there in
            let w = h.each j x was in
            let differs : (l : ℕ) → l < length x.numbers → place_of p j l ≢ at_place = λ l less.
            (let b = w.within in other_place rs p i j c l r x h at was free (omega (arith, less, b)) o) in record {
              there = (let a = w.there in omega (arith, a, as_long));
              within = w.within;
              both = w.both;
              numbers = λ l less. get_or-set_other p.numbers at_place (place_of p j l) n (pos 0) (differs l less) ∙ w.numbers l less;
              marks = λ l less. get_or-set_other p.marks at_place (place_of p j l) m no_marks (differs l less) ∙ w.marks l less;
            })
      ];
      both = (let b = h.both in omega (arith, b, as_long, as_long_2));
      apart = λ j x there l. elim (cases_eq j i) [
        | inl s ↦ (
            let z : y ≡ x = same_of (sym own ∙ subst (λ w. row_at (set rs i y) w ≡ Some x) s there) in
            let a = h.apart i r at (omega (arith, l, s, wide)) in
            let b : x.room ≡ r.room = ap (λ (w : IterationRow M). w.room) (sym z) in
            omega (arith, a, b))
        | inr o ↦ h.apart j x (sym (other_row rs i j y o) ∙ there) (omega (arith, l, wide))
      ];
      next = λ l. (let a = h.next l in let b : length q.numbers ≡ length rs * p.stages = as_long ∙ a in rw wide b);
    }

-- ---- an iteration begins

-- the row of the next iteration
pub row_at_end : {M : Type 0} → (rs : List (IterationRow M)) (y : IterationRow M) → row_at (rs ++ y ∷ []) (length rs) ≡ Some y
row_at_end [] y = refl
row_at_end (r ∷ rs) y = row_at_end rs y

-- places for it are added
pub places_added : {M : Type 0} → (rs : List (IterationRow M)) (p q : PlaceTable) (c : ℕ) → p.spare ≡ q.spare ++ c ∷ []
    → q.numbers ≡ p.numbers ++ replicate c (pos 0) → q.marks ≡ p.marks ++ replicate c no_marks → q.stages ≡ p.stages
    → (0 < length q.spare → c ≡ p.stages) → HoldsRows rs p → HoldsRows (rs ++ empty_row c ∷ []) q
places_added {M} rs p q c es en em et full h =
    let fewer : length p.spare ≡ length q.spare + 1 = ap length es ∙ length_push q.spare c in
    let some : 0 < length p.spare = omega (arith, fewer) in
    let start : length p.numbers ≡ length rs * p.stages = h.next some in
    let wide : length (rs ++ empty_row {M = M} c ∷ []) ≡ length rs + 1 = length_push rs (empty_row c) in
    let long : length q.numbers ≡ length p.numbers + c =
    ap length en ∙ (length-append p.numbers (replicate c (pos 0)) ∙ ap (λ z. length p.numbers + z) (length-replicate c (pos 0))) in
    let long_2 : length q.marks ≡ length p.marks + c =
    ap length em ∙ (length-append p.marks (replicate c no_marks) ∙ ap (λ z. length p.marks + z) (length-replicate c no_marks)) in
    let last : (j : ℕ) (x : IterationRow M) → row_at (rs ++ empty_row c ∷ []) j ≡ Some x → j ≢ length rs → j < length rs = λ j x there n.
    (let w = row_at_within (rs ++ empty_row c ∷ []) j x there in omega (arith, w, wide, n)) in record {
      each = λ j x there. elim (cases_eq j (length rs)) [
        | inl s ↦ (
            let z : empty_row c ≡ x =
            same_of (sym (row_at_end rs (empty_row c)) ∙ subst (λ w. row_at (rs ++ empty_row c ∷ []) w ≡ Some x) s there) in
            subst (λ w. HoldsRow q w x) (sym s) (subst (HoldsRow q (length rs)) z (record {
              there = rw et (omega (arith, start, long));
              within = omega arith;
              both = refl;
              numbers = λ k l. absurd (omega (arith, l));
              marks = λ k l. absurd (omega (arith, l));
            })))
        | inr n ↦ (
            let less = last j x there n in
            let w = h.each j x (sym (earlier_row rs (empty_row c) j less) ∙ there) in record {
              there = rw et (let a = w.there in omega (arith, a, long));
              within = w.within;
              both = w.both;
              numbers = λ k l. rw (et, en) (get_or_append_left p.numbers (replicate c (pos 0)) (pos 0) (place_of p j k)
                  (let a = w.there in let b = w.within in omega (arith, a, b, l)) ∙ w.numbers k l);
              marks = λ k l. rw (et, em) (get_or_append_left p.marks (replicate c no_marks) no_marks (place_of p j k)
                  (let a = w.there in let b = w.within in let d = h.both in omega (arith, a, b, l, d)) ∙ w.marks k l);
            })
      ];
      both = (let b = h.both in omega (arith, b, long, long_2));
      apart = λ j x there l. elim (cases_eq j (length rs)) [
        | inl s ↦ (
            let z : empty_row c ≡ x =
            same_of (sym (row_at_end rs (empty_row c)) ∙ subst (λ w. row_at (rs ++ empty_row c ∷ []) w ≡ Some x) s there) in
            let e : x.room ≡ c = ap (λ (w : IterationRow M). w.room) (sym z) in
            let f = full (omega (arith, l, s, wide)) in
            omega (arith, e, f, et))
        | inr n ↦ (
            let less = last j x there n in
            let a = h.apart j x (sym (earlier_row rs (empty_row c) j less) ∙ there) (omega (arith, l, wide, fewer)) in
            omega (arith, a, et))
      ];
      next = λ l. (
          let f = full l in
          let a : length q.numbers ≡ length rs * p.stages + p.stages = omega (arith, long, start, f) in
          let b : (length rs + 1) * p.stages ≡ length rs * p.stages + p.stages = omega arith in
          rw (wide, et) (a ∙ sym b));
    }

-- its instance 0 starts
pub places_begun : {M : Type 0} → (rs : List (IterationRow M)) (p q : PlaceTable) (c : ℕ) (m : Marks) → p.spare ≡ q.spare ++ c ∷ []
    → q.numbers ≡ p.numbers ++ replicate c (pos 0) → q.marks ≡ p.marks ++ replicate c no_marks → q.stages ≡ p.stages
    → (0 < length q.spare → c ≡ p.stages) → 0 < c → HoldsRows rs p
    → HoldsRows (rs ++ with_instance (pos 0) m (empty_row c) ∷ []) (with_place (place_of q (length rs) 0) (pos 0) m q)
places_begun {M} rs p q c m es en em et full some h =
    subst (λ xs. HoldsRows xs (with_place (place_of q (length rs) 0) (pos 0) m q))
    (set-append_seam rs (empty_row c) [] (with_instance (pos 0) m (empty_row c)))
    (places_entered (rs ++ empty_row c ∷ []) q (length rs) (empty_row c) (pos 0) m (row_at_end rs (empty_row c)) some
    (places_added rs p q c es en em et full h))

-- no rows yet
pub places_none : {M : Type 0} → (p : PlaceTable) → p.numbers ≡ [] → p.marks ≡ [] → HoldsRows {M = M} [] p
places_none {M} p en em = record {
  each = λ i r at. absurd (let z : None ≡ Some r = at in cc);
  both = ap length em ∙ sym (ap length en);
  apart = λ i r at. absurd (let z : None ≡ Some r = at in cc);
  next = λ l. (let a = ap length en in let b : length {A = IterationRow M} [] * p.stages ≡ 0 = omega arith in omega (arith, a, b));
}
