-- What the histories of a shard report, slot by slot.
use Rattle.std.proofs.Common.{◌≡◌, ◌∙◌, sym, ap, subst, ℕ, zero, suc, ◌+◌, ◌*◌, ◌<◌, ◌%◌, ◌/◌, List, [], ◌∷◌, length, AllPairs, Contains}
use Rattle.std.proofs.Common.{Option, Some, None, arith, inl, inr}
use Rattle.std.proofs.lemmas.Bool.{cases_lt}
use Rattle.std.proofs.lemmas.List.{get_or_past}
use Rattle.std.proofs.lemmas.List.Elements.{Contains-append_cases, Contains-append_left, Contains-append_right}
use Rattle.std.proofs.lemmas.Nat.{div-add-mod', div-mul-add, mod-mul-add}
use Rattle.access_history.specs.declared.history.Found.{Found}
use Rattle.access_history.specs.declared.history.History.{History}
use Rattle.pipe_model.specs.declared.access.CellId.{CellId}
use Rattle.race_detection.specs.NotedRuns.{found_of, history_at}
use Rattle.hall_laws.specs.HallReports.{SlotsAreFound, cell_of, found_in_slots}
use Rattle.hall_laws.proofs.JoinedLists.{pairs_join}

-- the slot of a race, counted from the first slot of the list
record IsInSlot (width k slot : ℕ) (histories : List History) (c : ℕ) (f : Found) : Type 0 where
  pub number : ℕ
  pub cell : c ≡ (slot + number) * width + k
  pub within : number < length histories
  pub report : (history_at histories number).report ≡ Some f

in_one : (n : ℕ) (o : Option Found) (c : ℕ) (f : Found) → Contains (found_of n o) (cell_of c, f) → (c ≡ n) × (o ≡ Some f)
in_one n None c f m = absurd (let w = m.1 in omega (arith, w))
in_one n (Some g) c f (zero, w, e) = (ap (λ (x : CellId × Found). x.0.0) (sym e), ap (λ (x : CellId × Found). Some x.1) e)
in_one n (Some g) c f (suc j, w, e) = absurd (omega (arith, w))

module _ (width k : ℕ) where
  each : (histories : List History) (slot c : ℕ) (f : Found) → Contains (found_in_slots width k slot histories) (cell_of c, f)
      → IsInSlot width k slot histories c f
  each [] slot c f m = absurd (let w = m.1 in omega (arith, w))
  each (h ∷ hs) slot c f m = elim (Contains-append_cases (found_of (slot * width + k) h.report) (found_in_slots width k (suc slot) hs)
      (cell_of c, f) m) [
        | inl a ↦ (
            let q = in_one (slot * width + k) h.report c f a in
            let z : slot * width + k ≡ (slot + 0) * width + k = (let e : slot ≡ slot + 0 = omega arith in ap (λ n. n * width + k) e) in
            record { number = 0; cell = q.0 ∙ z; within = omega arith; report = q.1 })
        | inr a ↦ (
            let q = each hs (suc slot) c f a in
            let z : (suc slot + q.number) * width + k ≡ (slot + suc q.number) * width + k =
            (let e : suc slot + q.number ≡ slot + suc q.number = omega arith in ap (λ n. n * width + k) e) in
            let w = q.within in
            record { number = suc q.number; cell = q.cell ∙ z; within = omega (arith, w); report = q.report })
      ]

  here : (n : ℕ) (o : Option Found) (f : Found) → o ≡ Some f → Contains (found_of n o) (cell_of n, f)
  here n None f e = absurd (cc)
  here n (Some g) f e = (0, omega arith, (let same : g ≡ f = cc in λ i. (cell_of n, same i)))

  all : (histories : List History) (slot number : ℕ) (f : Found) → number < length histories → (history_at histories number).report ≡ Some f
      → Contains (found_in_slots width k slot histories) (cell_of ((slot + number) * width + k), f)
  all [] slot number f l e = absurd (omega (arith, l))
  all (h ∷ hs) slot zero f l e =
      let z : slot ≡ slot + 0 = omega arith in
      Contains-append_left (found_of (slot * width + k) h.report) (found_in_slots width k (suc slot) hs)
      (cell_of ((slot + 0) * width + k), f)
      (subst (λ n. Contains (found_of (slot * width + k) h.report) (cell_of (n * width + k), f)) z (here (slot * width + k) h.report f e))
  all (h ∷ hs) slot (suc n) f l e =
      let z : suc slot + n ≡ slot + suc n = omega arith in
      Contains-append_right (found_of (slot * width + k) h.report) (found_in_slots width k (suc slot) hs)
      (cell_of ((slot + suc n) * width + k), f)
      (subst (λ m. Contains (found_in_slots width k (suc slot) hs) (cell_of (m * width + k), f)) z
      (all hs (suc slot) n f (omega (arith, l)) e))

  one_rises : (n : ℕ) (o : Option Found) → AllPairs (λ (a : CellId × Found) (b : CellId × Found). a.0.0 < b.0.0) (found_of n o)
  one_rises n None = λ i j d l w. absurd (omega (arith, w))
  one_rises n (Some g) = λ i j d l w. absurd (omega (arith, l, w))

  rise : 0 < width → (histories : List History) (slot : ℕ) → AllPairs (λ (a : CellId × Found) (b : CellId × Found). a.0.0 < b.0.0)
      (found_in_slots width k slot histories)
  rise some [] slot = λ i j d l w. absurd (omega (arith, w))
  rise some (h ∷ hs) slot =
      pairs_join (λ a b. a.0.0 < b.0.0) (found_of (slot * width + k) h.report) (found_in_slots width k (suc slot) hs)
      (one_rises (slot * width + k) h.report)
      (rise some hs (suc slot))
      (λ x y m n. (
      let p = (in_one (slot * width + k) h.report x.0.0 x.1 m).0 in
      let q = (each hs (suc slot) y.0.0 y.1 n) in
      let cell = q.cell in
      omega (arith, p, cell, some)))

pub slots_are_found : SlotsAreFound
slots_are_found width k histories history less is = record {
  each = λ c f m. (
      let q = each width k histories 0 c f m in
      let z : 0 + q.number ≡ q.number = omega arith in
      let cell : c ≡ q.number * width + k = q.cell ∙ ap (λ n. n * width + k) z in
      let own : c % width ≡ k = ap (λ n. n % width) cell ∙ mod-mul-add q.number width k less in
      let slot : c / width ≡ q.number = ap (λ n. n / width) cell ∙ div-mul-add q.number width k less in
      (own, ap (λ (h : History). h.report) (is c own ∙ ap (history_at histories) slot) ∙ q.report));
  all = λ c f own e. (
      let slot = c / width in
      let report : (history_at histories slot).report ≡ Some f = ap (λ (h : History). h.report) (sym (is c own)) ∙ e in
      let parts = div-add-mod' c width in
      let cell : (0 + slot) * width + k ≡ c = omega (arith, parts, own) in
      elim (cases_lt slot (length histories)) [
        | inl within ↦ subst (λ n. Contains (found_in_slots width k 0 histories) (cell_of n, f)) cell
            (all width k histories 0 slot f within report)
        | inr past ↦ (
            let none : None ≡ Some f = sym (ap (λ (h : History). h.report) (get_or_past histories slot _ past)) ∙ report in
            absurd (cc))
      ]);
  rise = rise width k (omega (arith, less)) histories 0;
}
