-- The accesses to a cell, among all accesses of a run: which access is at an index, and at which index an access is.
use Rattle.pipe_model.specs.Races.CellRaces.{NotedAccess, access_at, accesses_to, noted_access}
use Rattle.pipe_model.specs.Races.DeterminacyRaces.{Among, Here, Later}
use Rattle.pipe_model.specs.declared.access.CellId.{CellId}
use Rattle.pipe_model.specs.declared.access.NodeAccess.{NodeAccess}
use Rattle.pipe_model.proofs.Members.{among_right}
use Rattle.std.proofs.Common.{subst, ℕ, List, ◌++◌, ◌≡◌, ◌∷◌, Bool, eqb, length, cond, ◌<◌, true, zero, refl, [], suc, arith, ap}
use Rattle.std.proofs.Common.{false, ◌∙◌, sym}
use Rattle.std.proofs.lemmas.Bool.{eqb-true, eq-eqb}

-- an access as its history notes it
abbrev pub noted_of : NodeAccess → NotedAccess
noted_of a = noted_access a.node a.access.kind

-- the cell with this number
abbrev pub cell_id : ℕ → CellId
cell_id c = record { 0 = c }

-- the access of the run at an index of a cell's accesses
pub record IsPlacedAccess (cell : ℕ) (xs : List NodeAccess) (noted : List NotedAccess) (n : ℕ) : Type 0 where
  pub front : List NodeAccess
  pub access : NodeAccess
  pub rest : List NodeAccess
  pub stands : xs ≡ front ++ access ∷ rest
  pub at_cell : access.access.cell.0 ≡ cell
  pub is : access_at noted n ≡ noted_of access

-- `one_place`, by whether the first access is to the cell
one_place_by : (cell : ℕ) (x : NodeAccess) (xs : List NodeAccess) (noted : List NotedAccess) (t : Bool)
    → eqb x.access.cell.0 cell ≡ t → (n : ℕ) → n < length (cond t (noted_of x ∷ noted) noted)
    → ((m : ℕ) → m < length noted → IsPlacedAccess cell xs noted m)
    → IsPlacedAccess cell (x ∷ xs) (cond t (noted_of x ∷ noted) noted) n
one_place_by cell x xs noted true e zero l ih = record {
  front = [];
  access = x;
  rest = xs;
  stands = refl;
  at_cell = eqb-true x.access.cell.0 cell e;
  is = refl;
}
one_place_by cell x xs noted true e (suc n) l ih =
    let h = ih n (omega (arith, l)) in
    record {
      front = x ∷ h.front;
      access = h.access;
      rest = h.rest;
      stands = ap (λ l. x ∷ l) h.stands;
      at_cell = h.at_cell;
      is = h.is;
    }
one_place_by cell x xs noted false e n l ih =
    let h = ih n l in
    record {
      front = x ∷ h.front;
      access = h.access;
      rest = h.rest;
      stands = ap (λ l. x ∷ l) h.stands;
      at_cell = h.at_cell;
      is = h.is;
    }

-- each index of a cell's accesses has an access of the run
pub one_place : (cell : ℕ) (xs : List NodeAccess) (n : ℕ) → n < length (accesses_to cell xs)
    → IsPlacedAccess cell xs (accesses_to cell xs) n
one_place cell [] n l = absurd (omega (arith, l))
one_place cell (x ∷ xs) n l =
    one_place_by cell x xs (accesses_to cell xs) (eqb x.access.cell.0 cell) refl n l (one_place cell xs)

-- the access at an index is an access of the run
pub placed_among : {cell : ℕ} {xs : List NodeAccess} {noted : List NotedAccess} {n : ℕ}
    (h : IsPlacedAccess cell xs noted n) → Among h.access xs
placed_among h = subst (λ l. Among h.access l) (sym h.stands) (among_right h.access h.front (h.access ∷ h.rest) Here)

-- the accesses of the run at two indices of a cell's accesses
pub record ArePlacedAccesses (cell : ℕ) (xs : List NodeAccess) (noted : List NotedAccess) (n k : ℕ) : Type 0 where
  pub front : List NodeAccess
  pub earlier : NodeAccess
  pub between : List NodeAccess
  pub later : NodeAccess
  pub rest : List NodeAccess
  pub stands : xs ≡ front ++ earlier ∷ (between ++ later ∷ rest)
  pub earlier_cell : earlier.access.cell.0 ≡ cell
  pub later_cell : later.access.cell.0 ≡ cell
  pub earlier_is : access_at noted k ≡ noted_of earlier
  pub later_is : access_at noted n ≡ noted_of later

-- two indices, with one more access before them
two_places_later : {cell : ℕ} {xs : List NodeAccess} {noted noted' : List NotedAccess} {n k n' k' : ℕ}
    (x : NodeAccess)
    → access_at noted' n' ≡ access_at noted n → access_at noted' k' ≡ access_at noted k
    → ArePlacedAccesses cell xs noted n k → ArePlacedAccesses cell (x ∷ xs) noted' n' k'
two_places_later x en ek h = record {
  front = x ∷ h.front;
  earlier = h.earlier;
  between = h.between;
  later = h.later;
  rest = h.rest;
  stands = ap (λ l. x ∷ l) h.stands;
  earlier_cell = h.earlier_cell;
  later_cell = h.later_cell;
  earlier_is = ek ∙ h.earlier_is;
  later_is = en ∙ h.later_is;
}

-- `two_places`, by whether the first access is to the cell
two_places_by : (cell : ℕ) (x : NodeAccess) (xs : List NodeAccess) (noted : List NotedAccess) (t : Bool)
    → eqb x.access.cell.0 cell ≡ t → (n k : ℕ) → k < n → n < length (cond t (noted_of x ∷ noted) noted)
    → ((m : ℕ) → m < length noted → IsPlacedAccess cell xs noted m)
    → ((m j : ℕ) → j < m → m < length noted → ArePlacedAccesses cell xs noted m j)
    → ArePlacedAccesses cell (x ∷ xs) (cond t (noted_of x ∷ noted) noted) n k
two_places_by cell x xs noted true e zero k w l one two = absurd (omega (arith, w))
two_places_by cell x xs noted true e (suc n) zero w l one two = let h = one n (omega (arith, l)) in record {
  front = [];
  earlier = x;
  between = h.front;
  later = h.access;
  rest = h.rest;
  stands = ap (λ l. x ∷ l) h.stands;
  earlier_cell = eqb-true x.access.cell.0 cell e;
  later_cell = h.at_cell;
  earlier_is = refl;
  later_is = h.is;
}
two_places_by cell x xs noted true e (suc n) (suc k) w l one two =
    two_places_later x refl refl (two n k (omega (arith, w)) (omega (arith, l)))
two_places_by cell x xs noted false e n k w l one two = two_places_later x refl refl (two n k w l)

-- each two indices of a cell's accesses have accesses of the run
pub two_places : (cell : ℕ) (xs : List NodeAccess) (n k : ℕ) → k < n → n < length (accesses_to cell xs)
    → ArePlacedAccesses cell xs (accesses_to cell xs) n k
two_places cell [] n k w l = absurd (omega (arith, l))
two_places cell (x ∷ xs) n k w l =
    two_places_by cell x xs (accesses_to cell xs) (eqb x.access.cell.0 cell) refl n k w l (one_place cell xs)
    (two_places cell xs)

-- the index of an access of the run among those to its cell
pub record IsPlaceOf (noted : List NotedAccess) (a : NodeAccess) : Type 0 where
  pub number : ℕ
  pub within : number < length noted
  pub is : access_at noted number ≡ noted_of a

-- the index of the first access, which is to the cell
place_here : (a : NodeAccess) (noted : List NotedAccess) (t : Bool) → t ≡ true
    → IsPlaceOf (cond t (noted_of a ∷ noted) noted) a
place_here a noted true e = record { number = 0; within = omega arith; is = refl }
place_here a noted false e = absurd (cc)

-- the index of a later access
place_later : (x a : NodeAccess) (noted : List NotedAccess) (t : Bool) → IsPlaceOf noted a
    → IsPlaceOf (cond t (noted_of x ∷ noted) noted) a
place_later x a noted true h =
    let l = h.within in
    record { number = suc h.number; within = omega (arith, l); is = h.is }
place_later x a noted false h = h

-- each access to the cell has an index
pub place_of : (cell : ℕ) (xs : List NodeAccess) (a : NodeAccess) → a.access.cell.0 ≡ cell → Among a xs
    → IsPlaceOf (accesses_to cell xs) a
place_of cell [] a e m = elim m [ ]
place_of cell (x ∷ xs) a e Here =
    place_here a (accesses_to cell xs) (eqb a.access.cell.0 cell) (eq-eqb a.access.cell.0 cell e)
place_of cell (x ∷ xs) a e (Later _ m) =
    place_later x a (accesses_to cell xs) (eqb x.access.cell.0 cell) (place_of cell xs a e m)
