-- What a question does not change, by an identity of a borrow and of two lists.
use Rattle.std.proofs.Common.{◌≡◌, ℕ, List, [], ◌∷◌, get_or, ap}
use Rattle.pipe_frame.specs.Ties.{SeenLists}
use Rattle.order_2d.specs.SeenOrders.{AreSameLists, question_identity}

pub same_lists : {m n : ℕ} {p q : SeenLists} → question_identity m p ≡ question_identity n q → AreSameLists p q
same_lists {m} {n} {p} {q} e = record {
  down = ap (λ (xs : List (List ℕ)). get_or xs 1 []) e;
  right = ap (λ (xs : List (List ℕ)). get_or xs 2 []) e;
}

pub same_identities : (a b c d e f : List ℕ) → ◌≡◌ {A = List (List ℕ)} (a ∷ (b ∷ (c ∷ []))) (d ∷ (e ∷ (f ∷ []))) → (b ≡ e) × (c ≡ f)
same_identities a b c d e f h = (cc, cc)

pub same_name : (a d : ℕ) (b c e f : List ℕ) → ◌≡◌ {A = List (List ℕ)} ((a ∷ []) ∷ (b ∷ (c ∷ []))) ((d ∷ []) ∷ (e ∷ (f ∷ []))) → a ≡ d
same_name a d b c e f h = cc
