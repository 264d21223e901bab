-- The label that an insertion chooses (Bender et al. 2002), given by `xs`, the elements in the order of the list, and by
-- the label of each.
use Rattle.std.specs.Prelude.{◌≡◌, ◌≢◌, ℕ, ◌+◌, ◌-◌, ◌*◌, ◌/◌, ◌^◌, ◌<◌, ◌≤◌, List, [], ◌∷◌, ◌++◌, ◌==◌, if◌then◌else◌, length, slice_index}
use Rattle.std.specs.Prelude.{true}
use Rattle.pipe_model.specs.Orders.OrderList.{has}
use Rattle.om_relabel.specs.Ranges.{aligned, elements_within, most_in}

-- the label of the first element; 2^62 if there is none
abbrev pub first_label : List ℕ → List ℕ → ℕ
first_label [] labels = 2 ^ 62
first_label (y ∷ ys) labels = slice_index labels y

-- the label of the element after x; 2^62 if x is the last
abbrev pub next_label : List ℕ → List ℕ → ℕ → ℕ
next_label [] labels x = 2 ^ 62
next_label (y ∷ ys) labels x = if y == x then first_label ys labels else next_label ys labels x

-- a label between the labels of x and of the next element is free
abbrev pub IsFreeAfter : List ℕ → List ℕ → ℕ → Type 0
IsFreeAfter xs labels x = slice_index labels x + 2 ≤ next_label xs labels x

-- the label in the middle between the labels of x and of the next element, rounded down
abbrev pub middle_after : List ℕ → List ℕ → ℕ → ℕ
middle_after xs labels x = slice_index labels x + (next_label xs labels x - slice_index labels x) / 2

-- the elements whose labels are in the aligned range of 2^bits labels around the label of x
abbrev pub around : List ℕ → List ℕ → ℕ → ℕ → List ℕ
around xs labels x bits =
    let low : ℕ = aligned (slice_index labels x) bits in
    elements_within (λ y. slice_index labels y) low (low + 2 ^ bits) xs

-- the elements of the smallest sparse range of labels around x are spread evenly over it, and all others keep their
-- labels
pub record IsRelabelled (xs labels : List ℕ) (x : ℕ) (new : List ℕ) : Type 0 where
  pub bits : ℕ
  pub some : 1 ≤ bits
  pub bounded : bits ≤ 62
  pub sparse : length (around xs labels x bits) ≤ most_in bits
  pub least : (fewer : ℕ) → 1 ≤ fewer → fewer < bits → ¬ (length (around xs labels x fewer) ≤ most_in fewer)
  pub spread : (k : ℕ) → k < length (around xs labels x bits)
      → slice_index new (slice_index (around xs labels x bits) k)
      ≡ aligned (slice_index labels x) bits + k * (2 ^ bits / length (around xs labels x bits))
  pub others : (y : ℕ) → has y (around xs labels x bits) ≢ true → slice_index new y ≡ slice_index labels y
  pub long : length new ≡ length labels

-- labels are moved only if none is free after x
pub record HasMadeRoom (xs labels : List ℕ) (x : ℕ) (new : List ℕ) : Type 0 where
  pub free : IsFreeAfter xs labels x → new ≡ labels
  pub crowded : ¬ IsFreeAfter xs labels x → IsRelabelled xs labels x new

-- the new element gets the label in the middle, after room was made for it
pub record HasChosenLabel (xs labels : List ℕ) (x : ℕ) (new : List ℕ) : Type 0 where
  pub before : List ℕ
  pub room : HasMadeRoom xs labels x before
  pub middle : new ≡ before ++ middle_after xs before x ∷ []
