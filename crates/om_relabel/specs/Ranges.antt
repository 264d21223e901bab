-- Ranges of labels, and the elements whose labels are in them.
use Rattle.std.specs.Prelude.{ℕ, ◌+◌, ◌*◌, ◌/◌, ◌^◌, ◌≤◌, List, [], ◌∷◌, ◌&&◌, if◌then◌else◌, nat_le, nat_lt, length}
use Rattle.om_relabel.specs.declared.label_range.LabelRange.{LabelRange}
use Rattle.om_relabel.specs.declared.links.Links.{Links}
use Rattle.om_relabel.specs.LabelledLinks.{elements, label_of}

-- the elements whose labels are at least `low` and below `end`
abbrev pub elements_within : (ℕ → ℕ) → ℕ → ℕ → List ℕ → List ℕ
elements_within label low end [] = []
elements_within label low end (x ∷ xs) =
    if nat_le low (label x) && nat_lt (label x) end then x ∷ elements_within label low end xs else elements_within label low end xs

-- the least label of the aligned range of 2^bits labels around a label
abbrev pub aligned : ℕ → ℕ → ℕ
aligned label bits = label / 2 ^ bits * 2 ^ bits

-- the elements whose labels are in the aligned range of 2^bits labels around the label of x
abbrev pub elements_around : Links → ℕ → ℕ → List ℕ
elements_around links x bits =
    elements_within (label_of links) (aligned (label_of links x) bits) (aligned (label_of links x) bits + 2 ^ bits) (elements links)

-- a range of 2^bits labels is sparse if it has at most this many elements
abbrev pub most_in : ℕ → ℕ
most_in bits = 2 ^ (2 * bits / 3)

abbrev pub IsSparse : Links → ℕ → ℕ → Type 0
IsSparse links x bits = length (elements_around links x bits) ≤ most_in bits

-- the elements of a range
abbrev pub elements_of : Links → LabelRange → List ℕ
elements_of links range = elements_within (label_of links) range.low (range.low + 2 ^ range.bits) (elements links)

-- the label of element k of a range: the elements are spread evenly
abbrev pub spread_label : LabelRange → ℕ → ℕ
spread_label range k = range.low + k * (2 ^ range.bits / range.count)

-- how many elements have labels that are at least `low` and below `end`
abbrev pub count_within : Links → ℕ → ℕ → ℕ
count_within links low end = length (elements_within (label_of links) low end (elements links))
