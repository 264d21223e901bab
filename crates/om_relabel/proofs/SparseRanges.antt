-- Aligned ranges of labels, and how many elements sparse ones have.
use Rattle.std.proofs.Common.{◌≡◌, ℕ, suc, ◌+◌, ◌-◌, ◌*◌, ◌/◌, ◌^◌, ◌<◌, ◌≤◌, sym, ap, ◌∙◌, subst, arith}
use Rattle.std.proofs.Math.Nat.{add-mul, div-mul-le_self, lt-div-mul-add, lt_of_mul-lt-mul_right, mul-div-le, mul-le-mul_right}
use Rattle.std.proofs.Math.Nat.{pow-le-pow_right, two-pow-succ}
use Rattle.std.proofs.lemmas.Nat.{le-div, pow-add, pow_pos}
use Rattle.om_relabel.specs.declared.label_range.LabelRange.{LabelRange}
use Rattle.om_relabel.specs.declared.links.TheConstants.{LABEL_BITS, MOST_ELEMENTS, TOP}
use Rattle.om_relabel.specs.Ranges.{aligned, most_in, spread_label}

-- ---- aligned ranges

pub aligned_low : (label bits : ℕ) → aligned label bits ≤ label
aligned_low label bits = div-mul-le_self label (2 ^ bits)

pub aligned_high : (label bits : ℕ) → label < aligned label bits + 2 ^ bits
aligned_high label bits = lt-div-mul-add (pow_pos bits)

pub one_more_times : (k gap : ℕ) → (k + 1) * gap ≡ k * gap + gap
one_more_times k gap =
    let one : 1 * gap ≡ gap = omega arith in
    add-mul k 1 gap ∙ ap (λ m. k * gap + m) one

double : (k w : ℕ) → k * (w + w) ≡ (2 * k) * w
double k w = grind arith

-- a range is within the aligned range of twice its size
halves : (label w : ℕ) → 0 < w
    → (label / (w + w) * (w + w) ≤ label / w * w) × (label / w * w + w ≤ label / (w + w) * (w + w) + (w + w))
halves label w some =
    let q : ℕ = label / w in
    let r : ℕ = label / (w + w) in
    let q_low : q * w ≤ label = div-mul-le_self label w in
    let q_high : label < q * w + w = lt-div-mul-add some in
    let r_low : r * (w + w) ≤ label = div-mul-le_self label (w + w) in
    let r_high : label < r * (w + w) + (w + w) = lt-div-mul-add (omega (arith, some)) in
    let twice : r * (w + w) ≡ (2 * r) * w = double r w in
    let next_q = one_more_times q w in
    let next_r = one_more_times (2 * r) w in
    let next_r2 = one_more_times (2 * r + 1) w in
    let below : 2 * r < q + 1 = lt_of_mul-lt-mul_right w (omega (arith, twice, r_low, q_high, next_q)) in
    let above : q < (2 * r + 1) + 1 = lt_of_mul-lt-mul_right w (omega (arith, twice, r_high, q_low, next_r, next_r2)) in
    let low : (2 * r) * w ≤ q * w = mul-le-mul_right w (omega (arith, below)) in
    let high : (q + 1) * w ≤ ((2 * r + 1) + 1) * w = mul-le-mul_right w (omega (arith, above)) in
    (omega (arith, twice, low), omega (arith, twice, high, next_q, next_r, next_r2))

pub aligned_grows : (label bits : ℕ) → (aligned label (bits + 1) ≤ aligned label bits)
    × (aligned label bits + 2 ^ bits ≤ aligned label (bits + 1) + 2 ^ (bits + 1))
aligned_grows label bits =
    let one : bits + 1 ≡ suc bits = omega arith in
    let wide : 2 ^ (bits + 1) ≡ 2 ^ bits + 2 ^ bits = ap (λ n. 2 ^ n) one ∙ two-pow-succ bits in
    subst (λ (v : ℕ). (label / v * v ≤ aligned label bits) × (aligned label bits + 2 ^ bits ≤ label / v * v + v))
    (sym wide) (halves label (2 ^ bits) (pow_pos bits))

pub aligned_zero : (label : ℕ) → aligned label 0 ≡ label
aligned_zero label = grind arith

-- an aligned range of labels is within all labels
pub aligned_fits : (label bits : ℕ) → label < TOP → bits ≤ LABEL_BITS → aligned label bits + 2 ^ bits ≤ TOP
aligned_fits label bits below bounded =
    let w : ℕ = 2 ^ bits in
    let q : ℕ = label / w in
    let all : LABEL_BITS ≡ (LABEL_BITS - bits) + bits = omega (arith, bounded) in
    let parts : 2 ^ LABEL_BITS ≡ 2 ^ (LABEL_BITS - bits) * w = ap (λ n. 2 ^ n) all ∙ pow-add 2 (LABEL_BITS - bits) bits in
    let q_low : q * w ≤ label = div-mul-le_self label w in
    let less : q < 2 ^ (LABEL_BITS - bits) = lt_of_mul-lt-mul_right w (omega (arith, q_low, below, parts)) in
    let next = one_more_times q w in
    let high : (q + 1) * w ≤ 2 ^ (LABEL_BITS - bits) * w = mul-le-mul_right w (omega (arith, less)) in
    omega (arith, high, next, parts)

-- ---- sparse ranges

-- there is room for twice as many
pub twice_fits : (bits : ℕ) → 1 ≤ bits → 2 * most_in bits ≤ 2 ^ bits
twice_fits bits some =
    let third : suc (2 * bits / 3) ≤ bits = omega (arith, some) in
    let wide = two-pow-succ (2 * bits / 3) in
    let fits = pow-le-pow_right {n = 2} (omega arith) third in
    omega (arith, wide, fits)

-- the range of all labels is sparse
pub all_sparse : (bits n : ℕ) → LABEL_BITS ≤ bits → n ≤ MOST_ELEMENTS → n ≤ most_in bits
all_sparse bits n wide bounded =
    let many : 21 ≤ 2 * bits / 3 = omega (arith, wide) in
    let fits = pow-le-pow_right {n = 2} (omega arith) many in
    omega (arith, bounded, fits)

-- ---- the distance between new labels

pub gap_is_two : (count bits : ℕ) → 0 < count → 1 ≤ bits → count ≤ most_in bits → 2 ≤ 2 ^ bits / count
gap_is_two count bits some wide sparse =
    let twice = twice_fits bits wide in
    le-div 2 (2 ^ bits) count some (omega (arith, twice, sparse))

-- each label but the last is at least 2 below the next, and the last at least 2 below the end
pub spread_apart : (range : LabelRange) → 1 ≤ range.bits → range.count ≤ most_in range.bits
    → (j k : ℕ) → j < k → k < range.count → spread_label range j + 2 ≤ spread_label range k
spread_apart range wide sparse j k l m =
    let gap : ℕ = 2 ^ range.bits / range.count in
    let two = gap_is_two range.count range.bits (omega (arith, m)) wide sparse in
    let next = one_more_times j gap in
    let rise : (j + 1) * gap ≤ k * gap = mul-le-mul_right gap (omega (arith, l)) in
    omega (arith, two, next, rise)

pub spread_end : (range : LabelRange) → 1 ≤ range.bits → range.count ≤ most_in range.bits
    → (k : ℕ) → k < range.count → spread_label range k + 2 ≤ range.low + 2 ^ range.bits
spread_end range wide sparse k l =
    let gap : ℕ = 2 ^ range.bits / range.count in
    let two = gap_is_two range.count range.bits (omega (arith, l)) wide sparse in
    let next = one_more_times k gap in
    let rise : (k + 1) * gap ≤ range.count * gap = mul-le-mul_right gap (omega (arith, l)) in
    let all : range.count * gap ≤ 2 ^ range.bits = mul-div-le (2 ^ range.bits) range.count in
    omega (arith, two, next, rise, all)
