-- Each generated input is read as its items.
use Rattle.workload_laws.proofs.DecimalValues.{decimal_value}
use Rattle.std.proofs.Common.{◌≡◌, ◌∙◌, ap, sym, subst, refl, ℕ, zero, suc, pos, ◌+◌, ◌*◌, ◌%◌, ◌<◌, ◌≤◌, List, [], ◌++◌, length}
use Rattle.std.proofs.Common.{length-append, All, arith, append_assoc, append-nil, codes}
use Rattle.std.specs.Fmt.{decimal}
use Rattle.std.proofs.lemmas.Int.{ints}
use Rattle.std.proofs.lemmas.Fmt.{length-decimal-le}
use Rattle.pipe_gen.specs.Choices.{choice}
use Rattle.pipe_gen.specs.Workload.{input_text, item, number_line}
use Rattle.pipe_io.specs.InputFile.{AreNumbersOf, FitsI64, ListsNumbers, Number, Separator, EndsHere}
use Rattle.workload_laws.specs.GeneratedNumbers.{items_from}

-- an item is below 1000
item_small : (seed k : ℕ) → item seed k < 1000
item_small seed k = let c = choice seed k in let small : c % 1000 < 1000 = omega arith in small

-- item k on a line
abbrev line : ℕ → ℕ → List ℕ
line seed k = number_line (item seed k)

-- `count` lines, beginning with the line of item j
abbrev lines_from : (seed j count : ℕ) → List ℕ
lines_from seed j zero = []
lines_from seed j (suc n) = line seed j ++ lines_from seed (suc j) n

-- one more line at the end
one_more_line : (seed j n : ℕ) → lines_from seed j (suc n) ≡ lines_from seed j n ++ line seed (j + n)
one_more_line seed j zero = let here : j + 0 ≡ j = omega arith in rw here (append-nil (line seed j))
one_more_line seed j (suc n) =
    let next : suc j + n ≡ j + suc n = omega arith in
    ap (λ x. line seed j ++ x) (one_more_line seed (suc j) n ∙ ap (λ k. lines_from seed (suc j) n ++ line seed k) next)
    ∙ sym (append_assoc (line seed j) (lines_from seed (suc j) n) (line seed (j + suc n)))

-- the input is its lines, beginning with the first
lines_are : (seed n : ℕ) → input_text seed n ≡ lines_from seed 1 n
lines_are seed zero = refl
lines_are seed (suc n) =
    let next : suc n ≡ 1 + n = omega arith in
    ap (λ x. x ++ line seed (suc n)) (lines_are seed n) ∙ ap (λ k. lines_from seed 1 n ++ line seed k) next ∙ sym (one_more_line seed 1 n)

-- the lines list their items
lines_listed : (seed j n : ℕ) → ListsNumbers (lines_from seed j n) (items_from seed j n) []
lines_listed seed j zero = EndsHere []
lines_listed seed j (suc n) =
    let small = item_small seed j in
    subst (λ x. ListsNumbers x (items_from seed j (suc n)) [])
    (sym (append_assoc (decimal (item seed j)) (codes "\n") (lines_from seed (suc j) n)))
    (Number (decimal (item seed j)) (pos (item seed j)) (decimal_value (item seed j) (omega (arith, small))) refl
    (Separator 10 refl (lines_listed seed (suc j) n)))

-- the lines are short, few, and their items narrow
lines_short : (seed j n : ℕ) → length (lines_from seed j n) ≤ 4 * n
lines_short seed j zero = omega arith
lines_short seed j (suc n) =
    let small = item_small seed j in
    let d : length (decimal (item seed j)) ≤ 3 = length-decimal-le 3 (item seed j) (omega arith) (omega (arith, small))
    (omega (arith, small)) in
    let rest = lines_short seed (suc j) n in
    let whole = length-append (line seed j) (lines_from seed (suc j) n) in
    let here = length-append (decimal (item seed j)) (codes "\n") in
    omega (arith, d, rest, whole, here)

items_count : (seed j n : ℕ) → length (items_from seed j n) ≡ n
items_count seed j zero = refl
items_count seed j (suc n) = ap suc (items_count seed (suc j) n)

items_fit : (seed j n : ℕ) → All FitsI64 (items_from seed j n)
items_fit seed j zero k d lt = absurd (omega arith)
items_fit seed j (suc n) zero d lt = let small = item_small seed j in (omega (arith, ints, small), omega (arith, ints, small))
items_fit seed j (suc n) (suc k) d lt = items_fit seed (suc j) n k d (omega (arith, lt))

pub inputs_are_read : (seed size : ℕ) → size ≤ 40000 → AreNumbersOf (input_text seed size) (items_from seed 1 size)
inputs_are_read seed size bounded =
    let e = lines_are seed size in
    let short = lines_short seed 1 size in
    let count = items_count seed 1 size in
    record {
      short = omega (arith, ap length e, short, bounded);
      listed = subst (λ x. ListsNumbers x (items_from seed 1 size) []) (sym e) (lines_listed seed 1 size);
      bounded = omega (arith, count, bounded);
      narrow = items_fit seed 1 size;
    }
