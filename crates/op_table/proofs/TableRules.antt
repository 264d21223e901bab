-- A table that passes the test as a whole obeys the rules at each row.
use Rattle.std.proofs.Common.{◌≡◌, ◌≢◌, ◌∙◌, ap, sym, ℕ, ◌+◌, ◌<◌, ◌≤◌, true, not, List, [], ◌∷◌, length, get_or, zero, suc, arith, All}
use Rattle.std.specs.List.{list_all}
use Rattle.std.specs.Str.{bytes_eq}
use Rattle.std.proofs.lemmas.Bool.{and_parts, false≢true}
use Rattle.std.proofs.lemmas.Bool.Decides.{nat_tests}
use Rattle.std.proofs.lemmas.List.Elements.{All-nil, All-cons}
use Rattle.std.proofs.lemmas.List.Sums.{AllPass-from_list_all}
use Rattle.std.proofs.lemmas.Slice.Eq.{bytes_eq-Decides}
use Rattle.op_table.specs.declared.table.OpRow.{OpRow}
use Rattle.op_table.specs.Tables.{text_of}
use Rattle.op_table.specs.Rules.{is_row_with, obey_from, ObeysRules}

-- the facts that the test of a row shows
record IsRowWith (code : ℕ) (row : OpRow) : Type 0 where
  pub same : row.code ≡ code
  pub length : (1 ≤ row.length) × (row.length ≤ 2)
  pub level : (1 ≤ row.level) × (row.level ≤ 6)

row_with : (code : ℕ) (row : OpRow) → is_row_with code row ≡ true → IsRowWith code row
row_with code row h = record { same = grind (arith, nat_tests); length = grind (arith, nat_tests); level = grind (arith, nat_tests) }

-- the facts that the test of a table shows about its first row and the other rows
record OfFirst (code : ℕ) (row : OpRow) (rows : List OpRow) : Type 0 where
  pub here : IsRowWith code row
  pub differs : list_all (λ other. not (bytes_eq (text_of row) (text_of other))) rows ≡ true
  pub others : obey_from (code + 1) rows ≡ true

of_first : (code : ℕ) (row : OpRow) (rows : List OpRow) → obey_from code (row ∷ rows) ≡ true → OfFirst code row rows
of_first code row rows h =
    let parts = and_parts _ _ h in let more = and_parts _ _ parts.1 in
    record { here = row_with code row parts.0; differs = more.0; others = more.1 }

all_lengths : (code : ℕ) (rows : List OpRow) → obey_from code rows ≡ true → All (λ row. (1 ≤ row.length) × (row.length ≤ 2)) rows
all_lengths code [] h = All-nil (λ (row : OpRow). (1 ≤ row.length) × (row.length ≤ 2))
all_lengths code (row ∷ rows) h =
    let f = of_first code row rows h in All-cons (λ (row : OpRow). (1 ≤ row.length) × (row.length ≤ 2)) row rows f.here.length
    (all_lengths (code + 1) rows f.others)

all_levels : (code : ℕ) (rows : List OpRow) → obey_from code rows ≡ true → All (λ row. (1 ≤ row.level) × (row.level ≤ 6)) rows
all_levels code [] h = All-nil (λ (row : OpRow). (1 ≤ row.level) × (row.level ≤ 6))
all_levels code (row ∷ rows) h =
    let f = of_first code row rows h in All-cons (λ (row : OpRow). (1 ≤ row.level) × (row.level ≤ 6)) row rows f.here.level
    (all_levels (code + 1) rows f.others)

codes_rise : (code : ℕ) (rows : List OpRow) → obey_from code rows ≡ true → (k : ℕ) (d : OpRow) → k < length rows
    → (get_or rows k d).code ≡ k + code
codes_rise code [] h k d within = absurd (omega arith)
codes_rise code (row ∷ rows) h zero d within = let f = of_first code row rows h in omega (arith, f.here.same)
codes_rise code (row ∷ rows) h (suc k) d within = let f = of_first code row rows h in let e =
    codes_rise (code + 1) rows f.others k d (omega arith) in omega (arith, e)

symbols_differ : (code : ℕ) (rows : List OpRow) → obey_from code rows ≡ true → (j k : ℕ) (d : OpRow) → j < k → k < length rows
    → text_of (get_or rows j d) ≢ text_of (get_or rows k d)
symbols_differ code [] h j k d less within = absurd (omega arith)
symbols_differ code (row ∷ rows) h j zero d less within = absurd (omega arith)
symbols_differ code (row ∷ rows) h zero (suc k) d less within = λ e.
    let f = of_first code row rows h in
    let other = text_of (get_or rows k d) in
    let apart : not (bytes_eq (text_of row) other) ≡ true =
    AllPass-from_list_all (λ other. not (bytes_eq (text_of row) (text_of other))) rows f.differs k d (omega arith) in
    let equal : bytes_eq (text_of row) other ≡ true = (bytes_eq-Decides (text_of row) other).1 e in
    false≢true (ap not (sym equal) ∙ apart)
symbols_differ code (row ∷ rows) h (suc j) (suc k) d less within =
    let f = of_first code row rows h in symbols_differ (code + 1) rows f.others j k d (omega arith) (omega arith)

-- a table that passes the test obeys the rules
pub obeys : (rows : List OpRow) → obey_from 1 rows ≡ true → ObeysRules rows
obeys rows h = record {
  lengths = all_lengths 1 rows h;
  levels = all_levels 1 rows h;
  codes = codes_rise 1 rows h;
  differ =
      symbols_differ 1 rows h;
}
