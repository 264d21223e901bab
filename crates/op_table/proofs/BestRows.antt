-- The search for the longest symbol of a table, row by row.
use Rattle.std.proofs.Common.{ℕ, ◌<◌, ◌≤◌, List, [], ◌∷◌, ◌++◌, length, refl, arith, Option, Some, None, IfSome, IfNone, Contains}
use Rattle.std.proofs.lemmas.List.Elements.{All-push, All-weaker, Contains-append_left, Contains-append_right}
use Rattle.op_table.specs.declared.table.OpRow.{OpRow}
use Rattle.op_table.specs.Tables.{text_of, StartsWith, IsLongestMatch, HasNoSymbol, IsBest, Outdoes}

-- a list contains its last row
pub contains_last : (rows : List OpRow) (row : OpRow) → Contains (rows ++ row ∷ []) row
contains_last rows row = Contains-append_right rows (row ∷ []) row (0, omega arith, refl)

-- the bytes do not begin with the symbol of `other`, or it is no longer than the symbol of `row`
abbrev NoLonger : List ℕ → OpRow → OpRow → Type 0
NoLonger bytes row other = StartsWith (text_of other) bytes → length (text_of other) ≤ length (text_of row)

-- a row is the best if its symbol begins the bytes and is longer than the symbol of the best row so far
pub takes : (rows : List OpRow) (bytes : List ℕ) (best : Option OpRow) (row : OpRow) → IsBest rows bytes best
    → StartsWith (text_of row) bytes
    → Outdoes row best
    → IsBest (rows ++ row ∷ []) bytes (Some row)
takes rows bytes None row b f o = record {
  among = contains_last rows row;
  front = f;
  longest = All-push (NoLonger bytes row) rows row (All-weaker (λ other. StartsWith (text_of other) bytes → ⊥) (NoLonger bytes row)
      (λ other none front. absurd (none front)) rows b)
      (λ front. omega arith);
}
takes rows bytes (Some best) row b f o = record {
  among = contains_last rows row;
  front = f;
  longest = All-push (NoLonger bytes row) rows row (All-weaker (NoLonger bytes best) (NoLonger bytes row)
      (λ other shorter front. let h = shorter front in omega (arith, h, o)) rows b.longest)
      (λ front. omega arith);
}

-- otherwise the best row so far stays the best
pub keeps : (rows : List OpRow) (bytes : List ℕ) (best : Option OpRow) (row : OpRow) → IsBest rows bytes best
    → (StartsWith (text_of row) bytes → Outdoes row best → ⊥)
    → IsBest (rows ++ row ∷ []) bytes best
keeps rows bytes None row b n = All-push (λ other. StartsWith (text_of other) bytes → ⊥) rows row b (λ front. n front tt)
keeps rows bytes (Some best) row b n = record {
  among = Contains-append_left rows (row ∷ []) best b.among;
  front = b.front;
  longest = All-push (NoLonger bytes best) rows row b.longest (λ front. not_less (length (text_of best)) (length (text_of row)) (n front));
}
  where
    not_less : (x y : ℕ) → (x < y → ⊥) → y ≤ x
    not_less x y h = omega (arith, h)

-- the best of all rows has the longest symbol
pub best_is_longest : (rows : List OpRow) (bytes : List ℕ) (best : Option OpRow) → IsBest rows bytes best
    → IfSome best (λ row. IsLongestMatch rows bytes row)
best_is_longest rows bytes None b = tt
best_is_longest rows bytes (Some row) b = b

-- if there is no best row, the bytes begin with no symbol
pub best_is_none : (rows : List OpRow) (bytes : List ℕ) (best : Option OpRow) → IsBest rows bytes best
    → IfNone best (HasNoSymbol rows bytes)
best_is_none rows bytes None b = b
best_is_none rows bytes (Some row) b = tt
