-- Tables of operators: the symbol of a row, the longest symbol that is a prefix of given bytes, and the row of a code.
use Rattle.std.specs.Prelude.{◌≡◌, ℕ, ◌<◌, ◌≤◌, ◌++◌, List, length, take, Option, Some, None, Contains, All}
use Rattle.op_table.specs.declared.table.OpRow.{OpRow}

-- the bytes of a row's symbol
abbrev pub text_of : OpRow → List ℕ
text_of row = take row.length row.symbol

-- the text is a prefix of the bytes
abbrev pub StartsWith : List ℕ → List ℕ → Type 0
StartsWith text bytes = (rest : List ℕ) × (bytes ≡ text ++ rest)

-- the table has the row; the bytes begin with its symbol, and with no longer symbol of the table
pub record IsLongestMatch (rows : List OpRow) (bytes : List ℕ) (row : OpRow) : Type 0 where
  pub among : Contains rows row
  pub front : StartsWith (text_of row) bytes
  pub longest : All (λ other. StartsWith (text_of other) bytes → length (text_of other) ≤ length (text_of row)) rows

-- the code belongs to the longest symbol with which the bytes begin
pub record HasLongest (rows : List OpRow) (bytes : List ℕ) (code : ℕ) : Type 0 where
  pub row : OpRow
  pub longest : IsLongestMatch rows bytes row
  pub same : row.code ≡ code

-- the bytes begin with no symbol of the table
abbrev pub HasNoSymbol : List OpRow → List ℕ → Type 0
HasNoSymbol rows bytes = All (λ row. StartsWith (text_of row) bytes → ⊥) rows

-- the table has the row, and the row has the code
pub record HasCode (rows : List OpRow) (code : ℕ) (row : OpRow) : Type 0 where
  pub among : Contains rows row
  pub same : row.code ≡ code

-- no row of the table has the code
abbrev pub HasNoCode : List OpRow → ℕ → Type 0
HasNoCode rows code = All (λ row. row.code ≡ code → ⊥) rows

-- the symbol of the row is longer than the symbol of the other row, if there is one
abbrev pub Outdoes : OpRow → Option OpRow → Type 0
Outdoes row None = Unit {0}
Outdoes row (Some other) = length (text_of other) < length (text_of row)

-- the row has the longest symbol with which the bytes begin; `None` if they begin with no symbol
abbrev pub IsBest : List OpRow → List ℕ → Option OpRow → Type 0
IsBest rows bytes None = HasNoSymbol rows bytes
IsBest rows bytes (Some row) = IsLongestMatch rows bytes row
