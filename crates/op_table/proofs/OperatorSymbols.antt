-- The rows of the table are the operators of the language.
use Rattle.std.proofs.Common.{◌≡◌, ◌∙◌, ap, sym, ℕ, ◌+◌, ◌<◌, List, [], ◌∷◌, length, get_or, map, refl, zero, suc, arith, Some, Contains}
use Rattle.std.proofs.Common.{position}
use Rattle.std.specs.Str.{bytes_eq}
use Rattle.std.proofs.lemmas.List.{get_or-map}
use Rattle.std.proofs.lemmas.List.Quantifiers.{position-Some}
use Rattle.std.proofs.lemmas.Slice.Eq.{bytes_eq-Decides}
use Rattle.pipe_model.specs.declared.symbol.Symbol.TheVariants as symbols
use Rattle.pipe_model.specs.Language.Lexis.{operators, punctuation_symbol}
use Rattle.op_table.specs.declared.table.OpRow.{OpRow}
use Rattle.op_table.specs.declared.operators.TheConstants.{OPS}
use Rattle.op_table.specs.Tables.{text_of}
use Rattle.op_table.proofs.TableRules.{obeys}

-- functions with equal results on all rows have equal results at each index
at_place : {A : Type 0} (f g : OpRow → A) (rows : List OpRow) → map f rows ≡ map g rows → (k : ℕ) (d : OpRow) → k < length rows
    → f (get_or rows k d) ≡ g (get_or rows k d)
at_place f g [] e k d within = absurd (omega arith)
at_place f g (row ∷ rows) e zero d within = let first : f row ∷ map f rows ≡ g row ∷ map g rows = e in cc (first)
at_place f g (row ∷ rows) e (suc k) d within =
    let both : f row ∷ map f rows ≡ g row ∷ map g rows = e in let others : map f rows ≡ map g rows = cc (both) in
    at_place f g rows others k d (omega arith)

pub at_row : {A : Type 0} (f g : OpRow → A) (row : OpRow) → map f OPS.rows ≡ map g OPS.rows → Contains OPS.rows row → f row ≡ g row
at_row f g row e h = rw (← h.2) (at_place f g OPS.rows e h.0 row h.1)

-- the symbol of a row is read as the operator of its code
pub row_symbol : (row : OpRow) → Contains OPS.rows row → punctuation_symbol (text_of row) ≡ Some (symbols.Operator row.code)
row_symbol row h = at_row (λ row. punctuation_symbol (text_of row)) (λ row. Some (symbols.Operator row.code)) row refl h

-- a row has this text and this code
pub record IsOperator (text : List ℕ) (code : ℕ) : Type 0 where
  pub row : OpRow
  pub among : Contains OPS.rows row
  pub same_text : text_of row ≡ text
  pub same_code : row.code ≡ code

no_row : OpRow
no_row = record { symbol = []; length = 0; level = 0; code = 0 }

-- within a list the default does not matter
default_alike : (rows : List OpRow) (k : ℕ) (d e : OpRow) → k < length rows → get_or rows k e ≡ get_or rows k d
default_alike [] k d e within = absurd (omega arith)
default_alike (row ∷ rows) zero d e within = refl
default_alike (row ∷ rows) (suc k) d e within = default_alike rows k d e (omega arith)

-- row k has the text of operator k
at_operator : (k : ℕ) → k < 13 → text_of (get_or OPS.rows k no_row) ≡ get_or operators k []
at_operator k within =
    let texts : map text_of OPS.rows ≡ operators = refl in sym (get_or-map text_of OPS.rows k no_row [] within)
    ∙ ap (λ x. get_or x k []) texts

-- row k has code k + 1
at_code : (k : ℕ) → k < 13 → (get_or OPS.rows k no_row).code ≡ k + 1
at_code k within = (obeys OPS.rows refl).codes k no_row within

-- each text in the list of operators belongs to a row
pub operator_row : (text : List ℕ) (k : ℕ) → position (λ operator. bytes_eq operator text) operators ≡ Some k → IsOperator text (k + 1)
operator_row text k e =
    let p = position-Some (λ operator. bytes_eq operator text) operators k [] e in
    record {
      row = get_or OPS.rows k no_row;
      among = (k, p.0, default_alike OPS.rows k no_row (get_or OPS.rows k no_row) p.0);
      same_text = at_operator k p.0 ∙ (bytes_eq-Decides (get_or operators k []) text).0 p.1;
      same_code = at_code k p.0;
    }
