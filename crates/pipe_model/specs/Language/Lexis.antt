-- Lexical structure: which text is which symbol, and which symbol is the longest at an offset of a source.
use Rattle.std.specs.Prelude.{◌≡◌, ◌≢◌, ℕ, ◌+◌, ◌-◌, ◌*◌, pos, Bool, List, [], ◌∷◌, ◌++◌, fold, nat_le, ◌==◌, ◌&&◌, ◌||◌, Option, Some}
use Rattle.std.specs.Prelude.{None, if◌then◌else◌, position, codes}
use Rattle.std.specs.List.{list_all, list_any}
use Rattle.std.specs.Str.{bytes_eq}
use Rattle.pipe_model.specs.declared.symbol.Symbol.{Symbol}
use Rattle.pipe_model.specs.declared.symbol.Symbol.TheVariants as symbols

-- space, tab, carriage return and line feed separate symbols
abbrev pub is_blank : ℕ → Bool
is_blank b = (b == 32) || ((b == 9) || ((b == 13) || (b == 10)))

-- a decimal digit
abbrev pub is_digit : ℕ → Bool
is_digit b = nat_le 48 b && nat_le b 57

-- a letter or `_`
abbrev pub is_letter : ℕ → Bool
is_letter b = (nat_le 65 b && nat_le b 90) || ((nat_le 97 b && nat_le b 122) || (b == 95))

-- a byte that a name may have after its first
abbrev pub is_name_byte : ℕ → Bool
is_name_byte b = is_letter b || is_digit b

-- the value of decimal digits
abbrev pub number_of : List ℕ → ℕ
number_of digits = fold (λ n d. 10 * n + (d - 48)) 0 digits

-- the reserved words; a symbol names one by its index in this list
abbrev pub reserved_words : List (List ℕ)
reserved_words = codes "version" ∷ codes "limits" ∷ codes "iterations" ∷ codes "stages" ∷ codes "steps" ∷ codes "emits" ∷ codes
    "cell" ∷ codes "init"
    ∷ codes "pipe_while" ∷ codes "pipe_wait" ∷ codes "pipe_continue" ∷ codes "final" ∷ codes "let" ∷ codes "if" ∷ codes "else" ∷ codes
    "while"
    ∷ codes "emit" ∷ codes "more" ∷ codes "take" ∷ codes "iter" ∷ codes "input" ∷ codes "output" ∷ []

-- the reserved word with this index, if there is one, and else a name
abbrev pub word_or_name : Option ℕ → List ℕ → Symbol
word_or_name (Some k) text = symbols.Word k
word_or_name None text = symbols.Name text

-- a text that begins with a letter, as a symbol
abbrev pub word_symbol : List ℕ → Symbol
word_symbol text = word_or_name (position (λ word. bytes_eq word text) reserved_words) text

-- the texts of the operators, in the order of their codes from 1
abbrev pub operators : List (List ℕ)
operators = codes "||" ∷ codes "&&" ∷ codes "==" ∷ codes "!=" ∷ codes "<" ∷ codes "<=" ∷ codes ">" ∷ codes ">=" ∷ codes "+" ∷ codes "-"
    ∷ codes "*" ∷ codes "/" ∷ codes "%" ∷ []

-- the byte of a sign
abbrev pub is_sign : ℕ → Bool
is_sign b = list_any (λ s. s == b) (codes "!=()[]{},;")

-- the operator with this index, if there is one, and else the sign that is this one byte
abbrev pub operator_or_sign : Option ℕ → List ℕ → Option Symbol
operator_or_sign (Some k) text = Some (symbols.Operator (k + 1))
operator_or_sign None [] = None
operator_or_sign None (b ∷ []) = if is_sign b then Some (symbols.Sign b) else None
operator_or_sign None (b ∷ c ∷ bs) = None

-- a text that begins with neither a letter nor a digit, as a symbol
abbrev pub punctuation_symbol : List ℕ → Option Symbol
punctuation_symbol text = operator_or_sign (position (λ operator. bytes_eq operator text) operators) text

-- the symbol that a text is, if it is one: a word or name, a number, or punctuation
abbrev pub symbol_of : List ℕ → Option Symbol
symbol_of [] = None
symbol_of (b ∷ bs) =
    if is_letter b then (if list_all is_name_byte bs then Some (word_symbol (b ∷ bs)) else None)
    else (if is_digit b then (if list_all is_digit bs then Some (symbols.Number (pos (number_of (b ∷ bs)))) else None)
    else punctuation_symbol (b ∷ bs))

-- no longer prefix of `text ++ rest` is the text of a symbol
pub record IsLongest (text rest : List ℕ) : Type 0 where
  pub longest : (more after : List ℕ) (s : Symbol) → rest ≡ more ++ after → more ≢ [] → symbol_of (text ++ more) ≡ Some s → ⊥
