-- Digits without a leading zero.
use Rattle.std.specs.Prelude.{ℕ, Bool, false, not, List, [], ◌∷◌, ◌==◌, ◌&&◌, ◌||◌, length}
use Rattle.std.specs.List.{list_all}
use Rattle.pipe_model.specs.Language.Lexis.{is_digit}

-- the byte `0`
abbrev pub zero_digit : ℕ
zero_digit = 48

-- one or more digits; the first is no zero unless it is the only one
abbrev pub is_plain_decimal : List ℕ → Bool
is_plain_decimal [] = false
is_plain_decimal (b ∷ bs) = list_all is_digit (b ∷ bs) && (not (b == zero_digit) || (length bs == 0))
