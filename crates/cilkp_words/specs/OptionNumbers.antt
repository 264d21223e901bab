-- The numbers of options: plain decimal, within a range.
use Rattle.std.specs.Prelude.{ℕ, ◌==◌, ◌&&◌, ◌||◌, Bool, false, not, nat_le, [], ◌∷◌, length, Option, Some, None, if◌then◌else◌}
use Rattle.std.specs.List.{list_all}
use Rattle.clap.specs.Walk.{Text}
use Rattle.pipe_model.specs.Language.Lexis.{is_digit, number_of}

-- the byte `0`
abbrev pub zero_digit : ℕ
zero_digit = 48

-- one or more digits, without a leading zero
abbrev pub is_plain_decimal : Text → Bool
is_plain_decimal [] = false
is_plain_decimal (d ∷ ds) = list_all is_digit (d ∷ ds) && (not (d == zero_digit) || (length ds == 0))

-- the number that the word writes, if it is one from `least` to `most`
abbrev pub number_in : (least most : ℕ) → Text → Option ℕ
number_in least most word =
    if is_plain_decimal word && (nat_le least (number_of word) && nat_le (number_of word) most) then Some (number_of word) else None

-- the number of an option, or the default if the option is not given
abbrev pub number_or : (default least most : ℕ) → Option Text → Option ℕ
number_or default least most None = Some default
number_or default least most (Some word) = number_in least most word
