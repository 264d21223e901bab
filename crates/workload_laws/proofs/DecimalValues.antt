-- The decimal text of a number is read as the number.
use Rattle.std.proofs.Common.{◌≡◌, ◌∙◌, ap, ℕ, pos, ◌<◌, ◌^◌, true, false, List, length}
use Rattle.std.proofs.Common.{Some}
use Rattle.std.specs.Fmt.{decimal}
use Rattle.std.specs.List.{list_all}
use Rattle.std.proofs.lemmas.Fmt.{decimal_by_steps}
use Rattle.pipe_model.specs.Language.Lexis.{is_digit, number_of}
use Rattle.pipe_io.specs.InputFile.{value_of}
use Rattle.pipe_io.proofs.NumeralLaws.{value_is}
use Rattle.grammar_laws.proofs.WrittenTokens.{one_digit, more_digits}

-- the bytes are the digits of the number, at least one
abbrev AreDigitsOf : ℕ → List ℕ → Type 0
AreDigitsOf n ds = (list_all is_digit ds ≡ true) × (number_of ds ≡ n) × (0 < length ds)

pub decimal_value : (n : ℕ) → n < 2 ^ 64 → value_of (decimal n) ≡ Some (pos n)
decimal_value n h =
    let d : AreDigitsOf n (decimal n) = decimal_by_steps AreDigitsOf one_digit more_digits n h in
    value_is false (decimal n) d.2 d.0 ∙ ap (λ k. Some (pos k)) d.1
