-- What symbols do not begin with.
use Rattle.std.specs.Prelude.{◌≢◌, ℕ, List, [], ◌∷◌}
use Rattle.pipe_model.specs.declared.symbol.Symbol.{Symbol}
use Rattle.pipe_model.specs.declared.symbol.Symbol.TheVariants as symbols

-- the symbols do not begin with a name
abbrev pub NoName : List Symbol → Type 0
NoName [] = Unit {0}
NoName (symbols.Name name ∷ ts) = ⊥
NoName (symbols.Word k ∷ ts) = Unit {0}
NoName (symbols.Number n ∷ ts) = Unit {0}
NoName (symbols.Operator code ∷ ts) = Unit {0}
NoName (symbols.Sign b ∷ ts) = Unit {0}

-- the symbols do not begin with a number
abbrev pub NoNumber : List Symbol → Type 0
NoNumber [] = Unit {0}
NoNumber (symbols.Name name ∷ ts) = Unit {0}
NoNumber (symbols.Word k ∷ ts) = Unit {0}
NoNumber (symbols.Number n ∷ ts) = ⊥
NoNumber (symbols.Operator code ∷ ts) = Unit {0}
NoNumber (symbols.Sign b ∷ ts) = Unit {0}

-- the symbols do not begin with this operator
abbrev pub NoOperator : ℕ → List Symbol → Type 0
NoOperator code [] = Unit {0}
NoOperator code (symbols.Name name ∷ ts) = Unit {0}
NoOperator code (symbols.Word k ∷ ts) = Unit {0}
NoOperator code (symbols.Number n ∷ ts) = Unit {0}
NoOperator code (symbols.Operator other ∷ ts) = other ≢ code
NoOperator code (symbols.Sign b ∷ ts) = Unit {0}
