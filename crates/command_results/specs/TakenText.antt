-- How much of a text a sink has taken.
use Rattle.std.specs.Prelude.{◌≡◌, ℕ, List, ◌++◌, take, Option}
use Rattle.std.specs.Option.{option_map}

-- the sink took the first `count` bytes of the text; `before` and `now` are its content, if it is known
abbrev pub HasTaken : ℕ → List ℕ → Option (List ℕ) → Option (List ℕ) → Type 0
HasTaken count text before now = now ≡ option_map (λ taken. taken ++ take count text) before
