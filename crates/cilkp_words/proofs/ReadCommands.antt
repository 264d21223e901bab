-- The command of words that the command line accepts, and of words that it refuses.
use Rattle.std.proofs.Common.{◌≡◌, ◌∙◌, ◌⊎◌, ap, subst, refl, inl, inr, List, [], ◌∷◌, length, Bool, true, false, Option, None}
use Rattle.std.proofs.Common.{option_and_then, if◌then◌else◌}
use Rattle.std.proofs.Common.{arith}
use Rattle.std.proofs.lemmas.Bool.Decides.{nat_tests}
use Rattle.std.specs.Prelude.{◌==◌}
use Rattle.clap.proofs.OnLiterals.{clap_on_literals}
use Rattle.clap.specs.Faults.{fault_of, is_simple_and_free}
use Rattle.clap.specs.Kinds.{IsAmong, Kinds}
use Rattle.clap.specs.Simple.{App, is_simple, subcommand_of}
use Rattle.clap.specs.Walk.{Row, Text}
use Rattle.clap.specs.declared.error.kind.ErrorKind.{ErrorKind}
use Rattle.clap.specs.declared.error.kind.ErrorKind.TheVariants.{OutOfMemory}
use Rattle.cilkp_words.specs.CommandLine.{command_line}
use Rattle.cilkp_words.specs.Commands.{Command}
use Rattle.cilkp_words.specs.CommandWords.{command_named, command_of}

-- `clap` states the matches and the faults of this command line
line_is_simple : is_simple command_line ≡ true
unfolding clap_on_literals
line_is_simple = refl

line_is_free : is_simple_and_free command_line ≡ true
unfolding clap_on_literals
line_is_free = refl

-- the command if there is no fault
without_fault : (b : Bool) (found : Option Command) → b ≡ true → found ≡ (if b then found else None)
without_fault true found e = refl
without_fault false found e = absurd (cc (e))

with_fault : (b : Bool) (found : Option Command) → b ≡ false → None ≡ (if b then found else None)
with_fault true found e = absurd (cc (e))
with_fault false found e = refl

-- a list with an element is not empty
some_kind : (kinds : Kinds) (k : ErrorKind) → IsAmong k kinds → (length kinds == 0) ≡ false
some_kind [] k h = absurd h
some_kind (x ∷ xs) k h = grind (arith, nat_tests)

-- the words are accepted, and ask for the command of their subcommand
pub accepted_words : (a : App) (words : List Text) (found : Option Command) (given : Option (Text × List Row)) {P : Type 0}
    → a ≡ command_line
    → (is_simple_and_free a ≡ true → fault_of a words ≡ []) → (is_simple a ≡ true → P × (given ≡ subcommand_of a words))
    → found ≡ option_and_then (λ p. command_named p.0 p.1) given → found ≡ command_of words
accepted_words a words found given line calm same is =
    let none : fault_of command_line words ≡ [] = subst (λ x. fault_of x words ≡ []) line
    (calm (ap is_simple_and_free line ∙ line_is_free)) in
    let given_is : given ≡ subcommand_of command_line words =
    subst (λ x. given ≡ subcommand_of x words) line ((same (ap is_simple line ∙ line_is_simple)).1) in
    is ∙ ap (option_and_then (λ p. command_named p.0 p.1)) given_is
    ∙ without_fault (length (fault_of command_line words) == 0)
    (option_and_then (λ p. command_named p.0 p.1) (subcommand_of command_line words))
    (ap (λ ks. length ks == 0) none)

-- the words are refused, and not because memory ran out: they are no command
pub refused_words : (a : App) (words : List Text) (k : ErrorKind) → a ≡ command_line
    → (is_simple_and_free a ≡ true → (k ≡ OutOfMemory) ⊎ IsAmong k (fault_of a words)) → (k ≡ OutOfMemory → ⊥) → None ≡ command_of words
refused_words a words k line fault other =
    let some : (length (fault_of command_line words) == 0) ≡ false = elim (fault (ap is_simple_and_free line ∙ line_is_free)) [
      | inl memory ↦ absurd (other memory)
      | inr among ↦ some_kind (fault_of command_line words) k (subst (λ x. IsAmong k (fault_of x words)) line among)
    ] in
    with_fault (length (fault_of command_line words) == 0)
    (option_and_then (λ p. command_named p.0 p.1) (subcommand_of command_line words)) some
