-- A program that a source spells is spellable.
use Rattle.std.proofs.Common.{◌≡◌, ap, refl, ℕ, ◌≤◌, List, length, arith}
use Rattle.std.proofs.lemmas.List.{length-map}
use Rattle.pipe_model.specs.Language.SourceSpelling.{SourceSpells}
use Rattle.pipe_model.specs.Language.SpellablePrograms.{IsSpellable}
use Rattle.pipe_model.specs.Language.SyntaxTree.{SyntaxTree}
use Rattle.pipe_model.specs.Language.Tokens.{symbol_in, symbols_in}
use Rattle.pipe_model.specs.Language.Grammar.{flat}
use Rattle.grammar_laws.proofs.WritablePrograms.{writable_program}
use Rattle.grammar_laws.proofs.Writings.{IsWritingOf}
use Rattle.language_laws.proofs.SpelledMarks.{marks_within}
use Rattle.language_laws.proofs.SpelledSizes.{measured_program}
use Rattle.language_laws.proofs.TokenCounts.{tokens_within}
use Rattle.language_laws.proofs.WritableOperators.{program_known, not_negative, no_negative_size}

-- the size of the program is bounded because the length of the source is
pub spelled_is_spellable : (source : List ℕ) (tree : SyntaxTree) → SourceSpells source tree → IsSpellable tree
spelled_is_spellable source tree s =
    let of : IsWritingOf source (symbols_in source s.tokens) = record { tokens = s.tokens; lexed = s.lexed; same = refl } in
    let pieces = s.spelled.pieces in
    let written = writable_program source (symbols_in source s.tokens) pieces tree of s.spelled.split s.spelled.derived in
    let measured = measured_program s.spelled.derived in
    let marks = marks_within s.spelled.derived in
    let tokens = tokens_within source s.tokens s.lexed.scanned in
    let mapped : length (symbols_in source s.tokens) ≡ length s.tokens = length-map s.tokens (symbol_in source) in
    let split : length (symbols_in source s.tokens) ≡ length (flat pieces) = ap length s.spelled.split in
    let short : length source ≤ 1048576 = s.lexed.short in
    record {
      operators = program_known tree written;
      short = measured.short s.spelled.short;
      sizes = no_negative_size tree.cells written.cells;
      emits = not_negative tree.limits.emits written.emits;
      bounded = (let nodes = measured.nodes in let b = measured.bounded in omega (arith, nodes, b, marks, tokens, mapped, split, short));
    }
