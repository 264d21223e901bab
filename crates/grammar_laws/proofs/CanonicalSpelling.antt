-- The canonical text of a program that some source spells is itself a source that spells it, if it is not too long.
use Rattle.std.proofs.Common.{◌≡◌, ap, sym, ℕ, ◌≤◌, refl, subst, List, length}
use Rattle.pipe_model.specs.declared.symbol.Symbol.{Symbol}
use Rattle.grammar_laws.proofs.CanonicalSymbols.{program_pieces}
use Rattle.pipe_model.specs.Language.CanonicalText.{program_text}
use Rattle.pipe_model.specs.Language.SourceSpelling.{SourceSpells}
use Rattle.pipe_model.specs.Language.SyntaxTree.{SyntaxTree}
use Rattle.pipe_model.specs.Language.Tokens.{symbols_in}
use Rattle.pipe_model.specs.Language.Grammar.{flat}
use Rattle.pipe_model.specs.Language.Spelling.{IsShallow, Spells}
use Rattle.grammar_laws.proofs.CanonicalBounds.{no_deeper_shallow}
use Rattle.grammar_laws.proofs.CanonicalDerivations.{program_derived}
use Rattle.grammar_laws.proofs.CanonicalDivision.{program_source}
use Rattle.grammar_laws.proofs.CanonicalPieces.{leaner_program}
use Rattle.grammar_laws.proofs.OneSourceSpelling.{one_source_spelling}
use Rattle.grammar_laws.proofs.WritablePrograms.{writable_program}
use Rattle.grammar_laws.proofs.Writings.{IsWritingOf}

pub canonical_spells : (source : List ℕ) (tree : SyntaxTree) → SourceSpells source tree → length (program_text tree) ≤ 1048576
    → SourceSpells (program_text tree) tree
canonical_spells source tree h short =
    let s = h.spelled in
    let symbols : List Symbol = symbols_in source h.tokens in
    let of : IsWritingOf source symbols = record { tokens = h.tokens; lexed = h.lexed; same = refl } in
    let w = writable_program source symbols s.pieces tree of s.split s.derived in
    let l = leaner_program s.derived in
    let made = program_source tree w short in
    let spelled : Spells (flat (program_pieces tree)) tree = record {
      pieces = program_pieces tree;
      split = refl;
      derived = program_derived tree w;
      short = l.short s.short;
      shallow = no_deeper_shallow (flat (program_pieces tree)) (flat s.pieces) l.deep (subst IsShallow s.split s.shallow);
    } in
    record { tokens = made.tokens; lexed = made.lexed; spelled = subst (λ x. Spells x tree) (sym made.same) spelled }

-- so the program read from the canonical text has the same text
pub same_text : (source : List ℕ) (tree other : SyntaxTree) → SourceSpells source tree → length (program_text tree) ≤ 1048576
    → SourceSpells (program_text tree) other → program_text other ≡ program_text tree
same_text source tree other h short o = ap program_text
    (one_source_spelling (program_text tree) other tree o (canonical_spells source tree h short))
