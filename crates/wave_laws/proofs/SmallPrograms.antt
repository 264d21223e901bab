-- Programs that a source spells are small enough to be lowered.
use Rattle.std.proofs.Common.{◌≡◌, ap, ◌≤◌, length, arith}
use Rattle.std.proofs.lemmas.List.{length-map}
use Rattle.pipe_model.specs.Language.Grammar.{flat}
use Rattle.pipe_model.specs.Language.Tokens.{symbol_in, symbols_in}
use Rattle.language_laws.proofs.SpelledMarks.{marks_within}
use Rattle.language_laws.proofs.SpelledSizes.{measured_program}
use Rattle.language_laws.proofs.TokenCounts.{tokens_within}
use Rattle.wave_laws.specs.WaveLaws.{SpelledProgramsAreSmall}

pub spelled_programs_are_small : SpelledProgramsAreSmall
spelled_programs_are_small source tree s =
    let pieces = s.spelled.pieces in
    let measured = measured_program s.spelled.derived in
    let marks = marks_within s.spelled.derived in
    let tokens = tokens_within source s.tokens s.lexed.scanned in
    let mapped : length (symbols_in source s.tokens) ≡ length s.tokens = length-map s.tokens (symbol_in source) in
    let split : length (symbols_in source s.tokens) ≡ length (flat pieces) = ap length s.spelled.split in
    let short : length source ≤ 1048576 = s.lexed.short in
    let nodes = measured.nodes in
    let bounded = measured.bounded in
    omega (arith, nodes, bounded, marks, tokens, mapped, split, short)
