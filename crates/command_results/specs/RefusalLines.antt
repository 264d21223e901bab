-- The line of each fault of the lexer, the parser and the checker, and of each fault of a wave loop. Out of memory has none.
use Rattle.std.specs.Prelude.{◌≡◌, ℕ, ℤ, pos, List, slice_get, Some, codes}
use Rattle.pipe_check.specs.declared.fault.CheckFault.{CheckFault}
use Rattle.pipe_check.specs.declared.fault.CheckFault.TheVariants as checks
use Rattle.pipe_lexer.specs.declared.fault.LexFault.{LexFault}
use Rattle.pipe_lexer.specs.declared.fault.LexFault.TheVariants as lexer
use Rattle.pipe_parser.specs.declared.parse.ParseFault.{ParseFault}
use Rattle.pipe_parser.specs.declared.parse.ParseFault.TheVariants as parser
use Rattle.pipe_model.specs.Language.CheckingRules as checking
use Rattle.pipe_model.specs.Language.SourceRefusals.{LimitOut}
use Rattle.pipe_model.specs.Language.Spelling as grammar
use Rattle.pipe_model.specs.Texts.{lexical_line, numbered_line, refusal_line, rule_line, syntax_line}
use Rattle.wave_lower.specs.declared.fault.WaveFault.{WaveFault}
use Rattle.wave_lower.specs.declared.fault.WaveFault.TheVariants as waves
use Rattle.pipe_model.specs.Language.Tokens.{BadByte, TooWide, SourceTooLong, NameTooLong}

-- the line of a fault of the lexer
abbrev pub IsLexicalLine : LexFault → List ℕ → Type 0
IsLexicalLine (lexer.BadByte place) line = line ≡ lexical_line (BadByte place)
IsLexicalLine (lexer.TooWide place) line = line ≡ lexical_line (TooWide place)
IsLexicalLine lexer.SourceTooLong line = line ≡ lexical_line SourceTooLong
IsLexicalLine (lexer.NameTooLong place) line = line ≡ lexical_line (NameTooLong place)
IsLexicalLine lexer.NoMemory line = ⊥

-- the line of a fault of the parser
abbrev pub IsSyntaxLine : ParseFault → List ℕ → Type 0
IsSyntaxLine (parser.Unexpected place) line = line ≡ syntax_line grammar.Unexpected place
IsSyntaxLine (parser.TooDeep place) line = line ≡ syntax_line grammar.TooDeep place
IsSyntaxLine (parser.TooLong place) line = line ≡ syntax_line grammar.TooLong place
IsSyntaxLine parser.NoMemory line = ⊥

-- the mark with this number has an offset
abbrev pub HasPlaceAt : List ℤ → ℕ → Type 0
HasPlaceAt places mark = (place : ℕ) × (slice_get places mark ≡ Some (pos place))

-- if a fault of the checker has a mark, the mark has an offset
abbrev pub HasPlace : CheckFault → List ℤ → Type 0
HasPlace (checks.LimitOut which) places = Unit {0}
HasPlace (checks.Unknown mark) places = HasPlaceAt places mark
HasPlace (checks.Twice mark) places = HasPlaceAt places mark
HasPlace (checks.PipeOutside mark) places = HasPlaceAt places mark
HasPlace (checks.TooManyCells mark) places = HasPlaceAt places mark
HasPlace (checks.TooManyLocals mark) places = HasPlaceAt places mark
HasPlace (checks.NotAnArray mark) places = HasPlaceAt places mark
HasPlace (checks.NeedsIndex mark) places = HasPlaceAt places mark
HasPlace (checks.ZeroSize mark) places = HasPlaceAt places mark
HasPlace checks.NoMemory places = Unit {0}

-- the line of a rule that is broken at the mark with this number; `places` are the offsets of the marks
pub record IsRuleLine (rule : checking.CheckingRule) (places : List ℤ) (mark : ℕ) (line : List ℕ) : Type 0 where
  pub place : ℕ
  pub found : slice_get places mark ≡ Some (pos place)
  pub line_is : line ≡ rule_line rule place

-- the line of a fault of the checker
abbrev pub IsCheckLine : CheckFault → List ℤ → List ℕ → Type 0
IsCheckLine (checks.LimitOut which) places line = line ≡ refusal_line (LimitOut which)
IsCheckLine (checks.Unknown mark) places line = IsRuleLine checking.Unknown places mark line
IsCheckLine (checks.Twice mark) places line = IsRuleLine checking.Twice places mark line
IsCheckLine (checks.PipeOutside mark) places line = IsRuleLine checking.PipeOutside places mark line
IsCheckLine (checks.TooManyCells mark) places line = IsRuleLine checking.TooManyCells places mark line
IsCheckLine (checks.TooManyLocals mark) places line = IsRuleLine checking.TooManyLocals places mark line
IsCheckLine (checks.NotAnArray mark) places line = IsRuleLine checking.NotAnArray places mark line
IsCheckLine (checks.NeedsIndex mark) places line = IsRuleLine checking.NeedsIndex places mark line
IsCheckLine (checks.ZeroSize mark) places line = IsRuleLine checking.ZeroSize places mark line
IsCheckLine checks.NoMemory places line = ⊥

-- if a fault of a wave loop has a mark, the mark has an offset
abbrev pub HasWavePlace : WaveFault → List ℤ → Type 0
HasWavePlace waves.BadTest places = Unit {0}
HasWavePlace waves.NoRow places = Unit {0}
HasWavePlace (waves.HasStage mark) places = HasPlaceAt places mark
HasWavePlace (waves.RowSet mark) places = HasPlaceAt places mark
HasWavePlace waves.NoMemory places = Unit {0}

-- the line ends in the offset of the mark with this number
pub record IsMarkLine (before : List ℕ) (places : List ℤ) (mark : ℕ) (line : List ℕ) : Type 0 where
  pub place : ℕ
  pub found : slice_get places mark ≡ Some (pos place)
  pub line_is : line ≡ numbered_line before place

-- the line of a fault of a wave loop
abbrev pub IsWaveFaultLine : WaveFault → List ℤ → List ℕ → Type 0
IsWaveFaultLine waves.BadTest places line = line ≡ codes "refused wave BadTest\n"
IsWaveFaultLine waves.NoRow places line = line ≡ codes "refused wave NoRow\n"
IsWaveFaultLine (waves.HasStage mark) places line = IsMarkLine (codes "refused wave HasStage at ") places mark line
IsWaveFaultLine (waves.RowSet mark) places line = IsMarkLine (codes "refused wave RowSet at ") places mark line
IsWaveFaultLine waves.NoMemory places line = ⊥
