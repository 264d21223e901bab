-- The faults that the lexer returns.
use Rattle.std.specs.Prelude.{ℕ, List}
use Rattle.pipe_model.specs.Language.Tokens.{HasFault, BadByte, TooWide, SourceTooLong, NameTooLong}
use Rattle.pipe_lexer.specs.declared.fault.LexFault.{LexFault}
use Rattle.pipe_lexer.specs.declared.fault.LexFault.TheVariants as faults
use Rattle.pipe_lexer.specs.declared.piece.Flaw.{Flaw}
use Rattle.pipe_lexer.specs.declared.piece.Flaw.TheVariants as flaws

-- the source has the returned fault; `NoMemory` says nothing about the source
abbrev pub IsFaultOf : List ℕ → LexFault → Type 0
IsFaultOf source (faults.BadByte place) = HasFault source (BadByte place)
IsFaultOf source (faults.TooWide place) = HasFault source (TooWide place)
IsFaultOf source faults.SourceTooLong = HasFault source SourceTooLong
IsFaultOf source (faults.NameTooLong place) = HasFault source (NameTooLong place)
IsFaultOf source faults.NoMemory = Unit {0}

-- the fault of this flaw at this offset
abbrev pub fault_at : Flaw → ℕ → LexFault
fault_at flaws.BadByte place = faults.BadByte place
fault_at flaws.TooWide place = faults.TooWide place
fault_at flaws.NameTooLong place = faults.NameTooLong place
