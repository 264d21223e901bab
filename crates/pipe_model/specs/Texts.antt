-- The lines that a call prints, as functions of plain data. Numbers are plain decimal; every line ends with a line feed.
use Rattle.std.specs.Prelude.{ℕ, ℤ, List, [], ◌++◌, Option, Some, None, codes}
use Rattle.std.specs.Fmt.{decimal, signed_decimal}
use Rattle.std.specs.List.{flat_map}
use Rattle.pipe_model.specs.declared.access.AccessKind.{AccessKind}
use Rattle.pipe_model.specs.declared.access.AccessKind.TheVariants as accesses
use Rattle.pipe_model.specs.declared.node.NodeId.{NodeId}
use Rattle.pipe_model.specs.declared.report.Report.{Report}
use Rattle.pipe_model.specs.declared.trap.Trap.{Trap}
use Rattle.pipe_model.specs.declared.trap.Trap.TheVariants as traps
use Rattle.pipe_model.specs.declared.trap.TrapAt.{TrapAt}
use Rattle.pipe_model.specs.declared.trap.TrapPlace.{TrapPlace}
use Rattle.pipe_model.specs.declared.trap.TrapPlace.TheVariants as places
use Rattle.pipe_model.specs.Language.CheckingRules as checking
use Rattle.pipe_model.specs.Language.SourceRefusals.{Refusal, Lexical, Syntactic, LimitOut, RuleBroken}
use Rattle.pipe_model.specs.Language.Spelling as grammar
use Rattle.pipe_model.specs.Language.Tokens.{LexicalFault, BadByte, TooWide, SourceTooLong, NameTooLong}

-- one line for each emitted number
abbrev pub output_lines : List ℤ → List ℕ
output_lines output = flat_map (λ v. signed_decimal v ++ codes "\n") output

abbrev pub trap_name : Trap → List ℕ
trap_name traps.Overflow = codes "Overflow"
trap_name traps.DivZero = codes "DivZero"
trap_name traps.Index = codes "Index"
trap_name traps.Budget = codes "Budget"
trap_name traps.StageOrder = codes "StageOrder"
trap_name traps.StageLimit = codes "StageLimit"
trap_name traps.InputEnd = codes "InputEnd"
trap_name traps.IterLimit = codes "IterLimit"
trap_name traps.OutputLimit = codes "OutputLimit"

-- an instance by its iteration and its stage number
abbrev pub instance_text : NodeId → ℤ → List ℕ
instance_text node number = decimal node.iteration ++ (codes "/" ++ signed_decimal number)

-- where a trap occurred
abbrev pub trap_place : TrapPlace → List ℕ
trap_place places.Init = codes "in init"
trap_place (places.At node number) = codes "at " ++ instance_text node number
trap_place places.Last = codes "in final"

abbrev pub trap_line : TrapAt → List ℕ
trap_line t = codes "trap " ++ (trap_name t.trap ++ (codes " " ++ (trap_place t.place ++ codes "\n")))

-- the line of a trap, if there is one
abbrev pub trap_lines : Option TrapAt → List ℕ
trap_lines None = []
trap_lines (Some t) = trap_line t

abbrev pub kind_text : AccessKind → List ℕ
kind_text accesses.Read = codes "read"
kind_text accesses.Write = codes "write"

-- the line of a race: the cell's name, and its two accesses, the earlier first
abbrev pub race_line : (ℕ → List ℕ) → Report → List ℕ
race_line cell_name r =
    codes "race " ++ (cell_name r.cell.0 ++ (codes " "
    ++ (kind_text r.earlier_kind ++ (codes " " ++ (instance_text r.earlier r.earlier_number
    ++ (codes " " ++ (kind_text r.later_kind ++ (codes " " ++ (instance_text r.later r.later_number ++ codes "\n")))))))))

-- the words of the call form no command
abbrev pub refused_usage : List ℕ
refused_usage = codes "refused usage\n"

-- there is no file of this name
abbrev pub refused_missing : List ℕ → List ℕ
refused_missing name = codes "refused missing " ++ (name ++ codes "\n")

-- a line that ends in a number
abbrev pub numbered_line : List ℕ → ℕ → List ℕ
numbered_line before n = before ++ (decimal n ++ codes "\n")

-- the line for a fault in the text of a source
abbrev pub lexical_line : LexicalFault → List ℕ
lexical_line (BadByte place) = numbered_line (codes "refused source BadByte at ") place
lexical_line (TooWide place) = numbered_line (codes "refused source TooWide at ") place
lexical_line SourceTooLong = codes "refused source SourceTooLong\n"
lexical_line (NameTooLong place) = numbered_line (codes "refused source NameTooLong at ") place

-- the line for a token that breaks a rule of the grammar
abbrev pub syntax_line : grammar.GrammarRule → ℕ → List ℕ
syntax_line grammar.Unexpected place = numbered_line (codes "refused source Unexpected at ") place
syntax_line grammar.TooDeep place = numbered_line (codes "refused source TooDeep at ") place
syntax_line grammar.TooLong place = numbered_line (codes "refused source TooLong at ") place

-- the line for a mark that breaks a checking rule
abbrev pub rule_line : checking.CheckingRule → ℕ → List ℕ
rule_line checking.Unknown place = numbered_line (codes "refused check Unknown at ") place
rule_line checking.Twice place = numbered_line (codes "refused check Twice at ") place
rule_line checking.PipeOutside place = numbered_line (codes "refused check PipeOutside at ") place
rule_line checking.TooManyCells place = numbered_line (codes "refused check TooManyCells at ") place
rule_line checking.TooManyLocals place = numbered_line (codes "refused check TooManyLocals at ") place
rule_line checking.NotAnArray place = numbered_line (codes "refused check NotAnArray at ") place
rule_line checking.NeedsIndex place = numbered_line (codes "refused check NeedsIndex at ") place
rule_line checking.ZeroSize place = numbered_line (codes "refused check ZeroSize at ") place

-- the line that refuses a source
abbrev pub refusal_line : Refusal → List ℕ
refusal_line (Lexical fault) = lexical_line fault
refusal_line (Syntactic rule place) = syntax_line rule place
refusal_line (LimitOut which) = numbered_line (codes "refused check LimitOut ") which
refusal_line (RuleBroken rule place) = rule_line rule place

-- a file could not be read
abbrev pub fault_read : List ℕ → List ℕ
fault_read name = codes "fault read " ++ (name ++ codes "\n")
