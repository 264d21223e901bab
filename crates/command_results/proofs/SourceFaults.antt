-- A fault of the lexer, the parser or the checker refuses the source, with the line of that fault.
use Rattle.std.proofs.Common.{◌≡◌, ℕ, ℤ, List, Some, None}
use Rattle.pipe_check.specs.declared.fault.CheckFault.{CheckFault}
use Rattle.pipe_check.specs.declared.fault.CheckFault.TheVariants as checks
use Rattle.pipe_check.specs.Passing.{IsFirstFaultOf}
use Rattle.pipe_lexer.specs.declared.fault.LexFault.{LexFault}
use Rattle.pipe_lexer.specs.declared.fault.LexFault.TheVariants as lexer
use Rattle.pipe_lexer.specs.Faults.{IsFaultOf}
use Rattle.pipe_model.specs.declared.token.Token.{Token}
use Rattle.pipe_model.specs.Language.CheckingRules as checking
use Rattle.pipe_model.specs.Language.CheckingRules.{Broken, fault_of}
use Rattle.pipe_model.specs.Language.MarkPlaces.{mark_places}
use Rattle.pipe_model.specs.Language.SourceRefusals.{Lexical, Syntactic, LimitOut, RuleBroken, ForItsText, ForAToken, ForALimit, ForARule}
use Rattle.pipe_model.specs.Language.SourceSpelling.{SourceSpells}
use Rattle.pipe_model.specs.Language.Spelling as grammar
use Rattle.pipe_model.specs.Language.Spelling.{Spells}
use Rattle.pipe_model.specs.Language.SyntaxTree.{SyntaxTree}
use Rattle.pipe_model.specs.Language.Tokens.{BadByte, TooWide, SourceTooLong, NameTooLong, IsLexed, symbols_in}
use Rattle.pipe_parser.specs.declared.parse.ParseFault.{ParseFault}
use Rattle.pipe_parser.specs.declared.parse.ParseFault.TheVariants as parser
use Rattle.pipe_parser.specs.Parses.{IsFault}
use Rattle.language_laws.proofs.MarkPlaces.{place_of_broken}
use Rattle.command_results.specs.LoadedFiles.{AreRefused, IsAcceptedWith}
use Rattle.command_results.specs.RefusalLines.{HasPlace, IsCheckLine, IsLexicalLine, IsRuleLine, IsSyntaxLine}

-- tokens whose symbols spell the program
abbrev pub spelled_by : (source : List ℕ) (tokens : List Token) (tree : SyntaxTree) → IsLexed source tokens
    → Spells (symbols_in source tokens) tree → SourceSpells source tree
spelled_by source tokens tree lexed spelled = record { tokens = tokens; lexed = lexed; spelled = spelled }

-- a fault of the lexer
pub text_refused : (source : List ℕ) (fault : LexFault) (line : List ℕ) → IsFaultOf source fault → IsLexicalLine fault line
    → AreRefused source line
text_refused source (lexer.BadByte place) line h e = record { refusal = Lexical (BadByte place); refused = ForItsText _ h; line_is = e }
text_refused source (lexer.TooWide place) line h e = record { refusal = Lexical (TooWide place); refused = ForItsText _ h; line_is = e }
text_refused source lexer.SourceTooLong line h e = record { refusal = Lexical SourceTooLong; refused = ForItsText _ h; line_is = e }
text_refused source (lexer.NameTooLong place) line h e =
    record { refusal = Lexical (NameTooLong place); refused = ForItsText _ h; line_is = e }
text_refused source lexer.NoMemory line h e = absurd e

-- a fault of the parser
pub tokens_refused : (source : List ℕ) (tokens : List Token) (fault : ParseFault) (line : List ℕ) → IsLexed source tokens
    → IsFault source tokens fault
    → IsSyntaxLine fault line → AreRefused source line
tokens_refused source tokens (parser.Unexpected place) line l h e =
    record { refusal = Syntactic grammar.Unexpected place; refused = ForAToken tokens grammar.Unexpected place l h; line_is = e }
tokens_refused source tokens (parser.TooDeep place) line l h e =
    record { refusal = Syntactic grammar.TooDeep place; refused = ForAToken tokens grammar.TooDeep place l h; line_is = e }
tokens_refused source tokens (parser.TooLong place) line l h e =
    record { refusal = Syntactic grammar.TooLong place; refused = ForAToken tokens grammar.TooLong place l h; line_is = e }
tokens_refused source tokens parser.NoMemory line l h e = absurd e

-- the mark of a fault has an offset
pub fault_has_place : (source : List ℕ) (tree : SyntaxTree) (s : SourceSpells source tree) (fault : CheckFault)
    → IsFirstFaultOf fault (fault_of tree)
    → HasPlace fault (mark_places s.tokens)
fault_has_place source tree s (checks.LimitOut which) t = tt
fault_has_place source tree s (checks.Unknown mark) t = place_of_broken source tree s _ mark t
fault_has_place source tree s (checks.Twice mark) t = place_of_broken source tree s _ mark t
fault_has_place source tree s (checks.PipeOutside mark) t = place_of_broken source tree s _ mark t
fault_has_place source tree s (checks.TooManyCells mark) t = place_of_broken source tree s _ mark t
fault_has_place source tree s (checks.TooManyLocals mark) t = place_of_broken source tree s _ mark t
fault_has_place source tree s (checks.NotAnArray mark) t = place_of_broken source tree s _ mark t
fault_has_place source tree s (checks.NeedsIndex mark) t = place_of_broken source tree s _ mark t
fault_has_place source tree s (checks.ZeroSize mark) t = place_of_broken source tree s _ mark t
fault_has_place source tree s checks.NoMemory t = tt

-- a rule that is broken
rule_refused : (source : List ℕ) (tree : SyntaxTree) (s : SourceSpells source tree) (rule : checking.CheckingRule) (mark : ℕ)
    (line : List ℕ)
    → fault_of tree ≡ Some (Broken rule mark) → IsRuleLine rule (mark_places s.tokens) mark line → AreRefused source line
rule_refused source tree s rule mark line t r =
    record { refusal = RuleBroken rule r.place; refused = ForARule tree rule mark r.place s t r.found; line_is = r.line_is }

-- a fault of the checker
pub program_refused : (source : List ℕ) (tree : SyntaxTree) (s : SourceSpells source tree) (fault : CheckFault) (line : List ℕ)
    → IsFirstFaultOf fault (fault_of tree)
    → IsCheckLine fault (mark_places s.tokens) line → AreRefused source line
program_refused source tree s (checks.LimitOut which) line t e =
    record { refusal = LimitOut which; refused = ForALimit tree which s t; line_is = e }
program_refused source tree s (checks.Unknown mark) line t r = rule_refused source tree s _ mark line t r
program_refused source tree s (checks.Twice mark) line t r = rule_refused source tree s _ mark line t r
program_refused source tree s (checks.PipeOutside mark) line t r = rule_refused source tree s _ mark line t r
program_refused source tree s (checks.TooManyCells mark) line t r = rule_refused source tree s _ mark line t r
program_refused source tree s (checks.TooManyLocals mark) line t r = rule_refused source tree s _ mark line t r
program_refused source tree s (checks.NotAnArray mark) line t r = rule_refused source tree s _ mark line t r
program_refused source tree s (checks.NeedsIndex mark) line t r = rule_refused source tree s _ mark line t r
program_refused source tree s (checks.ZeroSize mark) line t r = rule_refused source tree s _ mark line t r
program_refused source tree s checks.NoMemory line t e = absurd e

-- a program that breaks no rule is accepted, with the offsets of its marks
pub program_accepted : (source : List ℕ) (tree : SyntaxTree) (places : List ℤ) (s : SourceSpells source tree) → fault_of tree ≡ None
    → places ≡ mark_places s.tokens → IsAcceptedWith source tree places
program_accepted source tree places s obeys placed = record { accepted = record { spelled = s; obeys = obeys }; placed = placed }
