-- Readings of statements and the faults of their readers, by the first symbols.
use Rattle.std.proofs.Common.{◌≡◌, ap, sym, ◌∙◌, subst, ℕ, List, [], ◌∷◌, ◌++◌, append_assoc, refl, Option, Some, None}
use Rattle.pipe_model.specs.declared.sign_bytes.TheConstants as signs
use Rattle.pipe_model.specs.declared.word_codes.TheConstants as words
use Rattle.pipe_model.specs.declared.tree.StageKind.TheVariants as kinds
use Rattle.pipe_model.specs.declared.symbol.Symbol.{Symbol}
use Rattle.pipe_model.specs.declared.symbol.Symbol.TheVariants as symbols
use Rattle.pipe_model.specs.declared.tree.Expr.{Expr}
use Rattle.pipe_model.specs.declared.tree.Stmt.{Stmt}
use Rattle.grammar_laws.specs.ProgramMachine as machine
use Rattle.grammar_laws.specs.ProgramMachine.{Want, Sign, FullExpression, Part, Outside, judge}
use Rattle.pipe_model.specs.Language.SyntaxTree.{Expression, Statements, Empty, Then, Let, Assign, AssignElement, Emit, If, While}
use Rattle.pipe_model.specs.Language.SyntaxTree.{statement_of, statements_of, stage_statement}
use Rattle.grammar_laws.specs.Reading.{ReadsFull, ReadsStatement, ReadsLet, ReadsAssign, ReadsAssignElement, ReadsEmit, ReadsIf, ReadsWhile}
use Rattle.grammar_laws.specs.Reading.{ReadsWait, ReadsWaitNext, ReadsContinue, ReadsContinueNext, ReadsStatements, ReadsClose, ReadsBlock}
use Rattle.grammar_laws.specs.Reading.{ReadsBraces, ReadsPart, ReadsNoPart, ReadsPartIs, NoSign, NoWord}
use Rattle.grammar_laws.proofs.FullExpressions.{passes_full, stage_number, passes_stage_number}
use Rattle.grammar_laws.proofs.ProgramPassing.{passes_block}
use Rattle.pipe_parser.specs.declared.fault.SyntaxFault.{SyntaxFault}
use Rattle.pipe_parser.specs.declared.fault.SyntaxFault.TheVariants as faults
use Rattle.pipe_parser.specs.StatementReadings.{element, stage, block, repetition, choice, ReadsTest, ReadsStage}
use Rattle.pipe_parser.specs.SyntaxFaults.{SyntaxStops}

-- ---- statements one after the other, as the loop of a block reads them

-- these statements, followed by others
abbrev pub before : List Stmt → Statements → Statements
before [] ss = ss
before (s ∷ found) ss = Then (statement_of s) (before found ss)

-- one more statement is appended to those found so far
pub before_one : (found : List Stmt) (s : Stmt) (ss : Statements) → before (found ++ s ∷ []) ss ≡ before found (Then (statement_of s) ss)
before_one [] s ss = refl
before_one (t ∷ found) s ss = ap (Then (statement_of t)) (before_one found s ss)

-- followed by none, they are all
before_none : (found : List Stmt) → before found Empty ≡ statements_of found
before_none [] = refl
before_none (s ∷ found) = ap (Then (statement_of s)) (before_none found)

-- at the closing brace the statements found so far are all
pub block_read : (ts all rest following : List Symbol) (found : List Stmt) → ts ≡ symbols.Sign signs.OPEN_BRACE ∷ all
    → ((ss : Statements) (end : List Symbol) → ReadsStatements 256 rest ss end → ReadsStatements 256 all (before found ss) end)
    → rest ≡ symbols.Sign signs.CLOSE_BRACE ∷ following
    → ReadsBlock 256 ts (statements_of found) following
block_read ts all rest following found h f e =
    let closed : ReadsStatements 256 rest Empty following = subst (λ x. ReadsStatements 256 x Empty following) (sym e)
    (ReadsClose following) in
    rw h (ReadsBraces (subst (λ x. ReadsStatements 256 all x following) (before_none found) (f Empty following closed)))

-- ---- faults

-- a fault after the symbols that were read is the fault of the whole
pub fault_after : (wants others : List Want) (ts us : List Symbol)
    → ((below : List Want) → judge 256 ts (Outside (wants ++ below)) ≡ judge 256 us (Outside (others ++ below))) → (f : SyntaxFault)
    → SyntaxStops others us f
    → SyntaxStops wants ts f
fault_after wants others ts us h (faults.Unexpected left) x = record { refused = λ below. h below ∙ x.refused below }
fault_after wants others ts us h (faults.TooLong left) x = record { refused = λ below. h below ∙ x.refused below }
fault_after wants others ts us h faults.NoMemory x = tt
fault_after wants others ts us h (faults.TooDeep left) x = x

-- a fault of the first wants is a fault of those wants followed by more
pub fault_before : (wants more : List Want) (ts : List Symbol) (f : SyntaxFault) → SyntaxStops wants ts f → SyntaxStops (wants ++ more) ts f
fault_before wants more ts =
    let same = λ (below : List Want). ap (λ x. judge 256 ts (Outside x)) (append_assoc wants more below) in
    λ f x. by_cases same f x
  where
    by_cases : ((below : List Want) → judge 256 ts (Outside ((wants ++ more) ++ below)) ≡ judge 256 ts (Outside (wants ++ (more ++ below))))
        → (f : SyntaxFault) → SyntaxStops wants ts f → SyntaxStops (wants ++ more) ts f
    by_cases same (faults.Unexpected left) x = record { refused = λ below. same below ∙ x.refused (more ++ below) }
    by_cases same (faults.TooLong left) x = record { refused = λ below. same below ∙ x.refused (more ++ below) }
    by_cases same faults.NoMemory x = tt
    by_cases same (faults.TooDeep left) x = x

-- a fault after a full expression
pub fault_full : (others : List Want) (e : Expression) (ts mid : List Symbol) → ReadsFull 256 ts e mid → (f : SyntaxFault)
    → SyntaxStops others mid f
    → SyntaxStops (FullExpression ∷ others) ts f
fault_full others e ts mid r = fault_after (FullExpression ∷ others) others ts mid (λ below. passes_full r (others ++ below))

-- a fault of the sign after an index
pub fault_index : (index : Expression) (ts mid : List Symbol) → ReadsFull 256 ts index (symbols.Sign signs.CLOSE_SQUARE ∷ mid)
    → (f : SyntaxFault)
    → SyntaxStops (Sign signs.EQUALS ∷ []) mid f
    → SyntaxStops element ts f
fault_index index ts mid r f x =
    fault_after element (Sign signs.EQUALS ∷ FullExpression ∷ Sign signs.SEMICOLON ∷ []) ts mid
    (λ below. passes_full r (Sign signs.CLOSE_SQUARE ∷ Sign signs.EQUALS ∷ FullExpression ∷ Sign signs.SEMICOLON ∷ below)) f
    (fault_before (Sign signs.EQUALS ∷ []) (FullExpression ∷ Sign signs.SEMICOLON ∷ []) mid f x)

-- a fault of the value that an element is assigned
pub fault_assigned : (index : Expression) (ts mid inside : List Symbol) → ReadsFull 256 ts index (symbols.Sign signs.CLOSE_SQUARE ∷ mid)
    → mid ≡ symbols.Sign signs.EQUALS ∷ inside
    → (f : SyntaxFault) → SyntaxStops (FullExpression ∷ Sign signs.SEMICOLON ∷ []) inside f
    → SyntaxStops element ts f
fault_assigned index ts mid inside r h =
    fault_after element (FullExpression ∷ Sign signs.SEMICOLON ∷ []) ts inside
    (λ below. passes_full r (Sign signs.CLOSE_SQUARE ∷ Sign signs.EQUALS ∷ FullExpression ∷ Sign signs.SEMICOLON ∷ below)
    ∙ ap (λ x. judge 256 x (Outside (Sign signs.EQUALS ∷ FullExpression ∷ Sign signs.SEMICOLON ∷ below))) h)

-- a fault of a stage number
pub fault_number : (ts inside : List Symbol) → ts ≡ symbols.Sign signs.OPEN_ROUND ∷ inside → NoSign signs.CLOSE_ROUND inside
    → (f : SyntaxFault)
    → SyntaxStops (FullExpression ∷ Sign signs.CLOSE_ROUND ∷ []) inside f
    → SyntaxStops stage ts f
fault_number ts inside h n f x =
    fault_after stage (FullExpression ∷ Sign signs.CLOSE_ROUND ∷ Sign signs.SEMICOLON ∷ []) ts inside
    (λ below. ap (λ y. judge 256 y (Outside (stage ++ below))) h ∙ stage_number 256 inside (Sign signs.SEMICOLON ∷ below) n) f
    (fault_before (FullExpression ∷ Sign signs.CLOSE_ROUND ∷ []) (Sign signs.SEMICOLON ∷ []) inside f x)

-- a fault of the sign after a stage number
pub fault_after_number : (e : Expression) (ts inside mid : List Symbol) → ts ≡ symbols.Sign signs.OPEN_ROUND ∷ inside
    → ReadsFull 256 inside e (symbols.Sign signs.CLOSE_ROUND ∷ mid)
    → (f : SyntaxFault) → SyntaxStops (Sign signs.SEMICOLON ∷ []) mid f
    → SyntaxStops stage ts f
fault_after_number e ts inside mid h r =
    fault_after stage (Sign signs.SEMICOLON ∷ []) ts mid
    (λ below. ap (λ y. judge 256 y (Outside (stage ++ below))) h ∙ passes_stage_number r (Sign signs.SEMICOLON ∷ below))

-- the machine passes a test
pub passes_test : (e : Expression) (ts mid : List Symbol) → ReadsTest ts e mid → (below : List Want)
    → judge 256 ts (Outside (Sign signs.OPEN_ROUND ∷ FullExpression ∷ Sign signs.CLOSE_ROUND ∷ below)) ≡ judge 256 mid (Outside below)
passes_test e ts mid t below =
    ap (λ x. judge 256 x (Outside (Sign signs.OPEN_ROUND ∷ FullExpression ∷ Sign signs.CLOSE_ROUND ∷ below))) t.opens
    ∙ passes_full t.reads (Sign signs.CLOSE_ROUND ∷ below)

-- a fault of the body of a `while`
pub fault_body : (e : Expression) (ts mid : List Symbol) → ReadsTest ts e mid → (f : SyntaxFault) → SyntaxStops block mid f
    → SyntaxStops repetition ts f
fault_body e ts mid t = fault_after repetition block ts mid (λ below. passes_test e ts mid t (block ++ below))

-- a fault of the first block of an `if`
pub fault_then : (e : Expression) (ts mid : List Symbol) → ReadsTest ts e mid → (f : SyntaxFault) → SyntaxStops block mid f
    → SyntaxStops choice ts f
fault_then e ts mid t f x = fault_before repetition (Part words.ELSE ∷ []) ts f (fault_body e ts mid t f x)

-- a fault of the `else` of an `if`
pub fault_else : (e : Expression) (a : Statements) (ts mid following : List Symbol) → ReadsTest ts e mid → ReadsBlock 256 mid a following
    → (f : SyntaxFault)
    → SyntaxStops (Part words.ELSE ∷ []) following f
    → SyntaxStops choice ts f
fault_else e a ts mid following t b =
    fault_after choice (Part words.ELSE ∷ []) ts following
    (λ below. passes_test e ts mid t (Sign signs.OPEN_BRACE ∷ machine.Statements ∷ Sign signs.CLOSE_BRACE ∷ Part words.ELSE ∷ below)
    ∙ passes_block b (Part words.ELSE ∷ below))

-- ---- readings
-- a `let`
pub let_read : (name : List ℕ) (e : Expression) (ts following inside rest : List Symbol) → ts ≡ symbols.Name name ∷ following
    → following ≡ symbols.Sign signs.EQUALS ∷ inside
    → ReadsFull 256 inside e (symbols.Sign signs.SEMICOLON ∷ rest)
    → ReadsStatement 256 (symbols.Word words.LET ∷ ts) (Let name e) rest
let_read name e ts following inside rest h i r = rw (h, i) (ReadsLet name r)

-- an assignment
pub assign_read : (name : List ℕ) (e : Expression) (ts inside rest : List Symbol) → ts ≡ symbols.Sign signs.EQUALS ∷ inside
    → ReadsFull 256 inside e (symbols.Sign signs.SEMICOLON ∷ rest)
    → ReadsStatement 256 (symbols.Name name ∷ ts) (Assign name e) rest
assign_read name e ts inside rest h r = rw h (ReadsAssign name r)

-- an assignment to an element
pub element_read : (name : List ℕ) (index e : Expression) (ts mid inside rest : List Symbol)
    → ReadsFull 256 ts index (symbols.Sign signs.CLOSE_SQUARE ∷ mid)
    → mid ≡ symbols.Sign signs.EQUALS ∷ inside → ReadsFull 256 inside e (symbols.Sign signs.SEMICOLON ∷ rest)
    → ReadsStatement 256 (symbols.Name name ∷ symbols.Sign signs.OPEN_SQUARE ∷ ts) (AssignElement name index e) rest
element_read name index e ts mid inside rest r h r' =
    ReadsAssignElement name (subst (λ x. ReadsFull 256 ts index (symbols.Sign signs.CLOSE_SQUARE ∷ x)) h r) r'

-- an `emit`
pub emit_read : (e : Expression) (ts rest : List Symbol) → ReadsFull 256 ts e (symbols.Sign signs.SEMICOLON ∷ rest)
    → ReadsStatement 256 (symbols.Word words.EMIT ∷ ts) (Emit e) rest
emit_read e ts rest r = ReadsEmit r

-- a wait, with or without a stage number
pub wait_read : (number : Option Expr) (ts us rest : List Symbol) → us ≡ symbols.Word words.PIPE_WAIT ∷ ts → ReadsStage ts number rest
    → ReadsStatement 256 us (stage_statement kinds.Wait number) rest
wait_read None ts us rest h s = rw (h, s) (ReadsWaitNext rest)
wait_read (Some e) ts us rest h s = rw (h, s.opens) (ReadsWait s.reads)

-- a continue, with or without a stage number
pub continue_read : (number : Option Expr) (ts us rest : List Symbol) → us ≡ symbols.Word words.PIPE_CONTINUE ∷ ts
    → ReadsStage ts number rest
    → ReadsStatement 256 us (stage_statement kinds.Continue number) rest
continue_read None ts us rest h s = rw (h, s) (ReadsContinueNext rest)
continue_read (Some e) ts us rest h s = rw (h, s.opens) (ReadsContinue s.reads)

-- a `while`, by its parts
pub while_read : (e : Expression) (a : Statements) (ts mid rest : List Symbol) → ReadsTest ts e mid → ReadsBlock 256 mid a rest
    → ReadsStatement 256 (symbols.Word words.WHILE ∷ ts) (While e a) rest
while_read e a ts mid rest t b = rw t.opens (ReadsWhile t.reads b)

-- an `if`, by its parts
pub if_read : (e : Expression) (a b : Statements) (ts mid following rest : List Symbol) → ReadsTest ts e mid
    → ReadsBlock 256 mid a following
    → ReadsPart 256 14 following b rest
    → ReadsStatement 256 (symbols.Word words.IF ∷ ts) (If e a b) rest
if_read e a b ts mid following rest t c p = rw t.opens (ReadsIf t.reads c p)

-- a part that is present
pub part_read : (word : ℕ) (ss : Statements) (ts following rest : List Symbol) → ts ≡ symbols.Word word ∷ following
    → ReadsBlock 256 following ss rest
    → ReadsPart 256 word ts ss rest
part_read word ss ts following rest h b = rw h (ReadsPartIs b)

-- a part that is missing is empty
pub part_missing : (word : ℕ) (ts : List Symbol) → NoWord word ts → ReadsPart 256 word ts Empty ts
part_missing word ts h = ReadsNoPart ts h
