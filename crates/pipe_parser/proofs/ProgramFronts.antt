-- Readings of limits, cells and programs and the faults of their readers, by the first symbols.
use Rattle.std.proofs.Common.{◌≡◌, ap, sym, ◌∙◌, subst, ℕ, ℤ, pos, negsuc, List, [], ◌∷◌, ◌++◌, ◌<◌, length, append_assoc, append-nil, refl}
use Rattle.std.proofs.Common.{arith, Option, Some, None, ◌==◌, false, int_lt}
use Rattle.std.proofs.Math.IntN.{neg_ℤ, ◌-ℤ◌, +ℤ_idl}
use Rattle.std.proofs.lemmas.List.{nil_from_length}
use Rattle.std.proofs.lemmas.Bool.{false≢true}
use Rattle.pipe_model.specs.declared.operator_codes.TheConstants as operator_codes
use Rattle.pipe_model.specs.declared.sign_bytes.TheConstants as signs
use Rattle.pipe_model.specs.declared.word_codes.TheConstants as words
use Rattle.pipe_model.specs.declared.symbol.Symbol.{Symbol}
use Rattle.pipe_model.specs.declared.symbol.Symbol.TheVariants as symbols
use Rattle.pipe_model.specs.declared.tree.Declaration.{Declaration}
use Rattle.pipe_model.specs.declared.tree.Limits.{Limits}
use Rattle.grammar_laws.specs.ProgramMachine as machine
use Rattle.grammar_laws.specs.ProgramMachine.{Want, Sign, Word, AnyName, AnyNumber, FullExpression, Part, Cells, Size, Value, Natural}
use Rattle.grammar_laws.specs.ProgramMachine.{Outside, judge, program, IsRejected}
use Rattle.pipe_model.specs.Language.SyntaxTree.{Expression, Statements}
use Rattle.pipe_model.specs.Language.Grammar.{declaration}
use Rattle.grammar_laws.specs.Reading.{ReadsPart, ReadsSize, ReadsNoSize, ReadsSizeIs, ReadsValue, ReadsValueIs, ReadsNegativeValue}
use Rattle.grammar_laws.specs.Reading.{ReadsCell, ReadsCellIs, ReadsCells, ReadsNoCell, ReadsCellThen, ReadsProgram, ReadsAll, NoSign}
use Rattle.grammar_laws.specs.Reading.{NoWord}
use Rattle.grammar_laws.proofs.ProgramPassing.{passes_cells, passes_part, passes_block, passes_cell, passes_size, passes_value}
use Rattle.pipe_parser.specs.declared.fault.SyntaxFault.{SyntaxFault}
use Rattle.pipe_parser.specs.declared.fault.SyntaxFault.TheVariants as faults
use Rattle.pipe_parser.specs.ProgramReadings.{limit, limits, cell, loop, HasLimits, ReadsLoop}
use Rattle.pipe_parser.specs.StatementReadings.{block, ReadsTest}
use Rattle.pipe_parser.specs.SymbolFronts.{NoOperator}
use Rattle.pipe_parser.specs.SyntaxFaults.{SyntaxStops, Refuses}
use Rattle.pipe_parser.proofs.StatementFronts.{fault_after, fault_before, passes_test}

-- a fault of the first wants after the symbols that were read
fault_through : (wants others more : List Want) (ts us : List Symbol)
    → ((below : List Want) → judge 256 ts (Outside (wants ++ below)) ≡ judge 256 us (Outside ((others ++ more) ++ below)))
    → (f : SyntaxFault)
    → SyntaxStops others us f
    → SyntaxStops wants ts f
fault_through wants others more ts us h f x = fault_after wants (others ++ more) ts us h f (fault_before others more us f x)

-- ---- limits
-- a limit, beginning with its word, before other symbols
abbrev limit_before : ℕ → ℤ → ℕ → List Symbol → List Symbol
limit_before word n sign ts = symbols.Word word ∷ symbols.Number n ∷ symbols.Sign sign ∷ ts

-- a fault of the last limit
pub fault_emits : (i s p : ℤ) (ts a b c d : List Symbol) → ts ≡ symbols.Word words.LIMITS ∷ a
    → a ≡ limit_before words.ITERATIONS i signs.COMMA b → b ≡ limit_before words.STAGES s signs.COMMA c
    → c ≡ limit_before words.STEPS p signs.COMMA d → (f : SyntaxFault) → SyntaxStops (limit words.EMITS signs.SEMICOLON) d f
    → SyntaxStops limits ts f
fault_emits i s p ts a b c d h j k l =
    fault_after limits (limit words.EMITS signs.SEMICOLON) ts d
    (λ below. ap (λ x. judge 256 x (Outside (limits ++ below)))
    (h ∙ ap (λ x. symbols.Word words.LIMITS ∷ x) (j ∙ ap (limit_before words.ITERATIONS i signs.COMMA) (k
    ∙ ap (limit_before words.STAGES s signs.COMMA) l))))

-- ---- cells
-- no size
pub size_missing : (ts : List Symbol) → NoSign signs.OPEN_SQUARE ts → ReadsSize ts None ts
size_missing ts h = ReadsNoSize ts h

-- a size in its brackets
pub size_read : (n : ℤ) (ts inside following rest : List Symbol) → ts ≡ symbols.Sign signs.OPEN_SQUARE ∷ inside
    → inside ≡ symbols.Number n ∷ following
    → following ≡ symbols.Sign signs.CLOSE_SQUARE ∷ rest
    → ReadsSize ts (Some n) rest
size_read n ts inside following rest h i j = rw (h, i, j) (ReadsSizeIs n rest)

-- without a minus a value is a number
value_as_number : (ts : List Symbol) (below : List Want) → NoOperator 10 ts
    → judge 256 ts (Outside (Value ∷ below)) ≡ judge 256 ts (Outside (AnyNumber ∷ below))
value_as_number [] below h = refl
value_as_number (symbols.Name name ∷ ts) below h = refl
value_as_number (symbols.Word k ∷ ts) below h = refl
value_as_number (symbols.Number n ∷ ts) below h = refl
value_as_number (symbols.Operator code ∷ ts) below h = let e : (code == operator_codes.MINUS) ≡ false = grind (arith, h) in rw e refl
value_as_number (symbols.Sign b ∷ ts) below h = refl

-- so its fault is a fault of a number
pub fault_value : (ts : List Symbol) → NoOperator 10 ts → (f : SyntaxFault) → SyntaxStops (AnyNumber ∷ []) ts f
    → SyntaxStops (Value ∷ []) ts f
fault_value ts h = fault_after (Value ∷ []) (AnyNumber ∷ []) ts ts (λ below. value_as_number ts below h)

-- a number is read as the value
pub value_read : (n : ℤ) (ts rest : List Symbol) → ts ≡ symbols.Number n ∷ rest → ReadsValue ts n rest
value_read n ts rest h = rw h (ReadsValueIs n rest)

-- a number after a minus is read as its negative
pub minus_read : (n : ℤ) (ts us rest : List Symbol) → ts ≡ symbols.Operator operator_codes.MINUS ∷ us → us ≡ symbols.Number n ∷ rest
    → int_lt n (pos 0) ≡ false
    → ReadsValue ts (pos 0 -ℤ n) rest
minus_read (pos size) ts us rest h i w =
    let same : pos 0 -ℤ pos size ≡ neg_ℤ (pos size) = +ℤ_idl (neg_ℤ (pos size)) in
    rw (same, h, i) (ReadsNegativeValue size rest)
minus_read (negsuc k) ts us rest h i w = absurd (false≢true (sym w))

-- a declaration, by its parts
pub cell_read : (name : List ℕ) (size : Option ℤ) (value : ℤ) (ts a b c d rest : List Symbol) → ts ≡ symbols.Name name ∷ a
    → ReadsSize a size b
    → b ≡ symbols.Sign signs.EQUALS ∷ c → ReadsValue c value d → d ≡ symbols.Sign signs.SEMICOLON ∷ rest
    → ReadsCell ts (declaration name size value) rest
cell_read name size value ts a b c d rest h s i v j =
    rw h (ReadsCellIs name (subst (λ x. ReadsSize a size x) i s) (subst (λ x. ReadsValue c value x) j v))

-- the machine passes the name and the size of a cell
passes_name : (name : List ℕ) (size : Option ℤ) (ts a b : List Symbol) → ts ≡ symbols.Name name ∷ a → ReadsSize a size b
    → (below : List Want)
    → judge 256 ts (Outside (cell ++ below)) ≡ judge 256 b (Outside (Sign signs.EQUALS ∷ Value ∷ Sign signs.SEMICOLON ∷ below))
passes_name name size ts a b h s below =
    ap (λ x. judge 256 x (Outside (cell ++ below))) h ∙ passes_size 256 s (Sign signs.EQUALS ∷ Value ∷ Sign signs.SEMICOLON ∷ below)

-- a fault of the sign before the value
pub fault_equals : (name : List ℕ) (size : Option ℤ) (ts a b : List Symbol) → ts ≡ symbols.Name name ∷ a → ReadsSize a size b
    → (f : SyntaxFault)
    → SyntaxStops (Sign signs.EQUALS ∷ []) b f
    → SyntaxStops cell ts f
fault_equals name size ts a b h s = fault_through cell (Sign signs.EQUALS ∷ []) (Value ∷ Sign signs.SEMICOLON ∷ []) ts b
    (λ below. passes_name name size ts a b h s below)

-- the machine passes that sign
passes_equals : (name : List ℕ) (size : Option ℤ) (ts a b c : List Symbol) → ts ≡ symbols.Name name ∷ a → ReadsSize a size b
    → b ≡ symbols.Sign signs.EQUALS ∷ c
    → (below : List Want) → judge 256 ts (Outside (cell ++ below)) ≡ judge 256 c (Outside (Value ∷ Sign signs.SEMICOLON ∷ below))
passes_equals name size ts a b c h s i below =
    passes_name name size ts a b h s below ∙ ap (λ x. judge 256 x (Outside (Sign signs.EQUALS ∷ Value ∷ Sign signs.SEMICOLON ∷ below))) i

-- a fault of the sign after the value
pub fault_cell_end : (name : List ℕ) (size : Option ℤ) (value : ℤ) (ts a b c d : List Symbol) → ts ≡ symbols.Name name ∷ a
    → ReadsSize a size b
    → b ≡ symbols.Sign signs.EQUALS ∷ c → ReadsValue c value d → (f : SyntaxFault) → SyntaxStops (Sign signs.SEMICOLON ∷ []) d f
    → SyntaxStops cell ts f
fault_cell_end name size value ts a b c d h s i v =
    fault_after cell (Sign signs.SEMICOLON ∷ []) ts d (λ below. passes_equals name size ts a b c h s i below
    ∙ passes_value 256 v (Sign signs.SEMICOLON ∷ below))

-- one more declaration is appended to those found so far
pub one_more_cell : (all rest declared following : List Symbol) (found : List Declaration) (d : Declaration)
    → ((ds : List Declaration) (end : List Symbol) → ReadsCells rest ds end → ReadsCells all (found ++ ds) end)
    → rest ≡ symbols.Word words.CELL ∷ declared
    → ReadsCell declared d following → (ds : List Declaration) (end : List Symbol) → ReadsCells following ds end
    → ReadsCells all ((found ++ d ∷ []) ++ ds) end
one_more_cell all rest declared following found d f h r ds end rs =
    let more : ReadsCells rest (d ∷ ds) end = rw h (ReadsCellThen r rs) in
    subst (λ x. ReadsCells all x end) (sym (append_assoc found (d ∷ []) ds)) (f (d ∷ ds) end more)

-- the machine passes it
pub passes_one_cell : (rest declared following : List Symbol) (d : Declaration) → rest ≡ symbols.Word words.CELL ∷ declared
    → ReadsCell declared d following
    → (below : List Want) → judge 256 rest (Outside (Cells ∷ below)) ≡ judge 256 following (Outside (Cells ∷ below))
passes_one_cell rest declared following d h r below = ap (λ x. judge 256 x (Outside (Cells ∷ below))) h ∙ passes_cell 256 r (Cells ∷ below)

-- if the word of a cell does not come, the declarations found so far are all
pub cells_read : (all rest : List Symbol) (found : List Declaration)
    → ((ds : List Declaration) (end : List Symbol) → ReadsCells rest ds end → ReadsCells all (found ++ ds) end) → NoWord 6 rest
    → ReadsCells all found rest
cells_read all rest found f h = subst (λ x. ReadsCells all x rest) (append-nil found) (f [] rest (ReadsNoCell rest h))

-- a fault of one declaration is a fault of the declarations
pub fault_cell : (all rest declared : List Symbol)
    → ((below : List Want) → judge 256 all (Outside (Cells ∷ below)) ≡ judge 256 rest (Outside (Cells ∷ below)))
    → rest ≡ symbols.Word words.CELL ∷ declared
    → (f : SyntaxFault) → SyntaxStops cell declared f
    → SyntaxStops (Cells ∷ []) all f
fault_cell all rest declared p h =
    fault_through (Cells ∷ []) cell (Cells ∷ []) all declared (λ below. p below ∙ ap (λ x. judge 256 x (Outside (Cells ∷ below))) h)

-- ---- the loop
-- a fault of the loop's body
pub fault_loop_body : (e : Expression) (ts following mid : List Symbol) → ts ≡ symbols.Word words.PIPE_WHILE ∷ following
    → ReadsTest following e mid
    → (f : SyntaxFault)
    → SyntaxStops block mid f
    → SyntaxStops loop ts f
fault_loop_body e ts following mid h t =
    fault_after loop block ts mid (λ below. ap (λ x. judge 256 x (Outside (loop ++ below))) h
    ∙ passes_test e following mid t (block ++ below))

-- the machine passes the loop
passes_loop : (e : Expression) (ss : Statements) (ts rest : List Symbol) → ReadsLoop ts e ss rest → (below : List Want)
    → judge 256 ts (Outside (loop ++ below)) ≡ judge 256 rest (Outside below)
passes_loop e ss ts rest l below =
    ap (λ x. judge 256 x (Outside (loop ++ below))) l.begins ∙ passes_test e l.following l.mid l.tested (block ++ below)
    ∙ passes_block l.block below

-- ---- programs

-- what is wanted once the loop begins
abbrev from_loop : List Want
from_loop = loop ++ Part words.FINAL ∷ []

-- what is wanted once the cells begin
abbrev from_cells : List Want
from_cells = Cells ∷ Part words.INIT ∷ from_loop

-- a fault after the parts of a program that were read
refuses_after : (wants below : List Want) (ts us : List Symbol) → judge 256 ts (Outside program) ≡ judge 256 us (Outside (wants ++ below))
    → (f : SyntaxFault) → SyntaxStops wants us f
    → Refuses ts f
refuses_after wants below ts us h (faults.Unexpected left) x = h ∙ x.refused below
refuses_after wants below ts us h (faults.TooLong left) x = h ∙ x.refused below
refuses_after wants below ts us h faults.NoMemory x = tt
refuses_after wants below ts us h (faults.TooDeep left) x = x

-- a fault of the limits
pub refuses_limits : (ts : List Symbol) (f : SyntaxFault) → SyntaxStops limits ts f → Refuses ts f
refuses_limits ts = refuses_after limits from_cells ts ts refl

-- the machine passes the limits
after_limits : (l : Limits) (ts a : List Symbol) → HasLimits ts l a → judge 256 ts (Outside program) ≡ judge 256 a (Outside from_cells)
after_limits l ts a h = ap (λ x. judge 256 x (Outside program)) h

-- a fault of the declarations
pub refuses_cells : (l : Limits) (ts a : List Symbol) → HasLimits ts l a → (f : SyntaxFault) → SyntaxStops (Cells ∷ []) a f → Refuses ts f
refuses_cells l ts a h = refuses_after (Cells ∷ []) (Part words.INIT ∷ from_loop) ts a (after_limits l ts a h)

-- the machine passes the declarations
after_cells : (l : Limits) (ds : List Declaration) (ts a b : List Symbol) → HasLimits ts l a → ReadsCells a ds b
    → judge 256 ts (Outside program) ≡ judge 256 b (Outside (Part words.INIT ∷ from_loop))
after_cells l ds ts a b h c = after_limits l ts a h ∙ passes_cells 256 c (Part words.INIT ∷ from_loop)

-- a fault of the first part
pub refuses_init : (l : Limits) (ds : List Declaration) (ts a b : List Symbol) → HasLimits ts l a → ReadsCells a ds b → (f : SyntaxFault)
    → SyntaxStops (Part words.INIT ∷ []) b f
    → Refuses ts f
refuses_init l ds ts a b h c = refuses_after (Part words.INIT ∷ []) from_loop ts b (after_cells l ds ts a b h c)

-- the machine passes the first part
after_init : (l : Limits) (ds : List Declaration) (init : Statements) (ts a b c : List Symbol) → HasLimits ts l a → ReadsCells a ds b
    → ReadsPart 256 7 b init c → judge 256 ts (Outside program) ≡ judge 256 c (Outside from_loop)
after_init l ds init ts a b c h r p = after_cells l ds ts a b h r ∙ passes_part p from_loop

-- a fault of the loop
pub refuses_loop : (l : Limits) (ds : List Declaration) (init : Statements) (ts a b c : List Symbol) → HasLimits ts l a → ReadsCells a ds b
    → ReadsPart 256 7 b init c → (f : SyntaxFault) → SyntaxStops loop c f
    → Refuses ts f
refuses_loop l ds init ts a b c h r p = refuses_after loop (Part words.FINAL ∷ []) ts c (after_init l ds init ts a b c h r p)

-- the machine passes the loop of a program
after_loop : (l : Limits) (ds : List Declaration) (init body : Statements) (e : Expression) (ts a b c d : List Symbol) → HasLimits ts l a
    → ReadsCells a ds b → ReadsPart 256 7 b init c → ReadsLoop c e body d → judge 256 ts (Outside program) ≡ judge 256 d
    (Outside (Part words.FINAL ∷ []))
after_loop l ds init body e ts a b c d h r p q = after_init l ds init ts a b c h r p ∙ passes_loop e body c d q (Part words.FINAL ∷ [])

-- a fault of the last part
pub refuses_last : (l : Limits) (ds : List Declaration) (init body : Statements) (e : Expression) (ts a b c d : List Symbol)
    → HasLimits ts l a
    → ReadsCells a ds b → ReadsPart 256 7 b init c → ReadsLoop c e body d → (f : SyntaxFault) → SyntaxStops (Part words.FINAL ∷ []) d f
    → Refuses ts f
refuses_last l ds init body e ts a b c d h r p q = refuses_after (Part words.FINAL ∷ []) [] ts d
    (after_loop l ds init body e ts a b c d h r p q)

-- if nothing more may come, the first symbol is unexpected
left_over : (ts : List Symbol) → 0 < length ts → judge 256 ts (Outside []) ≡ machine.Unexpected (length ts)
left_over [] h = absurd (omega (arith, h))
left_over (t ∷ ts) h = refl

-- a fault of the symbols after the last part
pub refuses_more : (l : Limits) (ds : List Declaration) (init body last : Statements) (e : Expression) (ts a b c d rest : List Symbol)
    → HasLimits ts l a
    → ReadsCells a ds b → ReadsPart 256 7 b init c → ReadsLoop c e body d → ReadsPart 256 11 d last rest → 0 < length rest
    → judge 256 ts (Outside program) ≡ machine.Unexpected (length rest)
refuses_more l ds init body last e ts a b c d rest h r p q x n =
    after_loop l ds init body e ts a b c d h r p q ∙ passes_part x [] ∙ left_over rest n

-- a program, by its parts
pub program_read : (l : Limits) (ds : List Declaration) (init body last : Statements) (e : Expression) (ts a b c d rest : List Symbol)
    → HasLimits ts l a
    → ReadsCells a ds b → ReadsPart 256 7 b init c → ReadsLoop c e body d → ReadsPart 256 11 d last rest → length rest ≡ 0
    → ReadsProgram 256 ts (record { limits = l; cells = ds; init = init; test = e; body = body; last = last })
program_read l ds init body last e ts a b c d rest h r p q x n =
    let begins : c ≡ symbols.Word words.PIPE_WHILE ∷ symbols.Sign signs.OPEN_ROUND ∷ q.tested.inside = q.begins
    ∙ ap (λ y. symbols.Word words.PIPE_WHILE ∷ y) q.tested.opens in
    let init_read = subst (λ y. ReadsPart 256 7 b init y) begins p in
    let last_read = subst (λ y. ReadsPart 256 11 d last y) (nil_from_length rest n) x in
    rw h (ReadsAll l.iterations l.stages l.steps l.emits r init_read q.tested.reads q.block last_read)
