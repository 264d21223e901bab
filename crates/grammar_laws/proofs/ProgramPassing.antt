-- The machine of programs passes statements, cells and programs that are read.
use Rattle.std.proofs.Common.{◌≡◌, ℕ, ℤ, List, [], ◌∷◌, refl, ◌∙◌, arith, Option, true, false, ◌==◌}
use Rattle.pipe_model.specs.declared.sign_bytes.TheConstants as signs
use Rattle.pipe_model.specs.declared.word_codes.TheConstants as words
use Rattle.pipe_model.specs.declared.symbol.Symbol.{Symbol}
use Rattle.pipe_model.specs.declared.symbol.Symbol.TheVariants as symbols
use Rattle.pipe_model.specs.declared.tree.Declaration.{Declaration}
use Rattle.pipe_model.specs.Language.SyntaxTree.{Statement, Statements, SyntaxTree}
use Rattle.grammar_laws.specs.Reading.{ReadsStatement, ReadsLet, ReadsAssign, ReadsAssignElement, ReadsEmit, ReadsIf, ReadsWhile, ReadsWait}
use Rattle.grammar_laws.specs.Reading.{ReadsWaitNext, ReadsContinue, ReadsContinueNext, ReadsStatements, ReadsClose, ReadsOneMore}
use Rattle.grammar_laws.specs.Reading.{ReadsBlock, ReadsBraces, ReadsPart, ReadsNoPart, ReadsPartIs, ReadsSize, ReadsNoSize, ReadsSizeIs}
use Rattle.grammar_laws.specs.Reading.{ReadsValue, ReadsValueIs, ReadsNegativeValue, ReadsCell, ReadsCellIs, ReadsCells, ReadsNoCell}
use Rattle.grammar_laws.specs.Reading.{ReadsCellThen, ReadsProgram, ReadsAll, NoWord, NoSign}
use Rattle.grammar_laws.specs.ProgramMachine as machine
use Rattle.grammar_laws.specs.ProgramMachine.{Want, Sign, Word, Part, Cells, Size, Value, Outside, Accepted, judge, program}
use Rattle.grammar_laws.proofs.FullExpressions.{passes_full, passes_stage_number}

-- a part that is missing
pub no_part : (longest word : ℕ) (ts : List Symbol) (wants : List Want) → NoWord word ts
    → judge longest ts (Outside (Part word ∷ wants)) ≡ judge longest ts (Outside wants)
no_part longest word [] wants h = refl
no_part longest word (symbols.Name name ∷ ts) wants h = refl
no_part longest word (symbols.Word k ∷ ts) wants h = let e : (k == word) ≡ false = grind (arith, h) in rw e refl
no_part longest word (symbols.Number n ∷ ts) wants h = refl
no_part longest word (symbols.Operator code ∷ ts) wants h = refl
no_part longest word (symbols.Sign b ∷ ts) wants h = refl

-- the word of a part
pub part_begins : (longest word : ℕ) (ts : List Symbol) (wants : List Want)
    → judge longest (symbols.Word word ∷ ts) (Outside (Part word ∷ wants))
    ≡ judge longest ts (Outside (Sign signs.OPEN_BRACE ∷ machine.Statements ∷ Sign signs.CLOSE_BRACE ∷ wants))
part_begins longest word ts wants = let e : (word == word) ≡ true = grind arith in rw e refl

mutual
  pub passes_statement : {longest : ℕ} {ts rest : List Symbol} {s : Statement} → ReadsStatement longest ts s rest → (wants : List Want)
      → judge longest ts (Outside (machine.Statements ∷ wants)) ≡ judge longest rest (Outside (machine.Statements ∷ wants))
  passes_statement (ReadsLet name r) wants = passes_full r (Sign signs.SEMICOLON ∷ machine.Statements ∷ wants)
  passes_statement (ReadsAssign name r) wants = passes_full r (Sign signs.SEMICOLON ∷ machine.Statements ∷ wants)
  passes_statement (ReadsAssignElement name r r') wants =
      passes_full r (Sign signs.CLOSE_SQUARE ∷ Sign signs.EQUALS ∷ machine.FullExpression ∷ Sign signs.SEMICOLON ∷ machine.Statements ∷
      wants)
      ∙ passes_full r' (Sign signs.SEMICOLON ∷ machine.Statements ∷ wants)
  passes_statement (ReadsEmit r) wants = passes_full r (Sign signs.SEMICOLON ∷ machine.Statements ∷ wants)
  passes_statement (ReadsIf r a b) wants =
      passes_full r (Sign signs.CLOSE_ROUND ∷ Sign signs.OPEN_BRACE ∷ machine.Statements ∷ Sign signs.CLOSE_BRACE ∷ Part words.ELSE ∷
      machine.Statements ∷ wants)
      ∙ passes_block a (Part words.ELSE ∷ machine.Statements ∷ wants) ∙ passes_part b (machine.Statements ∷ wants)
  passes_statement (ReadsWhile r a) wants =
      passes_full r (Sign signs.CLOSE_ROUND ∷ Sign signs.OPEN_BRACE ∷ machine.Statements ∷ Sign signs.CLOSE_BRACE ∷ machine.Statements ∷
      wants)
      ∙ passes_block a (machine.Statements ∷ wants)
  passes_statement (ReadsWait r) wants = passes_stage_number r (Sign signs.SEMICOLON ∷ machine.Statements ∷ wants)
  passes_statement (ReadsWaitNext rest) wants = refl
  passes_statement (ReadsContinue r) wants = passes_stage_number r (Sign signs.SEMICOLON ∷ machine.Statements ∷ wants)
  passes_statement (ReadsContinueNext rest) wants = refl

  -- statements and the brace that closes them
  pub passes_statements : {longest : ℕ} {ts rest : List Symbol} {ss : Statements} → ReadsStatements longest ts ss rest → (wants : List Want)
      → judge longest ts (Outside (machine.Statements ∷ Sign signs.CLOSE_BRACE ∷ wants)) ≡ judge longest rest (Outside wants)
  passes_statements (ReadsClose rest) wants = refl
  passes_statements (ReadsOneMore r b) wants = passes_statement r (Sign signs.CLOSE_BRACE ∷ wants) ∙ passes_statements b wants

  pub passes_block : {longest : ℕ} {ts rest : List Symbol} {ss : Statements} → ReadsBlock longest ts ss rest → (wants : List Want)
      → judge longest ts (Outside (Sign signs.OPEN_BRACE ∷ machine.Statements ∷ Sign signs.CLOSE_BRACE ∷ wants))
      ≡ judge longest rest (Outside wants)
  passes_block (ReadsBraces r) wants = passes_statements r wants

  -- a part that may be missing
  pub passes_part : {longest word : ℕ} {ts rest : List Symbol} {ss : Statements} → ReadsPart longest word ts ss rest → (wants : List Want)
      → judge longest ts (Outside (Part word ∷ wants)) ≡ judge longest rest (Outside wants)
  passes_part {longest} (ReadsNoPart {word = word} ts h) wants = no_part longest word ts wants h
  passes_part {longest} (ReadsPartIs {word = word} {ts = ts} r) wants = part_begins longest word ts wants ∙ passes_block r wants

-- a size that is missing
pub no_size : (longest : ℕ) (ts : List Symbol) (wants : List Want) → NoSign signs.OPEN_SQUARE ts → judge longest ts
    (Outside (Size ∷ wants)) ≡ judge longest ts (Outside wants)
no_size longest [] wants h = refl
no_size longest (symbols.Name name ∷ ts) wants h = refl
no_size longest (symbols.Word k ∷ ts) wants h = refl
no_size longest (symbols.Number n ∷ ts) wants h = refl
no_size longest (symbols.Operator code ∷ ts) wants h = refl
no_size longest (symbols.Sign b ∷ ts) wants h = let e : (b == signs.OPEN_SQUARE) ≡ false = grind (arith, h) in rw e refl

pub passes_size : (longest : ℕ) {ts rest : List Symbol} {size : Option ℤ} → ReadsSize ts size rest → (wants : List Want)
    → judge longest ts (Outside (Size ∷ wants)) ≡ judge longest rest (Outside wants)
passes_size longest (ReadsNoSize ts h) wants = no_size longest ts wants h
passes_size longest (ReadsSizeIs n rest) wants = refl

pub passes_value : (longest : ℕ) {ts rest : List Symbol} {value : ℤ} → ReadsValue ts value rest → (wants : List Want)
    → judge longest ts (Outside (Value ∷ wants)) ≡ judge longest rest (Outside wants)
passes_value longest (ReadsValueIs n rest) wants = refl
passes_value longest (ReadsNegativeValue n rest) wants = refl

pub passes_cell : (longest : ℕ) {ts rest : List Symbol} {d : Declaration} → ReadsCell ts d rest → (wants : List Want)
    → judge longest ts (Outside (machine.AnyName ∷ Size ∷ Sign signs.EQUALS ∷ Value ∷ Sign signs.SEMICOLON ∷ wants))
    ≡ judge longest rest (Outside wants)
passes_cell longest (ReadsCellIs name s v) wants = passes_size longest s (Sign signs.EQUALS ∷ Value ∷ Sign signs.SEMICOLON ∷ wants)
    ∙ passes_value longest v (Sign signs.SEMICOLON ∷ wants)

-- no further declaration follows
pub no_cell : (longest : ℕ) (ts : List Symbol) (wants : List Want) → NoWord 6 ts → judge longest ts
    (Outside (Cells ∷ wants)) ≡ judge longest ts (Outside wants)
no_cell longest [] wants h = refl
no_cell longest (symbols.Name name ∷ ts) wants h = refl
no_cell longest (symbols.Word k ∷ ts) wants h = let e : (k == words.CELL) ≡ false = grind (arith, h) in rw e refl
no_cell longest (symbols.Number n ∷ ts) wants h = refl
no_cell longest (symbols.Operator code ∷ ts) wants h = refl
no_cell longest (symbols.Sign b ∷ ts) wants h = refl

pub passes_cells : (longest : ℕ) {ts rest : List Symbol} {ds : List Declaration} → ReadsCells ts ds rest → (wants : List Want)
    → judge longest ts (Outside (Cells ∷ wants)) ≡ judge longest rest (Outside wants)
passes_cells longest (ReadsNoCell ts h) wants = no_cell longest ts wants h
passes_cells longest (ReadsCellThen r rs) wants = passes_cell longest r (Cells ∷ wants) ∙ passes_cells longest rs wants

-- the machine accepts a program that is read
pub accepts_program : {longest : ℕ} {ts : List Symbol} {p : SyntaxTree} → ReadsProgram longest ts p
    → judge longest ts (Outside program) ≡ Accepted
accepts_program {longest} (ReadsAll iterations stages steps emits c i e b l) =
    passes_cells longest c (Part words.INIT ∷ Word words.PIPE_WHILE ∷ Sign signs.OPEN_ROUND ∷ machine.FullExpression ∷
    Sign signs.CLOSE_ROUND ∷ Sign signs.OPEN_BRACE ∷ machine.Statements ∷ Sign signs.CLOSE_BRACE ∷
    Part words.FINAL ∷ [])
    ∙ passes_part i (Word words.PIPE_WHILE ∷ Sign signs.OPEN_ROUND ∷ machine.FullExpression ∷ Sign signs.CLOSE_ROUND ∷
    Sign signs.OPEN_BRACE ∷ machine.Statements ∷ Sign signs.CLOSE_BRACE ∷ Part words.FINAL ∷ [])
    ∙ passes_full e (Sign signs.CLOSE_ROUND ∷ Sign signs.OPEN_BRACE ∷ machine.Statements ∷ Sign signs.CLOSE_BRACE ∷ Part words.FINAL ∷
    []) ∙ passes_block b (Part words.FINAL ∷ []) ∙ passes_part l []
