-- If the machine of programs runs over symbols, some program begins with them: wants can be completed, and each step of the table is sound.
use Rattle.std.proofs.Common.{◌≡◌, ℕ, ℤ, List, [], ◌∷◌, ◌++◌, refl, sym, ap, ◌∙◌, append_assoc, arith, subst, ◌⊎◌, inl, inr, Option, Some}
use Rattle.std.proofs.Common.{None, Bool, true, false, ◌==◌, ◌||◌, pos, negsuc, if◌then◌else◌}
use Rattle.std.proofs.lemmas.Bool.{cases_eq}
use Rattle.pipe_model.specs.declared.operator_codes.TheConstants as operator_codes
use Rattle.pipe_model.specs.declared.sign_bytes.TheConstants as signs
use Rattle.pipe_model.specs.declared.word_codes.TheConstants as words
use Rattle.pipe_model.specs.declared.symbol.Symbol.{Symbol}
use Rattle.pipe_model.specs.declared.symbol.Symbol.TheVariants as symbols
use Rattle.pipe_model.specs.declared.tree.Declaration.{Declaration}
use Rattle.pipe_model.specs.Language.SyntaxTree.{Expression, Statement, Statements}
use Rattle.pipe_model.specs.Language.Grammar.{any_expression, Derives, Numeral, Piece, Single, FullExpression, DerivesStatement, LetIs}
use Rattle.pipe_model.specs.Language.Grammar.{AssignIs, AssignElementIs, EmitIs, IfIs, WhileIs, WaitIs, WaitNextIs, ContinueIs}
use Rattle.pipe_model.specs.Language.Grammar.{ContinueNextIs, DerivesStatements, NoStatement, OneMore, DerivesBlock, BlockIs, DerivesPart}
use Rattle.pipe_model.specs.Language.Grammar.{NoPart, PartIs, DerivesSize, NoSize, SizeIs, DerivesValue, ValueIs, NegativeValueIs}
use Rattle.pipe_model.specs.Language.Grammar.{DerivesCells, NoCell, CellIs}
use Rattle.pipe_model.specs.Language.Words.{word_cell, word_pipe_wait, word_pipe_continue, word_let, word_if, word_while, word_emit, minus}
use Rattle.pipe_model.specs.Language.Words.{open_round, close_round, semicolon, equals, open_square, close_square, open_brace, close_brace}
use Rattle.grammar_laws.specs.ProgramMachine as machine
use Rattle.grammar_laws.specs.ProgramMachine.{Want, Sign, Word, AnyName, AnyNumber, Natural, StageNumber, Target, Part, Cells, Size, Value}
use Rattle.grammar_laws.specs.ProgramMachine.{Move, Takes, Enters, Skips, Refuses, move, statement_move, natural_move, MachineState}
use Rattle.grammar_laws.specs.ProgramMachine.{Outside, Inside, whole, entered, stepped, step, may_end}
use Rattle.grammar_laws.specs.ExpressionMachine as expression
use Rattle.pipe_model.proofs.LevelLaws.{looser}

-- ---- pieces that complete a list of wants
pub data Completes : List Want → List Piece → Type 0 where
  Nothing : Completes [] []
  OfSign : {wants : List Want} {ps : List Piece} (sign : ℕ) → Completes wants ps → Completes (Sign sign ∷ wants)
      (Single (symbols.Sign sign) ∷ ps)
  OfWord : {wants : List Want} {ps : List Piece} (word : ℕ) → Completes wants ps → Completes (Word word ∷ wants)
      (Single (symbols.Word word) ∷ ps)
  OfName : {wants : List Want} {ps : List Piece} (name : List ℕ) → Completes wants ps → Completes (AnyName ∷ wants)
      (Single (symbols.Name name) ∷ ps)
  OfNumber : {wants : List Want} {ps : List Piece} (n : ℤ) → Completes wants ps → Completes (AnyNumber ∷ wants)
      (Single (symbols.Number n) ∷ ps)
  OfNatural : {wants : List Want} {ps : List Piece} (n : ℕ) → Completes wants ps → Completes (Natural ∷ wants)
      (Single (symbols.Number (pos n)) ∷ ps)
  OfFull : {wants : List Want} {ps : List Piece} {ts : List Symbol} {e : Expression} → Derives any_expression ts e → Completes wants ps
      → Completes (machine.FullExpression ∷ wants) (FullExpression ts ∷ ps)
  OfNoStage : {wants : List Want} {ps : List Piece} → Completes wants ps → Completes (StageNumber ∷ wants) ps
  OfStage : {wants : List Want} {ps : List Piece} {ts : List Symbol} {e : Expression} → Derives any_expression ts e → Completes wants ps
      → Completes (StageNumber ∷ wants) (FullExpression ts ∷ ps)
  OfAssign : {wants : List Want} {ps : List Piece} {ts : List Symbol} {e : Expression} → Derives any_expression ts e → Completes wants ps
      → Completes (Target ∷ wants) (Single equals ∷ FullExpression ts ∷ Single semicolon ∷ ps)
  OfAssignElement : {wants : List Want} {ps : List Piece} {us ts : List Symbol} {index e : Expression} → Derives any_expression us index
      → Derives any_expression ts e
      → Completes wants ps
      → Completes (Target ∷ wants)
      (Single open_square ∷ FullExpression us ∷ Single close_square ∷ Single equals ∷ FullExpression ts ∷ Single semicolon ∷ ps)
  OfStatements : {wants : List Want} {ps qs : List Piece} {ss : Statements} → DerivesStatements ps ss → Completes wants qs
      → Completes (machine.Statements ∷ wants) (ps ++ qs)
  OfPart : {wants : List Want} {ps qs : List Piece} {ss : Statements} (word : ℕ) → DerivesPart (symbols.Word word) ps ss
      → Completes wants qs
      → Completes (Part word ∷ wants) (ps ++ qs)
  OfCells : {wants : List Want} {ps qs : List Piece} {ds : List Declaration} → DerivesCells ps ds → Completes wants qs
      → Completes (Cells ∷ wants) (ps ++ qs)
  OfSize : {wants : List Want} {ps qs : List Piece} {size : Option ℤ} → DerivesSize ps size → Completes wants qs
      → Completes (Size ∷ wants) (ps ++ qs)
  OfValue : {wants : List Want} {ps qs : List Piece} {value : ℤ} → DerivesValue ps value → Completes wants qs
      → Completes (Value ∷ wants) (ps ++ qs)

-- pieces that complete the wants
pub record Completion (wants : List Want) : Type 0 where
  pub pieces : List Piece
  pub completes : Completes wants pieces

one_more : (want : Want) (wants : List Want) → Completion wants → Completion (want ∷ wants)
one_more (Sign sign) wants c = record { pieces = Single (symbols.Sign sign) ∷ c.pieces; completes = OfSign sign c.completes }
one_more (Word word) wants c = record { pieces = Single (symbols.Word word) ∷ c.pieces; completes = OfWord word c.completes }
one_more AnyName wants c = record { pieces = Single (symbols.Name []) ∷ c.pieces; completes = OfName [] c.completes }
one_more AnyNumber wants c = record { pieces = Single (symbols.Number (pos 0)) ∷ c.pieces; completes = OfNumber (pos 0) c.completes }
one_more Natural wants c = record { pieces = Single (symbols.Number (pos 0)) ∷ c.pieces; completes = OfNatural 0 c.completes }
one_more machine.FullExpression wants c = record {
  pieces = FullExpression (symbols.Number (pos 0) ∷ []) ∷ c.pieces;
  completes = OfFull (looser any_expression (omega arith) (Numeral (pos 0))) c.completes;
}
one_more StageNumber wants c = record { pieces = c.pieces; completes = OfNoStage c.completes }
one_more Target wants c = record {
  pieces = Single equals ∷ FullExpression (symbols.Number (pos 0) ∷ []) ∷ Single semicolon ∷ c.pieces;
  completes = OfAssign (looser any_expression (omega arith) (Numeral (pos 0))) c.completes;
}
one_more machine.Statements wants c = record { pieces = c.pieces; completes = OfStatements NoStatement c.completes }
one_more (Part word) wants c = record { pieces = c.pieces; completes = OfPart word NoPart c.completes }
one_more Cells wants c = record { pieces = c.pieces; completes = OfCells NoCell c.completes }
one_more Size wants c = record { pieces = c.pieces; completes = OfSize NoSize c.completes }
one_more Value wants c = record { pieces = Single (symbols.Number (pos 0)) ∷ c.pieces; completes = OfValue (ValueIs (pos 0)) c.completes }

-- each list of wants is completed by some pieces
pub completion : (wants : List Want) → Completion wants
completion [] = record { pieces = []; completes = Nothing }
completion (want ∷ wants) = one_more want wants (completion wants)

-- wants that may end are completed by no pieces
pub completes_end : (wants : List Want) → may_end wants ≡ true → Completes wants []
completes_end [] h = Nothing
completes_end (Sign sign ∷ wants) h = absurd (cc (h))
completes_end (Word word ∷ wants) h = absurd (cc (h))
completes_end (AnyName ∷ wants) h = absurd (cc (h))
completes_end (AnyNumber ∷ wants) h = absurd (cc (h))
completes_end (Natural ∷ wants) h = absurd (cc (h))
completes_end (machine.FullExpression ∷ wants) h = absurd (cc (h))
completes_end (StageNumber ∷ wants) h = OfNoStage (completes_end wants h)
completes_end (Target ∷ wants) h = absurd (cc (h))
completes_end (machine.Statements ∷ wants) h = OfStatements NoStatement (completes_end wants h)
completes_end (Part word ∷ wants) h = OfPart word NoPart (completes_end wants h)
completes_end (Cells ∷ wants) h = OfCells NoCell (completes_end wants h)
completes_end (Size ∷ wants) h = OfSize NoSize (completes_end wants h)
completes_end (Value ∷ wants) h = absurd (cc (h))

-- ---- a step back
moved : {wants : List Want} {ps qs : List Piece} → ps ≡ qs → Completes wants qs → Completes wants ps
moved {wants} h c = subst (Completes wants) (sym h) c

-- a statement before others
one_statement_more : {wants : List Want} {ps qs : List Piece} {s : Statement} → DerivesStatement ps s
    → Completes (machine.Statements ∷ wants) qs
    → Completes (machine.Statements ∷ wants) (ps ++ qs)
one_statement_more {ps = ps} d (OfStatements {ps = qs} {qs = rs} d' c) = moved (sym (append_assoc ps qs rs)) (OfStatements (OneMore d d') c)

-- a block that completes a want
record Block (wants : List Want) (ps : List Piece) : Type 0 where
  inside : List Piece
  rest : List Piece
  ss : Statements
  derived : DerivesBlock inside ss
  split : ps ≡ inside ++ rest
  completes : Completes wants rest

block_first : {wants : List Want} {ps : List Piece} → Completes
    (Sign signs.OPEN_BRACE ∷ machine.Statements ∷ Sign signs.CLOSE_BRACE ∷ wants) ps → Block wants ps
block_first (OfSign b (OfStatements {ps = ps} {ss = ss} d (OfSign {ps = rest} b' c))) = record {
  inside = Single open_brace ∷ (ps ++ Single close_brace ∷ []);
  rest = rest;
  ss = ss;
  derived = BlockIs d;
  split = ap (λ x. Single open_brace ∷ x) (sym (append_assoc ps (Single close_brace ∷ []) rest));
  completes = c;
}

let_back : {wants : List Want} {ps : List Piece}
    → Completes (AnyName ∷ Sign signs.EQUALS ∷ machine.FullExpression ∷ Sign signs.SEMICOLON ∷ machine.Statements ∷ wants) ps
    → Completes (machine.Statements ∷ wants) (Single word_let ∷ ps)
let_back (OfName name (OfSign b (OfFull d (OfSign b' c)))) = one_statement_more (LetIs name d) c

assign_back : {wants : List Want} {ps : List Piece} (name : List ℕ) → Completes (Target ∷ machine.Statements ∷ wants) ps
    → Completes (machine.Statements ∷ wants) (Single (symbols.Name name) ∷ ps)
assign_back name (OfAssign d c) = one_statement_more (AssignIs name d) c
assign_back name (OfAssignElement d d' c) = one_statement_more (AssignElementIs name d d') c

emit_back : {wants : List Want} {ps : List Piece} → Completes
    (machine.FullExpression ∷ Sign signs.SEMICOLON ∷ machine.Statements ∷ wants) ps
    → Completes (machine.Statements ∷ wants) (Single word_emit ∷ ps)
emit_back (OfFull d (OfSign b c)) = one_statement_more (EmitIs d) c

wait_back : {wants : List Want} {ps : List Piece} → Completes
    (Sign signs.OPEN_ROUND ∷ StageNumber ∷ Sign signs.CLOSE_ROUND ∷ Sign signs.SEMICOLON ∷ machine.Statements ∷ wants) ps
    → Completes (machine.Statements ∷ wants) (Single word_pipe_wait ∷ ps)
wait_back (OfSign b (OfNoStage (OfSign b' (OfSign b'' c)))) = one_statement_more WaitNextIs c
wait_back (OfSign b (OfStage d (OfSign b' (OfSign b'' c)))) = one_statement_more (WaitIs d) c

continue_back : {wants : List Want} {ps : List Piece} → Completes
    (Sign signs.OPEN_ROUND ∷ StageNumber ∷ Sign signs.CLOSE_ROUND ∷ Sign signs.SEMICOLON ∷ machine.Statements ∷ wants)
    ps
    → Completes (machine.Statements ∷ wants) (Single word_pipe_continue ∷ ps)
continue_back (OfSign b (OfNoStage (OfSign b' (OfSign b'' c)))) = one_statement_more ContinueNextIs c
continue_back (OfSign b (OfStage d (OfSign b' (OfSign b'' c)))) = one_statement_more (ContinueIs d) c

stage_back : {wants : List Want} {ps : List Piece} (word : ℕ) → ((word ≡ words.PIPE_WAIT) ⊎ (word ≡ words.PIPE_CONTINUE))
    → Completes (Sign signs.OPEN_ROUND ∷ StageNumber ∷ Sign signs.CLOSE_ROUND ∷ Sign signs.SEMICOLON ∷ machine.Statements ∷ wants) ps
    → Completes (machine.Statements ∷ wants) (Single (symbols.Word word) ∷ ps)
stage_back word (inl h) c = rw h (wait_back c)
stage_back word (inr h) c = rw h (continue_back c)

while_back : {wants : List Want} {ps : List Piece}
    → Completes (Sign signs.OPEN_ROUND ∷ machine.FullExpression ∷ Sign signs.CLOSE_ROUND ∷ Sign signs.OPEN_BRACE ∷ machine.Statements ∷
    Sign signs.CLOSE_BRACE ∷ machine.Statements ∷ wants) ps
    → Completes (machine.Statements ∷ wants) (Single word_while ∷ ps)
while_back (OfSign b (OfFull {ts = ts} d (OfSign b' c))) =
    let k = block_first c in
    moved (ap (λ x. Single word_while ∷ Single open_round ∷ FullExpression ts ∷ Single close_round ∷ x) k.split)
    (one_statement_more (WhileIs d k.derived) k.completes)

-- a part that may be missing, before other wants
record PartFirst (word : ℕ) (wants : List Want) (ps : List Piece) : Type 0 where
  taken : List Piece
  rest : List Piece
  ss : Statements
  derived : DerivesPart (symbols.Word word) taken ss
  split : ps ≡ taken ++ rest
  completes : Completes wants rest

part_first : {wants : List Want} {ps : List Piece} {word : ℕ} → Completes (Part word ∷ wants) ps → PartFirst word wants ps
part_first (OfPart {ps = ps} {qs = qs} {ss = ss} word d c) =
    record { taken = ps; rest = qs; ss = ss; derived = d; split = refl; completes = c }

if_back : {wants : List Want} {ps : List Piece}
    → Completes (Sign signs.OPEN_ROUND ∷ machine.FullExpression ∷ Sign signs.CLOSE_ROUND ∷ Sign signs.OPEN_BRACE ∷ machine.Statements ∷
    Sign signs.CLOSE_BRACE ∷ Part words.ELSE ∷ machine.Statements ∷ wants) ps
    → Completes (machine.Statements ∷ wants) (Single word_if ∷ ps)
if_back (OfSign b (OfFull {ts = ts} d (OfSign b' c))) =
    let k = block_first c in
    let m = part_first k.completes in
    moved (ap (λ x. Single word_if ∷ Single open_round ∷ FullExpression ts ∷ Single close_round ∷ x)
    (k.split ∙ ap (λ x. k.inside ++ x) m.split ∙ sym (append_assoc k.inside m.taken m.rest)))
    (one_statement_more (IfIs d k.derived m.derived) m.completes)

part_back : {wants : List Want} {ps : List Piece} (word : ℕ) → Completes
    (Sign signs.OPEN_BRACE ∷ machine.Statements ∷ Sign signs.CLOSE_BRACE ∷ wants) ps
    → Completes (Part word ∷ wants) (Single (symbols.Word word) ∷ ps)
part_back word c = let k = block_first c in moved (ap (λ x. Single (symbols.Word word) ∷ x) k.split)
    (OfPart word (PartIs k.derived) k.completes)

-- the value of a declaration and the declarations after it
cells_split : (ps qs rs rest : List Piece) → ps ++ Single equals ∷ (qs ++ Single semicolon ∷ (rs ++ rest))
    ≡ (ps ++ Single equals ∷ (qs ++ Single semicolon ∷ rs)) ++ rest
cells_split ps qs rs rest =
    ap (λ x. ps ++ Single equals ∷ x) (sym (append_assoc qs (Single semicolon ∷ rs) rest))
    ∙ sym (append_assoc ps (Single equals ∷ (qs ++ Single semicolon ∷ rs)) rest)

cell_back : {wants : List Want} {ps : List Piece} → Completes
    (AnyName ∷ Size ∷ Sign signs.EQUALS ∷ Value ∷ Sign signs.SEMICOLON ∷ Cells ∷ wants) ps
    → Completes (Cells ∷ wants) (Single word_cell ∷ ps)
cell_back (OfName name (OfSize {ps = ps} s (OfSign b (OfValue {ps = qs} v (OfSign b' (OfCells {ps = rs} {qs = rest} d c)))))) =
    moved (ap (λ x. Single word_cell ∷ Single (symbols.Name name) ∷ x) (cells_split ps qs rs rest)) (OfCells (CellIs name s v d) c)

size_back : {wants : List Want} {ps : List Piece} → Completes (AnyNumber ∷ Sign signs.CLOSE_SQUARE ∷ wants) ps
    → Completes (Size ∷ wants) (Single open_square ∷ ps)
size_back (OfNumber n (OfSign b c)) = OfSize (SizeIs n) c

value_back : {wants : List Want} {ps : List Piece} → Completes (Natural ∷ wants) ps → Completes (Value ∷ wants) (Single minus ∷ ps)
value_back (OfNatural n c) = OfValue (NegativeValueIs n) c

target_back : {wants : List Want} {ps : List Piece} → Completes (machine.FullExpression ∷ Sign signs.SEMICOLON ∷ wants) ps
    → Completes (Target ∷ wants) (Single equals ∷ ps)
target_back (OfFull d (OfSign b c)) = OfAssign d c

element_back : {wants : List Want} {ps : List Piece}
    → Completes (machine.FullExpression ∷ Sign signs.CLOSE_SQUARE ∷ Sign signs.EQUALS ∷ machine.FullExpression ∷ Sign signs.SEMICOLON ∷
    wants) ps
    → Completes (Target ∷ wants) (Single open_square ∷ ps)
element_back (OfFull d (OfSign b (OfSign b' (OfFull d' (OfSign b'' c))))) = OfAssignElement d d' c

same_sign : (sign b : ℕ) → (b == sign) ≡ true → {wants : List Want} {ps : List Piece} → Completes wants ps
    → Completes (Sign sign ∷ wants) (Single (symbols.Sign b) ∷ ps)
same_sign sign b h c = let e : b ≡ sign = grind (arith, h) in rw e (OfSign sign c)

same_word : (word k : ℕ) → (k == word) ≡ true → {wants : List Want} {ps : List Piece} → Completes wants ps
    → Completes (Word word ∷ wants) (Single (symbols.Word k) ∷ ps)
same_word word k h c = let e : k ≡ word = grind (arith, h) in rw e (OfWord word c)

same_part : (word k : ℕ) → (k == word) ≡ true → {wants : List Want} {ps : List Piece} → Completes
    (Sign signs.OPEN_BRACE ∷ machine.Statements ∷ Sign signs.CLOSE_BRACE ∷ wants) ps
    → Completes (Part word ∷ wants) (Single (symbols.Word k) ∷ ps)
same_part word k h c = let e : k ≡ word = grind (arith, h) in rw e (part_back word c)

which_stage : (word : ℕ) → ((word == words.PIPE_WAIT) || (word == words.PIPE_CONTINUE)) ≡ true
    → (word ≡ words.PIPE_WAIT) ⊎ (word ≡ words.PIPE_CONTINUE)
which_stage word h = elim (cases_eq word 9) [ inl e ↦ inl e | inr e ↦ inr (grind (arith, e, h)) ]

-- if pieces complete the wants after the move, then `t` and these pieces complete the wants before it
abbrev MovesBack : Move → Want → Symbol → Type 0
MovesBack (Takes more) want t = (wants : List Want) (ps : List Piece) → Completes (more ++ wants) ps
    → Completes (want ∷ wants) (Single t ∷ ps)
MovesBack Enters want t =
    (wants : List Want) (ts : List Symbol) (e : Expression) (ps : List Piece) → Derives any_expression ts e → Completes wants ps
    → Completes (want ∷ wants) (FullExpression ts ∷ ps)
MovesBack Skips want t = (wants : List Want) (ps : List Piece) → Completes wants ps → Completes (want ∷ wants) ps
MovesBack Refuses want t = Unit {0}

either : (b : Bool) (x y : Move) (want : Want) (t : Symbol) → (b ≡ true → MovesBack x want t) → (b ≡ false → MovesBack y want t)
    → MovesBack (if b then x else y) want t
either true x y want t f g = f refl
either false x y want t f g = g refl

statement_back : (word : ℕ) → MovesBack (statement_move word) machine.Statements (symbols.Word word)
statement_back word =
    either (word == words.LET) _ _ machine.Statements (symbols.Word word)
    (λ h wants ps c. let e : word ≡ words.LET = grind (arith, h) in rw e (let_back c)) (λ h.
    either (word == words.IF) _ _ machine.Statements (symbols.Word word)
    (λ h wants ps c. let e : word ≡ words.IF = grind (arith, h) in rw e (if_back c)) (λ h.
    either (word == words.WHILE) _ _ machine.Statements (symbols.Word word)
    (λ h wants ps c. let e : word ≡ words.WHILE = grind (arith, h) in rw e (while_back c)) (λ h.
    either (word == words.EMIT) _ _ machine.Statements (symbols.Word word)
    (λ h wants ps c. let e : word ≡ words.EMIT = grind (arith, h) in rw e (emit_back c)) (λ h.
    either ((word == words.PIPE_WAIT) || (word == words.PIPE_CONTINUE)) _ _ machine.Statements (symbols.Word word)
    (λ h wants ps c. stage_back word (which_stage word h) c)
    (λ h wants ps c. OfStatements NoStatement c)))))

target_sign_back : (b : ℕ) → MovesBack (move Target (symbols.Sign b)) Target (symbols.Sign b)
target_sign_back b =
    either (b == signs.EQUALS) _ _ Target (symbols.Sign b) (λ h wants ps c.
    let e : b ≡ signs.EQUALS = grind (arith, h) in rw e (target_back c)) (λ h.
    either (b == signs.OPEN_SQUARE) _ _ Target (symbols.Sign b) (λ h wants ps c.
    let e : b ≡ signs.OPEN_SQUARE = grind (arith, h) in rw e (element_back c)) (λ h. tt))

natural_back : (n : ℤ) → MovesBack (natural_move n) Natural (symbols.Number n)
natural_back (pos n) = λ wants ps c. OfNatural n c
natural_back (negsuc n) = tt

-- each entry of the table is sound
back : (want : Want) (t : Symbol) → MovesBack (move want t) want t
back (Sign sign) (symbols.Sign b) = either (b == sign) (Takes []) Refuses (Sign sign) (symbols.Sign b)
    (λ h wants ps c. same_sign sign b h c) (λ h. tt)
back (Sign sign) (symbols.Name name) = tt
back (Sign sign) (symbols.Word k) = tt
back (Sign sign) (symbols.Number n) = tt
back (Sign sign) (symbols.Operator code) = tt
back (Word word) (symbols.Word k) = either (k == word) (Takes []) Refuses (Word word) (symbols.Word k)
    (λ h wants ps c. same_word word k h c) (λ h. tt)
back (Word word) (symbols.Name name) = tt
back (Word word) (symbols.Number n) = tt
back (Word word) (symbols.Operator code) = tt
back (Word word) (symbols.Sign b) = tt
back AnyName (symbols.Name name) = λ wants ps c. OfName name c
back AnyName (symbols.Word k) = tt
back AnyName (symbols.Number n) = tt
back AnyName (symbols.Operator code) = tt
back AnyName (symbols.Sign b) = tt
back AnyNumber (symbols.Number n) = λ wants ps c. OfNumber n c
back AnyNumber (symbols.Name name) = tt
back AnyNumber (symbols.Word k) = tt
back AnyNumber (symbols.Operator code) = tt
back AnyNumber (symbols.Sign b) = tt
back Natural (symbols.Number n) = natural_back n
back Natural (symbols.Name name) = tt
back Natural (symbols.Word k) = tt
back Natural (symbols.Operator code) = tt
back Natural (symbols.Sign b) = tt
back machine.FullExpression t = λ wants ts e ps d c. OfFull d c
back StageNumber (symbols.Sign b) =
    either (b == signs.CLOSE_ROUND) Skips Enters StageNumber (symbols.Sign b) (λ h wants ps c. OfNoStage c)
    (λ h wants ts e ps d c. OfStage d c)
back StageNumber (symbols.Name name) = λ wants ts e ps d c. OfStage d c
back StageNumber (symbols.Word k) = λ wants ts e ps d c. OfStage d c
back StageNumber (symbols.Number n) = λ wants ts e ps d c. OfStage d c
back StageNumber (symbols.Operator code) = λ wants ts e ps d c. OfStage d c
back Target (symbols.Sign b) = target_sign_back b
back Target (symbols.Name name) = tt
back Target (symbols.Word k) = tt
back Target (symbols.Number n) = tt
back Target (symbols.Operator code) = tt
back machine.Statements (symbols.Name name) = λ wants ps c. assign_back name c
back machine.Statements (symbols.Word k) = statement_back k
back machine.Statements (symbols.Number n) = λ wants ps c. OfStatements NoStatement c
back machine.Statements (symbols.Operator code) = λ wants ps c. OfStatements NoStatement c
back machine.Statements (symbols.Sign b) = λ wants ps c. OfStatements NoStatement c
back (Part word) (symbols.Word k) =
    either (k == word) (Takes machine.block) Skips (Part word) (symbols.Word k) (λ h wants ps c. same_part word k h c)
    (λ h wants ps c. OfPart word NoPart c)
back (Part word) (symbols.Name name) = λ wants ps c. OfPart word NoPart c
back (Part word) (symbols.Number n) = λ wants ps c. OfPart word NoPart c
back (Part word) (symbols.Operator code) = λ wants ps c. OfPart word NoPart c
back (Part word) (symbols.Sign b) = λ wants ps c. OfPart word NoPart c
back Cells (symbols.Word k) =
    either (k == words.CELL) _ Skips Cells (symbols.Word k) (λ h wants ps c.
    let e : k ≡ words.CELL = grind (arith, h) in rw e (cell_back c))
    (λ h wants ps c. OfCells NoCell c)
back Cells (symbols.Name name) = λ wants ps c. OfCells NoCell c
back Cells (symbols.Number n) = λ wants ps c. OfCells NoCell c
back Cells (symbols.Operator code) = λ wants ps c. OfCells NoCell c
back Cells (symbols.Sign b) = λ wants ps c. OfCells NoCell c
back Size (symbols.Sign b) =
    either (b == signs.OPEN_SQUARE) _ Skips Size (symbols.Sign b) (λ h wants ps c.
    let e : b ≡ signs.OPEN_SQUARE = grind (arith, h) in rw e (size_back c))
    (λ h wants ps c. OfSize NoSize c)
back Size (symbols.Name name) = λ wants ps c. OfSize NoSize c
back Size (symbols.Word k) = λ wants ps c. OfSize NoSize c
back Size (symbols.Number n) = λ wants ps c. OfSize NoSize c
back Size (symbols.Operator code) = λ wants ps c. OfSize NoSize c
back Value (symbols.Number n) = λ wants ps c. OfValue (ValueIs n) c
back Value (symbols.Operator code) =
    either (code == operator_codes.MINUS) _ Refuses Value (symbols.Operator code)
    (λ h wants ps c. let e : code ≡ operator_codes.MINUS = grind (arith, h) in rw e (value_back c)) (λ h. tt)
back Value (symbols.Name name) = tt
back Value (symbols.Word k) = tt
back Value (symbols.Sign b) = tt

-- ---- a step of the machine

-- the symbol leads from the wants to the state
abbrev pub Leads : List Want → Symbol → MachineState → Type 0
Leads wants t (Outside left) = (ps : List Piece) → Completes left ps → Completes wants (Single t ∷ ps)
Leads wants t (Inside n inner left) =
    (n ≡ 1) × (expression.step whole t ≡ Some inner)
    × ((ts : List Symbol) (e : Expression) (ps : List Piece) → Derives any_expression ts e → Completes left ps
    → Completes wants (FullExpression ts ∷ ps))

skipped : (want : Want) (wants : List Want) (t : Symbol) (s : MachineState)
    → ((ps : List Piece) → Completes wants ps → Completes (want ∷ wants) ps)
    → Leads wants t s → Leads (want ∷ wants) t s
skipped want wants t (Outside left) f g = λ ps c. f (Single t ∷ ps) (g ps c)
skipped want wants t (Inside n inner left) f g = (g.0, g.1, λ ts e ps d c. f (FullExpression ts ∷ ps) (g.2 ts e ps d c))

begun : (want : Want) (wants : List Want) (t : Symbol) (s : MachineState) (o : Option (List expression.Want)) → expression.step whole t ≡ o
    → ((ts : List Symbol) (e : Expression) (ps : List Piece) → Derives any_expression ts e → Completes wants ps
    → Completes (want ∷ wants) (FullExpression ts ∷ ps))
    → entered o wants ≡ Some s → Leads (want ∷ wants) t s
begun want wants t s None i f h = absurd (cc (h))
begun want wants t s (Some inner) i f h = let e : Inside 1 inner wants ≡ s = cc (h) in subst (Leads (want ∷ wants) t) e (refl, i, f)

stepped_leads : (m : Move) (want : Want) (t : Symbol) (wants : List Want) (below : Option MachineState) (s : MachineState)
    → MovesBack m want t
    → (below ≡ Some s → Leads wants t s)
    → stepped m t wants below ≡ Some s → Leads (want ∷ wants) t s
stepped_leads (Takes more) want t wants below s f g h = let e : Outside (more ++ wants) ≡ s = cc (h) in
    subst (Leads (want ∷ wants) t) e (f wants)
stepped_leads Enters want t wants below s f g h = begun want wants t s (expression.step whole t) refl (f wants) h
stepped_leads Skips want t wants below s f g h = skipped want wants t s (f wants) (g h)
stepped_leads Refuses want t wants below s f g h = absurd (cc (h))

-- a step of the machine leads to its state
pub step_leads : (wants : List Want) (t : Symbol) (s : MachineState) → step wants t ≡ Some s → Leads wants t s
step_leads [] t s h = absurd (cc (h))
step_leads (want ∷ wants) t s h =
    stepped_leads (move want t) want t wants (step wants t) s (back want t) (λ i. step_leads wants t s i) h
