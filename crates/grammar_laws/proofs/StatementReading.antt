-- A reader of statements finds what the whole grammar derives, and nothing else, and in one way.
use Rattle.std.proofs.Common.{◌≡◌, ◌≢◌, ℕ, ◌≤◌, ◌+◌, List, [], ◌∷◌, ◌++◌, length, refl, sym, ap, ◌∙◌, append_assoc, length-append, arith}
use Rattle.std.proofs.Common.{subst}
use Rattle.pipe_model.specs.declared.sign_bytes.TheConstants as signs
use Rattle.pipe_model.specs.declared.word_codes.TheConstants as words
use Rattle.pipe_model.specs.declared.tree.StageKind.TheVariants as kinds
use Rattle.pipe_model.specs.declared.symbol.Symbol.{Symbol}
use Rattle.pipe_model.specs.declared.symbol.Symbol.TheVariants as symbols
use Rattle.pipe_model.specs.Language.SyntaxTree.{Expression, Statement, Let, Assign, AssignElement, Emit, If, While, Stage, Statements}
use Rattle.pipe_model.specs.Language.SyntaxTree.{Then}
use Rattle.pipe_model.specs.Language.Grammar.{any_expression, Derives, Piece, Single, FullExpression, flat, DerivesStatement, LetIs}
use Rattle.pipe_model.specs.Language.Grammar.{AssignIs, AssignElementIs, EmitIs, IfIs, WhileIs, WaitIs, WaitNextIs, ContinueIs}
use Rattle.pipe_model.specs.Language.Grammar.{ContinueNextIs, DerivesStatements, NoStatement, OneMore, DerivesBlock, BlockIs, DerivesPart}
use Rattle.pipe_model.specs.Language.Grammar.{NoPart, PartIs}
use Rattle.grammar_laws.specs.Reading.{Reads, ReadsChain, ReadsFull, ReadsStatement, ReadsLet, ReadsAssign, ReadsAssignElement, ReadsEmit}
use Rattle.grammar_laws.specs.Reading.{ReadsIf, ReadsWhile, ReadsWait, ReadsWaitNext, ReadsContinue, ReadsContinueNext, ReadsStatements}
use Rattle.grammar_laws.specs.Reading.{ReadsClose, ReadsOneMore, ReadsBlock, ReadsBraces, ReadsPart, ReadsNoPart, ReadsPartIs, NoWord}
use Rattle.pipe_model.specs.Language.Spelling.{AreShort}
use Rattle.pipe_model.specs.Language.Words.{word_pipe_wait, word_pipe_continue, word_let, word_if, word_while, word_emit, open_round}
use Rattle.pipe_model.specs.Language.Words.{close_round, semicolon, equals, open_square, close_square, open_brace, close_brace}
use Rattle.grammar_laws.proofs.ExpressionReading.{sound, found_before_sign, one_reading, SameReading}
use Rattle.grammar_laws.proofs.Pieces.{flat_two, took_two, short_append, short_front, short_back}

-- ---- what was read is derived

-- the pieces of what was read
pub record TookPieces (Derived : List Piece → Type 0) (longest : ℕ) (ts rest : List Symbol) : Type 0 where
  pub taken : List Piece
  pub split : ts ≡ flat taken ++ rest
  pub derived : Derived taken
  pub short : AreShort longest taken

-- the symbols of a full expression that was read
pub record TookFull (longest : ℕ) (ts : List Symbol) (e : Expression) (rest : List Symbol) : Type 0 where
  pub taken : List Symbol
  pub split : ts ≡ taken ++ rest
  pub derived : Derives any_expression taken e
  pub short : length taken ≤ longest

-- a full expression that was read is derived
pub sound_full : {longest : ℕ} {ts : List Symbol} {e : Expression} {rest : List Symbol} → ReadsFull longest ts e rest
    → TookFull longest ts e rest
sound_full {longest} {ts} {e} {rest} r =
    let t = sound r.read in
    let many : length ts ≡ length t.taken + length rest = ap length t.split ∙ length-append t.taken rest in
    record { taken = t.taken; split = t.split; derived = t.derived; short = omega (arith, many, r.short) }

-- a start, an expression and what closes it, joined
closed_front : (front taken close rest ts : List Symbol) → ts ≡ taken ++ (close ++ rest) → front ++ ts ≡ (front ++ (taken ++ close)) ++ rest
closed_front front taken close rest ts h =
    ap (λ x. front ++ x) (h ∙ sym (append_assoc taken close rest)) ∙ sym (append_assoc front (taken ++ close) rest)

-- a statement whose only part is an expression between a start and what closes it
took_simple : {longest : ℕ} {s : Statement} {e : Expression} (front close : List Symbol) (pieces : List Symbol → List Piece)
    (ts rest : List Symbol)
    → ((us : List Symbol) → Derives any_expression us e → DerivesStatement (pieces us) s)
    → ((us : List Symbol) → flat (pieces us) ≡ front ++ (us ++ close))
    → ((us : List Symbol) → length us ≤ longest → AreShort longest (pieces us))
    → ReadsFull longest ts e (close ++ rest) → TookPieces (λ ps. DerivesStatement ps s) longest (front ++ ts) rest
took_simple front close pieces ts rest derives same short r =
    let t = sound_full r in
    record {
      taken = pieces t.taken;
      split = closed_front front t.taken close rest ts t.split ∙ ap (λ x. x ++ rest) (sym (same t.taken));
      derived = derives t.taken t.derived;
      short = short t.taken t.short;
    }

-- the symbols of an assignment to an element
element_split : (taken other us ts rest : List Symbol) → us ≡ taken ++ close_square ∷ equals ∷ ts → ts ≡ other ++ semicolon ∷ rest
    → us ≡ (taken ++ close_square ∷ equals ∷ (other ++ semicolon ∷ [])) ++ rest
element_split taken other us ts rest h i =
    h ∙ ap (λ x. taken ++ close_square ∷ equals ∷ x) (i ∙ sym (append_assoc other (semicolon ∷ []) rest))
    ∙ sym (append_assoc taken (close_square ∷ equals ∷ (other ++ semicolon ∷ [])) rest)

-- the symbols of a test in brackets and of what follows it
test_split : (taken ts us rest : List Symbol) (ps : List Piece) → ts ≡ taken ++ close_round ∷ us → us ≡ flat ps ++ rest
    → ts ≡ (taken ++ close_round ∷ flat ps) ++ rest
test_split taken ts us rest ps h i = h ∙ ap (λ x. taken ++ close_round ∷ x) i ∙ sym (append_assoc taken (close_round ∷ flat ps) rest)

took_element : {longest : ℕ} {index e : Expression} (name : List ℕ) (us ts rest : List Symbol)
    → TookFull longest us index (close_square ∷ equals ∷ ts)
    → TookFull longest ts e (semicolon ∷ rest)
    → TookPieces (λ ps. DerivesStatement ps (AssignElement name index e)) longest (symbols.Name name ∷ open_square ∷ us) rest
took_element name us ts rest t u = record {
  taken =
      Single (symbols.Name name) ∷ Single open_square ∷ FullExpression t.taken ∷ Single close_square ∷ Single equals ∷ FullExpression
      u.taken
      ∷ Single semicolon ∷ [];
  split = ap (λ x. symbols.Name name ∷ open_square ∷ x) (element_split t.taken u.taken us ts rest t.split u.split);
  derived = AssignElementIs name t.derived u.derived;
  short = (t.short, (u.short, tt));
}

took_if : {longest : ℕ} {e : Expression} {a b : Statements} (ts us vs rest : List Symbol) → TookFull longest ts e (close_round ∷ us)
    → TookPieces (λ ps. DerivesBlock ps a) longest us vs → TookPieces (λ ps. DerivesPart (symbols.Word words.ELSE) ps b) longest vs rest
    → TookPieces (λ ps. DerivesStatement ps (If e a b)) longest (word_if ∷ open_round ∷ ts) rest
took_if {longest} ts us vs rest t u v = record {
  taken = Single word_if ∷ Single open_round ∷ FullExpression t.taken ∷ Single close_round ∷ (u.taken ++ v.taken);
  split =
      ap (λ x. word_if ∷ open_round ∷ x)
      (test_split t.taken ts us rest (u.taken ++ v.taken) t.split (took_two u.taken v.taken us vs rest u.split v.split));
  derived = IfIs t.derived u.derived v.derived;
  short = (t.short, short_append longest u.taken v.taken u.short v.short);
}

took_while : {longest : ℕ} {e : Expression} {a : Statements} (ts us rest : List Symbol) → TookFull longest ts e (close_round ∷ us)
    → TookPieces (λ ps. DerivesBlock ps a) longest us rest
    → TookPieces (λ ps. DerivesStatement ps (While e a)) longest (word_while ∷ open_round ∷ ts) rest
took_while ts us rest t u = record {
  taken = Single word_while ∷ Single open_round ∷ FullExpression t.taken ∷ Single close_round ∷ u.taken;
  split = ap (λ x. word_while ∷ open_round ∷ x) (test_split t.taken ts us rest u.taken t.split u.split);
  derived = WhileIs t.derived u.derived;
  short = (t.short, u.short);
}

took_one_more : {longest : ℕ} {s : Statement} {ss : Statements} (ts mid rest : List Symbol)
    → TookPieces (λ ps. DerivesStatement ps s) longest ts mid
    → TookPieces (λ ps. DerivesStatements ps ss) longest mid (close_brace ∷ rest)
    → TookPieces (λ ps. DerivesStatements ps (Then s ss)) longest ts (close_brace ∷ rest)
took_one_more {longest} ts mid rest t u = record {
  taken = t.taken ++ u.taken;
  split = took_two t.taken u.taken ts mid (close_brace ∷ rest) t.split u.split;
  derived = OneMore t.derived u.derived;
  short = short_append longest t.taken u.taken t.short u.short;
}

took_block : {longest : ℕ} {ss : Statements} (ts rest : List Symbol) → TookPieces (λ ps. DerivesStatements ps ss) longest ts
    (close_brace ∷ rest)
    → TookPieces (λ ps. DerivesBlock ps ss) longest (open_brace ∷ ts) rest
took_block {longest} ts rest t = record {
  taken = Single open_brace ∷ (t.taken ++ Single close_brace ∷ []);
  split = ap (λ x. open_brace ∷ x) (t.split ∙ sym (flat_two t.taken (Single close_brace ∷ []) rest));
  derived = BlockIs t.derived;
  short = short_append longest t.taken (Single close_brace ∷ []) t.short tt;
}

mutual
  -- a statement that was read is derived
  pub sound_statement : {longest : ℕ} {ts rest : List Symbol} {s : Statement} → ReadsStatement longest ts s rest
      → TookPieces (λ ps. DerivesStatement ps s) longest ts rest
  sound_statement (ReadsLet {ts} {rest} name r) =
      took_simple (word_let ∷ symbols.Name name ∷ equals ∷ []) (semicolon ∷ [])
      (λ us. Single word_let ∷ Single (symbols.Name name) ∷ Single equals ∷ FullExpression us ∷ Single semicolon ∷ []) ts rest
      (λ us d. LetIs name d)
      (λ us. refl) (λ us l. (l, tt)) r
  sound_statement (ReadsAssign {ts} {rest} name r) =
      took_simple (symbols.Name name ∷ equals ∷ []) (semicolon ∷ [])
      (λ us. Single (symbols.Name name) ∷ Single equals ∷ FullExpression us ∷ Single semicolon ∷ []) ts rest (λ us d. AssignIs name d)
      (λ us. refl)
      (λ us l. (l, tt)) r
  sound_statement (ReadsAssignElement {us} {ts} {rest} name r r') = took_element name us ts rest (sound_full r) (sound_full r')
  sound_statement (ReadsEmit {ts} {rest} r) =
      took_simple (word_emit ∷ []) (semicolon ∷ []) (λ us. Single word_emit ∷ FullExpression us ∷ Single semicolon ∷ []) ts rest
      (λ us d. EmitIs d)
      (λ us. refl) (λ us l. (l, tt)) r
  sound_statement (ReadsIf {ts} {us} {vs} {rest} r a b) = took_if ts us vs rest (sound_full r) (sound_block a) (sound_part b)
  sound_statement (ReadsWhile {ts} {us} {rest} r a) = took_while ts us rest (sound_full r) (sound_block a)
  sound_statement (ReadsWait {ts} {rest} r) =
      took_simple (word_pipe_wait ∷ open_round ∷ []) (close_round ∷ semicolon ∷ [])
      (λ us. Single word_pipe_wait ∷ Single open_round ∷ FullExpression us ∷ Single close_round ∷ Single semicolon ∷ []) ts rest
      (λ us d. WaitIs d)
      (λ us. refl) (λ us l. (l, tt)) r
  sound_statement (ReadsWaitNext rest) = record {
    taken = Single word_pipe_wait ∷ Single open_round ∷ Single close_round ∷ Single semicolon ∷ [];
    split = refl;
    derived = WaitNextIs;
    short = tt;
  }
  sound_statement (ReadsContinue {ts} {rest} r) =
      took_simple (word_pipe_continue ∷ open_round ∷ []) (close_round ∷ semicolon ∷ [])
      (λ us. Single word_pipe_continue ∷ Single open_round ∷ FullExpression us ∷ Single close_round ∷ Single semicolon ∷ []) ts rest
      (λ us d. ContinueIs d) (λ us. refl) (λ us l. (l, tt)) r
  sound_statement (ReadsContinueNext rest) = record {
    taken = Single word_pipe_continue ∷ Single open_round ∷ Single close_round ∷ Single semicolon ∷ [];
    split = refl;
    derived = ContinueNextIs;
    short = tt;
  }

  pub sound_statements : {longest : ℕ} {ts rest : List Symbol} {ss : Statements} → ReadsStatements longest ts ss rest
      → TookPieces (λ ps. DerivesStatements ps ss) longest ts (close_brace ∷ rest)
  sound_statements (ReadsClose rest) = record { taken = []; split = refl; derived = NoStatement; short = tt }
  sound_statements (ReadsOneMore {ts = ts} {mid = mid} {rest = rest} r b) = took_one_more ts mid rest (sound_statement r)
      (sound_statements b)

  pub sound_block : {longest : ℕ} {ts rest : List Symbol} {ss : Statements} → ReadsBlock longest ts ss rest
      → TookPieces (λ ps. DerivesBlock ps ss) longest ts rest
  sound_block (ReadsBraces {ts} {rest} r) = took_block ts rest (sound_statements r)

  pub sound_part : {longest word : ℕ} {ts rest : List Symbol} {ss : Statements} → ReadsPart longest word ts ss rest
      → TookPieces (λ ps. DerivesPart (symbols.Word word) ps ss) longest ts rest
  sound_part (ReadsNoPart ts h) = record { taken = []; split = refl; derived = NoPart; short = tt }
  sound_part (ReadsPartIs {word = word} r) =
      let t = sound_block r in
      record {
        taken = Single (symbols.Word word) ∷ t.taken;
        split = ap (λ x. symbols.Word word ∷ x) t.split;
        derived =
            PartIs t.derived;
        short = t.short;
      }

-- ---- what is derived is read

-- a full expression is read before a sign other than `[`
pub found_full : {longest : ℕ} {ts : List Symbol} {e : Expression} (sign : ℕ) (rest : List Symbol) → sign ≢ signs.OPEN_SQUARE
    → Derives any_expression ts e
    → length ts ≤ longest
    → ReadsFull longest (ts ++ symbols.Sign sign ∷ rest) e (symbols.Sign sign ∷ rest)
found_full {longest} {ts} {e} sign rest h d l =
    let many : length (ts ++ symbols.Sign sign ∷ rest) ≡ length ts + length (symbols.Sign sign ∷ rest) =
    length-append ts (symbols.Sign sign ∷ rest) in
    record { read = found_before_sign sign rest h d; short = omega (arith, many, l) }

-- the same, whatever follows the sign
found_here : {longest : ℕ} {ts : List Symbol} {e : Expression} (sign : ℕ) (close rest : List Symbol) → sign ≢ signs.OPEN_SQUARE
    → Derives any_expression ts e
    → length ts ≤ longest
    → ReadsFull longest ((ts ++ symbols.Sign sign ∷ close) ++ rest) e (symbols.Sign sign ∷ (close ++ rest))
found_here {longest} {ts} {e} sign close rest h d l =
    subst (λ x. ReadsFull longest x e (symbols.Sign sign ∷ (close ++ rest))) (sym (append_assoc ts (symbols.Sign sign ∷ close) rest))
    (found_full sign (close ++ rest) h d l)

pub moved_statements : {longest : ℕ} {a b rest : List Symbol} {ss : Statements} → a ≡ b → ReadsStatements longest b ss rest
    → ReadsStatements longest a ss rest
moved_statements {longest} {rest = rest} {ss = ss} h r = subst (λ x. ReadsStatements longest x ss rest) (sym h) r

pub moved_block : {longest : ℕ} {a b rest : List Symbol} {ss : Statements} → a ≡ b → ReadsBlock longest b ss rest
    → ReadsBlock longest a ss rest
moved_block {longest} {rest = rest} {ss = ss} h r = subst (λ x. ReadsBlock longest x ss rest) (sym h) r

pub moved_part : {longest word : ℕ} {a b rest : List Symbol} {ss : Statements} → a ≡ b → ReadsPart longest word b ss rest
    → ReadsPart longest word a ss rest
moved_part {longest} {word} {rest = rest} {ss = ss} h r = subst (λ x. ReadsPart longest word x ss rest) (sym h) r

moved_full : {longest : ℕ} {a b rest : List Symbol} {e : Expression} → a ≡ b → ReadsFull longest b e rest → ReadsFull longest a e rest
moved_full {longest} {rest = rest} {e = e} h r = subst (λ x. ReadsFull longest x e rest) (sym h) r

-- no statement begins with the word of an `else` part
begins_no_else : {ps : List Piece} {s : Statement} → DerivesStatement ps s → (rest : List Symbol) → NoWord 14 (flat ps ++ rest)
begins_no_else (LetIs name d) rest = λ x. absurd (omega (arith, x))
begins_no_else (AssignIs name d) rest = tt
begins_no_else (AssignElementIs name d d') rest = tt
begins_no_else (EmitIs d) rest = λ x. absurd (omega (arith, x))
begins_no_else (IfIs d a b) rest = λ x. absurd (omega (arith, x))
begins_no_else (WhileIs d a) rest = λ x. absurd (omega (arith, x))
begins_no_else (WaitIs d) rest = λ x. absurd (omega (arith, x))
begins_no_else WaitNextIs rest = λ x. absurd (omega (arith, x))
begins_no_else (ContinueIs d) rest = λ x. absurd (omega (arith, x))
begins_no_else ContinueNextIs rest = λ x. absurd (omega (arith, x))

begin_no_else : {ps : List Piece} {ss : Statements} → DerivesStatements ps ss → (rest : List Symbol)
    → NoWord 14 (flat ps ++ close_brace ∷ rest)
begin_no_else NoStatement rest = tt
begin_no_else (OneMore {ps} {qs} d ds) rest =
    subst (NoWord 14) (sym (flat_two ps qs (close_brace ∷ rest))) (begins_no_else d (flat qs ++ close_brace ∷ rest))

mutual
  -- a statement that is derived is read if no `else` part follows
  pub found_statement : {longest : ℕ} {ps : List Piece} {s : Statement} → DerivesStatement ps s → AreShort longest ps
      → (rest : List Symbol) → NoWord 14 rest
      → ReadsStatement longest (flat ps ++ rest) s rest
  found_statement (LetIs name d) a rest h = ReadsLet name (found_here signs.SEMICOLON [] rest (λ x. absurd (omega (arith, x))) d a.0)
  found_statement (AssignIs name d) a rest h = ReadsAssign name (found_here signs.SEMICOLON [] rest (λ x. absurd (omega (arith, x))) d a.0)
  found_statement (AssignElementIs {us} {ts} name d d') a rest h =
      ReadsAssignElement name (found_here signs.CLOSE_SQUARE (equals ∷ (ts ++ semicolon ∷ [])) rest (λ x. absurd (omega (arith, x))) d a.0)
      (found_here signs.SEMICOLON [] rest (λ x. absurd (omega (arith, x))) d' a.1.0)
  found_statement (EmitIs d) a rest h = ReadsEmit (found_here signs.SEMICOLON [] rest (λ x. absurd (omega (arith, x))) d a.0)
  found_statement {longest} (IfIs {ps = ps} {qs = qs} d b p) a rest h =
      ReadsIf (found_here signs.CLOSE_ROUND (flat (ps ++ qs)) rest (λ x. absurd (omega (arith, x))) d a.0)
      (moved_block (flat_two ps qs rest) (found_block b (short_front longest ps qs a.1) (flat qs ++ rest)))
      (found_part p (short_back longest ps qs a.1) rest h)
  found_statement (WhileIs {ps = ps} d b) a rest h =
      ReadsWhile (found_here signs.CLOSE_ROUND (flat ps) rest (λ x. absurd (omega (arith, x))) d a.0) (found_block b a.1 rest)
  found_statement (WaitIs d) a rest h = ReadsWait (found_here signs.CLOSE_ROUND (semicolon ∷ []) rest (λ x. absurd (omega
      (arith, x))) d a.0)
  found_statement WaitNextIs a rest h = ReadsWaitNext rest
  found_statement (ContinueIs d) a rest h = ReadsContinue (found_here signs.CLOSE_ROUND (semicolon ∷ []) rest (λ x. absurd (omega
      (arith, x))) d a.0)
  found_statement ContinueNextIs a rest h = ReadsContinueNext rest

  pub found_statements : {longest : ℕ} {ps : List Piece} {ss : Statements} → DerivesStatements ps ss → AreShort longest ps
      → (rest : List Symbol)
      → ReadsStatements longest (flat ps ++ close_brace ∷ rest) ss rest
  found_statements NoStatement a rest = ReadsClose rest
  found_statements {longest} (OneMore {ps} {qs} d ds) a rest =
      moved_statements (flat_two ps qs (close_brace ∷ rest))
      (ReadsOneMore (found_statement d (short_front longest ps qs a) (flat qs ++ close_brace ∷ rest) (begin_no_else ds rest))
      (found_statements ds (short_back longest ps qs a) rest))

  pub found_block : {longest : ℕ} {ps : List Piece} {ss : Statements} → DerivesBlock ps ss → AreShort longest ps → (rest : List Symbol)
      → ReadsBlock longest (flat ps ++ rest) ss rest
  found_block {longest} (BlockIs {ps} d) a rest =
      ReadsBraces (moved_statements (flat_two ps (Single close_brace ∷ []) rest)
      (found_statements d (short_front longest ps (Single close_brace ∷ []) a) rest))

  pub found_part : {longest word : ℕ} {ps : List Piece} {ss : Statements} → DerivesPart (symbols.Word word) ps ss → AreShort longest ps
      → (rest : List Symbol)
      → NoWord word rest
      → ReadsPart longest word (flat ps ++ rest) ss rest
  found_part NoPart a rest h = ReadsNoPart rest h
  found_part (PartIs b) a rest h = ReadsPartIs (found_block b a rest)

-- ---- two readings of the same symbols are one

-- a full expression is read in one way
pub one_full : {longest : ℕ} {ts rest rest' : List Symbol} {e e' : Expression} → ReadsFull longest ts e rest → ReadsFull longest ts e' rest'
    → SameReading Expression e e' rest rest'
one_full r r' = one_reading r.read r'.read

-- no expression begins with a closing round bracket
begins_no_close : {level : ℕ} {ts rest : List Symbol} {e : Expression} → Reads level (close_round ∷ ts) e rest → ⊥
begins_no_close (ReadsChain r g) = begins_no_close r

mutual
  -- a statement is read in one way
  pub one_statement : {longest : ℕ} {ts rest rest' : List Symbol} {s s' : Statement} → ReadsStatement longest ts s rest
      → ReadsStatement longest ts s' rest'
      → SameReading Statement s s' rest rest'
  one_statement (ReadsLet name r) (ReadsLet name' r') = let s = one_full r r' in record { tree = ap (Let name) s.tree; left = cc (s.left) }
  one_statement (ReadsAssign name r) (ReadsAssign name' r') = let s = one_full r r' in
      record { tree = ap (Assign name) s.tree; left = cc (s.left) }
  one_statement (ReadsAssignElement name r q) (ReadsAssignElement name' r' q') =
      let s = one_full r r' in
      let t = one_full q (moved_full (cc (s.left)) q') in
      record { tree = cc (s.tree, t.tree); left = cc (t.left) }
  one_statement (ReadsEmit r) (ReadsEmit r') = let s = one_full r r' in record { tree = ap Emit s.tree; left = cc (s.left) }
  one_statement (ReadsIf r a b) (ReadsIf r' a' b') =
      let s = one_full r r' in
      let t = one_block a (moved_block (cc (s.left)) a') in
      let u = one_part b (moved_part t.left b') refl in
      record { tree = cc (s.tree, t.tree, u.tree); left = u.left }
  one_statement (ReadsWhile r a) (ReadsWhile r' a') =
      let s = one_full r r' in
      let t = one_block a (moved_block (cc (s.left)) a') in
      record { tree = cc (s.tree, t.tree); left = t.left }
  one_statement (ReadsWait r) (ReadsWait r') = let s = one_full r r' in record { tree = ap (Stage kinds.Wait) s.tree; left = cc (s.left) }
  one_statement (ReadsWait r) (ReadsWaitNext rest') = absurd (begins_no_close r.read)
  one_statement (ReadsWaitNext rest) (ReadsWait r') = absurd (begins_no_close r'.read)
  one_statement (ReadsWaitNext rest) (ReadsWaitNext rest') = record { tree = refl; left = refl }
  one_statement (ReadsContinue r) (ReadsContinue r') = let s = one_full r r' in
      record { tree = ap (Stage kinds.Continue) s.tree; left = cc (s.left) }
  one_statement (ReadsContinue r) (ReadsContinueNext rest') = absurd (begins_no_close r.read)
  one_statement (ReadsContinueNext rest) (ReadsContinue r') = absurd (begins_no_close r'.read)
  one_statement (ReadsContinueNext rest) (ReadsContinueNext rest') = record { tree = refl; left = refl }

  pub one_statements : {longest : ℕ} {ts rest rest' : List Symbol} {ss ss' : Statements} → ReadsStatements longest ts ss rest
      → ReadsStatements longest ts ss' rest'
      → SameReading Statements ss ss' rest rest'
  one_statements (ReadsClose rest) (ReadsClose rest') = record { tree = refl; left = refl }
  one_statements (ReadsClose rest) (ReadsOneMore r b) = elim r [ ]
  one_statements (ReadsOneMore r b) (ReadsClose rest) = elim r [ ]
  one_statements (ReadsOneMore r b) (ReadsOneMore r' b') =
      let s = one_statement r r' in
      let t = one_statements b (moved_statements s.left b') in
      record { tree = cc (s.tree, t.tree); left = t.left }

  pub one_block : {longest : ℕ} {ts rest rest' : List Symbol} {ss ss' : Statements} → ReadsBlock longest ts ss rest
      → ReadsBlock longest ts ss' rest'
      → SameReading Statements ss ss' rest rest'
  one_block (ReadsBraces r) (ReadsBraces r') = one_statements r r'

  pub one_part : {longest word word' : ℕ} {ts rest rest' : List Symbol} {ss ss' : Statements} → ReadsPart longest word ts ss rest
      → ReadsPart longest word' ts ss' rest' → word ≡ word'
      → SameReading Statements ss ss' rest rest'
  one_part (ReadsNoPart ts h) (ReadsNoPart ts' h') e = record { tree = refl; left = refl }
  one_part (ReadsNoPart ts h) (ReadsPartIs r) e = absurd (h (sym e))
  one_part (ReadsPartIs r) (ReadsNoPart ts h) e = absurd (h e)
  one_part (ReadsPartIs r) (ReadsPartIs r') e = one_block r r'
