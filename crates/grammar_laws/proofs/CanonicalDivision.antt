-- The canonical text is written symbol by symbol: its tokens are the symbols of the canonical pieces.
use Rattle.std.proofs.Common.{◌≡◌, ◌∙◌, ap, sym, refl, subst, ℕ, zero, suc, ◌+◌, ◌-◌, ◌<◌, ◌≤◌, ◌^◌, ◌≤ℤ◌, ℤ, pos, Bool, true, false, List}
use Rattle.std.proofs.Common.{[], ◌∷◌, ◌++◌, append_assoc, append-nil, length, ◌==◌, ◌⊎◌, inl, inr, Option, Some, None, arith, codes}
use Rattle.std.proofs.Common.{nat_le, if◌then◌else◌, replicate}
use Rattle.std.specs.Fmt.{decimal, signed_decimal}
use Rattle.std.specs.List.{flat_map}
use Rattle.std.proofs.lemmas.Int.{ints}
use Rattle.pipe_model.specs.declared.operator_codes.TheConstants as operator_codes
use Rattle.pipe_model.specs.declared.sign_bytes.TheConstants as signs
use Rattle.pipe_model.specs.declared.word_codes.TheConstants as words
use Rattle.pipe_model.specs.declared.tree.StageKind.{StageKind}
use Rattle.pipe_model.specs.declared.tree.StageKind.TheVariants as kinds
use Rattle.pipe_model.specs.declared.symbol.Symbol.{Symbol}
use Rattle.pipe_model.specs.declared.symbol.Symbol.TheVariants as symbols
use Rattle.pipe_model.specs.declared.tree.Declaration.{Declaration}
use Rattle.grammar_laws.proofs.CanonicalSymbols.{unary_symbol, symbols_at_level, binary_symbols, expression_symbols, block_pieces}
use Rattle.grammar_laws.proofs.CanonicalSymbols.{part_pieces, statement_pieces, statements_pieces, size_pieces, value_pieces, cells_pieces}
use Rattle.grammar_laws.proofs.CanonicalSymbols.{program_pieces, IsName, IsNumeral, Numeral, IsDeclaredValue, Positive, Negative}
use Rattle.grammar_laws.proofs.CanonicalSymbols.{IsWritable, IsWritableStatement, AreWritable, IsWritableSize, AreWritableCells}
use Rattle.grammar_laws.proofs.CanonicalSymbols.{IsWritableProgram}
use Rattle.pipe_model.specs.Language.CanonicalText.{operator_text, unary_text, level_in, at_level, binary_text, expression_text, line}
use Rattle.pipe_model.specs.Language.CanonicalText.{else_text, statement_text, statements_text, limits_text, size_text, cell_text}
use Rattle.pipe_model.specs.Language.CanonicalText.{part_text, loop_text, program_text}
use Rattle.pipe_model.specs.Language.Lexis.{is_name_byte, symbol_of}
use Rattle.pipe_model.specs.Language.SyntaxTree.{Expression, Number, Name, Element, And, Or, Binary, Unary, More, Take, Iter, Statement}
use Rattle.pipe_model.specs.Language.SyntaxTree.{Let, Assign, AssignElement, Emit, If, While, Stage, NextStage, Statements, Empty, Then}
use Rattle.pipe_model.specs.Language.SyntaxTree.{SyntaxTree}
use Rattle.pipe_model.specs.Language.Grammar.{level_of, operand_level, Piece, Single, FullExpression, flat}
use Rattle.pipe_model.specs.Language.Words.{word_limits, word_iterations, word_stages, word_steps, word_emits, word_pipe_while, word_if}
use Rattle.pipe_model.specs.Language.Words.{word_while, word_cell, minus, open_round, close_round, comma, semicolon, equals, open_square}
use Rattle.pipe_model.specs.Language.Words.{close_square, open_brace, close_brace}
use Rattle.grammar_laws.proofs.Pieces.{flat_append}
use Rattle.grammar_laws.proofs.Writings.{IsWritingOf, Writes, Done, Space, Puts, written_source}
use Rattle.grammar_laws.proofs.WrittenTokens.{begins_letter, Opens, name_opens, decimal_opens, word_token, name_token, number_token}
use Rattle.grammar_laws.proofs.WrittenTokens.{closed_token, spaced_token, not_token, operator_token}

-- the next byte cannot be part of a name
abbrev pub SymbolEdge : List ℕ → Type 0
SymbolEdge [] = ⊥
SymbolEdge (c ∷ cs) = is_name_byte c ≡ false

-- no condition on what follows
abbrev pub Any : List ℕ → Type 0
Any rest = Unit {0}

-- the text is written symbol by symbol as `ts`, if what follows meets the condition
pub record Writing (Follows : List ℕ → Type 0) (text : List ℕ) (ts : List Symbol) : Type 0 where
  pub writes : (rest : List ℕ) (found : List Symbol) → Follows rest → Writes rest found → Writes (text ++ rest) (ts ++ found)

-- one text after another
both : {F G : List ℕ → Type 0} {t u : List ℕ} {ts us : List Symbol} → Writing F t ts → Writing G u us
    → ((rest : List ℕ) → G rest → F (u ++ rest))
    → Writing G (t ++ u) (ts ++ us)
both {F} {G} {t} {u} {ts} {us} w v f = record {
  writes = λ rest found h d. rw (append_assoc t u rest, append_assoc ts us found)
      (w.writes (u ++ rest) (us ++ found) (f rest h) (v.writes rest found h d));
}

-- one text after another, with no condition on what follows the first
next : {G : List ℕ → Type 0} {t u : List ℕ} {ts us : List Symbol} → Writing Any t ts → Writing G u us → Writing G (t ++ u) (ts ++ us)
next w v = both w v (λ rest h. tt)

same : {F : List ℕ → Type 0} {t : List ℕ} {ts us : List Symbol} → ts ≡ us → Writing F t ts → Writing F t us
same {F} {t} e w = subst (λ x. Writing F t x) e w

any_edge : {t : List ℕ} {ts : List Symbol} → Writing Any t ts → Writing SymbolEdge t ts
any_edge w = record { writes = λ rest found h d. w.writes rest found tt d }

-- ---- single symbols

nothing : Writing Any [] []
nothing = record { writes = λ rest found h d. d }

name : (x : List ℕ) → IsName x → Writing SymbolEdge x (symbols.Name x ∷ [])
name x n = record { writes = put }
  where
    put : (rest : List ℕ) (found : List Symbol) → SymbolEdge rest → Writes rest found → Writes (x ++ rest) (symbols.Name x ∷ found)
    put [] found h d = absurd h
    put (c ∷ rest) found h d = Puts x (symbols.Name x) (name_token x c rest n h) n.short d

small_number : (n : ℕ) → n < 2 ^ 63 → pos n ≤ℤ pos (2 ^ 63 - 1)
small_number n h = omega (arith, ints)

numeral : (n : ℕ) → n < 2 ^ 63 → Writing SymbolEdge (decimal n) (symbols.Number (pos n) ∷ [])
numeral n small = record { writes = put }
  where
    put : (rest : List ℕ) (found : List Symbol) → SymbolEdge rest → Writes rest found → Writes (decimal n ++ rest)
        (symbols.Number (pos n) ∷ found)
    put [] found h d = absurd h
    put (c ∷ rest) found h d = Puts (decimal n) (symbols.Number (pos n)) (number_token n c rest (omega arith) h) (small_number n small) d

number : (z : ℤ) → IsNumeral z → Writing SymbolEdge (signed_decimal z) (symbols.Number z ∷ [])
number z (Numeral n h) = numeral n h

word : (text : List ℕ) (k : ℕ) → begins_letter text ≡ true → symbol_of text ≡ Some (symbols.Word k)
    → Writing SymbolEdge text (symbols.Word k ∷ [])
word text k l t = record { writes = put }
  where
    put : (rest : List ℕ) (found : List Symbol) → SymbolEdge rest → Writes rest found → Writes (text ++ rest) (symbols.Word k ∷ found)
    put [] found h d = absurd h
    put (c ∷ rest) found h d = Puts text (symbols.Word k) (word_token text (symbols.Word k) c rest l t h) tt d

-- a sign that is no prefix of a longer symbol
sign : (b : ℕ) → symbol_of (b ∷ []) ≡ Some (symbols.Sign b) → ((c : ℕ) (more : List ℕ) → symbol_of (b ∷ c ∷ more) ≡ None)
    → (b == 47) ≡ false
    → Writing Any (b ∷ []) (symbols.Sign b ∷ [])
sign b t closed slash = record {
  writes = λ rest found h d. Puts (b ∷ []) (symbols.Sign b)
      (closed_token b rest (symbols.Sign b) t closed slash) tt d;
}

round : Writing Any (codes "(") (open_round ∷ [])
round = sign signs.OPEN_ROUND refl (λ c more. refl) refl

round_end : Writing Any (codes ")") (close_round ∷ [])
round_end = sign signs.CLOSE_ROUND refl (λ c more. refl) refl

end : Writing Any (codes ";") (semicolon ∷ [])
end = sign signs.SEMICOLON refl (λ c more. refl) refl

comma_sign : Writing Any (codes ",") (comma ∷ [])
comma_sign = sign signs.COMMA refl (λ c more. refl) refl

index : Writing Any (codes "[") (open_square ∷ [])
index = sign signs.OPEN_SQUARE refl (λ c more. refl) refl

index_end : Writing Any (codes "]") (close_square ∷ [])
index_end = sign signs.CLOSE_SQUARE refl (λ c more. refl) refl

brace : Writing Any (codes "{") (open_brace ∷ [])
brace = sign signs.OPEN_BRACE refl (λ c more. refl) refl

brace_end : Writing Any (codes "}") (close_brace ∷ [])
brace_end = sign signs.CLOSE_BRACE refl (λ c more. refl) refl

minus_sign : Writing Any (codes "-") (minus ∷ [])
minus_sign = record { writes = λ rest found h d. Puts (45 ∷ []) minus (closed_token 45 rest minus refl (λ c more. refl) refl) tt d }

space : Writing Any (codes " ") []
space = record { writes = λ rest found h d. Space 32 refl d }

is : Writing Any (codes " = ") (equals ∷ [])
is = record {
  writes = λ rest found h d. Space 32 refl (Puts (61 ∷ []) equals (spaced_token (61 ∷ []) rest equals refl (λ more. refl) refl) tt
      (Space 32 refl d));
}

-- a word, a space, and the text after them
word_then : {G : List ℕ → Type 0} {u : List ℕ} {us : List Symbol} (text : List ℕ) (k : ℕ) → begins_letter text ≡ true
    → symbol_of text ≡ Some (symbols.Word k)
    → Writing G u us → Writing G (text ++ (codes " " ++ u)) (symbols.Word k ∷ us)
word_then text k l t v = both (word text k l t) (next space v) (λ rest h. refl)

-- ---- expressions

levelled : (needed own : ℕ) (text : List ℕ) (ts : List Symbol) → Writing SymbolEdge text ts
    → Writing SymbolEdge (at_level needed own text) (symbols_at_level needed own ts)
levelled needed own text ts w = by_test (nat_le needed own)
  where
    by_test : (b : Bool) → Writing SymbolEdge (if b then text else codes "(" ++ (text ++ codes ")"))
        (if b then ts else open_round ∷ (ts ++ close_round ∷ []))
    by_test true = w
    by_test false = any_edge (next round (both w round_end (λ rest h. refl)))

-- an operator between spaces
between : {G : List ℕ → Type 0} {u : List ℕ} {us : List Symbol} (code : ℕ) → 1 ≤ code → code ≤ 13 → Writing G u us
    → Writing G (codes " " ++ (operator_text code ++ (codes " " ++ u))) (symbols.Operator code ∷ us)
between {G} {u} {us} code l h w = record {
  writes = λ rest found f d.
      Space 32 refl (rw (append_assoc (operator_text code) (32 ∷ u) rest)
      (Puts (operator_text code) (symbols.Operator code) (operator_token code (u ++ rest) l h) tt
      (Space 32 refl (w.writes rest found f d))));
}

two_sides : (code la lb : ℕ) (a b : List ℕ) (ta tb : List Symbol) → 1 ≤ code → code ≤ 13 → Writing SymbolEdge a ta → Writing SymbolEdge b tb
    → Writing SymbolEdge (binary_text code la lb a b) (binary_symbols code la lb ta tb)
two_sides code la lb a b ta tb l h w v =
    both (levelled (level_of code) la a ta w) (between code l h (levelled (level_of code + 1) lb b tb v)) (λ rest f. refl)

-- a text with or without brackets does not begin with an equals sign
levelled_opens : (needed own : ℕ) (text rest : List ℕ) → ((more : List ℕ) → Opens (text ++ more)) → Opens (at_level needed own text ++ rest)
levelled_opens needed own text rest o = by_test (nat_le needed own)
  where
    by_test : (b : Bool) → Opens ((if b then text else codes "(" ++ (text ++ codes ")")) ++ rest)
    by_test true = o rest
    by_test false = refl

sides_open : (code la lb : ℕ) (a b rest : List ℕ) → ((more : List ℕ) → Opens (a ++ more)) → Opens (binary_text code la lb a b ++ rest)
sides_open code la lb a b rest o =
    let following = codes " " ++ (operator_text code ++ (codes " " ++ at_level (level_of code + 1) lb b)) in
    subst Opens (sym (append_assoc (at_level (level_of code) la a) following rest))
    (levelled_opens (level_of code) la a (following ++ rest) o)

-- an expression does not begin with an equals sign
expression_opens : (e : Expression) → IsWritable e → (rest : List ℕ) → Opens (expression_text e ++ rest)
expression_opens (Number n) h rest = by_number n h
  where
    by_number : (z : ℤ) → IsNumeral z → Opens (signed_decimal z ++ rest)
    by_number z (Numeral n small) = decimal_opens n rest (omega arith)
expression_opens (Name x) h rest = name_opens x rest h
expression_opens (Element x i) h rest =
    subst Opens (sym (append_assoc x (codes "[" ++ (expression_text i ++ codes "]")) rest)) (name_opens x _ h.0)
expression_opens (Or a b) h rest = sides_open 1 (level_in a) (level_in b) (expression_text a) (expression_text b) rest
    (expression_opens a h.0)
expression_opens (And a b) h rest = sides_open 2 (level_in a) (level_in b) (expression_text a) (expression_text b) rest
    (expression_opens a h.0)
expression_opens (Binary code a b) h rest = sides_open code (level_in a) (level_in b) (expression_text a) (expression_text b) rest
    (expression_opens a h.2)
expression_opens (Unary code a) h rest = by_code code h.0
  where
    by_code : (k : ℕ) → (k ≡ operator_codes.NEGATIVE) ⊎ (k ≡ operator_codes.NOT)
        → Opens ((unary_text k ++ at_level operand_level (level_in a) (expression_text a)) ++ rest)
    by_code k (inl e) = rw e refl
    by_code k (inr e) = rw e refl
expression_opens More h rest = refl
expression_opens Take h rest = refl
expression_opens Iter h rest = refl

one_sided : (code : ℕ) (text : List ℕ) (ts : List Symbol) → (code ≡ 1) ⊎ (code ≡ 2) → Writing SymbolEdge text ts
    → ((more : List ℕ) → Opens (text ++ more))
    → Writing SymbolEdge (unary_text code ++ text) (unary_symbol code ∷ ts)
one_sided code text ts (inl e) w o = rw e (next minus_sign w)
one_sided code text ts (inr e) w o = rw e (record {
  writes = λ rest found h d. Puts (33 ∷ []) (symbols.Sign signs.EXCLAMATION) (not_token (text ++ rest) (o rest)) tt
      (w.writes rest found h d);
})

call : (text : List ℕ) (k : ℕ) → begins_letter text ≡ true → symbol_of text ≡ Some (symbols.Word k)
    → Writing SymbolEdge (text ++ (codes "(" ++ codes ")")) (symbols.Word k ∷ open_round ∷ close_round ∷ [])
call text k l t = any_edge (both (word text k l t) (next round round_end) (λ rest h. refl))

-- the text of an expression is written as its symbols
pub expression_writing : (e : Expression) → IsWritable e → Writing SymbolEdge (expression_text e) (expression_symbols e)
expression_writing (Number n) h = number n h
expression_writing (Name x) h = name x h
expression_writing (Element x i) h = any_edge (both (name x h.0) (next index (both (expression_writing i h.1) index_end (λ rest f. refl)))
    (λ rest f. refl))
expression_writing (Or a b) h = two_sides 1 (level_in a) (level_in b) _ _ _ _ (omega arith) (omega arith) (expression_writing a h.0)
    (expression_writing b h.1)
expression_writing (And a b) h = two_sides 2 (level_in a) (level_in b) _ _ _ _ (omega arith) (omega arith) (expression_writing a h.0)
    (expression_writing b h.1)
expression_writing (Binary code a b) h =
    two_sides code (level_in a) (level_in b) _ _ _ _ (omega (arith, h.0)) h.1 (expression_writing a h.2) (expression_writing b h.3)
expression_writing (Unary code a) h =
    one_sided code _ _ h.0 (levelled 7 (level_in a) _ _ (expression_writing a h.1))
    (λ rest. levelled_opens 7 (level_in a) (expression_text a) rest (expression_opens a h.1))
expression_writing More h = call (codes "more") 17 refl refl
expression_writing Take h = call (codes "take") 18 refl refl
expression_writing Iter h = call (codes "iter") 19 refl refl

-- ---- statements

-- spaces before the text
spaces : (n : ℕ) {rest : List ℕ} {found : List Symbol} → Writes rest found → Writes (replicate n 32 ++ rest) found
spaces zero w = w
spaces (suc n) w = Space 32 refl (spaces n w)

-- a line
line_writing : (n : ℕ) {text : List ℕ} {ts : List Symbol} → Writing SymbolEdge text ts → Writing Any (line n text) ts
line_writing n {text} {ts} w = record { writes = put }
  where
    put : (rest : List ℕ) (found : List Symbol) → Unit {0} → Writes rest found → Writes (line n text ++ rest) (ts ++ found)
    put rest found h d =
        rw (append_assoc (replicate n 32) (text ++ codes "\n") rest, append_assoc text (codes "\n") rest)
        (spaces n (w.writes (10 ∷ rest) found refl (Space 10 refl d)))

-- an expression before a sign
closed : {G : List ℕ → Type 0} {u : List ℕ} {us : List Symbol} (e : Expression) → IsWritable e → Writing G u us
    → ((rest : List ℕ) → G rest → SymbolEdge (u ++ rest))
    → Writing G (expression_text e ++ u) (expression_symbols e ++ us)
closed e h w f = both (expression_writing e h) w f

-- an expression before the end of a statement
ended : (e : Expression) → IsWritable e → Writing Any (expression_text e ++ codes ";") (expression_symbols e ++ semicolon ∷ [])
ended e h = closed e h end (λ rest f. refl)

-- a bracket and an opening brace
opens_block : Writing Any (codes ") {") (close_round ∷ open_brace ∷ [])
opens_block = next round_end (next space brace)

-- the opening line of a test: a word, the test in brackets, an opening brace
test_line : (n : ℕ) (text : List ℕ) (k : ℕ) (e : Expression) → begins_letter text ≡ true → symbol_of text ≡ Some (symbols.Word k)
    → IsWritable e
    → Writing Any (line n (text ++ (codes " (" ++ (expression_text e ++ codes ") {"))))
    (symbols.Word k ∷ open_round ∷ (expression_symbols e ++ close_round ∷ open_brace ∷ []))
test_line n text k e l t h =
    line_writing n (any_edge (word_then text k l t (next round (closed e h opens_block (λ rest f. refl)))))

-- the line that closes a block
closing_line : (n : ℕ) → Writing Any (line n (codes "}")) (close_brace ∷ [])
closing_line n = line_writing n (any_edge brace_end)

-- what follows the first block of an `if`
else_writing : (n : ℕ) (b : Statements) (text : List ℕ) (ps : List Piece) → Writing Any text (flat ps)
    → Writing Any (else_text n b text ++ line n (codes "}")) (close_brace ∷ flat (part_pieces 14 b ps))
else_writing n Empty text ps w = closing_line n
else_writing n (Then s ss) text ps w =
    same (ap (λ x. close_brace ∷ symbols.Word words.ELSE ∷ open_brace ∷ x) (sym (flat_append ps (Single close_brace ∷ []))))
    (next (next (line_writing n (any_edge (next brace_end (next space (word_then (codes "else") 14 refl refl brace))))) w) (closing_line n))

-- the symbols of an `if`
choice_symbols : (es : List Symbol) (a : List Piece) (more : List Piece)
    → (es ++ close_round ∷ open_brace ∷ []) ++ (flat a ++ (close_brace ∷ flat more)) ≡ es ++ close_round ∷ flat (block_pieces a ++ more)
choice_symbols es a more =
    let inner : flat ((a ++ Single close_brace ∷ []) ++ more) ≡ flat a ++ (close_brace ∷ flat more) =
    flat_append (a ++ Single close_brace ∷ []) more ∙ ap (λ x. x ++ flat more) (flat_append a (Single close_brace ∷ []))
    ∙ append_assoc (flat a) (close_brace ∷ []) (flat more) in
    append_assoc es (close_round ∷ open_brace ∷ []) (flat a ++ (close_brace ∷ flat more)) ∙ ap (λ x. es ++ close_round ∷ open_brace ∷ x)
    (sym inner)

block_symbols : (es : List Symbol) (a : List Piece)
    → (es ++ close_round ∷ open_brace ∷ []) ++ (flat a ++ close_brace ∷ []) ≡ es ++ close_round ∷ flat (block_pieces a)
block_symbols es a =
    append_assoc es (close_round ∷ open_brace ∷ []) (flat a ++ close_brace ∷ [])
    ∙ ap (λ x. es ++ close_round ∷ open_brace ∷ x) (sym (flat_append a (Single close_brace ∷ [])))

stage_writing : (n : ℕ) (kind : StageKind) (e : Expression) → IsWritable e
    → Writing Any (statement_text n (Stage kind e)) (flat (statement_pieces (Stage kind e)))
stage_writing n kinds.Wait e h =
    line_writing n (any_edge (both (word (codes "pipe_wait") 9 refl refl) (next round (closed e h (next round_end end) (λ rest f. refl)))
    (λ rest f. refl)))
stage_writing n kinds.Continue e h =
    line_writing n (any_edge (both (word (codes "pipe_continue") 10 refl refl)
    (next round (closed e h (next round_end end) (λ rest f. refl)))
    (λ rest f. refl)))

next_stage_writing : (n : ℕ) (kind : StageKind) → Writing Any (statement_text n (NextStage kind)) (flat (statement_pieces (NextStage kind)))
next_stage_writing n kinds.Wait =
    line_writing n (any_edge (both (word (codes "pipe_wait") 9 refl refl) (next round (next round_end end)) (λ rest f. refl)))
next_stage_writing n kinds.Continue =
    line_writing n (any_edge (both (word (codes "pipe_continue") 10 refl refl) (next round (next round_end end)) (λ rest f. refl)))

mutual
  -- the text of a statement is written as its symbols
  pub statement_writing : (n : ℕ) (s : Statement) → IsWritableStatement s → Writing Any (statement_text n s) (flat (statement_pieces s))
  statement_writing n (Let x e) h =
      line_writing n (any_edge (word_then (codes "let") 12 refl refl (both (name x h.0) (next is (ended e h.1)) (λ rest f. refl))))
  statement_writing n (Assign x e) h = line_writing n (any_edge (both (name x h.0) (next is (ended e h.1)) (λ rest f. refl)))
  statement_writing n (AssignElement x i e) h =
      line_writing n (any_edge (both (name x h.0) (next index (closed i h.1 (next index_end (next is (ended e h.2))) (λ rest f. refl)))
      (λ rest f. refl)))
  statement_writing n (Emit e) h = line_writing n (any_edge (word_then (codes "emit") 16 refl refl (ended e h)))
  statement_writing n (If e a b) h =
      same (ap (λ x. word_if ∷ open_round ∷ x) (choice_symbols (expression_symbols e) (statements_pieces a)
      (part_pieces 14 b (statements_pieces b))))
      (next (test_line n (codes "if") 13 e refl refl h.0) (next (statements_writing (n + 2) a h.1)
      (else_writing n b (statements_text (n + 2) b) (statements_pieces b) (statements_writing (n + 2) b h.2))))
  statement_writing n (While e a) h =
      same (ap (λ x. word_while ∷ open_round ∷ x) (block_symbols (expression_symbols e) (statements_pieces a)))
      (next (test_line n (codes "while") 15 e refl refl h.0) (next (statements_writing (n + 2) a h.1) (closing_line n)))
  statement_writing n (Stage kind e) h = stage_writing n kind e h
  statement_writing n (NextStage kind) h = next_stage_writing n kind

  -- the same for statements in order
  pub statements_writing : (n : ℕ) (ss : Statements) → AreWritable ss → Writing Any (statements_text n ss) (flat (statements_pieces ss))
  statements_writing n Empty h = nothing
  statements_writing n (Then s ss) h =
      same (sym (flat_append (statement_pieces s) (statements_pieces ss))) (next (statement_writing n s h.0) (statements_writing n ss h.1))

-- ---- programs

-- a field of the limits
field : {u : List ℕ} {us : List Symbol} (text : List ℕ) (k : ℕ) (z : ℤ) → begins_letter text ≡ true
    → symbol_of text ≡ Some (symbols.Word k) → IsNumeral z
    → Writing Any u us → ((rest : List ℕ) → SymbolEdge (u ++ rest))
    → Writing Any (text ++ (codes " " ++ (signed_decimal z ++ u))) (symbols.Word k ∷ symbols.Number z ∷ us)
field text k z l t h w f = word_then text k l t (both (number z h) w (λ rest g. f rest))

-- the line of limits
limits_writing : (tree : SyntaxTree) → IsWritableProgram tree
    → Writing Any (limits_text tree.limits)
    (word_limits ∷ word_iterations ∷ symbols.Number tree.limits.iterations ∷ comma ∷ word_stages ∷ symbols.Number
    tree.limits.stages ∷ comma ∷ word_steps
    ∷ symbols.Number tree.limits.steps ∷ comma ∷ word_emits ∷ symbols.Number tree.limits.emits ∷ semicolon ∷ [])
limits_writing tree h =
    line_writing 0 (any_edge (word_then (codes "limits") 1 refl refl
    (field (codes "iterations") 2 tree.limits.iterations refl refl h.iterations
    (next comma_sign (next space (field (codes "stages") 3 tree.limits.stages refl refl h.stages
    (next comma_sign (next space (field (codes "steps") 4 tree.limits.steps refl refl h.steps
    (next comma_sign (next space (field (codes "emits") 5 tree.limits.emits refl refl h.emits end (λ rest. refl)))) (λ rest. refl))))
    (λ rest. refl)))) (λ rest. refl))))

-- a declared value before a sign
value_writing : {u : List ℕ} {us : List Symbol} (z : ℤ) → IsDeclaredValue z → Writing Any u us → ((rest : List ℕ) → SymbolEdge (u ++ rest))
    → Writing Any (signed_decimal z ++ u) (flat (value_pieces z) ++ us)
value_writing z (Positive n h) w f = both (numeral n h) w (λ rest g. f rest)
value_writing z (Negative n h) w f = next minus_sign (both (numeral (suc n) h) w (λ rest g. f rest))

-- a size, if there is one, before a space
size_writing : {u : List ℕ} {us : List Symbol} (size : Option ℤ) → IsWritableSize size → Writing Any u us
    → Writing Any (size_text size ++ u) (flat (size_pieces size) ++ us)
size_writing None h w = w
size_writing (Some z) h w = next (next index (both (number z h) index_end (λ rest g. refl))) w

-- a declaration
cell_writing : (d : Declaration) → IsName d.name → IsWritableSize d.size → IsDeclaredValue d.value
    → Writing Any (cell_text d) (word_cell ∷ symbols.Name
    d.name ∷ (flat (size_pieces d.size) ++ (equals ∷ (flat (value_pieces d.value) ++ semicolon ∷ []))))
cell_writing d n s v =
    line_writing 0 (any_edge (word_then (codes "cell") 6 refl refl
    (both (name d.name n) (size_writing d.size s (next is (value_writing d.value v end (λ rest. refl))))
    (λ rest g. edge_after d.size rest))))
  where
    edge_after : (size : Option ℤ) (rest : List ℕ) → SymbolEdge
        ((size_text size ++ (codes " = " ++ (signed_decimal d.value ++ codes ";"))) ++ rest)
    edge_after None rest = refl
    edge_after (Some z) rest = refl

-- the pieces of a declaration, before the pieces of others
cell_symbols : (d : Declaration) (more : List Piece)
    → word_cell ∷ symbols.Name d.name ∷ ((flat (size_pieces d.size) ++ (equals ∷ (flat (value_pieces d.value) ++ semicolon ∷ []))) ++ flat
    more)
    ≡ flat (Single word_cell ∷ Single (symbols.Name d.name) ∷ (size_pieces d.size ++ Single
    equals ∷ (value_pieces d.value ++ Single semicolon ∷ more)))
cell_symbols d more =
    ap (λ x. word_cell ∷ symbols.Name d.name ∷ x)
    (append_assoc (flat (size_pieces d.size)) (equals ∷ (flat (value_pieces d.value) ++ semicolon ∷ [])) (flat more)
    ∙ ap (λ x. flat (size_pieces d.size) ++ (equals ∷ x))
    (append_assoc (flat (value_pieces d.value)) (semicolon ∷ []) (flat more)
    ∙ sym (flat_append (value_pieces d.value) (Single semicolon ∷ more)))
    ∙ sym (flat_append (size_pieces d.size) (Single equals ∷ (value_pieces d.value ++ Single semicolon ∷ more))))

cells_writing : (ds : List Declaration) → AreWritableCells ds → Writing Any (flat_map cell_text ds) (flat (cells_pieces ds))
cells_writing [] h = nothing
cells_writing (d ∷ ds) h = same (cell_symbols d (cells_pieces ds)) (next (cell_writing d h.0 h.1 h.2) (cells_writing ds h.3))

-- a part, if it is not empty
part_writing : (text : List ℕ) (k : ℕ) (ss : Statements) → begins_letter text ≡ true → symbol_of text ≡ Some (symbols.Word k)
    → AreWritable ss
    → Writing Any (part_text text ss) (flat (part_pieces k ss (statements_pieces ss)))
part_writing text k Empty l t h = nothing
part_writing text k (Then s ss) l t h =
    same (ap (λ x. symbols.Word k ∷ open_brace ∷ x) (sym (flat_append (statements_pieces (Then s ss)) (Single close_brace ∷ []))))
    (next (line_writing 0 (any_edge (word_then text k l t brace))) (next (statements_writing 2 (Then s ss) h) (closing_line 0)))

loop_writing : (test : Expression) (body : Statements) → IsWritable test → AreWritable body
    → Writing Any (loop_text test body) (word_pipe_while ∷ open_round ∷ (expression_symbols test ++ close_round ∷ flat
    (block_pieces (statements_pieces body))))
loop_writing test body h b =
    same (ap (λ x. word_pipe_while ∷ open_round ∷ x) (block_symbols (expression_symbols test) (statements_pieces body)))
    (next (test_line 0 (codes "pipe_while") 8 test refl refl h) (next (statements_writing 2 body b) (closing_line 0)))

-- the symbols of the parts of a program in order
program_symbols : (cs is bs ls : List Piece) (ts : List Symbol)
    → flat cs ++ (flat is ++ ((word_pipe_while ∷ open_round ∷ (ts ++ close_round ∷ flat bs)) ++ flat ls))
    ≡ flat (cs ++ (is ++ Single word_pipe_while ∷ Single open_round ∷ FullExpression ts ∷ Single close_round ∷ (bs ++ ls)))
program_symbols cs is bs ls ts =
    ap (λ x. flat cs ++ (flat is ++ word_pipe_while ∷ open_round ∷ x)) (append_assoc ts (close_round ∷ flat bs) (flat ls) ∙ ap
    (λ x. ts ++ close_round ∷ x) (sym (flat_append bs ls)))
    ∙ ap (λ x. flat cs ++ x) (sym (flat_append is (Single word_pipe_while ∷ Single open_round ∷ FullExpression ts ∷ Single
    close_round ∷ (bs ++ ls))))
    ∙ sym (flat_append cs (is ++ Single word_pipe_while ∷ Single open_round ∷ FullExpression ts ∷ Single close_round ∷ (bs ++ ls)))

-- the text of a program is written as its symbols
program_writing : (tree : SyntaxTree) → IsWritableProgram tree → Writing Any (program_text tree) (flat (program_pieces tree))
program_writing tree h =
    same (ap (λ x. word_limits ∷ word_iterations ∷ symbols.Number tree.limits.iterations ∷ comma ∷ word_stages ∷ symbols.Number
    tree.limits.stages ∷ comma ∷ word_steps
    ∷ symbols.Number tree.limits.steps ∷ comma ∷ word_emits ∷ symbols.Number tree.limits.emits ∷ semicolon ∷ x)
    (program_symbols (cells_pieces tree.cells) (part_pieces 7 tree.init (statements_pieces tree.init))
    (block_pieces (statements_pieces tree.body))
    (part_pieces 11 tree.last (statements_pieces tree.last)) (expression_symbols tree.test)))
    (next (limits_writing tree h) (next (cells_writing tree.cells h.cells) (next (part_writing (codes "init") 7 tree.init refl refl h.init)
    (next (loop_writing tree.test tree.body h.test h.body) (part_writing (codes "final") 11 tree.last refl refl h.last)))))

-- so these are its tokens, if the text is not too long
pub program_source : (tree : SyntaxTree) → IsWritableProgram tree → length (program_text tree) ≤ 1048576
    → IsWritingOf (program_text tree) (flat (program_pieces tree))
program_source tree h short =
    let w = program_writing tree h in
    written_source (program_text tree) (flat (program_pieces tree)) short
    (subst (λ x. Writes x (flat (program_pieces tree))) (append-nil (program_text tree))
    (subst (λ x. Writes (program_text tree ++ []) x) (append-nil (flat (program_pieces tree))) (w.writes [] [] tt Done)))
