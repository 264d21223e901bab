-- The size of a program, compared with the symbols that derive it: it has at most as many expression nodes and statements as symbols.
use Rattle.std.proofs.Common.{◌≡◌, refl, ℕ, ◌+◌, ◌≤◌, ℤ, Bool, true, false, List, [], ◌∷◌, ◌++◌, length, length-append, arith, All}
use Rattle.std.proofs.Common.{if◌then◌else◌, ◌==◌}
use Rattle.std.specs.Prelude.{sum_by}
use Rattle.std.proofs.lemmas.List.Elements.{All-nil, All-cons, All-append}
use Rattle.std.proofs.lemmas.List.Sums.{sum_by-append, sum_by-cons}
use Rattle.pipe_model.specs.declared.symbol.Symbol.{Symbol}
use Rattle.pipe_model.specs.declared.symbol.Symbol.TheVariants as symbols
use Rattle.pipe_model.specs.Language.SpellablePrograms.{node_count, expressions_of_statement, expressions_of_statements, statement_count}
use Rattle.pipe_model.specs.Language.SpellablePrograms.{statement_counts, expressions_of}
use Rattle.pipe_model.specs.Language.SyntaxTree.{Expression, And, Or, Binary, binary_expression, Statement, Statements, SyntaxTree}
use Rattle.pipe_model.specs.Language.Grammar.{any_expression, Derives, Numeral, Named, Indexed, CallsMore, CallsTake, CallsIter, Negative}
use Rattle.pipe_model.specs.Language.Grammar.{Not, Bracketed, Tighter, Joined, Piece, Single, FullExpression, flat, DerivesStatement, LetIs}
use Rattle.pipe_model.specs.Language.Grammar.{AssignIs, AssignElementIs, EmitIs, IfIs, WhileIs, WaitIs, WaitNextIs, ContinueIs}
use Rattle.pipe_model.specs.Language.Grammar.{ContinueNextIs, DerivesStatements, NoStatement, OneMore, DerivesBlock, BlockIs, DerivesPart}
use Rattle.pipe_model.specs.Language.Grammar.{NoPart, PartIs, DerivesProgram, ProgramIs, limits_before}
use Rattle.pipe_model.specs.Language.Spelling.{AreShort}
use Rattle.pipe_model.specs.Language.Words.{close_round, close_square}
use Rattle.grammar_laws.proofs.Pieces.{flat_append, short_front, short_back}

-- ---- expressions

joined_nodes : (code : ℕ) (a b : Expression) → node_count (binary_expression code a b) ≡ 1 + (node_count a + node_count b)
joined_nodes code a b = by_code (code == 1) (code == 2)
  where
    by_code : (p q : Bool) → node_count (if p then Or a b else (if q then And a b else Binary code a b)) ≡ 1 + (node_count a + node_count b)
    by_code true q = refl
    by_code false true = refl
    by_code false false = refl

-- an expression has at most as many nodes as symbols
pub nodes_within : {level : ℕ} {ts : List Symbol} {e : Expression} → Derives level ts e → node_count e ≤ length ts
nodes_within (Numeral n) = omega arith
nodes_within (Named x) = omega arith
nodes_within (Indexed {inside} x d) =
    let bounded = nodes_within d in
    let many = length-append inside (close_square ∷ []) in
    omega (arith, bounded, many)
nodes_within CallsMore = omega arith
nodes_within CallsTake = omega arith
nodes_within CallsIter = omega arith
nodes_within (Negative d) = let bounded = nodes_within d in omega (arith, bounded)
nodes_within (Not d) = let bounded = nodes_within d in omega (arith, bounded)
nodes_within (Bracketed {inside} d) =
    let bounded = nodes_within d in
    let many = length-append inside (close_round ∷ []) in
    omega (arith, bounded, many)
nodes_within (Tighter d) = nodes_within d
nodes_within (Joined {level} {left} {right} {a} {b} code e x y) =
    let all = joined_nodes code a b in
    let bounded = nodes_within x in
    let fewer = nodes_within y in
    let many = length-append left (symbols.Operator code ∷ right) in
    omega (arith, all, bounded, fewer, many)

-- ---- statements

flat_length : (ps qs : List Piece) → length (flat (ps ++ qs)) ≡ length (flat ps) + length (flat qs)
flat_length ps qs = rw (flat_append ps qs) (length-append (flat ps) (flat qs))

-- the full expressions have at most as many nodes, and the statements are at most as many, as the pieces have symbols
pub record Measured (ps : List Piece) (es : List Expression) (statements : ℕ) : Type 0 where
  pub nodes : sum_by node_count es ≤ length (flat ps)
  pub bounded : statements ≤ length (flat ps)
  pub short : AreShort 256 ps → All (λ e. node_count e ≤ 256) es

nothing : Measured [] [] 0
nothing = record { nodes = omega arith; bounded = omega arith; short = λ h. All-nil (λ e. node_count e ≤ 256) }

plain : {ps : List Piece} {es : List Expression} {n : ℕ} (t : Symbol) → Measured ps es n → Measured (Single t ∷ ps) es n
plain t m = record { nodes = (let x = m.nodes in omega (arith, x)); bounded = (let x = m.bounded in omega (arith, x)); short = m.short }

-- the first symbol of a statement
one : {ps : List Piece} {es : List Expression} {n : ℕ} (t : Symbol) → Measured ps es n → Measured (Single t ∷ ps) es (1 + n)
one t m = record { nodes = (let x = m.nodes in omega (arith, x)); bounded = (let x = m.bounded in omega (arith, x)); short = m.short }

full : {ps : List Piece} {es : List Expression} {n : ℕ} {ts : List Symbol} {e : Expression} → Derives any_expression ts e → Measured ps es n
    → Measured (FullExpression ts ∷ ps) (e ∷ es) n
full {ps} {es} {n} {ts} {e} d m =
    let size = nodes_within d in
    let many = length-append ts (flat ps) in
    let sum = sum_by-cons node_count e es in
    record {
      nodes = (let x = m.nodes in omega (arith, x, size, many, sum));
      bounded = (let x = m.bounded in omega (arith, x, many));
      short = λ h. All-cons (λ e. node_count e ≤ 256) e es (let x = h.0 in omega (arith, x, size)) (m.short h.1);
    }

both : {ps qs : List Piece} {es fs : List Expression} {n k : ℕ} → Measured ps es n → Measured qs fs k
    → Measured (ps ++ qs) (es ++ fs) (n + k)
both {ps} {qs} {es} {fs} m o =
    let split = flat_length ps qs in
    let sum = sum_by-append node_count es fs in
    record {
      nodes = (let x = m.nodes in let y = o.nodes in omega (arith, x, y, split, sum));
      bounded = (let x = m.bounded in let y = o.bounded in omega (arith, x, y, split));
      short = λ h. All-append (λ e. node_count e ≤ 256) es fs (m.short (short_front 256 ps qs h)) (o.short (short_back 256 ps qs h));
    }

-- a symbol at the end
closed : {ps : List Piece} {es : List Expression} {n : ℕ} (t : Symbol) → Measured ps es n → Measured (ps ++ Single t ∷ []) es n
closed {ps} t m =
    let split = flat_length ps (Single t ∷ []) in
    record {
      nodes = (let x = m.nodes in omega (arith, x, split));
      bounded = (let x = m.bounded in omega (arith, x, split));
      short = λ h. m.short (short_front 256 ps (Single t ∷ []) h);
    }

-- pieces without statements at the beginning
following : {qs : List Piece} {es : List Expression} {n : ℕ} (ps : List Piece) → Measured qs es n → Measured (ps ++ qs) es n
following {qs} ps m =
    let split = flat_length ps qs in
    record {
      nodes = (let x = m.nodes in omega (arith, x, split));
      bounded = (let x = m.bounded in omega (arith, x, split));
      short = λ h. m.short (short_back 256 ps qs h);
    }

mutual
  measured_statement : {ps : List Piece} {s : Statement} → DerivesStatement ps s → Measured ps (expressions_of_statement s)
      (statement_count s)
  measured_statement (LetIs x d) = one _ (plain _ (plain _ (full d (plain _ nothing))))
  measured_statement (AssignIs x d) = one _ (plain _ (full d (plain _ nothing)))
  measured_statement (AssignElementIs x i d) = one _ (plain _ (full i (plain _ (plain _ (full d (plain _ nothing))))))
  measured_statement (EmitIs d) = one _ (full d (plain _ nothing))
  measured_statement (IfIs d a b) = one _ (plain _ (full d (plain _ (both (measured_block a) (measured_part b)))))
  measured_statement (WhileIs d a) = one _ (plain _ (full d (plain _ (measured_block a))))
  measured_statement (WaitIs d) = one _ (plain _ (full d (plain _ (plain _ nothing))))
  measured_statement WaitNextIs = one _ (plain _ (plain _ (plain _ nothing)))
  measured_statement (ContinueIs d) = one _ (plain _ (full d (plain _ (plain _ nothing))))
  measured_statement ContinueNextIs = one _ (plain _ (plain _ (plain _ nothing)))

  measured_statements : {ps : List Piece} {ss : Statements} → DerivesStatements ps ss → Measured ps (expressions_of_statements ss)
      (statement_counts ss)
  measured_statements NoStatement = nothing
  measured_statements (OneMore d ds) = both (measured_statement d) (measured_statements ds)

  measured_block : {ps : List Piece} {ss : Statements} → DerivesBlock ps ss → Measured ps (expressions_of_statements ss)
      (statement_counts ss)
  measured_block (BlockIs d) = plain _ (closed _ (measured_statements d))

  measured_part : {word : ℕ} {ps : List Piece} {ss : Statements} → DerivesPart (symbols.Word word) ps ss
      → Measured ps (expressions_of_statements ss) (statement_counts ss)
  measured_part NoPart = nothing
  measured_part (PartIs d) = plain _ (measured_block d)

-- ---- programs

-- the number of statements of a program
abbrev pub statements_in_all : SyntaxTree → ℕ
statements_in_all tree = statement_counts tree.init + (statement_counts tree.body + statement_counts tree.last)

limits_measured : {ps : List Piece} {es : List Expression} {n : ℕ} (iterations stages steps emits : ℤ) → Measured ps es n
    → Measured (limits_before iterations stages steps emits ps) es n
limits_measured iterations stages steps emits m =
    plain _ (plain _ (plain _ (plain _ (plain _ (plain _ (plain _ (plain _ (plain _ (plain _ (plain _ (plain _ (plain _ m))))))))))))

-- a program, compared with the pieces that derive it
pub measured_program : {ps : List Piece} {tree : SyntaxTree} → DerivesProgram ps tree → Measured ps (expressions_of tree)
    (statements_in_all tree)
measured_program (ProgramIs {cs} iterations stages steps emits cells init test body last) =
    limits_measured iterations stages steps emits
    (following cs (both (measured_part init) (plain _ (plain _ (full test (plain _ (both (measured_block body) (measured_part last))))))))
