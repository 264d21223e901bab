-- A program has the flags of its marks.
use Rattle.std.proofs.Common.{◌≡◌, ◌∙◌, ℕ, suc, pos, Bool, true, false, List, [], ◌∷◌, ◌++◌, ◌+◌, ◌≤◌, length, map, refl, sym, ap, ap₂}
use Rattle.std.proofs.Common.{arith, Ok, Err, Some, None, length-append}
use Rattle.std.proofs.lemmas.List.{length-map, map-append}
use Rattle.pipe_model.specs.declared.region.Region.TheVariants as regions
use Rattle.pipe_model.specs.declared.tree.Declaration.{Declaration}
use Rattle.pipe_model.specs.Language.Marks.{Mark, Scope, after_block, after_statement, marks_of, marks_of_cells, marks_of_expression}
use Rattle.pipe_model.specs.Language.Marks.{marks_of_statement, marks_of_statements, opening}
use Rattle.pipe_model.specs.Language.SpellablePrograms.{size_of}
use Rattle.pipe_model.specs.Language.SyntaxTree as syntax
use Rattle.pipe_model.specs.Language.SyntaxTree.{Expression, Number, Statement, Statements, Empty, Then, SyntaxTree}
use Rattle.wave_laws.specs.WaveLaws.{LARGEST_WAVE}
use Rattle.wave_laws.specs.Waves.MarkFlags.{first_true, flags_of_statement, flags_of_statements, no_flags}
use Rattle.wave_laws.specs.Waves.WaveFaults.{first_stage, is_stage_word, marks_before_body}
use Rattle.wave_lower.specs.Searches.{Finds, Fits}
use Rattle.wave_lower.proofs.Finds.{first_after, first_stays, passes_then}

abbrev pub stage_of : Mark → Bool
stage_of m = is_stage_word m.occurrence

expression_flags : (scope : Scope) (e : Expression) → map stage_of (marks_of_expression scope e) ≡ no_flags e
expression_flags scope (Number n) = refl
expression_flags scope (syntax.Name x) = refl
expression_flags scope (syntax.Element x i) = ap (λ l. false ∷ l) (expression_flags scope i)
expression_flags scope (syntax.And a b) =
    map-append stage_of (marks_of_expression scope a) (marks_of_expression scope b)
    ∙ ap₂ (λ x y. x ++ y) (expression_flags scope a) (expression_flags scope b)
expression_flags scope (syntax.Or a b) =
    map-append stage_of (marks_of_expression scope a) (marks_of_expression scope b)
    ∙ ap₂ (λ x y. x ++ y) (expression_flags scope a) (expression_flags scope b)
expression_flags scope (syntax.Binary code a b) =
    map-append stage_of (marks_of_expression scope a) (marks_of_expression scope b)
    ∙ ap₂ (λ x y. x ++ y) (expression_flags scope a) (expression_flags scope b)
expression_flags scope (syntax.Unary code a) = expression_flags scope a
expression_flags scope syntax.More = refl
expression_flags scope syntax.Take = refl
expression_flags scope syntax.Iter = refl

mutual
  statement_flags : (scope : Scope) (s : Statement) → map stage_of (marks_of_statement scope s) ≡ flags_of_statement true false s
  statement_flags scope (syntax.Let x e) = ap (λ l. false ∷ l) (expression_flags scope e)
  statement_flags scope (syntax.Assign x e) = ap (λ l. false ∷ l) (expression_flags scope e)
  statement_flags scope (syntax.AssignElement x i e) =
      ap (λ l. false ∷ l) (map-append stage_of (marks_of_expression scope i) (marks_of_expression scope e)
      ∙ ap₂ (λ x y. x ++ y) (expression_flags scope i) (expression_flags scope e))
  statement_flags scope (syntax.Emit e) = expression_flags scope e
  statement_flags scope (syntax.If e a b) =
      map-append stage_of (marks_of_expression scope e) (marks_of_statements scope a ++ marks_of_statements (after_block scope a) b)
      ∙ ap₂ (λ x y. x ++ y) (expression_flags scope e)
      (map-append stage_of (marks_of_statements scope a) (marks_of_statements (after_block scope a) b)
      ∙ ap₂ (λ x y. x ++ y) (block_flags scope a) (block_flags (after_block scope a) b))
  statement_flags scope (syntax.While e a) =
      map-append stage_of (marks_of_expression scope e) (marks_of_statements scope a)
      ∙ ap₂ (λ x y. x ++ y) (expression_flags scope e) (block_flags scope a)
  statement_flags scope (syntax.Stage kind e) = ap (λ l. true ∷ l) (expression_flags scope e)
  statement_flags scope (syntax.NextStage kind) = refl

  pub block_flags : (scope : Scope) (ss : Statements) → map stage_of (marks_of_statements scope ss) ≡ flags_of_statements true false ss
  block_flags scope Empty = refl
  block_flags scope (Then s ss) =
      map-append stage_of (marks_of_statement scope s) (marks_of_statements (after_statement scope s) ss)
      ∙ ap₂ (λ x y. x ++ y) (statement_flags scope s) (block_flags (after_statement scope s) ss)

-- the number of marks does not depend on what is sought
mutual
  same_length_one : (a b c d : Bool) (s : Statement) → length (flags_of_statement a b s) ≡ length (flags_of_statement c d s)
  same_length_one a b c d (syntax.Let x e) = refl
  same_length_one a b c d (syntax.Assign x e) = refl
  same_length_one a b c d (syntax.AssignElement x i e) = refl
  same_length_one a b c d (syntax.Emit e) = refl
  same_length_one a b c d (syntax.If e l r) =
      let x = same_length a b c d l in
      let y = same_length a b c d r in
      let p = length-append (no_flags e) (flags_of_statements a b l ++ flags_of_statements a b r) in
      let q = length-append (no_flags e) (flags_of_statements c d l ++ flags_of_statements c d r) in
      let u = length-append (flags_of_statements a b l) (flags_of_statements a b r) in
      let v = length-append (flags_of_statements c d l) (flags_of_statements c d r) in
      omega (arith, x, y, p, q, u, v)
  same_length_one a b c d (syntax.While e l) =
      let x = same_length a b c d l in
      let p = length-append (no_flags e) (flags_of_statements a b l) in
      let q = length-append (no_flags e) (flags_of_statements c d l) in
      omega (arith, x, p, q)
  same_length_one a b c d (syntax.Stage kind e) = refl
  same_length_one a b c d (syntax.NextStage kind) = refl

  pub same_length : (a b c d : Bool) (ss : Statements) → length (flags_of_statements a b ss) ≡ length (flags_of_statements c d ss)
  same_length a b c d Empty = refl
  same_length a b c d (Then s ss) =
      let x = same_length_one a b c d s in
      let y = same_length a b c d ss in
      let p = length-append (flags_of_statement a b s) (flags_of_statements a b ss) in
      let q = length-append (flags_of_statement c d s) (flags_of_statements c d ss) in
      omega (arith, x, y, p, q)

-- declarations are no stage statements
cells_pass : (n : ℕ) (before cells : List Declaration) → first_true n (map stage_of (marks_of_cells before cells)) ≡ None
cells_pass n before [] = refl
cells_pass n before (d ∷ ds) = cells_pass (n + 1) (before ++ d ∷ []) ds

cells_length : (before cells : List Declaration) → length (marks_of_cells before cells) ≡ length cells
cells_length before [] = refl
cells_length before (d ∷ ds) = ap (λ n. suc n) (cells_length (before ++ d ∷ []) ds)

-- the flags of a program whose test has no mark
abbrev pub all_flags : SyntaxTree → List Bool
all_flags tree =
    flags_of_statements true false tree.init
    ++ (flags_of_statements true false tree.body ++ flags_of_statements true false tree.last)

flags_of_marks : (tree : SyntaxTree) → tree.test ≡ Number (pos 1)
    → map stage_of (marks_of tree) ≡ map stage_of (marks_of_cells [] tree.cells) ++ all_flags tree
flags_of_marks tree h =
    let cells = marks_of_cells [] tree.cells in
    let init = marks_of_statements (opening regions.Init tree.cells) tree.init in
    let test = marks_of_expression (opening regions.Test tree.cells) tree.test in
    let body = marks_of_statements (opening regions.Body tree.cells) tree.body in
    let last = marks_of_statements (opening regions.Last tree.cells) tree.last in
    let no_test : test ≡ [] = ap (marks_of_expression (opening regions.Test tree.cells)) h in
    map-append stage_of cells (init ++ (test ++ (body ++ last)))
    ∙ ap (λ l. map stage_of cells ++ l) (map-append stage_of init (test ++ (body ++ last))
    ∙ ap₂ (λ x y. x ++ y) (block_flags (opening regions.Init tree.cells) tree.init)
    (ap (λ t. map stage_of (t ++ (body ++ last))) no_test ∙ map-append stage_of body last
    ∙ ap₂ (λ x y. x ++ y) (block_flags (opening regions.Body tree.cells) tree.body)
    (block_flags (opening regions.Last tree.cells) tree.last)))

pub first_stage_is : (tree : SyntaxTree) → tree.test ≡ Number (pos 1) → first_stage tree ≡ first_true (length tree.cells) (all_flags tree)
first_stage_is tree h =
    let cells = map stage_of (marks_of_cells [] tree.cells) in
    let mapped : length cells ≡ length tree.cells = length-map (marks_of_cells [] tree.cells) stage_of ∙ cells_length [] tree.cells in
    let counted : 0 + length cells ≡ length tree.cells = omega (arith, mapped) in
    ap (first_true 0) (flags_of_marks tree h) ∙ first_after 0 cells (all_flags tree) (cells_pass 0 [] tree.cells)
    ∙ ap (λ n. first_true n (all_flags tree)) counted

-- ---- what the search in a program finds

-- all marks have numbers within the bound
marks_fit : (tree : SyntaxTree) → tree.test ≡ Number (pos 1) → size_of tree ≤ LARGEST_WAVE
    → length tree.cells + length (all_flags tree) ≤ 4194240
marks_fit tree h small =
    let mapped = length-map (marks_of tree) stage_of in
    let cells = length-map (marks_of_cells [] tree.cells) stage_of in
    let counted = cells_length [] tree.cells in
    let same = ap length (flags_of_marks tree h) in
    let split = length-append (map stage_of (marks_of_cells [] tree.cells)) (all_flags tree) in
    omega (arith, mapped, cells, counted, same, split, small)

abbrev flags_of : Statements → List Bool
flags_of ss = flags_of_statements true false ss

pub few_cells : (tree : SyntaxTree) → tree.test ≡ Number (pos 1) → size_of tree ≤ LARGEST_WAVE → length tree.cells ≤ 4194240
few_cells tree h small = let all = marks_fit tree h small in omega (arith, all)

pub init_fits : (tree : SyntaxTree) (n : ℕ) → tree.test ≡ Number (pos 1) → size_of tree ≤ LARGEST_WAVE → n ≡ length tree.cells
    → Fits n (flags_of tree.init)
init_fits tree n h small e =
    let all = marks_fit tree h small in
    omega (arith, all, e, length-append (flags_of tree.init) (flags_of tree.body ++ flags_of tree.last))

pub body_fits : (tree : SyntaxTree) (n b : ℕ) → tree.test ≡ Number (pos 1) → size_of tree ≤ LARGEST_WAVE → n ≡ length tree.cells
    → Finds (Ok b) n (flags_of tree.init) → Fits b (flags_of tree.body)
body_fits tree n b h small e p =
    let all = marks_fit tree h small in
    let at = p.1 in
    omega (
      arith,
      all,
      e,
      at,
      length-append (flags_of tree.init) (flags_of tree.body ++ flags_of tree.last),
      length-append (flags_of tree.body) (flags_of tree.last),
    )

pub last_fits : (tree : SyntaxTree) (n b l : ℕ) → tree.test ≡ Number (pos 1) → size_of tree ≤ LARGEST_WAVE → n ≡ length tree.cells
    → Finds (Ok b) n (flags_of tree.init) → Finds (Ok l) b (flags_of tree.body) → Fits l (flags_of tree.last)
last_fits tree n b l h small e p q =
    let all = marks_fit tree h small in
    let at = p.1 in
    let after = q.1 in
    omega (
      arith,
      all,
      e,
      at,
      after,
      length-append (flags_of tree.init) (flags_of tree.body ++ flags_of tree.last),
      length-append (flags_of tree.body) (flags_of tree.last),
    )

-- the result of the search over all flags is that over all marks
found_all : (tree : SyntaxTree) (n m : ℕ) → tree.test ≡ Number (pos 1) → n ≡ length tree.cells → Finds (Err m) n (all_flags tree)
    → first_stage tree ≡ Some m
found_all tree n m h e p = first_stage_is tree h ∙ ap (λ k. first_true k (all_flags tree)) (sym e) ∙ p

pub found_in_init : (tree : SyntaxTree) (n m : ℕ) → tree.test ≡ Number (pos 1) → n ≡ length tree.cells
    → Finds (Err m) n (flags_of tree.init)
    → first_stage tree ≡ Some m
found_in_init tree n m h e p = found_all tree n m h e (first_stays n (flags_of tree.init) (flags_of tree.body ++ flags_of tree.last) m p)

pub found_in_body : (tree : SyntaxTree) (n b m : ℕ) → tree.test ≡ Number (pos 1) → n ≡ length tree.cells
    → Finds (Ok b) n (flags_of tree.init)
    → Finds (Err m) b (flags_of tree.body) → first_stage tree ≡ Some m
found_in_body tree n b m h e p q =
    found_all tree n m h e (passes_then (Err m) n b (flags_of tree.init) (flags_of tree.body ++ flags_of tree.last) p
    (first_stays b (flags_of tree.body) (flags_of tree.last) m q))

pub found_in_last : (tree : SyntaxTree) (n b l m : ℕ) → tree.test ≡ Number (pos 1) → n ≡ length tree.cells
    → Finds (Ok b) n (flags_of tree.init)
    → Finds (Ok l) b (flags_of tree.body) → Finds (Err m) l (flags_of tree.last) → first_stage tree ≡ Some m
found_in_last tree n b l m h e p q r =
    found_all tree n m h e (passes_then (Err m) n b (flags_of tree.init) (flags_of tree.body ++ flags_of tree.last) p
    (passes_then (Err m) b l (flags_of tree.body) (flags_of tree.last) q r))

pub none_found : (tree : SyntaxTree) (n b l k : ℕ) → tree.test ≡ Number (pos 1) → n ≡ length tree.cells
    → Finds (Ok b) n (flags_of tree.init)
    → Finds (Ok l) b (flags_of tree.body) → Finds (Ok k) l (flags_of tree.last) → first_stage tree ≡ None
none_found tree n b l k h e p q r =
    let all = passes_then (Ok k) n b (flags_of tree.init) (flags_of tree.body ++ flags_of tree.last) p
    (passes_then (Ok k) b l (flags_of tree.body) (flags_of tree.last) q r) in
    first_stage_is tree h ∙ ap (λ j. first_true j (all_flags tree)) (sym e) ∙ all.0

block_length : (scope : Scope) (ss : Statements) → length (marks_of_statements scope ss) ≡ length (flags_of ss)
block_length scope ss = sym (length-map (marks_of_statements scope ss) stage_of) ∙ ap length (block_flags scope ss)

pub body_begins : (tree : SyntaxTree) (n b : ℕ) → tree.test ≡ Number (pos 1) → n ≡ length tree.cells → Finds (Ok b) n (flags_of tree.init)
    → b ≡ marks_before_body tree
body_begins tree n b h e p =
    let cells = cells_length [] tree.cells in
    let init = block_length (opening regions.Init tree.cells) tree.init in
    let test : length (marks_of_expression (opening regions.Test tree.cells) tree.test) ≡ 0 =
    ap (λ t. length (marks_of_expression (opening regions.Test tree.cells) t)) h in
    let at = p.1 in
    omega (arith, cells, init, test, at, e)

pub rows_fit : (tree : SyntaxTree) (b : ℕ) → size_of tree ≤ LARGEST_WAVE → b ≡ marks_before_body tree
    → Fits b (flags_of_statements false true tree.body)
rows_fit tree b small e =
    let cells = marks_of_cells [] tree.cells in
    let init = marks_of_statements (opening regions.Init tree.cells) tree.init in
    let test = marks_of_expression (opening regions.Test tree.cells) tree.test in
    let body = marks_of_statements (opening regions.Body tree.cells) tree.body in
    let last = marks_of_statements (opening regions.Last tree.cells) tree.last in
    let p = length-append cells (init ++ (test ++ (body ++ last))) in
    let q = length-append init (test ++ (body ++ last)) in
    let r = length-append test (body ++ last) in
    let s = length-append body last in
    let same = same_length false true true false tree.body in
    let counted = block_length (opening regions.Body tree.cells) tree.body in
    omega (arith, p, q, r, s, same, counted, e, small)
