-- The marks of a list of statements, one statement after the other, and the marks of statements with blocks.
use Rattle.std.proofs.Common.{◌≡◌, ◌∙◌, ℕ, zero, suc, ◌+◌, ◌<◌, ◌≤◌, List, [], ◌∷◌, ◌++◌, length, take, drop, get_or, sym, ap, subst, arith}
use Rattle.std.proofs.Common.{Result, Ok, Err, Option, length-append}
use Rattle.std.proofs.lemmas.List.{drop_all, at_drop_more}
use Rattle.pipe_check.specs.declared.fault.CheckFault.{CheckFault}
use Rattle.pipe_check.specs.Passing.{IsFirstFaultOf, PassesMarks, Fits}
use Rattle.pipe_check.proofs.Faults.{first_after, fails_first, passes_then, fits_first, fits_then}
use Rattle.pipe_check.proofs.Scopes.{first_visible}
use Rattle.pipe_model.specs.declared.tree.Stmt.{Stmt}
use Rattle.pipe_model.specs.Language.CheckingRules.{Fault, first_fault}
use Rattle.pipe_model.specs.Language.Marks.{Scope, after_block, after_statement, after_statements, marks_of_expression, marks_of_statement}
use Rattle.pipe_model.specs.Language.Marks.{marks_of_statements}
use Rattle.pipe_model.specs.Language.SpellablePrograms.{statement_count, statement_counts}
use Rattle.pipe_model.specs.Language.SyntaxTree.{Expression, If, While, Statement, Statements, Empty, Then, statement_of, statements_of}

-- the rest of the list at index i is one statement, and then the others
pub statements_from : (ss : List Stmt) (i : ℕ) (s : Stmt) → i < length ss → s ≡ get_or ss i s
    → statements_of (drop i ss) ≡ Then (statement_of s) (statements_of (drop (i + 1) ss))
statements_from ss i s h e = at_drop_more statements_of ss i s h ∙ ap (λ x. Then (statement_of x) (statements_of (drop (i + 1) ss))) (sym e)

-- after the end of the list there is nothing
pub none_left : (ss : List Stmt) (i : ℕ) → length ss ≤ i → statements_of (drop i ss) ≡ Empty
none_left ss i h = ap statements_of (drop_all i ss h)

-- a fault of the statement at index i is the first fault of the rest of the list at i
pub block_refused : (scope : Scope) (ss : List Stmt) (i n : ℕ) (s : Stmt) (refusal : CheckFault) (whole : Option Fault) → i < length ss
    → s ≡ get_or ss i s
    → first_fault n (marks_of_statements scope (statements_of (drop i ss))) ≡ whole
    → PassesMarks (Err refusal) n (marks_of_statement scope (statement_of s)) → IsFirstFaultOf refusal whole
block_refused scope ss i n s refusal whole h e is p =
    let rest = statements_of (drop (i + 1) ss) in
    let all : PassesMarks (Err refusal) n (marks_of_statements scope (Then (statement_of s) rest)) =
    fails_first refusal n (marks_of_statement scope (statement_of s)) (marks_of_statements (after_statement scope (statement_of s)) rest) p
    in
    subst (λ fault. IsFirstFaultOf refusal fault) (ap (λ t. first_fault n (marks_of_statements scope t)) (sym (statements_from ss i s h e))
    ∙ is) all

-- the statement at index i passes, so the others have the faults, the last number and the final scope of the rest of the list at i
pub record IsStep (scope next_scope : Scope) (ss : List Stmt) (i n next : ℕ) : Type 0 where
  pub faults : first_fault next (marks_of_statements next_scope (statements_of (drop (i + 1) ss))) ≡ first_fault n
      (marks_of_statements scope (statements_of (drop i ss)))
  pub numbers : next + length (marks_of_statements next_scope (statements_of (drop (i + 1) ss))) ≡ n + length
      (marks_of_statements scope (statements_of (drop i ss)))
  pub scope_after : after_statements next_scope (statements_of (drop (i + 1) ss)) ≡ after_statements scope (statements_of (drop i ss))

-- the numbers of the statement at index i are within the bound
pub statement_fits : (scope : Scope) (ss : List Stmt) (i n all : ℕ) (s : Stmt) → i < length ss → s ≡ get_or ss i s
    → n + length (marks_of_statements scope (statements_of (drop i ss))) ≡ all → all ≤ 4194304
    → Fits n (marks_of_statement scope (statement_of s))
statement_fits scope ss i n all s h e is bounded =
    let rest = statements_of (drop (i + 1) ss) in
    let from : length (marks_of_statements scope (statements_of (drop i ss))) ≡ length
    (marks_of_statements scope (Then (statement_of s) rest)) =
    ap (λ t. length (marks_of_statements scope t)) (statements_from ss i s h e) in
    omega (
      arith,
      is,
      bounded,
      from,
      length-append (marks_of_statement scope (statement_of s))
          (marks_of_statements (after_statement scope (statement_of s)) rest),
    )

-- a statement of a list counts at most as much as the list
pub one_counts : (ss : List Stmt) (i : ℕ) (s : Stmt) → i < length ss → s ≡ get_or ss i s
    → statement_count (statement_of s) ≤ statement_counts (statements_of ss)
one_counts [] i s h e = absurd (omega (arith, h))
one_counts (x ∷ ss) zero s h e = let same = ap (λ y. statement_count (statement_of y)) e in omega (arith, same)
one_counts (x ∷ ss) (suc i) s h e = let others = one_counts ss i s (omega (arith, h)) e in omega (arith, others)

-- the same for the statements as plain data
faults_step : (scope : Scope) (s : Statement) (rest : Statements) (n next : ℕ) → PassesMarks (Ok next) n (marks_of_statement scope s)
    → first_fault next (marks_of_statements (after_statement scope s) rest) ≡ first_fault n (marks_of_statements scope (Then s rest))
faults_step scope s rest n next p =
    ap (λ k. first_fault k (marks_of_statements (after_statement scope s) rest)) p.1
    ∙ sym (first_after n (marks_of_statement scope s) (marks_of_statements (after_statement scope s) rest) p.0)

numbers_step : (scope : Scope) (s : Statement) (rest : Statements) (n next : ℕ) → PassesMarks (Ok next) n (marks_of_statement scope s)
    → next + length (marks_of_statements (after_statement scope s) rest) ≡ n + length (marks_of_statements scope (Then s rest))
numbers_step scope s rest n next p =
    omega (arith, p.1, length-append (marks_of_statement scope s) (marks_of_statements (after_statement scope s) rest))

pub statement_passed : (scope next_scope : Scope) (ss : List Stmt) (i n next : ℕ) (s : Stmt) → i < length ss → s ≡ get_or ss i s
    → PassesMarks (Ok next) n (marks_of_statement scope (statement_of s)) → next_scope ≡ after_statement scope (statement_of s)
    → IsStep scope next_scope ss i n next
statement_passed scope next_scope ss i n next s h e p scope_after =
    let rest = statements_of (drop (i + 1) ss) in
    let from = sym (statements_from ss i s h e) in
    record {
      faults = ap (λ x. first_fault next (marks_of_statements x rest)) scope_after ∙ faults_step scope (statement_of s) rest n next p
          ∙ ap (λ t. first_fault n (marks_of_statements scope t)) from;
      numbers = ap (λ x. next + length (marks_of_statements x rest)) scope_after ∙ numbers_step scope (statement_of s) rest n next p
          ∙ ap (λ t. n + length (marks_of_statements scope t)) from;
      scope_after = ap (λ x. after_statements x rest) scope_after ∙ ap (after_statements scope) from;
    }

-- after a block its own locals are out of scope again
pub block_left : (outer inner : Scope) (ss : Statements) → inner ≡ after_statements outer ss
    → record { region = inner.region; cells = inner.cells; visible = take (length outer.visible) inner.visible; lets = inner.lets }
    ≡ after_block outer ss
block_left outer inner ss is =
    let cut : Scope → Scope = λ x. record {
      region = x.region;
      cells = x.cells;
      visible = take (length outer.visible) x.visible;
      lets =
          x.lets;
    } in
    let with_visible : List (List ℕ) → Scope = λ names.
    record {
      region = (after_statements outer ss).region;
      cells = (after_statements outer ss).cells;
      visible = names;
      lets =
          (after_statements outer ss).lets;
    } in
    ap cut is ∙ ap with_visible (first_visible outer ss)

-- ---- branches and loops, by their plain data

-- the test has a fault
pub test_refused : (scope : Scope) (n : ℕ) (e : Expression) (a b : Statements) (whole : Statement) (refusal : CheckFault) → whole ≡ If e a b
    → PassesMarks (Err refusal) n (marks_of_expression scope e) → PassesMarks (Err refusal) n (marks_of_statement scope whole)
test_refused scope n e a b whole refusal is p =
    subst (λ s. PassesMarks (Err refusal) n (marks_of_statement scope s)) (sym is)
    (fails_first refusal n (marks_of_expression scope e) (marks_of_statements scope a ++ marks_of_statements (after_block scope a) b) p)

-- the first block decides if it has a fault
pub first_refused : (scope : Scope) (n k : ℕ) (e : Expression) (a b : Statements) (whole : Statement) (refusal : CheckFault)
    → whole ≡ If e a b
    → PassesMarks (Ok k) n (marks_of_expression scope e) → PassesMarks (Err refusal) k (marks_of_statements scope a)
    → PassesMarks (Err refusal) n (marks_of_statement scope whole)
first_refused scope n k e a b whole refusal is p q =
    let blocks = fails_first refusal k (marks_of_statements scope a) (marks_of_statements (after_block scope a) b) q in
    subst (λ s. PassesMarks (Err refusal) n (marks_of_statement scope s)) (sym is)
    (passes_then (Err refusal) n k (marks_of_expression scope e)
    (marks_of_statements scope a ++ marks_of_statements (after_block scope a) b) p blocks)

-- otherwise the second one decides
pub second_decides : (scope between : Scope) (n k j : ℕ) (e : Expression) (a b : Statements) (whole : Statement)
    (outcome : Result ℕ CheckFault)
    → whole ≡ If e a b
    → between ≡ after_block scope a → PassesMarks (Ok k) n (marks_of_expression scope e) → PassesMarks (Ok j) k
    (marks_of_statements scope a)
    → PassesMarks outcome j (marks_of_statements between b) → PassesMarks outcome n (marks_of_statement scope whole)
second_decides scope between n k j e a b whole outcome is scope_after p q r =
    let second : PassesMarks outcome j (marks_of_statements (after_block scope a) b) =
    subst (λ x. PassesMarks outcome j (marks_of_statements x b)) scope_after r in
    let blocks = passes_then outcome k j (marks_of_statements scope a) (marks_of_statements (after_block scope a) b) q second in
    subst (λ s. PassesMarks outcome n (marks_of_statement scope s)) (sym is)
    (passes_then outcome n k (marks_of_expression scope e) (marks_of_statements scope a ++ marks_of_statements (after_block scope a) b) p
    blocks)

-- the numbers of both blocks are within the bound
pub first_fits : (scope : Scope) (n k : ℕ) (e : Expression) (a b : Statements) (whole : Statement) → whole ≡ If e a b
    → Fits n (marks_of_statement scope whole) → PassesMarks (Ok k) n (marks_of_expression scope e) → Fits k (marks_of_statements scope a)
first_fits scope n k e a b whole is h p =
    let whole_fits : Fits n (marks_of_statement scope (If e a b)) = subst (λ s. Fits n (marks_of_statement scope s)) is h in
    fits_first k (marks_of_statements scope a) (marks_of_statements (after_block scope a) b)
    (fits_then n k (marks_of_expression scope e) (marks_of_statements scope a ++ marks_of_statements (after_block scope a) b) whole_fits p)

pub second_fits : (scope between : Scope) (n k j : ℕ) (e : Expression) (a b : Statements) (whole : Statement) → whole ≡ If e a b
    → between ≡ after_block scope a
    → Fits n (marks_of_statement scope whole) → PassesMarks (Ok k) n (marks_of_expression scope e)
    → PassesMarks (Ok j) k (marks_of_statements scope a)
    → Fits j (marks_of_statements between b)
second_fits scope between n k j e a b whole is scope_after h p q =
    let whole_fits : Fits n (marks_of_statement scope (If e a b)) = subst (λ s. Fits n (marks_of_statement scope s)) is h in
    let blocks = fits_then n k (marks_of_expression scope e) (marks_of_statements scope a ++ marks_of_statements (after_block scope a) b)
    whole_fits p in
    subst (λ x. Fits j (marks_of_statements x b)) (sym scope_after) (fits_then k j (marks_of_statements scope a)
    (marks_of_statements (after_block scope a) b) blocks q)

-- the scope after both blocks
pub branch_left : (scope between after : Scope) (e : Expression) (a b : Statements) (whole : Statement) → whole ≡ If e a b
    → between ≡ after_block scope a
    → after ≡ after_block between b → after ≡ after_statement scope whole
branch_left scope between after e a b whole is first second = second ∙ ap (λ x. after_block x b) first ∙ ap (after_statement scope) (sym is)

-- the test of a loop has a fault
pub loop_refused : (scope : Scope) (n : ℕ) (e : Expression) (a : Statements) (whole : Statement) (refusal : CheckFault) → whole ≡ While e a
    → PassesMarks (Err refusal) n (marks_of_expression scope e) → PassesMarks (Err refusal) n (marks_of_statement scope whole)
loop_refused scope n e a whole refusal is p =
    subst (λ s. PassesMarks (Err refusal) n (marks_of_statement scope s)) (sym is)
    (fails_first refusal n (marks_of_expression scope e) (marks_of_statements scope a) p)

-- otherwise the body decides
pub body_decides : (scope : Scope) (n k : ℕ) (e : Expression) (a : Statements) (whole : Statement) (outcome : Result ℕ CheckFault)
    → whole ≡ While e a
    → PassesMarks (Ok k) n (marks_of_expression scope e) → PassesMarks outcome k (marks_of_statements scope a)
    → PassesMarks outcome n (marks_of_statement scope whole)
body_decides scope n k e a whole outcome is p q =
    subst (λ s. PassesMarks outcome n (marks_of_statement scope s)) (sym is)
    (passes_then outcome n k (marks_of_expression scope e) (marks_of_statements scope a) p q)

pub body_fits : (scope : Scope) (n k : ℕ) (e : Expression) (a : Statements) (whole : Statement) → whole ≡ While e a
    → Fits n (marks_of_statement scope whole) → PassesMarks (Ok k) n (marks_of_expression scope e) → Fits k (marks_of_statements scope a)
body_fits scope n k e a whole is h p =
    let whole_fits : Fits n (marks_of_statement scope (While e a)) = subst (λ s. Fits n (marks_of_statement scope s)) is h in
    fits_then n k (marks_of_expression scope e) (marks_of_statements scope a) whole_fits p

-- the scope after the body
pub loop_left : (scope after : Scope) (e : Expression) (a : Statements) (whole : Statement) → whole ≡ While e a
    → after ≡ after_block scope a
    → after ≡ after_statement scope whole
loop_left scope after e a whole is scope_after = scope_after ∙ ap (after_statement scope) (sym is)
