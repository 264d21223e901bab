-- Searches, part by part: if the first marks are passed over, what follows decides.
use Rattle.std.proofs.Common.{◌≡◌, ◌∙◌, ℕ, zero, suc, Bool, true, false, List, [], ◌∷◌, ◌++◌, ◌+◌, ◌<◌, ◌≤◌, length, drop, get_or}
use Rattle.std.proofs.Common.{sym, ap, subst, arith, Result, Ok, Err, Some, None, length-append}
use Rattle.std.proofs.lemmas.List.{drop_all, at_drop_more}
use Rattle.pipe_model.specs.declared.tree.Stmt.{Stmt}
use Rattle.pipe_model.specs.Language.SpellablePrograms.{statement_count, statement_counts}
use Rattle.pipe_model.specs.Language.SyntaxTree.{Expression, If, While, Statement, Statements, Empty, Then, statement_of, statements_of}
use Rattle.wave_laws.proofs.Flags.{falses, none_flagged}
use Rattle.wave_laws.specs.Waves.MarkFlags.{first_true, flags_of_statement, flags_of_statements, no_flags}
use Rattle.wave_lower.specs.Searches.{Finds, Fits}

pub first_stays : (n : ℕ) (a b : List Bool) (k : ℕ) → first_true n a ≡ Some k → first_true n (a ++ b) ≡ Some k
first_stays n [] b k h = absurd (cc)
first_stays n (true ∷ a) b k h = h
first_stays n (false ∷ a) b k h = first_stays (n + 1) a b k h

pub first_after : (n : ℕ) (a b : List Bool) → first_true n a ≡ None → first_true n (a ++ b) ≡ first_true (n + length a) b
first_after n [] b h = ap (λ k. first_true k b) (omega arith)
first_after n (true ∷ a) b h = absurd (cc)
first_after n (false ∷ a) b h =
    let e : n + 1 + length a ≡ n + suc (length a) = omega arith in
    first_after (n + 1) a b h ∙ ap (λ k. first_true k b) e

pub passes_then : (outcome : Result ℕ ℕ) (n k : ℕ) (a b : List Bool) → Finds (Ok k) n a → Finds outcome k b → Finds outcome n (a ++ b)
passes_then (Ok end) n k a b p q =
    let following : first_true n (a ++ b) ≡ first_true k b = first_after n a b p.0 ∙ ap (λ j. first_true j b) (sym p.1) in
    let at = p.1 in
    let last = q.1 in
    (following ∙ q.0, omega (arith, at, last, length-append a b))
passes_then (Err found) n k a b p q =
    first_after n a b p.0 ∙ ap (λ j. first_true j b) (sym p.1) ∙ q

-- no mark of an expression is looked for
pub none_sought : (n : ℕ) (e : Expression) → first_true n (no_flags e) ≡ None
none_sought n e = falses n (no_flags e) (none_flagged e)

pub expression_passes : (n k : ℕ) (e : Expression) → k ≡ n + length (no_flags e) → Finds (Ok k) n (no_flags e)
expression_passes n k e h = (none_sought n e, h)

-- ---- lists of statements

statements_from : (ss : List Stmt) (i : ℕ) (s : Stmt) → i < length ss → s ≡ get_or ss i s
    → statements_of (drop i ss) ≡ Then (statement_of s) (statements_of (drop (i + 1) ss))
statements_from ss i s h e = at_drop_more statements_of ss i s h ∙ ap (λ x. Then (statement_of x) (statements_of (drop (i + 1) ss))) (sym e)

pub none_left : (ss : List Stmt) (i : ℕ) → length ss ≤ i → statements_of (drop i ss) ≡ Empty
none_left ss i h = ap statements_of (drop_all i ss h)

-- a statement of a list counts at most as much as the list
pub one_counts : (ss : List Stmt) (i : ℕ) (s : Stmt) → i < length ss → s ≡ get_or ss i s
    → statement_count (statement_of s) ≤ statement_counts (statements_of ss)
one_counts [] i s h e = absurd (omega (arith, h))
one_counts (x ∷ ss) zero s h e = let same = ap (λ y. statement_count (statement_of y)) e in omega (arith, same)
one_counts (x ∷ ss) (suc i) s h e = let others = one_counts ss i s (omega (arith, h)) e in omega (arith, others)

-- the rest of a list at index i has the first mark and the last number of the whole
pub record IsLeft (stage target : Bool) (ss : List Stmt) (i n start : ℕ) : Type 0 where
  pub found : first_true n (flags_of_statements stage target (statements_of (drop i ss)))
      ≡ first_true start (flags_of_statements stage target (statements_of ss))
  pub numbers : n + length (flags_of_statements stage target (statements_of (drop i ss)))
      ≡ start + length (flags_of_statements stage target (statements_of ss))

pub block_found : (stage target : Bool) (ss all : List Stmt) (i n start k : ℕ) (s : Stmt) → ss ≡ all → i < length ss → s ≡ get_or ss i s
    → IsLeft stage target ss i n start
    → Finds (Err k) n (flags_of_statement stage target (statement_of s))
    → Finds (Err k) start (flags_of_statements stage target (statements_of all))
block_found stage target ss all i n start k s same h e is p =
    ap (λ l. first_true start (flags_of_statements stage target (statements_of l))) (sym same) ∙ sym is.found
    ∙ ap (λ t. first_true n (flags_of_statements stage target t)) (statements_from ss i s h e)
    ∙ first_stays n (flags_of_statement stage target (statement_of s))
    (flags_of_statements stage target (statements_of (drop (i + 1) ss))) k p

pub statement_fits : (stage target : Bool) (ss : List Stmt) (i n start : ℕ) (s : Stmt) → i < length ss → s ≡ get_or ss i s
    → IsLeft stage target ss i n start
    → Fits start (flags_of_statements stage target (statements_of ss)) → Fits n (flags_of_statement stage target (statement_of s))
statement_fits stage target ss i n start s h e is bounded =
    let rest = statements_of (drop (i + 1) ss) in
    let from : length (flags_of_statements stage target (statements_of (drop i ss)))
    ≡ length (flags_of_statements stage target (Then (statement_of s) rest)) =
    ap (λ t. length (flags_of_statements stage target t)) (statements_from ss i s h e) in
    let numbers = is.numbers in
    omega (
      arith,
      numbers,
      bounded,
      from,
      length-append (flags_of_statement stage target (statement_of s))
          (flags_of_statements stage target rest),
    )

pub statement_passed : (stage target : Bool) (ss : List Stmt) (i n next start : ℕ) (s : Stmt) → i < length ss → s ≡ get_or ss i s
    → IsLeft stage target ss i n start → Finds (Ok next) n (flags_of_statement stage target (statement_of s))
    → IsLeft stage target ss (i + 1) next start
statement_passed stage target ss i n next start s h e is p =
    let rest = statements_of (drop (i + 1) ss) in
    let from = sym (statements_from ss i s h e) in
    let flags = flags_of_statement stage target (statement_of s) in
    let others = flags_of_statements stage target rest in
    let step : next + length others ≡ n + length (flags_of_statements stage target (Then (statement_of s) rest)) =
    (let at = p.1 in omega (arith, at, length-append flags others)) in
    record {
      found = ap (λ k. first_true k others) p.1 ∙ sym (first_after n flags others p.0)
          ∙ ap (λ t. first_true n (flags_of_statements stage target t)) from
          ∙ is.found;
      numbers = step ∙ ap (λ t. n + length (flags_of_statements stage target t)) from ∙ is.numbers;
    }

pub block_ends : (stage target : Bool) (ss : List Stmt) (i n start : ℕ) → length ss ≤ i → IsLeft stage target ss i n start
    → Finds (Ok n) start (flags_of_statements stage target (statements_of ss))
block_ends stage target ss i n start h is =
    let none = none_left ss i h in
    let length_none : length (flags_of_statements stage target (statements_of (drop i ss))) ≡ 0 =
    ap (λ t. length (flags_of_statements stage target t)) none in
    let numbers = is.numbers in
    (sym is.found ∙ ap (λ t. first_true n (flags_of_statements stage target t)) none, omega (arith, numbers, length_none))

-- ---- single statements

pub after_one : (b : Bool) (n k : ℕ) (e : Expression) → b ≡ false → k ≡ n + 1 + length (no_flags e) → Finds (Ok k) n (b ∷ no_flags e)
after_one b n k e f h = (rw f (none_sought (n + 1) e), omega (arith, h))

pub after_two : (n j k : ℕ) (i e : Expression) → j ≡ n + 1 + length (no_flags i) → k ≡ j + length (no_flags e)
    → Finds (Ok k) n (false ∷ (no_flags i ++ no_flags e))
after_two n j k i e h g =
    let second : first_true j (no_flags e) ≡ None = none_sought j e in
    let at : first_true (n + 1) (no_flags i ++ no_flags e) ≡ first_true j (no_flags e) =
    first_after (n + 1) (no_flags i) (no_flags e) (none_sought (n + 1) i) ∙ ap (λ m. first_true m (no_flags e)) (sym h) in
    (at ∙ second, omega (arith, h, g, length-append (no_flags i) (no_flags e)))

-- `if` and `while`, by their plain data
pub first_fits : (stage target : Bool) (n k : ℕ) (e : Expression) (a b : Statements) (whole : Statement) → whole ≡ If e a b
    → Fits n (flags_of_statement stage target whole) → k ≡ n + length (no_flags e) → Fits k (flags_of_statements stage target a)
first_fits stage target n k e a b whole is h p =
    let all : Fits n (flags_of_statement stage target (If e a b)) = subst (λ s. Fits n (flags_of_statement stage target s)) is h in
    omega (
      arith,
      all,
      p,
      length-append (no_flags e) (flags_of_statements stage target a ++ flags_of_statements stage target b),
      length-append (flags_of_statements stage target a) (flags_of_statements stage target b),
    )

pub second_fits : (stage target : Bool) (n k j : ℕ) (e : Expression) (a b : Statements) (whole : Statement) → whole ≡ If e a b
    → Fits n (flags_of_statement stage target whole) → k ≡ n + length (no_flags e) → Finds (Ok j) k (flags_of_statements stage target a)
    → Fits j (flags_of_statements stage target b)
second_fits stage target n k j e a b whole is h p q =
    let all : Fits n (flags_of_statement stage target (If e a b)) = subst (λ s. Fits n (flags_of_statement stage target s)) is h in
    let at = q.1 in
    omega (
      arith,
      all,
      p,
      at,
      length-append (no_flags e) (flags_of_statements stage target a ++ flags_of_statements stage target b),
      length-append (flags_of_statements stage target a) (flags_of_statements stage target b),
    )

pub first_found : (stage target : Bool) (n k found : ℕ) (e : Expression) (a b : Statements) (whole : Statement) → whole ≡ If e a b
    → k ≡ n + length (no_flags e) → Finds (Err found) k (flags_of_statements stage target a)
    → Finds (Err found) n (flags_of_statement stage target whole)
first_found stage target n k found e a b whole is p q =
    subst (λ s. Finds (Err found) n (flags_of_statement stage target s)) (sym is)
    (passes_then (Err found) n k (no_flags e) (flags_of_statements stage target a ++ flags_of_statements stage target b)
    (expression_passes n k e p)
    (first_stays k (flags_of_statements stage target a) (flags_of_statements stage target b) found q))

pub second_decides : (stage target : Bool) (n k j : ℕ) (e : Expression) (a b : Statements) (whole : Statement) (outcome : Result ℕ ℕ)
    → whole ≡ If e a b
    → k ≡ n + length (no_flags e) → Finds (Ok j) k (flags_of_statements stage target a)
    → Finds outcome j (flags_of_statements stage target b)
    → Finds outcome n (flags_of_statement stage target whole)
second_decides stage target n k j e a b whole outcome is p q r =
    subst (λ s. Finds outcome n (flags_of_statement stage target s)) (sym is)
    (passes_then outcome n k (no_flags e) (flags_of_statements stage target a ++ flags_of_statements stage target b)
    (expression_passes n k e p)
    (passes_then outcome k j (flags_of_statements stage target a) (flags_of_statements stage target b) q r))

pub body_fits : (stage target : Bool) (n k : ℕ) (e : Expression) (a : Statements) (whole : Statement) → whole ≡ While e a
    → Fits n (flags_of_statement stage target whole) → k ≡ n + length (no_flags e) → Fits k (flags_of_statements stage target a)
body_fits stage target n k e a whole is h p =
    let all : Fits n (flags_of_statement stage target (While e a)) = subst (λ s. Fits n (flags_of_statement stage target s)) is h in
    omega (arith, all, p, length-append (no_flags e) (flags_of_statements stage target a))

pub body_decides : (stage target : Bool) (n k : ℕ) (e : Expression) (a : Statements) (whole : Statement) (outcome : Result ℕ ℕ)
    → whole ≡ While e a
    → k ≡ n + length (no_flags e) → Finds outcome k (flags_of_statements stage target a)
    → Finds outcome n (flags_of_statement stage target whole)
body_decides stage target n k e a whole outcome is p q =
    subst (λ s. Finds outcome n (flags_of_statement stage target s)) (sym is)
    (passes_then outcome n k (no_flags e) (flags_of_statements stage target a) (expression_passes n k e p) q)
