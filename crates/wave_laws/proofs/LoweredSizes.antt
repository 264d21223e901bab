-- The lowered program meets the conditions of the checker: it is larger by 22.
use Rattle.std.proofs.Common.{◌≡◌, ◌∙◌, sym, ap, refl, subst, suc, ℤ, pos, true, List, [], ◌∷◌, ◌++◌, append-nil, length, length-append}
use Rattle.std.proofs.Common.{All, ◌≤◌, ◌+◌, arith}
use Rattle.std.specs.Prelude.{sum_by}
use Rattle.std.proofs.lemmas.List.Elements.{All-nil, All-cons, All-head, All-tail}
use Rattle.std.proofs.lemmas.List.Sums.{sum_by-append, sum_by-cons}
use Rattle.pipe_model.specs.declared.region.Region.TheVariants as regions
use Rattle.pipe_model.specs.Language.Marks.{Mark, marks_of_cells, marks_of_expression, marks_of_statements, opening}
use Rattle.pipe_model.specs.declared.operator_codes.TheConstants as operator_codes
use Rattle.pipe_model.specs.Language.SpellablePrograms.{expressions_of, expressions_of_statements, has_known_operators, node_count, size_of}
use Rattle.pipe_model.specs.Language.SpellablePrograms.{statement_counts}
use Rattle.pipe_model.specs.Language.SyntaxTree.{Expression, Number, Name, Binary, Unary, Statements, SyntaxTree}
use Rattle.wave_laws.proofs.LoweredMarks.{body_scope, row_scope}
use Rattle.wave_laws.specs.WaveLaws.{LoweredWavesAreSpellable}
use Rattle.wave_laws.specs.Waves.LoweredLoops.{lowered, lowered_body, lowered_bound, lowered_test}
use Rattle.wave_laws.specs.Waves.WaveLoops.{IsWave, rest_of, row}

-- ---- expressions

all_left : (P : Expression → Type 0) (xs ys : List Expression) → All P (xs ++ ys) → All P xs
all_left P [] ys h = All-nil P
all_left P (x ∷ xs) ys h = All-cons P x xs (All-head P x (xs ++ ys) h) (all_left P xs ys (All-tail P x (xs ++ ys) h))

all_right : (P : Expression → Type 0) (xs ys : List Expression) → All P (xs ++ ys) → All P ys
all_right P [] ys h = h
all_right P (x ∷ xs) ys h = all_right P xs ys (All-tail P x (xs ++ ys) h)

all_both : (P : Expression → Type 0) (xs ys : List Expression) → All P xs → All P ys → All P (xs ++ ys)
all_both P [] ys h k = k
all_both P (x ∷ xs) ys h k = All-cons P x (xs ++ ys) (All-head P x xs h) (all_both P xs ys (All-tail P x xs h) k)

-- `-1`, `row >= 0` and `row + 1`
abbrev minus_one : Expression
minus_one = Unary operator_codes.NEGATIVE (Number (pos 1))

abbrev has_left : Expression
has_left = Binary operator_codes.AT_LEAST (Name row) (Number (pos 0))

abbrev next_row : Expression
next_row = Binary operator_codes.PLUS (Name row) (Number (pos 1))

-- the expressions of the lowered body
abbrev new_expressions : ℤ → Statements → List Expression
new_expressions stages rest = expressions_of_statements (lowered_body stages rest)

lowered_body_all : (P : Expression → Type 0) (stages : ℤ) (rest : Statements)
    → P minus_one → P (lowered_bound stages) → P has_left → P next_row
    → All P (expressions_of_statements rest) → All P (new_expressions stages rest)
lowered_body_all P stages rest a b c d h =
    let es = expressions_of_statements rest ++ [] in
    let at_rest : All P es = subst (All P) (sym (append-nil (expressions_of_statements rest))) h in
    All-cons P minus_one (lowered_bound stages ∷ (has_left ∷ (next_row ∷ es))) a
    (All-cons P (lowered_bound stages) (has_left ∷ (next_row ∷ es)) b
    (All-cons P has_left (next_row ∷ es) c (All-cons P next_row es d at_rest)))

lowered_all : (P : Expression → Type 0) (tree : SyntaxTree) → IsWave tree
    → P minus_one → P (lowered_bound tree.limits.stages) → P has_left → P next_row
    → P (lowered_test tree.limits.iterations) → All P (expressions_of tree) → All P (expressions_of (lowered tree))
lowered_all P tree w a b c d e h =
    let init = expressions_of_statements tree.init in
    let body = expressions_of_statements tree.body in
    let last = expressions_of_statements tree.last in
    let rest = expressions_of_statements (rest_of tree.body) in
    let after_init : All P (tree.test ∷ (body ++ last)) = all_right P init (tree.test ∷ (body ++ last)) h in
    let parts = All-tail P tree.test (body ++ last) after_init in
    let old : All P (Number (pos 0) ∷ rest) = subst (λ b. All P (expressions_of_statements b)) w.body (all_left P body last parts) in
    let new = lowered_body_all P tree.limits.stages (rest_of tree.body) a b c d (All-tail P (Number (pos 0)) rest old) in
    all_both P init (lowered_test tree.limits.iterations ∷ (new_expressions tree.limits.stages (rest_of tree.body) ++ last))
    (all_left P init (tree.test ∷ (body ++ last)) h)
    (All-cons P (lowered_test tree.limits.iterations) (new_expressions tree.limits.stages (rest_of tree.body) ++ last) e
    (all_both P (new_expressions tree.limits.stages (rest_of tree.body)) last new (all_right P body last parts)))

-- ---- sizes

marks_of_parts : (a b c d e : List Mark) → length (a ++ (b ++ (c ++ (d ++ e)))) ≡ length a + (length b + (length c + (length d + length e)))
marks_of_parts a b c d e =
    let p = length-append a (b ++ (c ++ (d ++ e))) in
    let q = length-append b (c ++ (d ++ e)) in
    let r = length-append c (d ++ e) in
    let s = length-append d e in
    omega (arith, p, q, r, s)

sum_of_parts : (a : List Expression) (t : Expression) (b c : List Expression)
    → sum_by node_count (a ++ (t ∷ (b ++ c))) ≡ sum_by node_count a + (node_count t + (sum_by node_count b + sum_by node_count c))
sum_of_parts a t b c =
    let p = sum_by-append node_count a (t ∷ (b ++ c)) in
    let q = sum_by-cons node_count t (b ++ c) in
    let r = sum_by-append node_count b c in
    omega (arith, p, q, r)

new_nodes : (stages : ℤ) (rest : Statements)
    → sum_by node_count (new_expressions stages rest) ≡ 11 + sum_by node_count (expressions_of_statements rest)
new_nodes stages rest =
    let es = expressions_of_statements rest in
    let p = sum_by-cons node_count minus_one (lowered_bound stages ∷ (has_left ∷ (next_row ∷ es))) in
    let q = sum_by-cons node_count (lowered_bound stages) (has_left ∷ (next_row ∷ es)) in
    let r = sum_by-cons node_count has_left (next_row ∷ es) in
    let s = sum_by-cons node_count next_row es in
    ap (λ l. sum_by node_count (minus_one ∷ (lowered_bound stages ∷ (has_left ∷ (next_row ∷ l))))) (append-nil es)
    ∙ omega (arith, p, q, r, s)

new_marks : (tree : SyntaxTree) → length (marks_of_statements (body_scope tree) (lowered_body tree.limits.stages (rest_of tree.body)))
    ≡ 6 + length (marks_of_statements (row_scope tree) (rest_of tree.body))
new_marks tree =
    ap (λ l. suc (suc (suc (suc (suc (suc (length l))))))) (append-nil (marks_of_statements (row_scope tree) (rest_of tree.body)))
    ∙ omega arith

-- the lowered program is larger by 22
lowered_size : (tree : SyntaxTree) → IsWave tree → size_of (lowered tree) ≡ size_of tree + 22
lowered_size tree w =
    let rest = rest_of tree.body in
    let cells = marks_of_cells [] tree.cells in
    let init = marks_of_statements (opening regions.Init tree.cells) tree.init in
    let last = marks_of_statements (opening regions.Last tree.cells) tree.last in
    let marks = marks_of_parts cells init (marks_of_expression (opening regions.Test tree.cells) tree.test)
    (marks_of_statements (body_scope tree) tree.body) last in
    let marks2 = marks_of_parts cells init (marks_of_expression (opening regions.Test tree.cells) (lowered_test tree.limits.iterations))
    (marks_of_statements (body_scope tree) (lowered_body tree.limits.stages rest)) last in
    let test_marks : length (marks_of_expression (opening regions.Test tree.cells) tree.test) ≡ 0 =
    ap (λ e. length (marks_of_expression (opening regions.Test tree.cells) e)) w.test in
    let body_marks : length (marks_of_statements (body_scope tree) tree.body) ≡ 1 + length (marks_of_statements (row_scope tree) rest) =
    ap (λ b. length (marks_of_statements (body_scope tree) b)) w.body ∙ omega arith in
    let more_marks = new_marks tree in
    let nodes = sum_of_parts (expressions_of_statements tree.init) tree.test (expressions_of_statements tree.body)
    (expressions_of_statements tree.last) in
    let nodes2 = sum_of_parts (expressions_of_statements tree.init) (lowered_test tree.limits.iterations)
    (new_expressions tree.limits.stages rest)
    (expressions_of_statements tree.last) in
    let test_nodes : node_count tree.test ≡ 1 = ap node_count w.test in
    let body_nodes : sum_by node_count (expressions_of_statements tree.body) ≡ 1 + sum_by node_count (expressions_of_statements rest) =
    ap (λ b. sum_by node_count (expressions_of_statements b)) w.body
    ∙ sum_by-cons node_count (Number (pos 0)) (expressions_of_statements rest) in
    let more_nodes = new_nodes tree.limits.stages rest in
    let body_statements : statement_counts tree.body ≡ 1 + statement_counts rest = ap statement_counts w.body in
    let more_statements : statement_counts (lowered_body tree.limits.stages rest) ≡ 5 + statement_counts rest = omega arith in
    omega (
      arith,
      marks,
      marks2,
      test_marks,
      body_marks,
      more_marks,
      nodes,
      nodes2,
      test_nodes,
      body_nodes,
      more_nodes,
      body_statements,
      more_statements,
    )

pub lowered_waves_are_spellable : LoweredWavesAreSpellable
lowered_waves_are_spellable tree w s small =
    let size = lowered_size tree w in
    record {
      operators = lowered_all (λ e. has_known_operators e ≡ true) tree w refl refl refl refl refl s.operators;
      short = lowered_all (λ e. node_count e ≤ 256) tree w (omega arith) (omega arith) (omega arith) (omega arith) (omega arith) s.short;
      sizes = s.sizes;
      emits = s.emits;
      bounded = omega (arith, size, small);
    }
