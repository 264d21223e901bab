use Rattle.std.proofs.Common.{◌≡◌, ◌∙◌, [], ℕ, ℤ, List, ap, arith, length, subst, sym, w64}
use Rattle.std.proofs.lemmas.Int.{to_z_pos}
use Rattle.std.proofs.lemmas.List.{length-map, nil_from_length}
use Rattle.pipe_model.specs.declared.column.Column.{Column}
use Rattle.pipe_model.specs.declared.node.Node.{Node}
use Rattle.pipe_span.specs.HeaviestPaths.{instances_before}
use Rattle.pipe_span.specs.WorkAndSpan.{AreSteps, IsHeaviest, weight_of_steps, weights_of}
use Rattle.pipe_span.proofs.StepWeights.{no_columns, some_columns, weights_are}
use Rattle.pipe_span.proofs.heaviest.heaviest.Goals as goal
use Rattle.pipe_model.specs.Races.Columns.{AreColumns, IsRising, node_columns, nodes_at}

-- the copies of the columns have an instance for each weight
all_weighed : (columns : List Column) (copies : List (List Node)) (steps : List ℤ) (weights : List ℕ) → copies ≡ node_columns columns
    → weights ≡ weights_of steps → length steps ≡ instances_before (node_columns columns) (length columns)
    → length weights ≡ instances_before copies (length copies)
all_weighed columns copies steps weights same are whole =
    subst (λ cs. length weights ≡ instances_before cs (length cs)) (sym same)
    (ap length are ∙ length-map steps weight_of_steps ∙ whole
    ∙ ap (instances_before (node_columns columns)) (sym (length-map columns (λ (x : Column). x.nodes))))

pub sum_of-work-requires-clause-weights : goal.sum_of-work-requires-clause-weights
sum_of-work-requires-clause-weights c =
    weights_are _ _ _ _ c.requires.steps c.as_slice-2.ensures c.in_ok-weights.ensures c.as_slice-3.ensures.value

pub returns-then-is_empty : goal.returns-then-is_empty
returns-then-is_empty c =
    let below = c.sum_of-work.ensures.below in
    let copies : c.in_ok-copies.copies ≡ node_columns c.args.columns.now = c.in_ok-copies.ensures ∙ ap node_columns c.as_slice.ensures in
    let none : length c.in_ok-copies.copies ≡ 0 = grind (arith, c.is_empty.ensures, c.if-is_empty.true) in
    let nodes : node_columns c.args.columns.now ≡ [] = sym copies ∙ nil_from_length c.in_ok-copies.copies none in
    no_columns _ c.args.steps.now c.as_slice-3.result.now c.sum_of-work.result _ _
    (to_z_pos w64 c.sum_of-work.result (omega (arith, below)))
    c.sum_of-work.ensures.sum (c.as_slice-3.ensures.value ∙ c.in_ok-weights.ensures ∙ ap weights_of c.as_slice-2.ensures) nodes
    c.new.ensures

pub heaviest_path-requires-clause-weights : goal.heaviest_path-requires-clause-weights
heaviest_path-requires-clause-weights c =
    weights_are _ _ _ _ c.requires.steps c.as_slice-2.ensures c.in_ok-weights.ensures c.as_slice-5.ensures.value

pub returns : goal.returns
returns c =
    let below = c.sum_of-work.ensures.below in
    let less = c.in_ok-span.ensures.below in
    let columns : c.as_slice-4.result.now ≡ node_columns c.args.columns.now = c.as_slice-4.ensures ∙ c.in_ok-copies.ensures
    ∙ ap node_columns c.as_slice.ensures in
    let same : c.as_slice-5.result.now ≡ c.as_slice-3.result.now = c.as_slice-5.ensures.value ∙ sym c.as_slice-3.ensures.value in
    let heaviest : IsHeaviest (node_columns c.args.columns.now) c.as_slice-3.result.now c.from_vec.result c.in_ok-span.span =
    rw (← columns, ← same, c.from_vec.ensures) c.in_ok-span.ensures.heaviest in
    some_columns (node_columns c.args.columns.now) c.args.steps.now c.as_slice-3.result.now c.sum_of-work.result c.in_ok-span.span _ _ _
    (to_z_pos w64 c.sum_of-work.result (omega (arith, below)))
    c.sum_of-work.ensures.sum (c.as_slice-3.ensures.value ∙ c.in_ok-weights.ensures ∙ ap weights_of c.as_slice-2.ensures)
    (to_z_pos w64 c.in_ok-span.span (omega (arith, less))) heaviest

pub heaviest_path-requires-clause-columns : goal.heaviest_path-requires-clause-columns
heaviest_path-requires-clause-columns c =
    let columns : c.as_slice-4.result.now ≡ node_columns c.args.columns.now = c.as_slice-4.ensures ∙ c.in_ok-copies.ensures
    ∙ ap node_columns c.as_slice.ensures in
    subst AreColumns (sym columns) c.requires.columns

pub heaviest_path-requires-clause-rising : goal.heaviest_path-requires-clause-rising
heaviest_path-requires-clause-rising c =
    let columns : c.as_slice-4.result.now ≡ node_columns c.args.columns.now = c.as_slice-4.ensures ∙ c.in_ok-copies.ensures
    ∙ ap node_columns c.as_slice.ensures in
    subst (λ cs. (i : ℕ) → IsRising (nodes_at cs i)) (sym columns) c.requires.rising

pub heaviest_path-requires-clause-whole : goal.heaviest_path-requires-clause-whole
heaviest_path-requires-clause-whole c =
    all_weighed c.args.columns.now c.as_slice-4.result.now c.args.steps.now c.as_slice-5.result.now
    (c.as_slice-4.ensures ∙ c.in_ok-copies.ensures ∙ ap node_columns c.as_slice.ensures)
    (c.as_slice-5.ensures.value ∙ c.in_ok-weights.ensures ∙ ap weights_of c.as_slice-2.ensures) c.requires.whole

pub heaviest_path-requires-clause-bounded : goal.heaviest_path-requires-clause-bounded
heaviest_path-requires-clause-bounded c =
    let weights : c.as_slice-5.result.now ≡ weights_of c.args.steps.now = c.as_slice-5.ensures.value ∙ c.in_ok-weights.ensures
    ∙ ap weights_of c.as_slice-2.ensures in
    omega (arith, heaviest_path-requires-clause-whole c, ap length weights, length-map c.args.steps.now weight_of_steps, c.requires.bounded)

pub sum_of-work-requires-clause-bounded : goal.sum_of-work-requires-clause-bounded
sum_of-work-requires-clause-bounded c =
    let weights : c.as_slice-3.result.now ≡ weights_of c.args.steps.now = c.as_slice-3.ensures.value ∙ c.in_ok-weights.ensures
    ∙ ap weights_of c.as_slice-2.ensures in
    omega (arith, ap length weights, length-map c.args.steps.now weight_of_steps, c.requires.bounded)

pub weights-requires : goal.weights-requires
weights-requires c = subst AreSteps (sym c.as_slice-2.ensures) c.requires.steps
