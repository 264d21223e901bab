-- One heaviest path is chosen.
use Rattle.std.proofs.Common.{◌≡◌, ◌∙◌, ℕ, ℤ, ◌+◌, ◌⊎◌, List, [], ◌∷◌, ◌++◌, length, pos, refl, sym, ap, subst, arith, inl, inr}
use Rattle.std.proofs.lemmas.Bool.{cases_eq, cases_lt, cases_order}
use Rattle.std.proofs.lemmas.Int.{ints}
use Rattle.pipe_model.specs.declared.node.Kind.TheVariants.{Zero}
use Rattle.pipe_model.specs.declared.node.Node.{Node}
use Rattle.pipe_model.specs.declared.node.NodeId.{NodeId}
use Rattle.pipe_model.specs.Races.Columns.{AreColumns, at, node_at, nodes_at}
use Rattle.pipe_model.specs.Races.Dag.{AcrossEdge, CrossEdge, DownEdge, Edge, IsLastUpTo}
use Rattle.pipe_span.specs.declared.heaviest.Span.{Span}
use Rattle.pipe_span.specs.HeaviestPaths.{Begins, GoesOn, IsBefore, IsChosenFor, IsHeaviestTo, IsTraced, PathTo, path_weight}
use Rattle.pipe_span.specs.WorkAndSpan.{Heaviest, IsSpanOf, NoColumns}
use Rattle.pipe_span.specs.SpanLaws.{ColumnsHaveOneSpan}
use Rattle.pipe_span.proofs.LeftParents.{head_edge, later_edge}
use Rattle.pipe_span.proofs.TracedPaths.{path_ends, traced_is_path}

last_same : {left : List Node} {number : ℤ} (i j : ℕ) → IsLastUpTo left i number → IsLastUpTo left j number → i ≡ j
last_same i j f g = elim (cases_order i j) [
  | inl same ↦ same
  | inr other ↦ elim other [
    | inl less ↦ absurd (let a = f.last j less g.within in let b = g.up_to in omega (arith, ints, a, b))
    | inr more ↦ absurd (let a = g.last i more f.within in let b = f.up_to in omega (arith, ints, a, b))
  ]
]

-- at most one edge leads from the left column into an instance
cross_same : {left right : List Node} (i j k : ℕ) → (node_at right 0).kind ≡ Zero → CrossEdge left right i k → CrossEdge left right j k
    → i ≡ j
cross_same i j k first f g = elim (cases_lt 0 k) [
  | inl less ↦ last_same i j (later_edge f less).1 (later_edge g less).1
  | inr past ↦ (let e : k ≡ 0 = omega (arith, past) in sym (head_edge f e first).0 ∙ (head_edge g e first).0)
]

across_of : {columns : List (List Node)} {x y : NodeId} → Edge columns x y → (x.iteration ≡ y.iteration → ⊥)
    → (y.iteration ≡ x.iteration + 1) × CrossEdge (nodes_at columns x.iteration) (nodes_at columns (x.iteration + 1)) x.index y.index
across_of (DownEdge i k h) apart = absurd (apart refl)
across_of (AcrossEdge i j k c) apart = (refl, c)

left_same : (columns : List (List Node)) (x z y : NodeId) → AreColumns columns → Edge columns x y → Edge columns z y
    → (x.iteration ≡ y.iteration → ⊥) → (z.iteration ≡ y.iteration → ⊥) → x ≡ z
left_same columns x z y h e f apart away =
    let a = across_of e apart in
    let b = across_of f away in
    let c = a.0 in
    let d = b.0 in
    let same : z.iteration ≡ x.iteration = omega (arith, c, d) in
    let index : x.index ≡ z.index = cross_same x.index z.index y.index (h.first (x.iteration + 1)) a.1
    (subst (λ i. CrossEdge (nodes_at columns i) (nodes_at columns (i + 1)) z.index y.index) same b.1) in
    subst (λ i. x ≡ at i z.index) (sym same) (ap (at x.iteration) index)

-- an instance has one chosen predecessor
chosen_same : (columns : List (List Node)) (weights : List ℕ) (x z y : NodeId) (path other : List NodeId) → AreColumns columns
    → PathTo columns x path → PathTo columns z other → IsChosenFor columns weights y x path → IsChosenFor columns weights y z other → x ≡ z
chosen_same columns weights x z y path other h p q c d =
    let a = c.most z other d.edge q in
    let b = d.most x path c.edge p in
    let tie : path_weight columns weights other ≡ path_weight columns weights path = omega (arith, a, b) in
    elim (cases_eq z.iteration y.iteration) [
      | inl same ↦ sym (c.ties z other d.edge q tie same)
      | inr away ↦ elim (cases_eq x.iteration y.iteration) [
        | inl same ↦ d.ties x path c.edge p (sym tie) same
        | inr apart ↦ left_same columns x z y h c.edge d.edge apart away
      ]
    ]

traced_same : {columns : List (List Node)} {weights : List ℕ} {y z : NodeId} {path other : List NodeId} → AreColumns columns
    → IsTraced columns weights y path → IsTraced columns weights z other → y ≡ z → path ≡ other
traced_same h (Begins y w none) (Begins z v nil) e = ap (λ x. x ∷ []) e
traced_same {columns} h (Begins y w none) (GoesOn x z path t c) e = absurd (none x (subst (λ n. Edge columns x n) (sym e) c.edge))
traced_same {columns} h (GoesOn x y path t c) (Begins z v none) e = absurd (none x (subst (λ n. Edge columns x n) e c.edge))
traced_same {columns} {weights} h (GoesOn x y path t c) (GoesOn v z other u d) e =
    let same = chosen_same columns weights x v y path other h (traced_is_path t) (traced_is_path u) c
    (subst (λ n. IsChosenFor columns weights n v other) (sym e) d) in
    subst (λ r. path ++ y ∷ [] ≡ r ++ z ∷ []) (traced_same h t u same) (ap (λ n. path ++ n ∷ []) e)

order : (x y : NodeId) → (x ≡ y) ⊎ (IsBefore x y ⊎ IsBefore y x)
order x y = elim (cases_order x.iteration y.iteration) [
  | inl same ↦ elim (cases_order x.index y.index) [
    | inl equal ↦ inl (subst (λ i. x ≡ at i y.index) same (ap (at x.iteration) equal))
    | inr other ↦ elim other [
      | inl less ↦ inr (inl (inr (same, less)))
      | inr more ↦ inr (inr (inr (sym same, more)))
    ]
  ]
  | inr other ↦ elim other [
    | inl less ↦ inr (inl (inl less))
    | inr more ↦ inr (inr (inl more))
  ]
]

heaviest_same : (columns : List (List Node)) (weights : List ℕ) (x y : NodeId) (path other : List NodeId) (m n : ℕ) → AreColumns columns
    → IsHeaviestTo columns weights x path m → IsHeaviestTo columns weights y other n → (m ≡ n) × (path ≡ other)
heaviest_same columns weights x y path other m n h f g =
    let a = f.most y other g.is_path in
    let b = g.most x path f.is_path in
    let c = f.weighs in
    let d = g.weighs in
    let equal : m ≡ n = omega (arith, a, b, c, d) in
    let last : x ≡ y = elim (order x y) [
      | inl same ↦ same
      | inr apart ↦ elim apart [
        | inl before ↦ absurd (let l = g.first x path f.is_path before in omega (arith, l, c, equal))
        | inr after ↦ absurd (let l = f.first y other g.is_path after in omega (arith, l, d, equal))
      ]
    ] in
    (equal, traced_same h f.traced g.traced last)

no_path : {columns : List (List Node)} {x : NodeId} {path : List NodeId} → columns ≡ [] → PathTo columns x path → ⊥
no_path e p =
    let inside = (path_ends p).0 in
    let none = ap length e in
    omega (arith, inside, none)

span_same : {columns : List (List Node)} {weights : List ℕ} {s t : ℤ} {path other : List NodeId} → AreColumns columns
    → IsSpanOf columns weights s path → IsSpanOf columns weights t other → (s ≡ t) × (path ≡ other)
span_same h (NoColumns e) (NoColumns f) = (refl, refl)
span_same h (NoColumns e) (Heaviest path n g) = absurd (no_path e g.heaviest.is_path)
span_same h (Heaviest path n g) (NoColumns e) = absurd (no_path e g.heaviest.is_path)
span_same {columns} {weights} h (Heaviest path m f) (Heaviest other n g) =
    let same = heaviest_same columns weights f.last g.last path other m n h f.heaviest g.heaviest in
    (ap pos same.0, same.1)

pub columns_have_one_span : ColumnsHaveOneSpan
columns_have_one_span columns steps s t h f g =
    let same = span_same h f.span g.span in
    ap (λ n. made n s.span s.path) (f.work ∙ sym g.work) ∙ (ap (λ n. made t.work n s.path) same.0 ∙ ap (made t.work t.span) same.1)
  where
    made : ℤ → ℤ → List NodeId → Span
    made work span path = record { work = work; span = span; path = path }
