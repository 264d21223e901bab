-- An instance is before another in both lists exactly when it precedes it.
use Rattle.std.proofs.Common.{ℕ, ◌≡◌, ◌⊎◌, inl, inr, arith, List, length, ◌<◌, ap₂, ◌↔◌}
use Rattle.std.proofs.lemmas.Bool.{cases_order, cases_lt}
use Rattle.pipe_model.specs.Races.Columns.{AreColumns}
use Rattle.pipe_model.specs.Races.Dag.{Precedes}
use Rattle.run_laws.proofs.ListOrders.Reach.{reach}
use Rattle.pipe_model.specs.Orders.OrderList.{place, list_of_log}
use Rattle.pipe_model.specs.Orders.Starts.{AreStarts, IsStarted, start_number}
use Rattle.pipe_model.specs.Orders.TwoOrders.{IsBeforeInBoth, down_first_taken, down_first_log, right_first_taken, right_first_log}
use Rattle.pipe_model.specs.declared.node.Node.{Node}
use Rattle.pipe_model.specs.declared.node.NodeId.{NodeId}
use Rattle.run_laws.proofs.ListOrders.DownFirst.{FallsBefore}
use Rattle.run_laws.proofs.ListOrders.ListsOfStarts.{down_order, right_order}
use Rattle.run_laws.proofs.ListOrders.PrecedingPlaces.{below_path, path_below}
use Rattle.run_laws.proofs.ListOrders.RightFirst.{GoesBefore}

-- two instances in column order
pub falls_cases : (i j k l : ℕ) → FallsBefore i j k l ⊎ (((i ≡ k) × (j ≡ l)) ⊎ FallsBefore k l i j)
falls_cases i j k l = elim (cases_order i k) [
  | inl s ↦ elim (cases_order j l) [
    | inl t ↦ inr (inl (s, t))
    | inr o ↦ elim o [
      | inl less ↦ inl record { column = omega arith; place = λ e. less }
      | inr more ↦ inr (inr record { column = omega arith; place = λ e. more })
    ]
  ]
  | inr o ↦ elim o [
    | inl less ↦ inl record { column = omega arith; place = λ e. absurd (omega (arith, e)) }
    | inr more ↦ inr (inr record { column = omega arith; place = λ e. absurd (omega (arith, e)) })
  ]
]

-- two instances in the order of right-first
pub goes_cases : (reach : ℕ → ℕ → ℕ → ℕ) (i j k l : ℕ)
    → GoesBefore reach i j k l ⊎ (((i ≡ k) × (j ≡ l)) ⊎ GoesBefore reach k l i j)
goes_cases reach i j k l = elim (cases_order i k) [
  | inl s ↦ elim (cases_order j l) [
    | inl t ↦ inr (inl (s, t))
    | inr o ↦ elim o [
      | inl less ↦ inl record {
        left = λ e. absurd (omega arith);
        same = λ e. less;
        right = λ e. absurd (omega arith);
      }
      | inr more ↦ inr (inr record {
        left = λ e. absurd (omega arith);
        same = λ e. more;
        right = λ e. absurd (omega arith);
      })
    ]
  ]
  | inr o ↦ elim o [
    | inl less ↦ elim (cases_lt (reach k l i) j) [
      | inl far ↦ inr (inr record {
        left = λ e. absurd (omega arith);
        same = λ e. absurd (omega (arith, e));
        right = λ e. far;
      })
      | inr near ↦ inl record {
        left = λ e. near;
        same = λ e. absurd (omega (arith, e));
        right = λ e. absurd (omega arith);
      }
    ]
    | inr more ↦ elim (cases_lt (reach i j k) l) [
      | inl far ↦ inl record {
        left = λ e. absurd (omega arith);
        same = λ e. absurd (omega (arith, e));
        right = λ e. far;
      }
      | inr near ↦ inr (inr record {
        left = λ e. near;
        same = λ e. absurd (omega (arith, e));
        right = λ e. absurd (omega arith);
      })
    ]
  ]
]

module _ (columns : List (List Node)) (starts : List NodeId) (ok : AreColumns columns)
    (ord : AreStarts columns starts) where
  -- an instance that precedes another is before it in both lists
  precedes_in_both : (x y : NodeId) → IsStarted starts x → IsStarted starts y → Precedes columns x y
      → IsBeforeInBoth columns starts x y
  precedes_in_both x y w v p = let b = below_path ok p in let c = b.column in record {
    down = down_order columns starts ok ord x.iteration x.index y.iteration y.index w v
        (record { column = c; place = b.place });
    right = right_order columns starts ok ord x.iteration x.index y.iteration y.index w v (record {
      left = b.within;
      same = b.place;
      right = λ e. absurd (omega (arith, e, c));
    });
  }

  -- an instance that is before another in down-first is before it in column order
  falls_from : (i j k l : ℕ) → start_number starts i j < length starts → start_number starts k l < length starts
      → place (down_first_taken (start_number starts) i j) (list_of_log (down_first_log starts)) < place
      (down_first_taken (start_number starts) k l) (list_of_log (down_first_log starts)) → FallsBefore i j k l
  falls_from i j k l w v p = elim (falls_cases i j k l) [
    | inl f ↦ f
    | inr o ↦ elim o [
      | inl s ↦ (
          let e : place (down_first_taken (start_number starts) i j) (list_of_log (down_first_log starts))
          ≡ place (down_first_taken (start_number starts) k l) (list_of_log (down_first_log starts)) =
          ap₂ (λ a b. place (down_first_taken (start_number starts) a b) (list_of_log (down_first_log starts))) s.0
          s.1 in
          absurd (omega (arith, e, p)))
      | inr f ↦ (let q = down_order columns starts ok ord k l i j v w f in absurd (omega (arith, p, q)))
    ]
  ]

  -- an instance that is before another in right-first is before it in the order of right-first
  goes_from : (i j k l : ℕ) → start_number starts i j < length starts → start_number starts k l < length starts
      → place (right_first_taken columns (start_number starts) i j)
      (list_of_log (right_first_log columns starts)) < place (right_first_taken columns (start_number starts) k l)
      (list_of_log (right_first_log columns starts)) → GoesBefore (reach columns) i j k l
  goes_from i j k l w v p = elim (goes_cases (reach columns) i j k l) [
    | inl f ↦ f
    | inr o ↦ elim o [
      | inl s ↦ (
          let e : place (right_first_taken columns (start_number starts) i j)
          (list_of_log (right_first_log columns starts))
          ≡ place (right_first_taken columns (start_number starts) k l)
          (list_of_log (right_first_log columns starts)) =
          ap₂ (λ a b. place (right_first_taken columns (start_number starts) a b)
          (list_of_log (right_first_log columns starts))) s.0 s.1 in
          absurd (omega (arith, e, p)))
      | inr f ↦ (let q = right_order columns starts ok ord k l i j v w f in absurd (omega (arith, p, q)))
    ]
  ]

  -- an instance that is before another in both lists precedes it
  both_precede : (x y : NodeId) → IsStarted starts x → IsStarted starts y → IsBeforeInBoth columns starts x y
      → Precedes columns x y
  both_precede x y w v b =
      let f = falls_from x.iteration x.index y.iteration y.index w v b.down in
      let g = goes_from x.iteration x.index y.iteration y.index w v b.right in
      let z = ord.inside y v in
      path_below columns ok x.iteration x.index y.iteration y.index
      (record { column = f.column; place = f.place; within = g.left }) z.0 z.1

  -- x is before y in both lists exactly when x precedes y
  pub both_is_precedes : (x y : NodeId) → IsStarted starts x → IsStarted starts y
      → IsBeforeInBoth columns starts x y ↔ Precedes columns x y
  both_is_precedes x y w v = (both_precede x y w v, precedes_in_both x y w v)
