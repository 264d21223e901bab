-- The cells after the accesses to some of them.
use Rattle.std.proofs.Common.{◌≡◌, ◌≢◌, ◌∙◌, refl, sym, ap, ℕ, ◌+◌, ◌<◌, List, [], ◌∷◌, ◌++◌, arith}
use Rattle.std.proofs.Common.{Bool, true, false, cond, filter, nat_lt}
use Rattle.std.proofs.Common.{append-nil}
use Rattle.std.proofs.lemmas.Bool.Decides.{nat_tests}
use Rattle.std.specs.Prelude.{take}
use Rattle.cell_store.specs.ShardState.{IsStateAfter, IsWrittenAs, ShardState}
use Rattle.pipe_model.specs.declared.access.Access.{Access}
use Rattle.pipe_model.specs.Pipelines.Store.{InitialStore, value_from, written, wrote}
use Rattle.run_laws.proofs.Iterations.CellWrites.{other_cell_writes_none, written-append}

-- the accesses to cells below n
abbrev pub below : ℕ → List Access → List Access
below n accesses = filter (λ (a : Access). nat_lt a.cell.0 n) accesses

-- what they write to cell c: all of it if c is below n, and else nothing
written_below : (c n : ℕ) (accesses : List Access) → written c (below n accesses) ≡ cond (nat_lt c n) (written c accesses) []
written_below c n [] = by (nat_lt c n)
  where
    by : (b : Bool) → written c [] ≡ cond b (written c []) []
    by true = refl
    by false = refl
written_below c n (a ∷ accesses) = by (nat_lt a.cell.0 n) (nat_lt c n) refl refl (written_below c n accesses)
  where
    by : (there here : Bool) → nat_lt a.cell.0 n ≡ there → nat_lt c n ≡ here
        → written c (below n accesses) ≡ cond (nat_lt c n) (written c accesses) []
        → written c (cond there (a ∷ below n accesses) (below n accesses)) ≡ cond here (wrote c a ++ written c accesses) []
    by true true s t rest = ap (λ l. wrote c a ++ l) (rest ∙ ap (λ b. cond b (written c accesses) []) t)
    by true false s t rest =
        ap (λ l. l ++ written c (below n accesses)) (other_cell_writes_none c a (λ same. absurd (grind (arith, nat_tests))))
        ∙ rest ∙ ap (λ b. cond b (written c accesses) []) t
    by false true s t rest =
        rest ∙ ap (λ b. cond b (written c accesses) []) t
        ∙ ap (λ l. l ++ written c accesses) (sym (other_cell_writes_none c a (λ same. absurd (grind (arith, nat_tests)))))
    by false false s t rest = rest ∙ ap (λ b. cond b (written c accesses) []) t

-- ---- the cells

module _ (store : InitialStore) (before run : List Access) where
  -- `below c run` leaves out the accesses to cell c and above; with cell c as after the whole run, it is `below (c + 1) run`
  pub next_cell : (c : ℕ) → IsWrittenAs c (before ++ run) (before ++ below c run) (before ++ below (c + 1) run)
  next_cell c = (
    written-append c before (below (c + 1) run)
        ∙ ap (λ l. written c before ++ l) (written_below c (c + 1) run ∙ ap (λ b. cond b (written c run) []) (within c))
        ∙ sym (written-append c before run),
    (λ d other.
        written-append d before (below (c + 1) run)
        ∙ ap (λ l. written d before ++ l) (written_below d (c + 1) run ∙ ap (λ b. cond b (written d run) []) (unchanged d other)
        ∙ sym (written_below d c run))
        ∙ sym (written-append d before (below c run))),
  )
    where
      within : (c : ℕ) → nat_lt c (c + 1) ≡ true
      within c = grind (arith, nat_tests)

      unchanged : (d : ℕ) → d ≢ c → nat_lt d (c + 1) ≡ nat_lt d c
      unchanged d other = by (nat_lt d (c + 1)) (nat_lt d c) refl refl
        where
          by : (a b : Bool) → nat_lt d (c + 1) ≡ a → nat_lt d c ≡ b → a ≡ b
          by true true s t = refl
          by false false s t = refl
          by true false s t = absurd (other (grind (arith, nat_tests)))
          by false true s t = absurd (grind (arith, nat_tests))

  -- at the beginning all are left out
  pub no_cell : (cells : ShardState) → IsStateAfter store before cells → IsStateAfter store (before ++ below 0 run) cells
  no_cell cells h = record {
    cells = h.cells;
    limit = h.limit;
    values = λ c within own. h.values c within own ∙ ap (value_from store c) (same c);
    output = λ own. h.output own ∙ ap (take store.output_limit) (same 1);
  }
    where
      same : (c : ℕ) → written c before ≡ written c (before ++ below 0 run)
      same c =
          let none : nat_lt c 0 ≡ false = grind (arith, nat_tests) in
          sym (written-append c before (below 0 run)
          ∙ ap (λ l. written c before ++ l) (written_below c 0 run ∙ ap (λ b. cond b (written c run) []) none)
          ∙ append-nil (written c before))

  -- at the end none is
  pub all_cells : (cells : ShardState) → 1 < cells.shard.cells → IsStateAfter store (before ++ below cells.shard.cells run) cells
      → IsStateAfter store (before ++ run) cells
  all_cells cells some h = record {
    cells = h.cells;
    limit = h.limit;
    values = λ c within own. h.values c within own ∙ ap (value_from store c) (same c within);
    output = λ own. h.output own ∙ ap (take store.output_limit) (same 1 some);
  }
    where
      same : (c : ℕ) → c < cells.shard.cells → written c (before ++ below cells.shard.cells run) ≡ written c (before ++ run)
      same c within =
          let here : nat_lt c cells.shard.cells ≡ true = grind (arith, nat_tests) in
          written-append c before (below cells.shard.cells run)
          ∙ ap (λ l. written c before ++ l) (written_below c cells.shard.cells run ∙ ap (λ b. cond b (written c run) []) here)
          ∙ sym (written-append c before run)
