-- The fold of a history, access by access, finds the first race.
use Rattle.std.proofs.Common.{◌≡◌, ◌∙◌, ap, refl, ℕ, zero, suc, List, [], ◌∷◌, ◌++◌, inl, ◌<◌, ◌≤◌, ◌+◌, length, Option, Some, None, arith}
use Rattle.pipe_model.specs.declared.node.Kind.TheVariants.{Zero}
use Rattle.pipe_model.specs.declared.node.NodeId.{NodeId}
use Rattle.pipe_model.specs.Orders.AccessHistory.{FoundRace, check_access, found_race_from, race_or, updated_history}
use Rattle.pipe_model.specs.Races.CellRaces.{NotedAccess, RacesAt}
use Rattle.pipe_model.specs.Races.Columns.{AreColumns, at, node_at, nodes_at}
use Rattle.pipe_model.specs.Races.Dag.{AreParallel, ByEdge, DownEdge}
use Rattle.run_laws.proofs.ListOrders.PrecedingPlaces.{below_path}
use Rattle.pipe_model.specs.Orders.HistoryStates.{HistoryState, empty_state, found_or, history_from, noted}
use Rattle.schedule_laws.specs.HistoryStateLaws.{HistoriesAreStates, SearchesNameDifferentAccesses, twice_columns, twice_accesses}

-- the race that was found, or otherwise the other one
abbrev either_race : Option FoundRace → Option FoundRace → Option FoundRace
either_race (Some race) rest = Some race
either_race None rest = rest

either_of_found : (found : Option FoundRace) (n : ℕ) (o : Option NotedAccess) (rest : Option FoundRace)
    → either_race (found_or found n o) rest ≡ either_race found (race_or n o rest)
either_of_found (Some race) n o rest = refl
either_of_found None n None rest = refl
either_of_found None n (Some e) rest = refl

found_from : (down right : NodeId → ℕ) (h : HistoryState) (xs : List NotedAccess)
    → (history_from down right h xs).found ≡ either_race h.found (found_race_from down right h.count h.kept xs)
found_from down right h [] = none_after h.found
  where
    none_after : (o : Option FoundRace) → o ≡ either_race o None
    none_after (Some race) = refl
    none_after None = refl
found_from down right h (x ∷ xs) =
    found_from down right (noted down right h x) xs
    ∙ either_of_found h.found h.count (check_access down right h.kept x.who x.kind)
    (found_race_from down right (suc h.count) (updated_history down right h.kept x.who x.kind) xs)

count_from : (down right : NodeId → ℕ) (h : HistoryState) (xs : List NotedAccess) → (history_from down right h xs).count ≡ h.count + length
    xs
count_from down right h [] = omega arith
count_from down right h (x ∷ xs) = let e = count_from down right (noted down right h x) xs in omega (arith, e)

history_from-push : (down right : NodeId → ℕ) (h : HistoryState) (xs : List NotedAccess) (x : NotedAccess)
    → history_from down right h (xs ++ x ∷ []) ≡ noted down right (history_from down right h xs) x
history_from-push down right h [] x = refl
history_from-push down right h (y ∷ xs) x = history_from-push down right (noted down right h y) xs x

pub histories_are_states : HistoriesAreStates
histories_are_states down right accesses = record {
  found = found_from down right empty_state accesses;
  count = (let e = count_from down right empty_state accesses in omega (arith, e));
  next = λ x. history_from-push down right empty_state accesses x;
}

-- ---- the example

twice_are_columns : AreColumns twice_columns
twice_are_columns = record { full = full; first = first }
  where
    full : (i : ℕ) → i < 2 → 0 < length (nodes_at twice_columns i)
    full zero l = omega arith
    full (suc zero) l = omega arith
    full (suc (suc i)) l = absurd (omega arith)

    first : (i : ℕ) → (node_at (nodes_at twice_columns i) 0).kind ≡ Zero
    first zero = refl
    first (suc zero) = refl
    first (suc (suc i)) = refl

write_and_read_parallel : AreParallel twice_columns (at 0 1) (at 1 0)
write_and_read_parallel = record {
  apart = λ e. (let same = ap (λ (x : NodeId). x.iteration) e in omega (arith, same));
  not_before = λ p. (
      let b = below_path twice_are_columns p in
      let within : 1 ≤ 0 = b.within (omega arith) in
      omega (arith, within));
  not_after = λ p. (
      let b = below_path twice_are_columns p in
      let column : 1 ≤ 0 = b.column in
      omega (arith, column));
}

-- instances of one column are not parallel
no_race_in_column : (n k : ℕ) → n < 2 → RacesAt twice_columns twice_accesses n k → ⊥
no_race_in_column zero k l r = let e = r.earlier in omega (arith, e)
no_race_in_column (suc zero) zero l r = r.parallel.not_before (ByEdge (DownEdge 0 1 (omega arith)))
no_race_in_column (suc zero) (suc k) l r = let e = r.earlier in omega (arith, e)
no_race_in_column (suc (suc n)) k l r = omega (arith, l)

pub searches_name_different_accesses : SearchesNameDifferentAccesses
searches_name_different_accesses = record {
  history = refl;
  explicit = record {
    race = record { within = omega arith; earlier = omega arith; conflict = inl refl; parallel = write_and_read_parallel };
    first_later = λ n l k r. no_race_in_column n k l r;
    first_earlier = λ k l r. absurd (omega (arith, l));
  };
}
