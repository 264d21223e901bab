-- In each cell of each run the history finds the first race.
use Rattle.std.proofs.Common.{List, ◌≡◌, inl, arith, inr, ap₂, ℕ}
use Rattle.std.specs.declared.option.Option.{Option}
use Rattle.std.specs.declared.option.Option.TheVariants.{None, Some}
use Rattle.pipe_model.specs.Orders.AccessHistory.{FoundRace, found_race}
use Rattle.pipe_model.specs.Races.CellRaces.{NotedAccess, access_at, accesses_to, RacesAt}
use Rattle.pipe_model.specs.Races.Columns.{AreColumns, at}
use Rattle.pipe_model.specs.Orders.HistoryRaces.{IsRightVerdict}
use Rattle.pipe_model.specs.Orders.Starts.{AreStarts, IsStarted, starts_of}
use Rattle.pipe_model.specs.Runs.State.{own_columns}
use Rattle.pipe_model.specs.Orders.TwoOrders.{down_place, right_place}
use Rattle.pipe_model.specs.declared.node.Node.{Node}
use Rattle.pipe_model.specs.declared.node.NodeId.{NodeId}
use Rattle.run_laws.proofs.ListOrders.BothOrders.{falls_cases, goes_cases, both_is_precedes}
use Rattle.run_laws.proofs.ListOrders.ListsOfStarts.{down_order, right_order}
use Rattle.run_laws.proofs.ListOrders.StartsOfRuns.{run_starts_sound, are_columns}
use Rattle.run_laws.proofs.RaceHistories.AccessOrder.{IsInAccessOrder, run_access_order}
use Rattle.run_laws.proofs.RaceHistories.FirstRaces.{IsRight, first_race_is}
use Rattle.run_laws.specs.HistoryLaws.{HistoriesFindTheFirstRace}
use Rattle.run_laws.specs.OrderRaces.{AreOrders, RacesInOrders}

module _ (columns : List (List Node)) (starts : List NodeId) (accesses : List NotedAccess) (ok : AreColumns columns)
    (ord : AreStarts columns starts) (calm : IsInAccessOrder columns starts accesses) where
  -- started instances have different indices in down-first
  down_apart : (x y : NodeId) → IsStarted starts x → IsStarted starts y → down_place starts x ≡ down_place starts y
      → x ≡ y
  down_apart x y w v e = elim (falls_cases x.iteration x.index y.iteration y.index) [
    | inl f ↦ (
        let p = down_order columns starts ok ord x.iteration x.index y.iteration y.index w v f in
        absurd (omega (arith, p, e)))
    | inr o ↦ elim o [
      | inl s ↦ ap₂ at s.0 s.1
      | inr f ↦ (
          let p = down_order columns starts ok ord y.iteration y.index x.iteration x.index v w f in
          absurd (omega (arith, p, e)))
    ]
  ]

  -- started instances have different indices in right-first
  right_apart : (x y : NodeId) → IsStarted starts x → IsStarted starts y
      → right_place columns starts x ≡ right_place columns starts y → x ≡ y
  right_apart x y w v e = elim (goes_cases _ x.iteration x.index y.iteration y.index) [
    | inl f ↦ (
        let p = right_order columns starts ok ord x.iteration x.index y.iteration y.index w v f in
        absurd (omega (arith, p, e)))
    | inr o ↦ elim o [
      | inl s ↦ ap₂ at s.0 s.1
      | inr f ↦ (
          let p = right_order columns starts ok ord y.iteration y.index x.iteration x.index v w f in
          absurd (omega (arith, p, e)))
    ]
  ]

  -- the two lists are orders of the accesses
  are_orders : AreOrders (down_place starts) (right_place columns starts) accesses
  are_orders = record {
    down_apart = λ n k l w e. down_apart (access_at accesses n).who (access_at accesses k).who (calm.started n l)
        (calm.started k w) e;
    right_apart = λ n k l w e. right_apart (access_at accesses n).who (access_at accesses k).who (calm.started n l)
        (calm.started k w) e;
  }

  -- a race of the orders is a race
  race_from_orders : (n k : ℕ) → RacesInOrders (down_place starts) (right_place columns starts) accesses n k
      → RacesAt columns accesses n k
  race_from_orders n k r = let l = r.within in let w = r.earlier in
      let sn = calm.started n l in
      let sk = calm.started k (omega arith) in
      record {
        within = l;
        earlier = w;
        conflict = r.conflict;
        parallel = record {
          apart = λ e. r.apart (inl e);
          not_before = λ p. (
              let b = (both_is_precedes columns starts ok ord (access_at accesses k).who (access_at accesses n).who sk
              sn).1 p in
              r.apart (inr (b.down, b.right)));
          not_after = calm.calm n k w l;
        };
      }

  -- a race is a race of the orders
  race_to_orders : (n k : ℕ) → RacesAt columns accesses n k
      → RacesInOrders (down_place starts) (right_place columns starts) accesses n k
  race_to_orders n k r = let l = r.within in let w = r.earlier in
      let sn = calm.started n l in
      let sk = calm.started k (omega arith) in
      record {
        within = l;
        earlier = w;
        conflict = r.conflict;
        apart = λ f. elim f [
          | inl e ↦ r.parallel.apart e
          | inr b ↦ r.parallel.not_before ((both_is_precedes columns starts ok ord (access_at accesses k).who
              (access_at accesses n).who sk sn).0 (record { down = b.0; right = b.1 }))
        ];
      }

  -- a result that is right by the orders is right
  right_verdict : (race : Option FoundRace)
      → IsRight (down_place starts) (right_place columns starts) accesses are_orders race
      → IsRightVerdict columns accesses race
  right_verdict None t = λ n k r. t n k (race_to_orders n k r)
  right_verdict (Some race) t = let q = t.racy in record {
    racy = (q.0, race_from_orders race.number q.0 q.1, q.2);
    first = λ n k l r. t.first n k l (race_to_orders n k r);
  }

  -- the first race that is found is right
  first_race_is_right : IsRightVerdict columns accesses
      (found_race (down_place starts) (right_place columns starts) accesses)
  first_race_is_right =
      right_verdict (found_race (down_place starts) (right_place columns starts) accesses)
      (first_race_is (down_place starts) (right_place columns starts) accesses are_orders)

-- the law of first races
pub histories_find_the_first_race : HistoriesFindTheFirstRace
histories_find_the_first_race p limit events s r cell =
    let h = run_starts_sound r in
    first_race_is_right (own_columns s) (starts_of events) (accesses_to cell s.accesses)
    (are_columns s.frames (starts_of events) h) h.ordered (run_access_order cell r)
