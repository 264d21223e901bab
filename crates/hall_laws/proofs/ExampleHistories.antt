-- Histories of the worked example of a finished hall: they have noted the entries of its shards, and report no race.
use Rattle.std.proofs.Common.{◌≡◌, ◌∙◌, refl, sym, ap, ℕ, zero, suc, ◌<◌, ◌%◌, ◌==◌, false, List, [], Option, Some, None, arith}
use Rattle.std.proofs.lemmas.Bool.{ne_eqb}
use Rattle.std.proofs.lemmas.Nat.{mod_below}
use Rattle.std.specs.Prelude.{option_map}
use Rattle.access_history.specs.declared.history.Found.{Found}
use Rattle.access_history.specs.declared.history.History.{History}
use Rattle.access_history.specs.KeptInstances.{IsHistoryAfter, node_of, report_of_race}
use Rattle.pipe_frame.specs.Ties.{ListIdentities}
use Rattle.pipe_model.specs.declared.node.NodeId.{NodeId}
use Rattle.pipe_model.specs.declared.tree.Program.{Program}
use Rattle.pipe_model.specs.Orders.HistoryStates.{HistoryState, history_after}
use Rattle.pipe_model.specs.Orders.TwoOrders.{down_place, right_place}
use Rattle.pipe_model.specs.Races.CellRaces.{NotedAccess, accesses_to}
use Rattle.frame_book.specs.BookStates.{BookState, events_of}
use Rattle.run_record.specs.MergedLogs.{shard_at}
use Rattle.hall_laws.specs.HallExamples.{example_book, example_log, example_shards}
use Rattle.hall_laws.specs.HallOrders.{marked}
use Rattle.hall_laws.specs.HallReports.{AreFound, HaveNotedEntries, columns_of_book, starts_of_book}
use Rattle.hall_laws.specs.HallRuns.{entries_to, node_accesses}

-- the history of these accesses, by two orders
abbrev noted_history : (NodeId → ℕ) → (NodeId → ℕ) → List NotedAccess → History
noted_history down right accesses = record {
  writer = option_map (marked (events_of example_log)) (history_after down right accesses).kept.writer;
  rightmost = option_map (marked (events_of example_log)) (history_after down right accesses).kept.rightmost;
  downmost = option_map (marked (events_of example_log)) (history_after down right accesses).kept.downmost;
  report = report_of_race accesses (history_after down right accesses).found;
}

kept_node : (kept : Option NodeId) → node_of (option_map (marked (events_of example_log)) kept) ≡ kept
kept_node None = refl
kept_node (Some x) = refl

is_noted : (down right : NodeId → ℕ) (accesses : List NotedAccess) → IsHistoryAfter down right accesses (noted_history down right accesses)
is_noted down right accesses =
    let s : HistoryState = history_after down right accesses in
    record {
      kept = λ i. record {
        writer = kept_node s.kept.writer i;
        rightmost = kept_node s.kept.rightmost i;
        downmost =
            kept_node s.kept.downmost i;
      };
      report = refl;
    }

-- a cell that the example does not have has no entry
no_entry : (c k : ℕ) → k < 3 → accesses_to (suc (suc (suc c))) (node_accesses (shard_at example_shards k)) ≡ []
no_entry c zero l = refl
no_entry c (suc zero) l = (let a : (1 == suc (suc (suc c))) ≡ false = ne_eqb 1 (suc (suc (suc c))) (λ e. omega (arith, e)) in rw a refl)
no_entry c (suc (suc zero)) l = (let a : (2 == suc (suc (suc c))) ≡ false = ne_eqb 2 (suc (suc (suc c))) (λ e. omega (arith, e)) in
    rw a refl)
no_entry c (suc (suc (suc k))) l = absurd (omega (arith, l))

module _ (p : Program) (lists : ListIdentities) where
  abbrev v : BookState
  v = example_book p lists

  abbrev down : NodeId → ℕ
  down = down_place (starts_of_book v)

  abbrev right : NodeId → ℕ
  right = right_place (columns_of_book v) (starts_of_book v)

  abbrev pub example_history : ℕ → History
  example_history c = noted_history down right (entries_to example_shards c)

  pub example_notes : HaveNotedEntries v example_shards example_history
  example_notes = record { each = λ c. is_noted down right (entries_to example_shards c) }

  found_none : (c : ℕ) → (history_after down right (entries_to example_shards c)).found ≡ None
  found_none zero = refl
  found_none (suc zero) = refl
  found_none (suc (suc zero)) = refl
  found_none (suc (suc (suc c))) =
      ap (λ l. (history_after down right l).found) (no_entry c (suc (suc (suc c)) % 3) (mod_below (suc (suc (suc c))) 3 (omega arith)))

  no_report : (c : ℕ) (f : Found) → (example_history c).report ≡ Some f → ⊥
  no_report c f e =
      let none : None ≡ Some f = sym (ap (report_of_race (entries_to example_shards c)) (found_none c)) ∙ e in
      absurd (cc)

  pub example_finds_none : AreFound example_history []
  example_finds_none = record {
    each = λ c f m. (let w = m.1 in absurd (omega (arith, w)));
    all = λ c f e. absurd (no_report c f e);
    apart = λ i j d l w. absurd (omega (arith, w));
  }
