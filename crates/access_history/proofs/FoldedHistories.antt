-- The history after one more access, as a fold over the accesses.
use Rattle.std.proofs.Common.{◌≡◌, ◌∙◌, ap, ap₂, sym, refl, subst, ℕ, suc, List, [], ◌∷◌, ◌++◌, ◌+◌, ◌<◌, length, Option, Some, None, arith}
use Rattle.std.proofs.lemmas.List.{get_or_append_left, get_or_push}
use Rattle.std.specs.Prelude.{IfSome}
use Rattle.access_history.specs.KeptInstances.{IsHistoryAfter, earlier_access, kept_of, report_after, report_of_race}
use Rattle.access_history.specs.declared.history.Found.{Found}
use Rattle.access_history.specs.declared.history.History.{History}
use Rattle.access_history.specs.declared.history.Verdict.{Verdict}
use Rattle.access_history.specs.declared.history.Verdict.TheVariants.{Clean, Race}
use Rattle.pipe_model.specs.declared.access.AccessKind.{AccessKind}
use Rattle.pipe_model.specs.declared.access.AccessKind.TheVariants.{Read}
use Rattle.pipe_model.specs.declared.node.NodeId.{NodeId}
use Rattle.pipe_model.specs.Orders.AccessHistory.{FoundRace, check_access, found_race, updated_history}
use Rattle.pipe_model.specs.Orders.HistoryStates.{HistoryState, empty_state, found_or, history_after, history_from, noted}
use Rattle.pipe_model.specs.Races.CellRaces.{NotedAccess, noted_access}
use Rattle.pipe_model.specs.Races.Columns.{at}
use Rattle.access_history.specs.CellAccesses.{ReportsFirst}
use Rattle.schedule_laws.proofs.HistoryFolds.{histories_are_states}
use Rattle.run_laws.proofs.RaceHistories.FirstRaces.{histories_of_orders}
use Rattle.run_laws.specs.OrderRaces.{AreOrders}

more_before : (found : Option FoundRace) (n : ℕ) (o : Option NotedAccess) → IfSome found (λ race. race.number < n)
    → IfSome (found_or found n o) (λ race. race.number < suc n)
more_before (Some race) n o h = omega (arith, h)
more_before None n None h = tt
more_before None n (Some e) h = omega arith

found_before : (down right : NodeId → ℕ) (h : HistoryState) (xs : List NotedAccess)
    → IfSome h.found (λ race. race.number < h.count)
    → IfSome (history_from down right h xs).found (λ race. race.number < h.count + length xs)
found_before down right h [] b = subst (λ n. IfSome h.found (λ race. race.number < n)) (let e : h.count ≡ h.count + 0 = omega arith in e) b
found_before down right h (x ∷ xs) b =
    let e : suc h.count + length xs ≡ h.count + suc (length xs) = omega arith in
    subst (λ n. IfSome (history_from down right (noted down right h x) xs).found (λ race. race.number < n)) e
    (found_before down right (noted down right h x) xs (more_before h.found h.count (check_access down right h.kept x.who x.kind) b))

-- the report of a race with this later access
abbrev report_with : FoundRace → NotedAccess → Found
report_with race x = record { earlier = race.earlier.who; earlier_kind = race.earlier.kind; later = x.who; later_kind = x.kind }

-- the report after one more access
report_pushed : (accesses : List NotedAccess) (x : NodeId) (kind : AccessKind) (found : Option FoundRace) (verdict : Verdict)
    → IfSome found (λ race. race.number < length accesses)
    → report_after (report_of_race accesses found) x kind verdict
    ≡ report_of_race (accesses ++ noted_access x kind ∷ []) (found_or found (length accesses) (earlier_access verdict))
report_pushed accesses x kind (Some race) verdict before =
    ap (λ a. Some (report_with race a)) (sym (get_or_append_left accesses (noted_access x kind ∷ [])
    (noted_access (at 0 0) Read) race.number before))
report_pushed accesses x kind None Clean before = refl
report_pushed accesses x kind None (Race y earlier) before =
    ap (λ a. Some (report_with (record { number = length accesses; earlier = noted_access y earlier }) a))
    (sym (get_or_push accesses (noted_access x kind) (noted_access (at 0 0) Read) (length accesses) refl))

pub history_pushed : (down right : NodeId → ℕ) (accesses : List NotedAccess) (h h' : History) (x : NodeId) (kind : AccessKind)
    (verdict : Verdict)
    → earlier_access verdict ≡ check_access down right (kept_of h) x kind
    → kept_of h' ≡ updated_history down right (kept_of h) x kind
    → h'.report ≡ report_after h.report x kind verdict
    → IsHistoryAfter down right accesses h
    → IsHistoryAfter down right (accesses ++ noted_access x kind ∷ []) h'
history_pushed down right accesses h h' x kind verdict race kept report before =
    let s = history_after down right accesses in
    let state = histories_are_states down right accesses in
    let push = state.next (noted_access x kind) in
    let none : 0 + length accesses ≡ length accesses = omega arith in
    let within = subst (λ n. IfSome s.found (λ race. race.number < n)) none (found_before down right empty_state accesses tt) in
    record {
      kept = kept ∙ ap (λ k. updated_history down right k x kind) before.kept ∙ ap (λ (t : HistoryState). t.kept) (sym push);
      report = report
          ∙ ap (λ r. report_after r x kind verdict) before.report
          ∙ report_pushed accesses x kind s.found verdict within
          ∙ ap₂ (λ n o. report_of_race (accesses ++ noted_access x kind ∷ []) (found_or s.found n o)) (sym state.count)
          (race ∙ ap (λ k. check_access down right k x kind) before.kept)
          ∙ ap (λ (t : HistoryState). report_of_race (accesses ++ noted_access x kind ∷ []) t.found) (sym push);
    }

-- the history of all accesses reports their first race
pub reports_first : (down right : NodeId → ℕ) (accesses : List NotedAccess) (h : History)
    → IsHistoryAfter down right accesses h → AreOrders down right accesses → ReportsFirst down right accesses h.report
reports_first down right accesses h after orders = record {
  found = found_race down right accesses;
  first = histories_of_orders down right accesses orders;
  reported = after.report ∙ ap (report_of_race accesses) (histories_are_states down right accesses).found;
}
