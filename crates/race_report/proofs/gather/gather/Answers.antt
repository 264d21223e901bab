-- Sorted reports on different cells rise.
use Rattle.std.proofs.Common.{rules, subst, sym, List, IsPermutation}
use Rattle.std.proofs.lemmas.List.Sorted.{IsNonDecreasingBy-from_sort_by_key}
use Rattle.pipe_model.specs.declared.report.Report.{Report}
use Rattle.pipe_model.specs.Races.Reports.{RiseByCell}
use Rattle.race_report.proofs.FoundCells.{sorted_rise}
use Rattle.race_report.proofs.gather.gather.Goals as goal

pub returns-clause-rise : goal.returns-clause-rise
returns-clause-rise c =
    let same = subst (λ (l : List Report). IsPermutation l c.sort_by_key.new.self.items) c.in_ok-reports.ensures
    c.in_ok-sort_by_key.ensures.permutation in
    subst RiseByCell (sym c.from_vec.ensures)
    (sorted_rise _ c.args.found.now c.sort_by_key.new.self.items c.requires.cells same
    (IsNonDecreasingBy-from_sort_by_key (λ (r : Report). r.cell.0) _ c.in_ok-sort_by_key.ensures.sorted (λ a r q k. search rules)))
