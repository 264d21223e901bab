use Rattle.std.proofs.Common.{◌≡◌, true, Result, Ok, Err, OnOk, ◌≤◌, ◌<◌, ◌+◌, ◌∙◌, take, sym, ap, subst, arith, false, ◌==◌, nat_lt}
use Rattle.std.proofs.Common.{is_some, length, List}
use Rattle.std.proofs.lemmas.Bool.{le-ltb}
use Rattle.std.specs.Result.{is_ok}
use Rattle.pipe_check.specs.CellTables.{IsCellTable}
use Rattle.pipe_model.specs.declared.tree.Declaration.{Declaration}
use Rattle.pipe_model.specs.Language.CheckingRules.{size_in, is_cell, cell_total}
use Rattle.pipe_model.specs.Language.Programs.{declared_size}
use Rattle.pipe_check.proofs.CellTables.{table_more, take_next, cell_passed}
use Rattle.pipe_check.proofs.cell_table.CellTable.of.Goals as goal

-- what holds if the result is `Ok` holds, since it is `Ok`
since_ok : {A E : Type 0} (P : Type 0) (r : Result A E) → true ≡ is_ok r → OnOk r P → P
since_ok P (Ok x) is h = h
since_ok P (Err e) is h = cc (is)

pub loop-cell-preserved : goal.loop-cell-preserved
loop-cell-preserved c =
    let cells = c.args.declared.now in
    let i = c.loop-cell.cell-index in
    let before = take i cells in
    let d = c.cell-item.result in
    let table = c.loop-cell.invariant.table in
    let within : c.loop-cell.cell-index < length c.args.declared.now = omega arith in
    let absent : is_some (size_in before c.as_bytes.result.now) ≡ false =
    ap (λ o. is_some o) (sym (table.found c.as_bytes.result)) ∙ sym c.contains_key.ensures ∙ c.if-contains_key.false in
    let new : is_cell before d.name ≡ false = ap (λ x. is_some (size_in before x)) (sym c.as_bytes.ensures) ∙ absent in
    let counted : c.in-Some.count ≡ declared_size d.size = c.in-Some.ensures.some in
    let bounded : c.loop-cell.total + c.in-Some.count ≤ 65536 = omega (arith, c.in-Some.ensures.within, table.bounded) in
    let some : (declared_size d.size == 0) ≡ false = grind (arith, counted, c.if-count-eq0.false) in
    let fits : nat_lt 65536 (cell_total before + declared_size d.size) ≡ false = le-ltb 65536 _
    (omega (arith, bounded, counted, table.total_is)) in
    record {
      table = subst (λ (ds : List Declaration). IsCellTable c.insert.new.self (c.loop-cell.total + c.in-Some.count) ds)
          (sym (take_next cells i d within c.cell-item.is))
          (table_more c.loop-cell.sizes c.insert.new.self c.loop-cell.total c.in-Some.count before d c.as_bytes-in-loop-cell.result table
          c.as_bytes-in-loop-cell.ensures new counted bounded (since_ok _ c.insert.result c.in_ok-map_err.ensures.variant
          c.insert.ensures.updates).0);
      numbered = ap (λ n. n + 1) c.loop-cell.invariant.numbered;
      faults = cell_passed cells i c.loop-cell.next d within c.cell-item.is new fits some ∙ c.loop-cell.invariant.faults;
    }
