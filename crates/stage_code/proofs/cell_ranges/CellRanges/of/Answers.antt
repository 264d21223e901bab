use Rattle.std.proofs.Common.{◌≡◌, true, Result, Ok, Err, OnOk, ◌<◌, arith, length, refl}
use Rattle.std.specs.Result.{is_ok}
use Rattle.stage_code.proofs.CellRanges.{half_more}
use Rattle.stage_code.proofs.cell_ranges.CellRanges.of.Goals as goal

-- a fact about an `Ok` result, which is one
since_ok : {A E : Type 0} (P : Type 0) (r : Result A E) → true ≡ is_ok r → OnOk r P → P
since_ok P (Ok x) is h = h
since_ok P (Err e) is h = cc (is)

pub loop-cell-preserved : goal.loop-cell-preserved
loop-cell-preserved c =
    let within : c.loop-cell.cell-index < length c.args.declared.now = omega arith in
    half_more c.loop-cell.ranges c.insert.new.self c.loop-cell.next c.loop-cell.cell-index c.count_of-size.result c.args.declared.now
    c.cell-item.result
    c.as_bytes.result (record { first = record { 0 = c.loop-cell.next }; size = c.count_of-size.result }) c.loop-cell.invariant within
    c.cell-item.is c.as_bytes.ensures
    c.count_of-size.ensures refl (since_ok _ c.insert.result c.in_ok-map_err.ensures.variant c.insert.ensures.updates).0
