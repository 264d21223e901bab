-- Columns that are made only if they are needed: if not, nothing depends on them.
use Rattle.std.proofs.Common.{◌≡◌, ◌∙◌, refl, sym, ap, arith, ℕ, suc, ◌+◌, List, [], ◌∷◌, Bool, true, false, cond}
use Rattle.std.proofs.Common.{All, map, Option, None, Some, subst}
use Rattle.access_history.specs.declared.history.Found.{Found}
use Rattle.pipe_model.specs.declared.access.CellId.{CellId}
use Rattle.pipe_model.specs.declared.column.Column.{Column}
use Rattle.pipe_model.specs.declared.column.ColumnEnd.{ColumnEnd}
use Rattle.pipe_model.specs.declared.column.ColumnEnd.TheVariants.{Closed, End, Trapped}
use Rattle.pipe_model.specs.declared.trap.TrapAt.{TrapAt}
use Rattle.pipe_model.specs.declared.trap.TrapPlace.{TrapPlace}
use Rattle.pipe_model.specs.Pipelines.ElisionResults.{first_of_both}
use Rattle.pipe_model.specs.Pipelines.WholePrograms.{part_trap}
use Rattle.pipe_model.specs.Races.Columns.{node_columns}
use Rattle.program_ends.proofs.RunColumns.{HasSmallColumns}
use Rattle.race_report.specs.RaceReports.{IsFoundIn, report_found}
use Rattle.run_record.specs.TrappedEvents.{IsUntrapped}
use Rattle.serial_elision.specs.ColumnTraps.{last_place, least_trap}

none_small : HasSmallColumns []
none_small = record {
  count = omega arith;
  some = λ k d l. absurd (omega (arith, l));
  bounded = λ k d l. absurd (omega (arith, l));
}

pub small_if : (needed : Bool) (full : List Column) → HasSmallColumns full → HasSmallColumns (cond needed full [])
small_if true full h = h
small_if false full h = none_small

-- the instances of what was found are in the columns
pub found_if : (needed : Bool) (full : List Column) (fs : List (CellId × Found)) → (needed ≡ false → fs ≡ [])
    → All (λ (f : CellId × Found). IsFoundIn (node_columns full) f.1) fs
    → All (λ (f : CellId × Found). IsFoundIn (node_columns (cond needed full [])) f.1) fs
found_if true full fs none h = h
found_if false full fs none h =
    subst (λ (l : List (CellId × Found)). All (λ (f : CellId × Found). IsFoundIn (node_columns []) f.1) l) (sym (none refl))
    (λ k d l. absurd (omega (arith, l)))

-- the reports are the same
pub reports_if : (needed : Bool) (full : List Column) (fs : List (CellId × Found)) → (needed ≡ false → fs ≡ [])
    → map (λ (f : CellId × Found). report_found (node_columns (cond needed full [])) f.0 f.1) fs
    ≡ map (λ (f : CellId × Found). report_found (node_columns full) f.0 f.1) fs
reports_if true full fs none = refl
reports_if false full fs none =
    ap (map (λ (f : CellId × Found). report_found (node_columns []) f.0 f.1)) (none refl)
    ∙ sym (ap (map (λ (f : CellId × Found). report_found (node_columns full) f.0 f.1)) (none refl))

untrapped : (place : TrapPlace) (end : Option ColumnEnd) → IsUntrapped end → part_trap place end ≡ None
untrapped place None h = refl
untrapped place (Some End) h = refl
untrapped place (Some Closed) h = refl
untrapped place (Some (Trapped t)) h = absurd (let z : true ≡ false = h in cc)

none_trapped : (i : ℕ) (columns : List Column) → All (λ (c : Column). IsUntrapped c.end) columns → least_trap i columns ≡ None
none_trapped i [] h = refl
none_trapped i (c ∷ rest) h =
    ap (λ (t : Option TrapAt). first_of_both t (least_trap (i + 1) rest)) (untrapped (last_place i c) c.end (h 0 c (omega arith)))
    ∙ none_trapped (i + 1) rest (λ k d l. h (suc k) d (omega (arith, l)))

-- the trap is the same
pub trap_if : (needed : Bool) (full : List Column) → (needed ≡ false → All (λ (c : Column). IsUntrapped c.end) full)
    → least_trap 0 (cond needed full []) ≡ least_trap 0 full
trap_if true full h = refl
trap_if false full h = sym (none_trapped 0 full (h refl))
