use Rattle.std.proofs.Common.{◌≡◌, ◌∙◌, sym, refl}
use Rattle.std.specs.Prelude.{Bool, true, false, ◌&&◌}
use Rattle.std.specs.Str.{bytes_eq}
use Rattle.pipe_model.specs.Language.SyntaxTree.{expression_of}
use Rattle.wave_laws.specs.Waves.WaveLoops.{row}
use Rattle.wave_lower.proofs.Finds.{after_one}
use Rattle.wave_lower.proofs.search.find_in_assign.Goals as goal
use Rattle.wave_lower.proofs.search.find_in_assign.Goals.{else-target-via-then-target+else-is_row, else-target-via-else-target}

not_first : (b d : Bool) → b ≡ false → (b && d) ≡ false
not_first b d h = rw h refl

not_second : (b d : Bool) → d ≡ false → (b && d) ≡ false
not_second true d h = h
not_second false d h = refl

pub returns : goal.returns
returns c =
    let name = c.args.name.now in
    let apart : (c.args.target && bytes_eq row name) ≡ false = elim c.else-target.branch [
      | else-target-via-then-target+else-is_row w ↦ not_second c.args.target (bytes_eq row name) (sym w.is_row.ensures ∙ w.if-is_row.false)
      | else-target-via-else-target w ↦ not_first c.args.target (bytes_eq row name) w.if-target.false
    ] in
    after_one (c.args.target && bytes_eq row name) c.args.next c.after_expression.result
    (expression_of c.args.e.now) apart c.after_expression.ensures
