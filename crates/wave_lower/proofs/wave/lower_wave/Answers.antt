use Rattle.std.proofs.Common.{sym, subst}
use Rattle.pipe_model.specs.Language.CheckingRules.{BreaksNoRule}
use Rattle.pipe_model.specs.Language.SpellablePrograms.{IsSpellable}
use Rattle.pipe_model.specs.Language.SyntaxTree.{tree_of}
use Rattle.wave_laws.specs.WaveLaws.{IsTheGrid}
use Rattle.wave_laws.proofs.LoweredMarks.{lowered_waves_break_no_rule}
use Rattle.wave_laws.proofs.LoweredSizes.{lowered_waves_are_spellable}
use Rattle.wave_laws.proofs.Faultless.{faultless_programs_are_waves}
use Rattle.wave_laws.proofs.Grids.{lowered_waves_are_grids}
use Rattle.wave_lower.proofs.wave.lower_wave.Goals as goal

pub lower-requires-clause-wave : goal.lower-requires-clause-wave
lower-requires-clause-wave c = faultless_programs_are_waves (tree_of c.args.program.now) c.in_ok-check_wave.ensures.ok

pub returns-clause-grid : goal.returns-clause-grid
returns-clause-grid c =
    let tree = tree_of c.args.program.now in
    let wave = faultless_programs_are_waves tree c.in_ok-check_wave.ensures.ok in
    λ input. subst (λ p. IsTheGrid p tree input) (sym c.in_ok-lower.ensures) (lowered_waves_are_grids tree input wave c.requires.obeys)

pub returns-clause-obeys : goal.returns-clause-obeys
returns-clause-obeys c =
    let tree = tree_of c.args.program.now in
    let wave = faultless_programs_are_waves tree c.in_ok-check_wave.ensures.ok in
    subst BreaksNoRule (sym c.in_ok-lower.ensures) (lowered_waves_break_no_rule tree wave c.requires.obeys)

pub returns-clause-spellable : goal.returns-clause-spellable
returns-clause-spellable c =
    let tree = tree_of c.args.program.now in
    let wave = faultless_programs_are_waves tree c.in_ok-check_wave.ensures.ok in
    subst IsSpellable (sym c.in_ok-lower.ensures) (lowered_waves_are_spellable tree wave c.requires.spellable c.requires.small)
