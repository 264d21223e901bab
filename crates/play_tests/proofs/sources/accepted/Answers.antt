use Rattle.std.proofs.Common.{◌≤◌, subst, sym}
use Rattle.language_laws.proofs.SpellablePrograms.{spelled_is_spellable}
use Rattle.pipe_model.specs.declared.tree.Program.{Program}
use Rattle.pipe_model.specs.Language.CheckingRules.{BreaksNoRule}
use Rattle.pipe_model.specs.Language.SpellablePrograms.{size_of}
use Rattle.pipe_model.specs.Language.SyntaxTree.{tree_of}
use Rattle.wave_laws.proofs.SmallPrograms.{spelled_programs_are_small}
use Rattle.wave_laws.specs.WaveLaws.{LARGEST_WAVE}
use Rattle.play_tests.proofs.sources.accepted.Goals as goal

pub check-requires : goal.check-requires
check-requires c =
    record {
      spellable = spelled_is_spellable _ _
          (record { tokens = _; lexed = c.in-Ok.ensures.tokens; spelled = c.in-Ok-parse.ensures.program });
    }

pub returns-clause-obeys : goal.returns-clause-obeys
returns-clause-obeys c =
    let ensured = c.in-Ok-check.ensures in
    subst (λ (p : Program). BreaksNoRule (tree_of p)) (sym ensured.program) (record { obeys = ensured.ok })

pub returns-clause-small : goal.returns-clause-small
returns-clause-small c =
    let small = spelled_programs_are_small _ _
    (record { tokens = _; lexed = c.in-Ok.ensures.tokens; spelled = c.in-Ok-parse.ensures.program }) in
    subst (λ (p : Program). size_of (tree_of p) ≤ LARGEST_WAVE) (sym c.in-Ok-check.ensures.program) small
