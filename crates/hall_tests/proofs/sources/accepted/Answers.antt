use Rattle.std.proofs.Common.{subst, sym}
use Rattle.language_laws.proofs.SpellablePrograms.{spelled_is_spellable}
use Rattle.pipe_model.specs.declared.tree.Program.{Program}
use Rattle.pipe_model.specs.Language.CheckingRules.{BreaksNoRule}
use Rattle.pipe_model.specs.Language.SyntaxTree.{tree_of}
use Rattle.hall_tests.proofs.sources.accepted.Goals as goal

pub check-requires : goal.check-requires
check-requires c =
    record {
      spellable = spelled_is_spellable _ _ (record {
        tokens = _;
        lexed = c.in-Ok.ensures.tokens;
        spelled =
            c.in-Ok-parse.ensures.program;
      });
    }

pub returns : goal.returns
returns c =
    let ensured = c.in-Ok-check.ensures in
    subst (λ (p : Program). BreaksNoRule (tree_of p)) (sym ensured.program) (record { obeys = ensured.ok })
