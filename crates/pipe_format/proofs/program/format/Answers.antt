use Rattle.std.proofs.Common.{◌≡◌, arith}
use Rattle.std.proofs.lemmas.Grind.{common_steps}
use Rattle.pipe_model.specs.Language.CanonicalText.{program_text}
use Rattle.pipe_model.specs.Language.SyntaxTree.{tree_of}
use Rattle.pipe_format.proofs.Spelled.{spells_as_sources}
use Rattle.pipe_format.proofs.program.format.Goals as goal

pub returns-clause-spells : goal.returns-clause-spells
returns-clause-spells c =
    let same : c.from_vec.result ≡ program_text (tree_of c.args.program.now) = grind (arith, common_steps) in
    spells_as_sources (tree_of c.args.program.now) c.from_vec.result same
