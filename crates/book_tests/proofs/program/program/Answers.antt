use Rattle.std.proofs.Common.{refl, w64, rules}
use Rattle.std.proofs.lemmas.Int.{to_z_pos}
use Rattle.book_tests.proofs.program.program.Goals as goal

pub returns : goal.returns
returns c =
    simp (
      to_z_pos w64 c.args.source.iterations (search rules),
      to_z_pos w64 c.args.source.stages (search rules),
      c.new.ensures,
      c.new-2.ensures.items,
      c.new-3.ensures.items,
      c.in_ok-test.ensures,
      c.in_ok-body.ensures,
    ) refl
