use Rattle.std.proofs.Common.{◌∙◌}
use Rattle.command_results.proofs.BenchLaws.{input_is_read, is_generated, source_is_accepted}
use Rattle.command_results.proofs.bench.generated_program.Goals as goal

pub unreachable-requires : goal.unreachable-requires
unreachable-requires c =
    source_is_accepted c.args.size _ c.in_ok-program.field-0 c.requires.size.0 c.requires.size.1
    (c.as_slice.ensures ∙ c.in_ok-generated.ensures.source)
    c.in_ok-program.ensures (λ checked places is. c.in_default.not-Accepted checked places is)

pub unreachable-requires-in_default-2 : goal.unreachable-requires-in_default-2
unreachable-requires-in_default-2 c =
    input_is_read c.args.seed c.args.size _ c.in_ok-numbers.field-0 c.requires.size.1
    (c.as_slice-2.ensures ∙ c.in_ok-generated.ensures.input)
    c.in_ok-numbers.ensures (λ numbers is. c.in_default-2.not-Accepted numbers is)

pub returns : goal.returns
returns c =
    is_generated c.args.seed c.args.size _ _ c.in-Accepted.program _ c.in-Accepted-2.numbers
    (c.as_slice.ensures ∙ c.in_ok-generated.ensures.source)
    (c.as_slice-2.ensures ∙ c.in_ok-generated.ensures.input) (rw c.in-Accepted.is at c.in_ok-program.ensures)
    (rw c.in-Accepted-2.is at c.in_ok-numbers.ensures)
