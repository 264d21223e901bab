use Rattle.std.proofs.Common.{◌∙◌, ◌++◌, ap, sym}
use Rattle.race_report.specs.CellNames.{element_index}
use Rattle.record_parser.proofs.Options.{some_map}
use Rattle.record_parser.proofs.Prefixes.{has_prefix, no_prefix}
use Rattle.record_parser.proofs.names.element_field.Goals as goal

pub returns-in_default-clause-none : goal.returns-in_default-clause-none
returns-in_default-clause-none c = λ k l e.
    no_prefix c.args.bytes.now c.as_bytes.result.now c.in_default.ensures.cases (element_index c.args.declaration.now.size k)
    (e ∙ ap (λ n. n ++ element_index c.args.declaration.now.size k) (sym c.as_bytes.ensures))

pub returns-clause-some : goal.returns-clause-some
returns-clause-some c =
    some_map c.index_field.result c.index_field.ensures.some (λ k e.
    has_prefix c.args.bytes.now c.as_bytes.result.now c.in-Some.after c.in-Some.ensures.cases
    ∙ ap (λ n. n ++ c.in-Some.after.now) c.as_bytes.ensures ∙ ap (λ r. c.args.declaration.now.name ++ r) e)
