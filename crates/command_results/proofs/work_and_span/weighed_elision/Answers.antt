use Rattle.pipe_model.specs.Language.SyntaxTree.{tree_of}
use Rattle.command_results.proofs.SpanLaws.{weighed_text}
use Rattle.command_results.proofs.work_and_span.weighed_elision.Goals as goal

pub weigh-requires : goal.weigh-requires
weigh-requires c = record {
  code = record {
    accepted = c.requires.obeys;
    limits = c.in_ok-code.ensures.limits;
    runs =
        c.in_ok-code.ensures.runs;
  };
}

pub returns : goal.returns
returns c =
    weighed_text (tree_of c.args.checked.now) c.args.input.now _ _ _ _ c.in_ok-weighed.ensures.elision c.in_ok-weighed.ensures.counted
    c.in_ok-found.ensures c.span_bytes.ensures
