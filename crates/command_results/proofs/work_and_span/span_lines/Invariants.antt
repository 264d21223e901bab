use Rattle.std.proofs.Common.{◌≡◌, ◌++◌, codes, string_bytes, take}
use Rattle.std.specs.Fmt.{signed_decimal}
use Rattle.std.specs.List.{flat_map}
use Rattle.command_results.specs.SpanResults.{instance_line}
use Rattle.command_results.proofs.work_and_span.span_lines.Given as goal
use Rattle.pipe_model.specs.Races.Columns.{node_columns}

abbrev pub invariant-loop-x : goal.invariant-loop-x
invariant-loop-x l = string_bytes l.text ≡ codes "work " ++ (signed_decimal l.found.work ++ (codes "\nspan " ++ (signed_decimal l.found.span
    ++ (codes "\n" ++ flat_map (instance_line (node_columns l.columns)) (take l.x-index l.found.path)))))
