use Rattle.std.proofs.Common.{◌≡◌, string_bytes, take}
use Rattle.pipe_model.specs.Texts.{output_lines}
use Rattle.race_report.proofs.outcome.number_lines.Given as goal

abbrev pub invariant-loop-number : goal.invariant-loop-number
invariant-loop-number l = string_bytes l.text ≡ output_lines (take l.number-index l.output)
