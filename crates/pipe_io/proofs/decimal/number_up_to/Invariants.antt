use Rattle.std.proofs.Common.{◌≡◌, ◌≤◌, take}
use Rattle.pipe_model.specs.Language.Lexis.{number_of}
use Rattle.pipe_io.proofs.decimal.number_up_to.Given as goal

abbrev pub invariant-loop-digit : goal.invariant-loop-digit
invariant-loop-digit l = record {
  so_far : l.value ≡ number_of (take l.digit-index l.digits);
  fits : l.value ≤ l.most;
}
