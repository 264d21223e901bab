use Rattle.std.proofs.Common.{◌≡◌, ◌++◌, drop}
use Rattle.pipe_model.specs.Language.MarkPlaces.{mark_places}
use Rattle.pipe_parser.proofs.parse.places_of_marks.Given as goal

abbrev pub invariant-loop-token : goal.invariant-loop-token
invariant-loop-token l = l.places ++ mark_places (drop l.token-index l.tokens) ≡ mark_places l.tokens
