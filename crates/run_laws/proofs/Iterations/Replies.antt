-- Accesses that have the replies of the cells.
use Rattle.std.proofs.Common.{List, [], ◌∷◌, ◌++◌}
use Rattle.pipe_model.specs.declared.access.Access.{Access}
use Rattle.pipe_model.specs.Pipelines.Pipeline.{Pipeline}
use Rattle.pipe_model.specs.Pipelines.Store.{HasReply}

-- each read has the value of its cell at the time of the read
abbrev pub AllHaveReplies : Pipeline → List Access → List Access → Type 0
AllHaveReplies p before [] = Unit {0}
AllHaveReplies p before (a ∷ rest) = HasReply p.store before a × AllHaveReplies p (before ++ a ∷ []) rest
