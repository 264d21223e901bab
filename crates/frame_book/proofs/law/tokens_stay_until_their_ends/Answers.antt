use Rattle.frame_book.proofs.StartedInstances.OtherTokens.{tokens_stay_until_their_ends}
use Rattle.frame_book.proofs.law.tokens_stay_until_their_ends.Goals as goal

pub returns : goal.returns
returns c = tokens_stay_until_their_ends
