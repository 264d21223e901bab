use Rattle.hall_laws.proofs.runs.finished_books_have_no_token_out.Goals as goal
use Rattle.hall_laws.proofs.HallRuns.{finished_books_have_no_token_out}

pub returns : goal.returns
returns c = finished_books_have_no_token_out
