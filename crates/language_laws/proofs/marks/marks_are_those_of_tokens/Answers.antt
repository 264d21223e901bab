use Rattle.language_laws.proofs.MarkedTokens.{marks_have_places, source_marks}
use Rattle.language_laws.proofs.marks.marks_are_those_of_tokens.Goals as goal

pub returns-clause-as_many : goal.returns-clause-as_many
returns-clause-as_many c = marks_have_places

pub returns-clause-one_by_one : goal.returns-clause-one_by_one
returns-clause-one_by_one c = source_marks
