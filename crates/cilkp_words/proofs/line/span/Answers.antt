use Rattle.cilkp_words.proofs.line.span.Goals as goal

pub returns-clause-shape : goal.returns-clause-shape
returns-clause-shape c = c.with_files.ensures.shape _ c.named.ensures.shape
