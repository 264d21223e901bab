use Rattle.cilkp_words.proofs.line.format.Goals as goal

pub returns-clause-shape : goal.returns-clause-shape
returns-clause-shape c = c.with.ensures.shape _ _ c.named.ensures.shape c.file.ensures.rule
