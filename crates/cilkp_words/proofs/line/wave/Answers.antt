use Rattle.cilkp_words.proofs.line.wave.Goals as goal

pub returns-clause-shape : goal.returns-clause-shape
returns-clause-shape c = c.with_limits.ensures.shape _ (c.with_files-command.ensures.shape _ c.named.ensures.shape)
