use Rattle.cilkp_words.proofs.line.with_files.Goals as goal

pub returns-clause-shape : goal.returns-clause-shape
returns-clause-shape c = λ s h. c.with.ensures.shape _ _ (c.with-command.ensures.shape s _ h c.file.ensures.rule) c.file-2.ensures.rule
