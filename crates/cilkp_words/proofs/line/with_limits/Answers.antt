use Rattle.cilkp_words.proofs.line.with_limits.Goals as goal

pub returns-clause-shape : goal.returns-clause-shape
returns-clause-shape c = λ s h. c.with.ensures.shape _ _ (c.with-command.ensures.shape s _ h c.option.ensures.rule) c.option-2.ensures.rule
