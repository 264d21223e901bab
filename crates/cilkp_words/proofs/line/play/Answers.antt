use Rattle.cilkp_words.proofs.line.play.Goals as goal

pub returns-clause-shape : goal.returns-clause-shape
returns-clause-shape c =
    let limits = c.with_limits-command.ensures.shape _ (c.with_files-command.ensures.shape _ c.named.ensures.shape) in
    c.with.ensures.shape _ _ (c.with-command.ensures.shape _ _ limits c.option.ensures.rule) c.flag.ensures.rule
