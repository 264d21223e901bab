use Rattle.cilkp_words.proofs.line.run.Goals as goal

pub returns-clause-shape : goal.returns-clause-shape
returns-clause-shape c =
    let files = c.with_files-command.ensures.shape _ c.named.ensures.shape in
    c.with.ensures.shape _ _ (c.with_limits-command.ensures.shape _ files) c.flag.ensures.rule
