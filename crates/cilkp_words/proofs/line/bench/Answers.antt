use Rattle.cilkp_words.proofs.line.bench.Goals as goal

pub returns-clause-shape : goal.returns-clause-shape
returns-clause-shape c =
    let seed = c.with-command.ensures.shape _ _ c.named.ensures.shape c.option.ensures.rule in
    c.with.ensures.shape _ _ seed c.option-2.ensures.rule
