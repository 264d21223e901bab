use Rattle.cilkp_words.proofs.line.check_record.Goals as goal

pub returns-clause-shape : goal.returns-clause-shape
returns-clause-shape c =
    let files = c.with_files-command.ensures.shape _ c.named.ensures.shape in
    c.with.ensures.shape _ _ (c.with-command.ensures.shape _ _ files c.file.ensures.rule) c.option.ensures.rule
