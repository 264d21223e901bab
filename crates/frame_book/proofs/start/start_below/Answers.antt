use Rattle.frame_book.proofs.start.start_below.Goals as goal

pub insert_below-marks-requires-clause-left : goal.insert_below-marks-requires-clause-left
insert_below-marks-requires-clause-left g c = c.requires.left
