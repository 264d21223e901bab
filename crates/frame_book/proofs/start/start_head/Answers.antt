use Rattle.frame_book.proofs.start.start_head.Goals as goal

pub insert_head-marks-requires-clause-there : goal.insert_head-marks-requires-clause-there
insert_head-marks-requires-clause-there g c = c.requires.there
