-- The arguments that several commands have, as plain data.
use Rattle.std.specs.Prelude.{ℕ}
use Rattle.clap.specs.Walk.{Text}
use Rattle.cilkp_words.specs.declared.words.RunWords.{RunWords}

-- the names of the files, how many workers, and how many iterations are alive
abbrev pub run_words_data : RunWords → (Text × Text) × (ℕ × ℕ)
run_words_data w = ((w.source.now, w.input.now), (w.workers, w.throttle))
