use Rattle.std.proofs.Common.{◌≡◌, ◌∙◌, ◌++◌, ap, sym, inl, inr, true, false}
use Rattle.std.specs.Prelude.{codes}
use Rattle.record_parser.specs.LogForms.{space, word_text}
use Rattle.record_parser.proofs.Divisions.{never_divided}
use Rattle.record_parser.proofs.LogLines.{divided}
use Rattle.record_parser.proofs.log_line.event_of_word.Goals as goal

pub returns-then-is_stop-clause-some : goal.returns-then-is_stop-clause-some
returns-then-is_stop-clause-some c = record {
  text = ap (λ l. l ++ codes "\n") (c.is_stop.ensures.0 c.if-is_stop.true);
  ranges = tt;
}

pub returns-clause-none : goal.returns-clause-none
returns-clause-none c = λ e h. elim (divided c.args.cells.now c.args.line.now e h) [
  | inl s ↦ (let z : true ≡ false = sym (c.is_stop.ensures.1 s.1) ∙ c.if-is_stop.false in absurd (cc))
  | inr d ↦ never_divided space c.args.line.now (word_text d.word) d.fields c.requires.word d.text
]
