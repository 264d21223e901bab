use Rattle.std.proofs.Common.{◌∙◌, ◌++◌, ◌∷◌, ap, sym, subst, inl, inr, refl}
use Rattle.std.specs.Prelude.{codes}
use Rattle.record_parser.specs.LogForms.{HasFields, space, word_text}
use Rattle.record_parser.proofs.Divisions.{at_first, never_divided}
use Rattle.record_parser.proofs.FreeFields.{free_by_test, word_free}
use Rattle.record_parser.proofs.LogLines.{divided, line_of_fields, one_word}
use Rattle.record_parser.proofs.Options.{none_map, some_map}
use Rattle.record_parser.proofs.log_line.event_of_line.Goals as goal

pub returns-in_default-log_word-clause-none : goal.returns-in_default-log_word-clause-none
returns-in_default-log_word-clause-none c = λ e h. elim (divided c.args.cells.now c.args.line.now e h) [
  | inl s ↦ never_divided space (codes "stop") c.in-Some.first.now c.in-Some.fields.now (free_by_test space (codes "stop") refl)
      (sym s.1 ∙ c.in-Some.ensures.parts)
  | inr d ↦ (
      let parts = at_first space c.args.line.now c.in-Some.first.now c.in-Some.fields.now (word_text d.word) d.fields
      c.in-Some.ensures.parts c.in-Some.ensures.first d.text (word_free space d.word refl) in
      c.in_default-log_word.ensures.none d.word parts.0)
]

pub returns-clause-some : goal.returns-clause-some
returns-clause-some c =
    some_map c.event_of.result c.event_of.ensures.some (λ e h.
    line_of_fields c.args.cells.now c.in-Some.fields.now c.args.line.now c.in-Some-log_word.word e h
    (c.in-Some.ensures.parts ∙ ap (λ w. w ++ space ∷ c.in-Some.fields.now) c.in-Some-log_word.ensures.some))

pub returns-clause-none : goal.returns-clause-none
returns-clause-none c =
    none_map c.event_of.result c.event_of.ensures.none (λ none e h. elim (divided c.args.cells.now c.args.line.now e h) [
      | inl s ↦ never_divided space (codes "stop") c.in-Some.first.now c.in-Some.fields.now (free_by_test space (codes "stop") refl)
          (sym s.1 ∙ c.in-Some.ensures.parts)
      | inr d ↦ (
          let parts = at_first space c.args.line.now c.in-Some.first.now c.in-Some.fields.now (word_text d.word) d.fields
          c.in-Some.ensures.parts c.in-Some.ensures.first d.text (word_free space d.word refl) in
          let word = one_word d.word c.in-Some-log_word.word (sym parts.0 ∙ c.in-Some-log_word.ensures.some) in
          none e (subst (λ w. HasFields c.args.cells.now c.in-Some.fields.now w e) word
          (subst (λ f. HasFields c.args.cells.now f d.word e) (sym parts.1) d.has)))
    ])
