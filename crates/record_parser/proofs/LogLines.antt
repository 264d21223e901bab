-- The line of an event is its word and its fields.
use Rattle.std.proofs.Common.{◌≡◌, ◌∙◌, ap, sym, refl, arith, inl, inr, ℕ, List, [], ◌∷◌, ◌++◌, length, if◌then◌else◌}
use Rattle.std.specs.Prelude.{◌⊎◌, codes}
use Rattle.std.specs.Fmt.{decimal, signed_decimal}
use Rattle.std.specs.Str.{bytes_eq}
use Rattle.std.proofs.lemmas.List.{append_cancel_right, length-append}
use mathlib.Core.List.{append_assoc}
use Rattle.pipe_model.specs.declared.access.AccessKind.TheVariants as kinds
use Rattle.pipe_model.specs.declared.column.ColumnEnd.TheVariants as ends
use Rattle.pipe_model.specs.declared.event.Event.{Event}
use Rattle.pipe_model.specs.declared.event.Event.TheVariants as events
use Rattle.pipe_model.specs.declared.node.Kind.TheVariants as node_kinds
use Rattle.pipe_model.specs.declared.tree.Declaration.{Declaration}
use Rattle.pipe_model.specs.declared.tree.StageKind.TheVariants as stages
use Rattle.pipe_model.specs.Texts.{kind_text, trap_name}
use Rattle.race_report.specs.CellNames.{cell_name}
use Rattle.record_parser.specs.LogForms.{Accesses, Advances, Begins, Closes, Ends, Enters, HasFields, Traps, space, word_text}
use Rattle.record_parser.specs.RecordLines.{IsLogLine, line_feed}
use Rattle.record_parser.specs.declared.log_word.LogWord.{LogWord}
use Rattle.record_parser.specs.declared.log_word.LogWord.TheVariants as words

-- ---- words

abbrev word_of : List ℕ → LogWord
word_of bs =
    if bytes_eq bs (codes "begin") then words.Begin else (if bytes_eq bs (codes "enter") then words.Enter else (
    if bytes_eq bs (codes "end") then words.End else (if bytes_eq bs (codes "closed") then words.Closed else (
    if bytes_eq bs (codes "read") then words.Access kinds.Read else (if bytes_eq bs (codes "write") then words.Access kinds.Write else (
    if bytes_eq bs (codes "wait") then words.Stage stages.Wait
    else (if bytes_eq bs (codes "continue") then words.Stage stages.Continue else words.Trap)))))))

word_back : (w : LogWord) → word_of (word_text w) ≡ w
word_back words.Begin = refl
word_back words.Enter = refl
word_back words.End = refl
word_back words.Closed = refl
word_back words.Trap = refl
word_back (words.Access kinds.Read) = refl
word_back (words.Access kinds.Write) = refl
word_back (words.Stage stages.Wait) = refl
word_back (words.Stage stages.Continue) = refl

pub one_word : (v w : LogWord) → word_text v ≡ word_text w → v ≡ w
one_word v w e = sym (word_back v) ∙ ap word_of e ∙ word_back w

-- ---- from a word and fields to the line

line_text : (word fields line rest : List ℕ) → line ≡ word ++ space ∷ fields → fields ++ line_feed ∷ [] ≡ rest
    → line ++ line_feed ∷ [] ≡ word ++ space ∷ rest
line_text word fields line rest e f =
    ap (λ l. l ++ line_feed ∷ []) e ∙ append_assoc word (space ∷ fields) (line_feed ∷ []) ∙ ap (λ r. word ++ space ∷ r) f

-- two fields and a line feed
two_fields : (first second : List ℕ) → (first ++ space ∷ second) ++ line_feed ∷ [] ≡ first ++ space ∷ (second ++ line_feed ∷ [])
two_fields first second = append_assoc first (space ∷ second) (line_feed ∷ [])

-- three fields and a line feed
three_fields : (first second third : List ℕ) → (first ++ space ∷ (second ++ space ∷ third)) ++ line_feed ∷ [] ≡ first
    ++ space ∷ (second ++ space ∷ (third ++ line_feed ∷ []))
three_fields first second third = two_fields first (second ++ space ∷ third) ∙ ap (λ r. first ++ space ∷ r) (two_fields second third)

with_feed : (fields text rest : List ℕ) → fields ≡ text → text ++ line_feed ∷ [] ≡ rest → fields ++ line_feed ∷ [] ≡ rest
with_feed fields text rest e f = ap (λ l. l ++ line_feed ∷ []) e ∙ f

pub line_of_fields : (cells : List Declaration) (fields line : List ℕ) (w : LogWord) (e : Event) → HasFields cells fields w e
    → line ≡ word_text w ++ space ∷ fields
    → IsLogLine cells line e
line_of_fields cells fields line w e (Begins i r f) l =
    record { text = line_text (codes "begin") fields line _ l (with_feed fields (decimal i) _ f refl); ranges = r }
line_of_fields cells fields line w e (Enters i r f) l =
    record { text = line_text (codes "enter") fields line _ l (with_feed fields (decimal i) _ f refl); ranges = r }
line_of_fields cells fields line w e (Ends i r f) l =
    record { text = line_text (codes "end") fields line _ l (with_feed fields (decimal i) _ f refl); ranges = r }
line_of_fields cells fields line w e (Closes i r f) l =
    record { text = line_text (codes "closed") fields line _ l (with_feed fields (decimal i) _ f refl); ranges = r }
line_of_fields cells fields line w e (Traps i t h) l = record {
  text = line_text (codes "trap") fields line _ l (with_feed fields (decimal i ++ space ∷ trap_name t) _ h.1
      (two_fields (decimal i) (trap_name t)));
  ranges = h.0;
}
line_of_fields cells fields line w e (Accesses kind i c v h) l = record {
  text = line_text (kind_text kind) fields line _ l (with_feed fields
      (decimal i ++ space ∷ (cell_name cells c ++ space ∷ signed_decimal v)) _ h.1.1.1
      (three_fields (decimal i) (cell_name cells c) (signed_decimal v)));
  ranges = (h.0, (h.1.0, h.1.1.0));
}
line_of_fields cells fields line w e (Advances stages.Wait i n h) l = record {
  text = line_text (codes "wait") fields line _ l (with_feed fields (decimal i ++ space ∷ signed_decimal n) _ h.1.1
      (two_fields (decimal i) (signed_decimal n)));
  ranges = (h.0, h.1.0);
}
line_of_fields cells fields line w e (Advances stages.Continue i n h) l = record {
  text = line_text (codes "continue") fields line _ l
      (with_feed fields (decimal i ++ space ∷ signed_decimal n) _ h.1.1 (two_fields (decimal i) (signed_decimal n)));
  ranges = (h.0, h.1.0);
}

-- ---- from the line to its word and fields

pub record Divided (cells : List Declaration) (line : List ℕ) (e : Event) : Type 0 where
  pub word : LogWord
  pub fields : List ℕ
  pub text : line ≡ word_text word ++ space ∷ fields
  pub has : HasFields cells fields word e

without_feed : (word fields line rest : List ℕ) → fields ++ line_feed ∷ [] ≡ rest → line ++ line_feed ∷ [] ≡ word ++ space ∷ rest
    → line ≡ word ++ space ∷ fields
without_feed word fields line rest f e =
    append_cancel_right line (word ++ space ∷ fields) (line_feed ∷ [])
    (e ∙ sym (line_text word fields (word ++ space ∷ fields) rest refl f))

no_line : (line : List ℕ) → line ++ line_feed ∷ [] ≡ [] → ⊥
no_line line e = let a = ap length e in omega (arith, a, length-append line (line_feed ∷ []))

pub divided : (cells : List Declaration) (line : List ℕ) (e : Event) → IsLogLine cells line e
    → ((e ≡ events.Stop) × (line ≡ codes "stop")) ⊎ Divided cells line e
divided cells line (events.Begin i) h = inr (record {
  word = words.Begin;
  fields = decimal i;
  text = without_feed (codes "begin") (decimal i) line _ refl h.text;
  has = Begins i h.ranges refl;
})
divided cells line (events.Access i a) h = inr (record {
  word = words.Access a.kind;
  fields = decimal i ++ space ∷ (cell_name cells a.cell.0 ++ space ∷ signed_decimal a.value);
  text = without_feed (kind_text a.kind) (decimal i ++ space ∷ (cell_name cells a.cell.0 ++ space ∷ signed_decimal a.value)) line _
      (three_fields (decimal i) (cell_name cells a.cell.0) (signed_decimal a.value)) h.text;
  has = Accesses a.kind i a.cell.0 a.value (h.ranges.0, (h.ranges.1.0, (h.ranges.1.1, refl)));
})
divided cells line (events.Advance i node_kinds.Zero n) h = absurd (no_line line h.text)
divided cells line (events.Advance i node_kinds.Wait n) h = inr (record {
  word = words.Stage stages.Wait;
  fields = decimal i ++ space ∷ signed_decimal n;
  text = without_feed (codes "wait") (decimal i ++ space ∷ signed_decimal n) line _ (two_fields (decimal i) (signed_decimal n)) h.text;
  has = Advances stages.Wait i n (h.ranges.0, (h.ranges.1, refl));
})
divided cells line (events.Advance i node_kinds.Continue n) h = inr (record {
  word = words.Stage stages.Continue;
  fields = decimal i ++ space ∷ signed_decimal n;
  text = without_feed (codes "continue") (decimal i ++ space ∷ signed_decimal n) line _ (two_fields (decimal i) (signed_decimal n)) h.text;
  has = Advances stages.Continue i n (h.ranges.0, (h.ranges.1, refl));
})
divided cells line (events.Enter i) h = inr (record {
  word = words.Enter;
  fields = decimal i;
  text = without_feed (codes "enter") (decimal i) line _ refl h.text;
  has = Enters i h.ranges refl;
})
divided cells line (events.Finish i ends.End) h = inr (record {
  word = words.End;
  fields = decimal i;
  text = without_feed (codes "end") (decimal i) line _ refl h.text;
  has = Ends i h.ranges refl;
})
divided cells line (events.Finish i ends.Closed) h = inr (record {
  word = words.Closed;
  fields = decimal i;
  text = without_feed (codes "closed") (decimal i) line _ refl h.text;
  has = Closes i h.ranges refl;
})
divided cells line (events.Finish i (ends.Trapped t)) h = inr (record {
  word = words.Trap;
  fields = decimal i ++ space ∷ trap_name t;
  text = without_feed (codes "trap") (decimal i ++ space ∷ trap_name t) line _ (two_fields (decimal i) (trap_name t)) h.text;
  has = Traps i t (h.ranges, refl);
})
divided cells line events.Stop h = inl (refl, append_cancel_right line (codes "stop") (line_feed ∷ []) h.text)
