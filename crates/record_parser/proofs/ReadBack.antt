-- The text of a run log is read as its events, and a record as one list of events.
use Rattle.std.proofs.Common.{◌≡◌, ◌≢◌, ◌∙◌, ap, ap₂, sym, subst, refl, arith, ℕ, zero, suc, ◌<◌, List, [], ◌∷◌, ◌++◌, All, length}
use Rattle.std.specs.Prelude.{codes, slice_index_or}
use Rattle.std.specs.Fmt.{decimal, signed_decimal}
use Rattle.std.specs.Int.{IsInRange}
use Rattle.std.specs.List.{AllZip}
use mathlib.Core.List.{append_assoc}
use Rattle.pipe_model.specs.declared.column.ColumnEnd.TheVariants as ends
use Rattle.pipe_model.specs.declared.event.Event.{Event}
use Rattle.pipe_model.specs.declared.event.Event.TheVariants as events
use Rattle.pipe_model.specs.declared.node.Kind.TheVariants as node_kinds
use Rattle.pipe_model.specs.declared.tree.Declaration.{Declaration}
use Rattle.pipe_model.specs.declared.tree.StageKind.TheVariants as stages
use Rattle.pipe_model.specs.Texts.{trap_name}
use Rattle.race_report.specs.CellNames.{cell_name}
use Rattle.run_record.specs.LogLines.{log_text}
use Rattle.record_parser.specs.ByteDivisions.{IsFreeOf}
use Rattle.record_parser.specs.LogForms.{Accesses, Advances, Begins, Closes, Ends, Enters, HasFields, Traps, space, word_text}
use Rattle.record_parser.specs.ReadingLaws.{HasLine, LogsAreReadAsTheirEvents, LogsHaveNoBadLine, RecordsHaveOneReading}
use Rattle.record_parser.proofs.PlainNames.{HasPlainNames}
use Rattle.record_parser.proofs.SourceNames.{accepted_names}
use Rattle.record_parser.specs.RecordLines.{IsInRanges, IsLogLine, IsOutcomeLine, line_feed, lines_of}
use Rattle.record_parser.specs.declared.log_word.LogWord.{LogWord}
use Rattle.record_parser.specs.declared.log_word.LogWord.TheVariants as words
use Rattle.record_parser.proofs.Divisions.{free_append, free_cons}
use Rattle.record_parser.proofs.FreeFields.{free_by_test, iteration_free, signed_free, trap_free, word_free}
use Rattle.record_parser.proofs.LogLines.{line_of_fields}
use Rattle.record_parser.proofs.OneEvent.{no_outcome, one_event}
use Rattle.record_parser.proofs.TextLines.{line_then}

-- ---- the line of an event

no_digit_feed : IsInRange 48 57 line_feed → ⊥
no_digit_feed r = let low = r.0 in omega (arith, low)

no_sign_feed : 45 ≢ line_feed
no_sign_feed e = omega (arith, e)

no_space_feed : space ≢ line_feed
no_space_feed e = omega (arith, e)

record HasWritten (cells : List Declaration) (e : Event) : Type 0 where
  line : List ℕ
  is : IsLogLine cells line e
  free : IsFreeOf line_feed line

by_fields : (cells : List Declaration) (w : LogWord) (fields : List ℕ) (e : Event) → HasFields cells fields w e → IsFreeOf line_feed fields
    → HasWritten cells e
by_fields cells w fields e h f = record {
  line = word_text w ++ space ∷ fields;
  is = line_of_fields cells fields (word_text w ++ space ∷ fields) w e h refl;
  free = free_append line_feed (word_text w) (space ∷ fields) (word_free line_feed w refl)
      (free_cons line_feed space fields no_space_feed f);
}

-- two fields
two_free : (first second : List ℕ) → IsFreeOf line_feed first → IsFreeOf line_feed second → IsFreeOf line_feed (first ++ space ∷ second)
two_free first second f g = free_append line_feed first (space ∷ second) f (free_cons line_feed space second no_space_feed g)

written : (cells : List Declaration) (e : Event) → HasPlainNames cells → IsInRanges cells e → HasLine e → HasWritten cells e
written cells (events.Begin i) plain r h = by_fields cells words.Begin (decimal i) (events.Begin i) (Begins i r refl)
    (iteration_free line_feed i r no_digit_feed)
written cells (events.Access i a) plain r h =
    let name = cell_name cells a.cell.0 in
    by_fields cells (words.Access a.kind) (decimal i ++ space ∷ (name ++ space ∷ signed_decimal a.value)) (events.Access i a)
    (Accesses a.kind i a.cell.0 a.value (r.0, (r.1.0, (r.1.1, refl))))
    (two_free (decimal i) (name ++ space ∷ signed_decimal a.value) (iteration_free line_feed i r.0 no_digit_feed)
    (two_free name (signed_decimal a.value) (plain.free a.cell.0 r.1.0) (signed_free line_feed a.value r.1.1 no_digit_feed no_sign_feed)))
written cells (events.Advance i node_kinds.Zero n) plain r h = absurd h
written cells (events.Advance i node_kinds.Wait n) plain r h =
    by_fields cells (words.Stage stages.Wait) (decimal i ++ space ∷ signed_decimal n) (events.Advance i node_kinds.Wait n)
    (Advances stages.Wait i n (r.0, (r.1, refl)))
    (two_free (decimal i) (signed_decimal n) (iteration_free line_feed i r.0 no_digit_feed)
    (signed_free line_feed n r.1 no_digit_feed no_sign_feed))
written cells (events.Advance i node_kinds.Continue n) plain r h =
    by_fields cells (words.Stage stages.Continue) (decimal i ++ space ∷ signed_decimal n) (events.Advance i node_kinds.Continue n)
    (Advances stages.Continue i n (r.0, (r.1, refl)))
    (two_free (decimal i) (signed_decimal n) (iteration_free line_feed i r.0 no_digit_feed)
    (signed_free line_feed n r.1 no_digit_feed no_sign_feed))
written cells (events.Enter i) plain r h = by_fields cells words.Enter (decimal i) (events.Enter i) (Enters i r refl)
    (iteration_free line_feed i r no_digit_feed)
written cells (events.Finish i ends.End) plain r h =
    by_fields cells words.End (decimal i) (events.Finish i ends.End) (Ends i r refl) (iteration_free line_feed i r no_digit_feed)
written cells (events.Finish i ends.Closed) plain r h =
    by_fields cells words.Closed (decimal i) (events.Finish i ends.Closed) (Closes i r refl) (iteration_free line_feed i r no_digit_feed)
written cells (events.Finish i (ends.Trapped t)) plain r h =
    by_fields cells words.Trap (decimal i ++ space ∷ trap_name t) (events.Finish i (ends.Trapped t)) (Traps i t (r, refl))
    (two_free (decimal i) (trap_name t) (iteration_free line_feed i r no_digit_feed) (trap_free line_feed t refl))
written cells events.Stop plain r h = record {
  line = codes "stop";
  is = record { text = refl; ranges = tt };
  free =
      free_by_test line_feed (codes "stop") refl;
}

-- ---- the lines of a log

all_head : {A : Type 0} (P : A → Type 0) (x : A) (xs : List A) → All P (x ∷ xs) → P x
all_head P x xs h = h 0 x (omega arith)

all_tail : {A : Type 0} (P : A → Type 0) (x : A) (xs : List A) → All P (x ∷ xs) → All P xs
all_tail P x xs h = λ k d l. h (suc k) d (omega (arith, l))

lines_are : (cells : List Declaration) (es : List Event) → HasPlainNames cells → All (IsInRanges cells) es → All HasLine es
    → AllZip (IsLogLine cells) (lines_of (log_text cells es)) es
lines_are cells [] plain r h = tt
lines_are cells (e ∷ es) plain r h =
    let w = written cells e plain (all_head (IsInRanges cells) e es r) (all_head HasLine e es h) in
    let rest = lines_are cells es plain (all_tail (IsInRanges cells) e es r) (all_tail HasLine e es h) in
    let text : log_text cells (e ∷ es) ≡ w.line ++ line_feed ∷ log_text cells es =
    ap (λ l. l ++ log_text cells es) (sym w.is.text) ∙ append_assoc w.line (line_feed ∷ []) (log_text cells es) in
    subst (λ ls. AllZip (IsLogLine cells) ls (e ∷ es)) (sym (ap lines_of text ∙ line_then w.line (log_text cells es) w.free)) (w.is, rest)

-- ---- what is read

same_events : (cells : List Declaration) (lines : List (List ℕ)) (es others : List Event) → HasPlainNames cells
    → AllZip (IsLogLine cells) lines es
    → AllZip (IsLogLine cells) lines others → others ≡ es
same_events cells [] [] [] plain h g = refl
same_events cells [] [] (o ∷ os) plain h g = absurd g
same_events cells [] (e ∷ es) others plain h g = absurd h
same_events cells (l ∷ ls) [] others plain h g = absurd h
same_events cells (l ∷ ls) (e ∷ es) [] plain h g = absurd g
same_events cells (l ∷ ls) (e ∷ es) (o ∷ os) plain h g =
    ap₂ (λ (x : Event) (xs : List Event). x ∷ xs) (one_event cells l o e plain g.0 h.0) (same_events cells ls es os plain h.1 g.1)

-- no line of a log is passed over
none_passed : (cells : List Declaration) (lines passed log : List (List ℕ)) (es : List Event) → AllZip (IsLogLine cells) lines es
    → lines ≡ passed ++ log
    → All (IsOutcomeLine cells) passed → lines ≡ log
none_passed cells lines [] log es h e o = e
none_passed cells lines (p ∷ ps) log [] h e o = absurd (subst (λ ls. AllZip (IsLogLine cells) ls []) e h)
none_passed cells lines (p ∷ ps) log (x ∷ es) h e o =
    absurd (no_outcome cells p x (subst (λ ls. AllZip (IsLogLine cells) ls (x ∷ es)) e h).0 (all_head (IsOutcomeLine cells) p ps o))

pub logs_are_read_as_their_events : LogsAreReadAsTheirEvents
logs_are_read_as_their_events source tree es others accepted r h read =
    let cells = tree.cells in
    let plain = accepted_names source tree accepted in
    let lines = lines_of (log_text cells es) in
    let zip = lines_are cells es plain r h in
    let same = none_passed cells lines read.passed read.log es zip read.parts read.outcome in
    same_events cells lines es others plain zip (subst (λ ls. AllZip (IsLogLine cells) ls others) (sym same) read.read)

-- the lines after the first
abbrev rest_of : List (List ℕ) → List (List ℕ)
rest_of [] = []
rest_of (l ∷ ls) = ls

one_reading : (cells : List Declaration) (passed others log read : List (List ℕ)) (es fs : List Event) → HasPlainNames cells
    → passed ++ log ≡ others ++ read
    → All (IsOutcomeLine cells) passed → All (IsOutcomeLine cells) others → AllZip (IsLogLine cells) log es
    → AllZip (IsLogLine cells) read fs → es ≡ fs
one_reading cells [] others log read es fs plain e o p h g =
    let same = none_passed cells log others read es h e p in
    sym (same_events cells log es fs plain h (subst (λ ls. AllZip (IsLogLine cells) ls fs) (sym same) g))
one_reading cells (x ∷ xs) [] log read es fs plain e o p h g =
    let same = none_passed cells read (x ∷ xs) log fs g (sym e) o in
    same_events cells read fs es plain g (subst (λ ls. AllZip (IsLogLine cells) ls es) (sym same) h)
one_reading cells (x ∷ xs) (y ∷ ys) log read es fs plain e o p h g =
    one_reading cells xs ys log read es fs plain (ap rest_of e) (all_tail (IsOutcomeLine cells) x xs o)
    (all_tail (IsOutcomeLine cells) y ys p) h g

pub records_have_one_reading : RecordsHaveOneReading
records_have_one_reading source tree lines es others accepted first other =
    one_reading tree.cells first.passed other.passed first.log other.log es others (accepted_names source tree accepted)
    (sym first.parts ∙ other.parts)
    first.outcome other.outcome first.read other.read

-- each line is the text of an event
pub line_at : (cells : List Declaration) (lines : List (List ℕ)) (es : List Event) (n : ℕ) → AllZip (IsLogLine cells) lines es
    → n < length lines
    → (e : Event) × IsLogLine cells (slice_index_or lines n []) e
line_at cells [] es n h l = absurd (omega (arith, l))
line_at cells (x ∷ xs) [] n h l = absurd h
line_at cells (x ∷ xs) (e ∷ es) zero h l = (e, h.0)
line_at cells (x ∷ xs) (e ∷ es) (suc n) h l = line_at cells xs es n h.1 (omega (arith, l))

pub logs_have_no_bad_line : LogsHaveNoBadLine
logs_have_no_bad_line source tree es n accepted r h bad =
    let cells = tree.cells in
    let found = line_at cells (lines_of (log_text cells es)) es n (lines_are cells es (accepted_names source tree accepted) r h) bad.within
    in
    bad.bad.no_event found.0 found.1
