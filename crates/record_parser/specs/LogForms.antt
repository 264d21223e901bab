-- The line of an event: a word, and then its fields, each after a space.
use Rattle.std.specs.Prelude.{◌≡◌, ℕ, ℤ, List, ◌∷◌, ◌++◌, FitsSigned, codes}
use Rattle.std.specs.Fmt.{decimal, signed_decimal}
use mir.Syntax.{w64}
use Rattle.pipe_model.specs.declared.access.AccessKind.{AccessKind}
use Rattle.pipe_model.specs.declared.column.ColumnEnd.TheVariants as ends
use Rattle.pipe_model.specs.declared.event.Event.{Event}
use Rattle.pipe_model.specs.declared.event.Event.TheVariants as events
use Rattle.pipe_model.specs.declared.trap.Trap.{Trap as Trap_name}
use Rattle.pipe_model.specs.declared.tree.Declaration.{Declaration}
use Rattle.pipe_model.specs.declared.tree.StageKind.{StageKind}
use Rattle.pipe_model.specs.declared.tree.StageKind.TheVariants as stages
use Rattle.pipe_model.specs.Language.SyntaxTree.{kind_of_stage}
use Rattle.pipe_model.specs.Texts.{kind_text, trap_name}
use Rattle.race_report.specs.CellNames.{cell_name}
use Rattle.record_parser.specs.declared.log_word.LogWord.{LogWord}
use Rattle.record_parser.specs.declared.log_word.LogWord.TheVariants.{Begin, Enter, End, Closed, Trap, Access, Stage}
use Rattle.record_parser.specs.RecordLines.{IsCell, IsIteration}

abbrev pub space : ℕ
space = 32

abbrev pub stage_text : StageKind → List ℕ
stage_text stages.Wait = codes "wait"
stage_text stages.Continue = codes "continue"

abbrev pub word_text : LogWord → List ℕ
word_text Begin = codes "begin"
word_text Enter = codes "enter"
word_text End = codes "end"
word_text Closed = codes "closed"
word_text Trap = codes "trap"
word_text (Access kind) = kind_text kind
word_text (Stage kind) = stage_text kind

-- an iteration and the name of its trap
abbrev pub IsTrapText : List ℕ → ℕ → Trap_name → Type 0
IsTrapText text i t = IsIteration i × (text ≡ decimal i ++ space ∷ trap_name t)

-- an iteration, a cell and a value
abbrev pub IsAccessText : List Declaration → List ℕ → ℕ → ℕ → ℤ → Type 0
IsAccessText cells text i c v =
    IsIteration i × (IsCell cells c × (FitsSigned w64 v × (text ≡ decimal i ++ space ∷ (cell_name cells c ++ space ∷ signed_decimal v))))

-- an iteration and a stage number
abbrev pub IsStageText : List ℕ → ℕ → ℤ → Type 0
IsStageText text i n = IsIteration i × (FitsSigned w64 n × (text ≡ decimal i ++ space ∷ signed_decimal n))

-- the fields after the word are the event's
pub data HasFields (cells : List Declaration) (fields : List ℕ) : LogWord → Event → Type 0 where
  Begins : (i : ℕ) → IsIteration i → fields ≡ decimal i → HasFields cells fields Begin (events.Begin i)
  Enters : (i : ℕ) → IsIteration i → fields ≡ decimal i → HasFields cells fields Enter (events.Enter i)
  Ends : (i : ℕ) → IsIteration i → fields ≡ decimal i → HasFields cells fields End (events.Finish i ends.End)
  Closes : (i : ℕ) → IsIteration i → fields ≡ decimal i → HasFields cells fields Closed (events.Finish i ends.Closed)
  Traps : (i : ℕ) (t : Trap_name) → IsTrapText fields i t → HasFields cells fields Trap (events.Finish i (ends.Trapped t))
  Accesses : (kind : AccessKind) (i c : ℕ) (v : ℤ) → IsAccessText cells fields i c v
      → HasFields cells fields (Access kind) (events.Access i (record { cell = record { 0 = c }; kind = kind; value = v }))
  Advances : (kind : StageKind) (i : ℕ) (n : ℤ) → IsStageText fields i n → HasFields cells fields (Stage kind)
      (events.Advance i (kind_of_stage kind) n)

-- the word has an iteration after it and nothing else
abbrev pub IsAlone : LogWord → Type 0
IsAlone Begin = Unit {0}
IsAlone Enter = Unit {0}
IsAlone End = Unit {0}
IsAlone Closed = Unit {0}
IsAlone Trap = ⊥
IsAlone (Access kind) = ⊥
IsAlone (Stage kind) = ⊥
