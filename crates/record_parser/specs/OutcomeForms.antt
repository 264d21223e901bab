-- The lines of a run's outcome, by their parts.
use Rattle.std.specs.Prelude.{◌≡◌, ℕ, ℤ, List, ◌∷◌, ◌++◌, FitsSigned, codes}
use Rattle.std.specs.Fmt.{decimal, signed_decimal}
use mir.Syntax.{w64}
use Rattle.pipe_model.specs.declared.access.AccessKind.{AccessKind}
use Rattle.pipe_model.specs.declared.trap.Trap.{Trap as Trap_name}
use Rattle.pipe_model.specs.declared.tree.Declaration.{Declaration}
use Rattle.pipe_model.specs.Texts.{kind_text, trap_name}
use Rattle.race_report.specs.CellNames.{cell_name}
use Rattle.record_parser.specs.LogForms.{space}
use Rattle.record_parser.specs.RecordLines.{IsCell, IsIteration}

abbrev pub slash : ℕ
slash = 47

-- an iteration and a stage number, with a slash between them
pub record IsInstanceText (text : List ℕ) : Type 0 where
  pub iteration : ℕ
  pub number : ℤ
  pub within : IsIteration iteration
  pub fits : FitsSigned w64 number
  pub is : text ≡ decimal iteration ++ slash ∷ signed_decimal number

-- the text is `before`, and then a kind of access and its instance, each after a space
pub record EndsInAccess (text before : List ℕ) : Type 0 where
  pub kind : AccessKind
  pub instance : List ℕ
  pub is_instance : IsInstanceText instance
  pub is : text ≡ (before ++ space ∷ kind_text kind) ++ space ∷ instance

-- a cell and two accesses: what follows the word `race`
pub record IsRaceText (cells : List Declaration) (text : List ℕ) : Type 0 where
  pub cell : ℕ
  pub within : IsCell cells cell
  pub once : List ℕ
  pub later : EndsInAccess text once
  pub earlier : EndsInAccess once (cell_name cells cell)

-- where a trap occurred: `in init`, `in final`, or an instance after `at `
pub data IsPlaceText (text : List ℕ) : Type 0 where
  InInit : text ≡ codes "in init" → IsPlaceText text
  InFinal : text ≡ codes "in final" → IsPlaceText text
  AtInstance : (instance : List ℕ) → IsInstanceText instance → text ≡ codes "at" ++ space ∷ instance → IsPlaceText text

-- a trap and its place: what follows the word `trap`
pub record IsOutcomeTrapText (text : List ℕ) : Type 0 where
  pub trap : Trap_name
  pub place : List ℕ
  pub is_place : IsPlaceText place
  pub is : text ≡ trap_name trap ++ space ∷ place

-- the line of a race or of a trap, without its line feed
pub data IsWordedOutcome (cells : List Declaration) (line : List ℕ) : Type 0 where
  RaceLine : (text : List ℕ) → IsRaceText cells text → line ≡ codes "race" ++ space ∷ text → IsWordedOutcome cells line
  TrapLine : (text : List ℕ) → IsOutcomeTrapText text → line ≡ codes "trap" ++ space ∷ text → IsWordedOutcome cells line
