-- The rules that a program must obey besides the grammar, and the first that it breaks.
-- Limits are checked first, in their order, and then the marks, in the order of the text; at one mark the rule that is earlier in the list
-- counts.
use Rattle.std.specs.Prelude.{◌≡◌, ℕ, ℤ, pos, Bool, true, false, not, ◌&&◌, ◌||◌, List, [], ◌∷◌, length, Option, Some, None, ◌+◌, ◌==◌}
use Rattle.std.specs.Prelude.{if◌then◌else◌, is_some, nat_lt, nat_le, int_lt}
use Rattle.pipe_model.specs.declared.bounds.TheConstants.{MOST_CELLS, MOST_LOCALS, MOST_ITERATIONS, MOST_STAGES, MOST_INSTANCES, MOST_STEPS}
use Rattle.pipe_model.specs.declared.bounds.TheConstants.{MOST_EMITS}
use Rattle.std.proofs.Math.IntN.{◌*ℤ◌}
use Rattle.std.specs.List.{list_any}
use Rattle.std.specs.Str.{bytes_eq}
use Rattle.pipe_model.specs.declared.region.Region.{Region}
use Rattle.pipe_model.specs.declared.region.Region.TheVariants as regions
use Rattle.pipe_model.specs.declared.tree.Declaration.{Declaration}
use Rattle.pipe_model.specs.declared.tree.Limits.{Limits}
use Rattle.pipe_model.specs.Language.Marks.{Scope, Occurrence, DeclaredCell, DeclaredLocal, Plain, Indexed, IterWord, StageWord, Mark}
use Rattle.pipe_model.specs.Language.Marks.{marks_of}
use Rattle.pipe_model.specs.Language.Programs.{declared_size}
use Rattle.pipe_model.specs.Language.SyntaxTree.{SyntaxTree}

-- the rules that a mark can break
pub data CheckingRule : Type 0 where
  Unknown : CheckingRule
  Twice : CheckingRule
  PipeOutside : CheckingRule
  TooManyCells : CheckingRule
  TooManyLocals : CheckingRule
  NotAnArray : CheckingRule
  NeedsIndex : CheckingRule
  ZeroSize : CheckingRule

-- the rules in the order in which they count at one mark
abbrev pub rules_in_order : List CheckingRule
rules_in_order = Unknown ∷ Twice ∷ PipeOutside ∷ TooManyCells ∷ TooManyLocals ∷ NotAnArray ∷ NeedsIndex ∷ ZeroSize ∷ []

-- the size with which the name is declared, if it is the name of a cell; a plain cell has no size
abbrev pub size_in : List Declaration → List ℕ → Option (Option ℤ)
size_in [] x = None
size_in (d ∷ ds) x = if bytes_eq d.name x then Some d.size else size_in ds x

-- the name is declared as a cell
abbrev pub is_cell : List Declaration → List ℕ → Bool
is_cell cells x = is_some (size_in cells x)

-- the number of cells of these declarations; each array element is a cell
abbrev pub cell_total : List Declaration → ℕ
cell_total [] = 0
cell_total (d ∷ ds) = declared_size d.size + cell_total ds

-- what a used name refers to
pub data Meaning : Type 0 where
  Nothing : Meaning
  Local : Meaning
  PlainCell : Meaning
  Array : Meaning

-- what a name refers to, by the size of the cell of this name, if there is one
abbrev pub cell_meaning : Option (Option ℤ) → Meaning
cell_meaning None = Nothing
cell_meaning (Some None) = PlainCell
cell_meaning (Some (Some n)) = Array

-- the name is one of these
abbrev pub is_among : List (List ℕ) → List ℕ → Bool
is_among names x = list_any (λ name. bytes_eq name x) names

-- what the name refers to in this scope: a local, or else a cell
abbrev pub meaning_at : Scope → List ℕ → Meaning
meaning_at scope x = if is_among scope.visible x then Local else cell_meaning (size_in scope.cells x)

-- it is neither a local nor a cell
abbrev pub is_nothing : Meaning → Bool
is_nothing Nothing = true
is_nothing Local = false
is_nothing PlainCell = false
is_nothing Array = false

-- it is a local or a plain cell
abbrev pub is_single : Meaning → Bool
is_single Nothing = false
is_single Local = true
is_single PlainCell = true
is_single Array = false

-- it has elements
abbrev pub is_array : Meaning → Bool
is_array Nothing = false
is_array Local = false
is_array PlainCell = false
is_array Array = true

-- `iter` is allowed in the region
abbrev pub has_iteration : Region → Bool
has_iteration regions.Cells = false
has_iteration regions.Init = false
has_iteration regions.Test = true
has_iteration regions.Body = true
has_iteration regions.Last = false

-- stage statements are allowed in the region
abbrev pub has_stages : Region → Bool
has_stages regions.Cells = false
has_stages regions.Init = false
has_stages regions.Test = false
has_stages regions.Body = true
has_stages regions.Last = false

-- the occurrence breaks the rule in this scope
abbrev pub breaks : CheckingRule → Scope → Occurrence → Bool
breaks Unknown scope (Plain x) = is_nothing (meaning_at scope x)
breaks Unknown scope (Indexed x) = is_nothing (meaning_at scope x)
breaks Twice scope (DeclaredCell x size) = is_cell scope.cells x
breaks Twice scope (DeclaredLocal x) = is_cell scope.cells x || is_among scope.lets x
breaks PipeOutside scope IterWord = not (has_iteration scope.region)
breaks PipeOutside scope StageWord = not (has_stages scope.region)
breaks TooManyCells scope (DeclaredCell x size) = nat_lt MOST_CELLS (cell_total scope.cells + declared_size size)
breaks TooManyLocals scope (DeclaredLocal x) = nat_le MOST_LOCALS (length scope.lets)
breaks NotAnArray scope (Indexed x) = is_single (meaning_at scope x)
breaks NeedsIndex scope (Plain x) = is_array (meaning_at scope x)
breaks ZeroSize scope (DeclaredCell x size) = declared_size size == 0
breaks rule scope occurrence = false

-- the first of these rules that the mark breaks
abbrev pub first_broken : Mark → List CheckingRule → Option CheckingRule
first_broken mark [] = None
first_broken mark (rule ∷ rules) = if breaks rule mark.scope mark.occurrence then Some rule else first_broken mark rules

-- the rule that counts at the mark, if the mark breaks one
abbrev pub broken_at : Mark → Option CheckingRule
broken_at mark = first_broken mark rules_in_order

-- why a program is refused
pub data Fault : Type 0 where
  LimitOut : ℕ → Fault  -- which limit
  Broken : CheckingRule → ℕ → Fault  -- a rule, and the number of the mark that breaks it

-- the fault of the mark with this number, if it has one, or else `rest`
abbrev pub fault_or : Option CheckingRule → ℕ → Option Fault → Option Fault
fault_or (Some rule) n rest = Some (Broken rule n)
fault_or None n rest = rest

-- the first fault of these marks, which are numbered from n
abbrev pub first_fault : ℕ → List Mark → Option Fault
first_fault n [] = None
first_fault n (mark ∷ marks) = fault_or (broken_at mark) n (first_fault (n + 1) marks)

-- from low to high, both included
abbrev pub is_between : ℤ → ℤ → ℤ → Bool
is_between low high z = not (int_lt z low) && not (int_lt high z)

-- the first limit that is out of its range: 1 the iterations, 2 the stages, 3 the stage instances, 4 the steps, 5 the emitted numbers
abbrev pub first_limit_out : Limits → Option ℕ
first_limit_out limits =
    if not (is_between (pos 1) MOST_ITERATIONS limits.iterations) then Some 1
    else (if not (is_between (pos 1) MOST_STAGES limits.stages) then Some 2
    else (if int_lt MOST_INSTANCES (limits.iterations *ℤ limits.stages) then Some 3
    else (if not (is_between (pos 1) MOST_STEPS limits.steps) then Some 4
    else (if int_lt MOST_EMITS limits.emits then Some 5
    else None))))

-- the fault of a limit, if one is out of its range, or else `rest`
abbrev pub limit_fault_or : Option ℕ → Option Fault → Option Fault
limit_fault_or (Some which) rest = Some (LimitOut which)
limit_fault_or None rest = rest

-- the first fault of a program, if it breaks a rule
abbrev pub fault_of : SyntaxTree → Option Fault
fault_of tree = limit_fault_or (first_limit_out tree.limits) (first_fault 0 (marks_of tree))

-- the program breaks no rule
pub record BreaksNoRule (tree : SyntaxTree) : Type 0 where
  pub obeys : fault_of tree ≡ None
