-- Flags of the marks of a part of a program, one for each mark in the order of the text: whether it is one that is looked for.
use Rattle.std.specs.Prelude.{ℕ, List, [], ◌∷◌, ◌++◌, Bool, false, ◌&&◌, Option, Some, None, ◌+◌, if◌then◌else◌}
use Rattle.std.specs.Str.{bytes_eq}
use Rattle.pipe_model.specs.Language.SyntaxTree.{Expression, Number, Name, Element, And, Or, Binary, Unary, More, Take, Iter, Statement}
use Rattle.pipe_model.specs.Language.SyntaxTree.{Let, Assign, AssignElement, Emit, If, While, Stage, NextStage, Statements, Empty, Then}
use Rattle.wave_laws.specs.Waves.WaveLoops.{row}

-- the number of the first flag that is true, if the first of all has the number n
abbrev pub first_true : ℕ → List Bool → Option ℕ
first_true n [] = None
first_true n (b ∷ bs) = if b then Some n else first_true (n + 1) bs

-- no mark of an expression is looked for
abbrev pub no_flags : Expression → List Bool
no_flags (Number n) = []
no_flags (Name x) = false ∷ []
no_flags (Element x i) = false ∷ no_flags i
no_flags (And a b) = no_flags a ++ no_flags b
no_flags (Or a b) = no_flags a ++ no_flags b
no_flags (Binary code a b) = no_flags a ++ no_flags b
no_flags (Unary code a) = no_flags a
no_flags More = []
no_flags Take = []
no_flags Iter = false ∷ []

abbrev mutual
  -- `stage` at the word of a stage statement, `target` at the target `row` of an assignment, and false at all other marks
  pub flags_of_statement : (stage target : Bool) → Statement → List Bool
  flags_of_statement stage target (Let x e) = false ∷ no_flags e
  flags_of_statement stage target (Assign x e) = (target && bytes_eq row x) ∷ no_flags e
  flags_of_statement stage target (AssignElement x i e) = false ∷ (no_flags i ++ no_flags e)
  flags_of_statement stage target (Emit e) = no_flags e
  flags_of_statement stage target (If e a b) = no_flags e ++ (flags_of_statements stage target a ++ flags_of_statements stage target b)
  flags_of_statement stage target (While e a) = no_flags e ++ flags_of_statements stage target a
  flags_of_statement stage target (Stage kind e) = stage ∷ no_flags e
  flags_of_statement stage target (NextStage kind) = stage ∷ []

  pub flags_of_statements : (stage target : Bool) → Statements → List Bool
  flags_of_statements stage target Empty = []
  flags_of_statements stage target (Then s ss) = flags_of_statement stage target s ++ flags_of_statements stage target ss
