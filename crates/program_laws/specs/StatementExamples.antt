-- Worked examples of each form of statement, which the checker computes.
use Rattle.std.specs.Prelude.{◌≡◌, ℕ, pos, [], ◌∷◌, Some, None}
use Rattle.pipe_model.specs.declared.column.ColumnEnd.TheVariants.{Closed, End}
use Rattle.pipe_model.specs.declared.node.Kind.TheVariants as kinds
use Rattle.pipe_model.specs.declared.tree.StageKind.TheVariants as stage_kinds
use Rattle.pipe_model.specs.declared.trap.Trap.TheVariants as traps
use Rattle.pipe_model.specs.Pipelines.Behaviour.{node_of}
use Rattle.pipe_model.specs.Language.ProgramsOfTrees.{whole_of}
use Rattle.pipe_model.specs.Language.SyntaxTree.{Expression, Name, Element, Take, Iter, Let, Assign, AssignElement, Emit, If, While, Stage}
use Rattle.pipe_model.specs.Language.SyntaxTree.{NextStage, Statements, Empty, Then, SyntaxTree}
use Rattle.pipe_model.specs.Pipelines.WholePrograms.{program_columns}
use Rattle.program_laws.specs.ExampleParts.{n, s, t, plus, less, plain_cell, trap_at}
use Rattle.program_laws.specs.ExampleParts.{HasOutputAndTrap, a, c, computing, count_up, emit_all, equal, k, limits_of, negative, number}
use Rattle.program_laws.specs.ExampleParts.{remainder, trap_in_final}

-- let k = 1; k = k + 1; n = k + 1; emit k; emit n;
abbrev pub NamesAreAssigned : Type 0
NamesAreAssigned =
    HasOutputAndTrap (computing (Then (Let k (number 1))
    (count_up k (Then (Assign n (plus (Name k) (number 1))) (emit_all (Name k ∷ Name n ∷ []) Empty))))) []
    (pos 2 ∷ pos 3 ∷ []) None

-- a[n + 2] = 8; emit a[0]; emit a[2]; a[3] = 1; and a[take()] = take(); emit a[1];
abbrev pub ElementsAreAssigned : Type 0
ElementsAreAssigned =
    HasOutputAndTrap (computing (Then (AssignElement a (plus (Name n) (number 2)) (number 8))
    (emit_all (Element a (number 0) ∷ Element a (number 2) ∷ []) (Then (AssignElement a (number 3) (number 1)) Empty)))) []
    (pos 5 ∷ pos 8 ∷ []) (Some (trap_in_final traps.Index))
    × HasOutputAndTrap (computing (Then (AssignElement a Take Take) (Then (Emit (Element a (number 1))) Empty))) (pos 1 ∷ pos 7 ∷ [])
    (pos 7 ∷ []) None

-- if (value) { emit 1; } else { emit 2; }
abbrev pub branching : Expression → SyntaxTree
branching value = computing (Then (If value (Then (Emit (number 1)) Empty) (Then (Emit (number 2)) Empty)) Empty)

-- every number but 0 is true
abbrev pub BranchesAreTaken : Type 0
BranchesAreTaken =
    HasOutputAndTrap (branching (number 3)) [] (pos 1 ∷ []) None
    × HasOutputAndTrap (branching (negative (number 1))) [] (pos 1 ∷ []) None
    × HasOutputAndTrap (branching (number 0)) [] (pos 2 ∷ []) None

-- let k = 1; if (1) { let t = 2; k = 5; emit t; } let t = 3; emit t; emit k;
-- and let k = 0; while (k < 3) { let t = k; n = n + t; k = k + 1; } emit n;
abbrev pub BlocksEndLocals : Type 0
BlocksEndLocals =
    HasOutputAndTrap (computing (Then (Let k (number 1))
    (Then (If (number 1) (Then (Let t (number 2)) (Then (Assign k (number 5)) (Then (Emit (Name t)) Empty))) Empty)
    (Then (Let t (number 3)) (emit_all (Name t ∷ Name k ∷ []) Empty))))) []
    (pos 2 ∷ pos 3 ∷ pos 5 ∷ []) None
    × HasOutputAndTrap (computing (Then (Let k (number 0))
    (Then (While (less (Name k) (number 3)) (Then (Let t (Name k)) (Then (Assign n (plus (Name n) (Name t))) (count_up k Empty))))
    (Then (Emit (Name n)) Empty)))) [] (pos 3 ∷ []) None

-- let k = 0; while (k < turns) { n = n + 1; k = k + 1; } emit n;
abbrev pub turning : ℕ → SyntaxTree
turning turns =
    computing (Then (Let k (number 0)) (Then (While (less (Name k) (number turns)) (count_up n (count_up k Empty)))
    (Then (Emit (Name n)) Empty)))

-- three turns, none, and a loop that only the budget ends
abbrev pub LoopsTurn : Type 0
LoopsTurn =
    HasOutputAndTrap (turning 3) [] (pos 3 ∷ []) None
    × HasOutputAndTrap (turning 0) [] (pos 0 ∷ []) None
    × HasOutputAndTrap (computing (Then (While (number 1) Empty) Empty)) [] [] (Some (trap_in_final traps.Budget))

-- limits iterations 1, stages stages, steps 50, emits 4; cell n = 0; pipe_while (n < 1) { n = n + 1; .. }
abbrev pub staged : ℕ → Statements → SyntaxTree
staged stages body = record {
  limits = limits_of 1 stages 50 4;
  cells = plain_cell n (pos 0) ∷ [];
  init = Empty;
  test = less (Name n) (number 1);
  body = count_up n body;
  last = Empty;
}

-- let k = 6; pipe_wait(2); emit k; pipe_wait; pipe_continue(7); pipe_continue; emit k + 1;
abbrev pub each_stage : SyntaxTree
each_stage = staged 5 (Then (Let k (number 6)) (Then (Stage stage_kinds.Wait (number 2))
    (Then (Emit (Name k)) (Then (NextStage stage_kinds.Wait)
    (Then (Stage stage_kinds.Continue (number 7)) (Then (NextStage stage_kinds.Continue)
    (Then (Emit (plus (Name k) (number 1))) Empty)))))))

-- stages with and without a number; locals live across stages
abbrev pub StagesAreNamed : Type 0
StagesAreNamed =
    HasOutputAndTrap each_stage [] (pos 6 ∷ pos 7 ∷ []) None
    × (program_columns (whole_of each_stage [])
    ≡ record {
      nodes = node_of kinds.Zero (pos 0) ∷ node_of kinds.Wait (pos 2) ∷ node_of kinds.Wait (pos 3) ∷ node_of kinds.Continue
          (pos 7) ∷ node_of
          kinds.Continue (pos 8) ∷ [];
      end = Some End;
    } ∷ record { nodes = node_of kinds.Zero (pos 0) ∷ []; end = Some Closed } ∷ [])

-- a number that is not above the current one, one instance too many, and an implied number that is no i64
abbrev pub StagesTrap : Type 0
StagesTrap =
    HasOutputAndTrap (staged 3 (Then (Stage stage_kinds.Wait (number 1)) (Then (Stage stage_kinds.Continue (number 1)) Empty))) [] []
    (Some (trap_at traps.StageOrder 0 1 (pos 1)))
    × HasOutputAndTrap (staged 3 (Then (Stage stage_kinds.Wait (number 0)) Empty)) [] [] (Some (trap_at traps.StageOrder 0 0 (pos 0)))
    × HasOutputAndTrap (staged 2 (Then (Stage stage_kinds.Wait (number 1)) (Then (NextStage stage_kinds.Continue) Empty))) [] []
    (Some (trap_at traps.StageLimit 0 1 (pos 1)))
    × HasOutputAndTrap (staged 3 (Then (Stage stage_kinds.Wait (number 9223372036854775807)) (Then (NextStage stage_kinds.Wait) Empty))) []
    []
    (Some (trap_at traps.Overflow 0 1 (pos 9223372036854775807)))

-- limits iterations 4, stages 3, steps 50, emits 4; cell n = 0; cell s = 0;
-- pipe_while (n < 4) { n = n + 1; let t = n; if (iter() % 2 == 0) { pipe_wait(1); } pipe_wait(2); s = s + t; emit s; }
abbrev pub every_other : SyntaxTree
every_other = record {
  limits = limits_of 4 3 50 4;
  cells = plain_cell n (pos 0) ∷ plain_cell s (pos 0) ∷ [];
  init = Empty;
  test = less (Name n) (number 4);
  body = count_up n (Then (Let t (Name n)) (Then (If (equal (remainder Iter (number 2)) (number 0))
      (Then (Stage stage_kinds.Wait (number 1)) Empty) Empty)
      (Then (Stage stage_kinds.Wait (number 2)) (Then (Assign s (plus (Name s) (Name t))) (Then (Emit (Name s)) Empty)))));
  last = Empty;
}

-- a stage that only every other iteration has
abbrev pub EveryOtherWaits : Type 0
EveryOtherWaits = HasOutputAndTrap every_other [] (pos 1 ∷ pos 3 ∷ pos 6 ∷ pos 10 ∷ []) None

-- limits iterations 2, stages 4, steps 50, emits 4; cell n = 0; cell c = 0;
-- pipe_while (n < 2) { n = n + 1; if (iter() == 0) { pipe_wait(5); c = 7; } else { .. } }
abbrev pub waiting : Statements → SyntaxTree
waiting other = record {
  limits = limits_of 2 4 50 4;
  cells = plain_cell n (pos 0) ∷ plain_cell c (pos 0) ∷ [];
  init = Empty;
  test = less (Name n) (number 2);
  body = count_up n (Then (If (equal Iter (number 0)) (Then (Stage stage_kinds.Wait (number 5)) (Then (Assign c (number 7)) Empty)) other)
      Empty);
  last = Empty;
}

-- waits with redundant edges: { pipe_wait(5); pipe_wait(6); pipe_wait(7); emit c; }, and a wait for an earlier stage: { pipe_wait(6); emit
-- c; }
abbrev pub WaitsEmit : Type 0
WaitsEmit =
    HasOutputAndTrap (waiting (Then (Stage stage_kinds.Wait (number 5)) (Then (Stage stage_kinds.Wait (number 6))
    (Then (Stage stage_kinds.Wait (number 7)) (Then (Emit (Name c)) Empty))))) [] (pos 7 ∷ []) None
    × HasOutputAndTrap (waiting (Then (Stage stage_kinds.Wait (number 6)) (Then (Emit (Name c)) Empty))) [] (pos 7 ∷ []) None
