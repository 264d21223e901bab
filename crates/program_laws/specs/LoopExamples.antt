-- Worked examples: small programs and the results of their serial elisions.
use Rattle.std.specs.Prelude.{◌≡◌, ℤ, pos, List, [], ◌∷◌, Option, Some, None, codes}
use Rattle.pipe_model.specs.declared.node.Kind.TheVariants as kinds
use Rattle.pipe_model.specs.declared.tree.StageKind.TheVariants as stage_kinds
use Rattle.pipe_model.specs.declared.trap.Trap.TheVariants as traps
use Rattle.pipe_model.specs.declared.trap.TrapAt.{TrapAt}
use Rattle.pipe_model.specs.Pipelines.Behaviour.{node_of}
use Rattle.pipe_model.specs.Pipelines.ElisionResults.{serial_output, serial_trap}
use Rattle.pipe_model.specs.Language.Programs.{pipeline_of}
use Rattle.pipe_model.specs.Pipelines.SerialElision.{serial_columns}
use Rattle.pipe_model.specs.Language.SyntaxTree.{Number, Name, Let, Assign, Emit, Stage, Empty, Then, SyntaxTree}
use Rattle.pipe_model.specs.Texts.{output_lines, trap_line}
use Rattle.program_laws.specs.ExampleParts.{n, s, t, plus, less, plain_cell, trap_at}

-- limits iterations 2, stages 1, steps 50, emits 2; cell n = 0; pipe_while (n < bound) { n = n + 1; emit n; }
abbrev pub counting : ℤ → SyntaxTree
counting bound = record {
  limits = record { iterations = pos 2; stages = pos 1; steps = pos 50; emits = pos 2 };
  cells = plain_cell n (pos 0) ∷ [];
  init = Empty;
  test = less (Name n) (Number bound);
  body = Then (Assign n (plus (Name n) (Number (pos 1)))) (Then (Emit (Name n)) Empty);
  last = Empty;
}

-- limits iterations 1, stages 1, steps steps, emits 0; pipe_while (0) { }
abbrev pub idle : ℤ → SyntaxTree
idle steps = record {
  limits = record { iterations = pos 1; stages = pos 1; steps = steps; emits = pos 0 };
  cells = [];
  init = Empty;
  test = Number (pos 0);
  body = Empty;
  last = Empty;
}

-- limits iterations 8, stages 4, steps 100, emits 8; cell n = 0; cell s = 0;
-- pipe_while (n < 3) { n = n + 1; let t = n; pipe_wait(1); s = s + t; emit s; }
abbrev pub prefix_sums : SyntaxTree
prefix_sums = record {
  limits = record { iterations = pos 8; stages = pos 4; steps = pos 100; emits = pos 8 };
  cells = plain_cell n (pos 0) ∷ plain_cell s (pos 0) ∷ [];
  init = Empty;
  test = less (Name n) (Number (pos 3));
  body = Then (Assign n (plus (Name n) (Number (pos 1)))) (Then (Let t (Name n)) (Then (Stage stage_kinds.Wait (Number (pos 1)))
      (Then (Assign s (plus (Name s) (Name t))) (Then (Emit (Name s)) Empty))));
  last = Empty;
}

-- the program's serial elision emits these numbers and has this trap, if any
abbrev pub HasSerialResult : SyntaxTree → List ℤ → Option TrapAt → Type 0
HasSerialResult tree output trap = (serial_output (pipeline_of tree []) ≡ output) × (serial_trap (pipeline_of tree []) ≡ trap)

-- a loop that counts to its bound within the limit of iterations
abbrev pub CountingEnds : Type 0
CountingEnds = HasSerialResult (counting (pos 2)) (pos 1 ∷ pos 2 ∷ []) None

-- a loop that continues after the last allowed iteration
abbrev pub CountingTraps : Type 0
CountingTraps = HasSerialResult (counting (pos 3)) (pos 1 ∷ pos 2 ∷ []) (Some (trap_at traps.IterLimit 2 0 (pos 0)))

-- a number and the test of the loop take two steps; a budget of one is too small
abbrev pub StepsAreCounted : Type 0
StepsAreCounted = HasSerialResult (idle (pos 2)) [] None × HasSerialResult (idle (pos 1)) [] (Some (trap_at traps.Budget 0 0 (pos 0)))

-- the iterations of the prefix sums have two stages each; the iteration that closes the loop has one
abbrev pub PrefixSumsHaveStages : Type 0
PrefixSumsHaveStages =
    let two = node_of kinds.Zero (pos 0) ∷ node_of kinds.Wait (pos 1) ∷ [] in
    HasSerialResult prefix_sums (pos 1 ∷ pos 3 ∷ pos 6 ∷ []) None
    × (serial_columns (pipeline_of prefix_sums []) ≡ two ∷ two ∷ two ∷ (node_of kinds.Zero (pos 0) ∷ []) ∷ [])

-- the printed lines of an output and of a trap
abbrev pub LinesArePrinted : Type 0
LinesArePrinted = (output_lines (pos 1 ∷ pos 3 ∷ []) ≡ codes "1\n3\n")
    × (trap_line (trap_at traps.IterLimit 2 0 (pos 0)) ≡ codes "trap IterLimit at 2/0\n")
