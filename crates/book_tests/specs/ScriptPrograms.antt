-- The programs of the scripts.
use Rattle.std.specs.Prelude.{ℕ, zero, suc, pos, [], cond, Bool, ◌≤◌, ◌<◌}
use Rattle.pipe_model.specs.declared.operator_codes.TheConstants.{LESS}
use Rattle.pipe_model.specs.declared.tree.StageKind.TheVariants.{Wait}
use Rattle.pipe_model.specs.Language.SyntaxTree.{SyntaxTree, Statements, Empty, Then, Stage, Number, Binary, Iter}
use Rattle.book_tests.specs.declared.program.Source.{Source}

-- after stage `here`, waits for this many stages
abbrev pub waits_after : ℕ → ℕ → Statements
waits_after here zero = Empty
waits_after here (suc n) = Then (Stage Wait (Number (pos (suc here)))) (waits_after (suc here) n)

abbrev pub waits_of : Bool → ℕ
waits_of three = cond three 3 1

abbrev pub tree_of_source : Source → SyntaxTree
tree_of_source s = record {
  limits = record { iterations = pos s.iterations; stages = pos s.stages; steps = pos 10; emits = pos 0 };
  cells = [];
  init = Empty;
  test = Binary LESS Iter (Number (pos s.turns));
  body = waits_after 0 (waits_of s.three);
  last = Empty;
}

-- a book has room for the program, and its loop is closed before the limit on iterations
pub record IsSmall (s : Source) : Type 0 where
  pub turns : s.turns ≤ s.iterations
  pub iterations : s.iterations ≤ 65536
  pub stage : 0 < s.stages
  pub stages : s.stages ≤ 4
