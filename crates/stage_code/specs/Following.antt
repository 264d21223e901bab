-- Flat code that follows an interaction tree: it takes the same steps, makes the same accesses, whatever the replies, goes to the same
-- stages, and has the same end. Code that is stuck follows no tree, so where code follows a tree, its stack, its slots, its cells and its
-- jumps are in range.
use Rattle.std.specs.Prelude.{ℕ, zero, suc, ℤ}
use Rattle.pipe_model.specs.declared.column.ColumnEnd.{ColumnEnd}
use Rattle.pipe_model.specs.declared.node.Kind.{Kind}
use Rattle.pipe_model.specs.declared.trap.Trap.{Trap}
use Rattle.pipe_model.specs.Language.Interaction.{Interaction, Return, Raise, Step, Get, Set}
use Rattle.pipe_model.specs.Language.Interaction as interactions
use Rattle.stage_code.specs.Instructions.{CodeState, CodeSetting, Transition, Next, Finish, run_next}

-- for n steps, and up to the step after them
pub data Follows (p : CodeSetting) : ℕ → Interaction Transition → Interaction ColumnEnd → Type 0 where
  Spends : (m : Interaction Transition) (d : Interaction ColumnEnd) → Follows p zero (Step m) (Step d)
  Steps : {n : ℕ} {m : Interaction Transition} {d : Interaction ColumnEnd} → Follows p n m d → Follows p (suc n) (Step m) (Step d)
  Gets : {n : ℕ} {go : ℤ → Interaction Transition} {on : ℤ → Interaction ColumnEnd} (c : ℕ) → ((v : ℤ) → Follows p n (go v) (on v))
      → Follows p n (Get c go) (Get c on)
  Sets : {n : ℕ} {m : Interaction Transition} {d : Interaction ColumnEnd} (c : ℕ) (v : ℤ) → Follows p n m d
      → Follows p n (Set c v m) (Set c v d)
  Stages : {n : ℕ} {m : Interaction Transition} {d : Interaction ColumnEnd} (k : Kind) (i : ℤ) → Follows p n m d
      → Follows p n (interactions.Stage k i m) (interactions.Stage k i d)
  Raises : {n : ℕ} (t : Trap) → Follows p n (Raise t) (Raise t)
  GoesOn : {n : ℕ} {d : Interaction ColumnEnd} (c : CodeState) → Follows p n (run_next p c) d → Follows p n (Return (Next c)) d
  Finishes : {n : ℕ} (e : ColumnEnd) → Follows p n (Return (Finish e)) (Return e)
