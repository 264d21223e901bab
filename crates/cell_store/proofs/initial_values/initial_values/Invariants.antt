use Rattle.std.proofs.Common.{◌≡◌, ◌∷◌, pos, take}
use Rattle.pipe_model.specs.Language.Programs.{declared_values}
use Rattle.cell_store.proofs.initial_values.initial_values.Given as goal

abbrev pub invariant-loop-declaration : goal.invariant-loop-declaration
invariant-loop-declaration l = l.values.items ≡ pos 0 ∷ (pos 0 ∷ declared_values (take l.declaration-index l.cells))
