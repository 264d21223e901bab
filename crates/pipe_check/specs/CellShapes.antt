-- What a name is declared as, by the size with which it is declared.
use Rattle.std.specs.Prelude.{◌≡◌, ℤ, Option, Some, None}
use Rattle.pipe_check.specs.declared.cell_table.CellShape.{CellShape}
use Rattle.pipe_check.specs.declared.cell_table.CellShape.TheVariants.{Undeclared, Plain, Array}

-- a name declared with this size, or not declared at all, has this shape
abbrev pub HasShape : Option (Option ℤ) → CellShape → Type 0
HasShape size Undeclared = size ≡ None
HasShape size Plain = size ≡ Some None
HasShape size (Array n) = size ≡ Some (Some n)
