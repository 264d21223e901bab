-- The first limit that is out of its range, by the tests of all.
use Rattle.std.proofs.Common.{◌≡◌, pos, ◌*ℤ◌, Bool, not, Some, None, if◌then◌else◌, int_lt, refl}
use Rattle.pipe_model.specs.declared.tree.Limits.{Limits}
use Rattle.pipe_model.specs.Language.CheckingRules.{first_limit_out}
use Rattle.pipe_model.specs.Language.CheckingRules.{is_between}

pub limit_by : (limits : Limits) (iterations stages many steps emits : Bool) → iterations ≡ is_between (pos 1) (pos 65536) limits.iterations
    → stages ≡ is_between (pos 1) (pos 4096) limits.stages → many ≡ int_lt (pos 262144) (limits.iterations *ℤ limits.stages)
    → steps ≡ is_between (pos 1) (pos 1000000) limits.steps → emits ≡ int_lt (pos 1048576) limits.emits
    → (if not iterations then Some 1 else (if not stages then Some 2 else (if many then Some 3
    else (if not steps then Some 4 else (if emits then Some 5 else None)))))
    ≡ first_limit_out limits
limit_by limits iterations stages many steps emits a b c d e = rw (a, b, c, d, e) refl
