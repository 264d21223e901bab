-- Results that are `Ok` or `Err`.
use Rattle.std.proofs.Common.{Ok, Err, Result}
use Rattle.std.specs.Result.{IfOk}

-- what follows from what holds of an `Ok`
pub map_ok : {T E : Type 0} {P Q : T → Type 0} → (r : Result T E) → IfOk r P → ((x : T) → P x → Q x) → IfOk r Q
map_ok (Ok x) h f = f x h
map_ok (Err e) h f = tt
