-- Results that may be missing.
use Rattle.std.proofs.Common.{Option, Some, None}
use Rattle.std.specs.Prelude.{IfNone, IfSome}

pub some_both : {T : Type 0} {P Q R : T → Type 0} (o : Option T) → IfSome o P → IfSome o Q → ((x : T) → P x → Q x → R x) → IfSome o R
some_both None p q f = tt
some_both (Some x) p q f = f x p q

pub some_map : {T : Type 0} {P Q : T → Type 0} (o : Option T) → IfSome o P → ((x : T) → P x → Q x) → IfSome o Q
some_map None p f = tt
some_map (Some x) p f = f x p

pub none_map : {T P Q : Type 0} (o : Option T) → IfNone o P → (P → Q) → IfNone o Q
none_map None p f = f p
none_map (Some x) p f = tt
