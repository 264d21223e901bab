-- What a test says.
use Rattle.std.proofs.Common.{◌≡◌, Bool, true, false}
use Rattle.std.specs.Bool.{OnFalse, OnTrue}

pub true_map : {P Q : Type 0} (b : Bool) → OnTrue b P → (P → Q) → OnTrue b Q
true_map true p f = f p
true_map false p f = tt

pub false_map : {P Q : Type 0} (b : Bool) → OnFalse b P → (P → Q) → OnFalse b Q
false_map true p f = tt
false_map false p f = f p

pub when_true : {P : Type 0} (b : Bool) → OnTrue b P → b ≡ true → P
when_true true p e = p
when_true false p e = absurd (cc)

pub when_false : {P : Type 0} (b : Bool) → OnFalse b P → b ≡ false → P
when_false false p e = p
when_false true p e = absurd (cc)
