-- Flags; none is true.
use Rattle.std.proofs.Common.{◌≡◌, refl, ℕ, Bool, true, false, List, [], ◌∷◌, ◌++◌, ◌+◌, None}
use Rattle.pipe_model.specs.Language.SyntaxTree as syntax
use Rattle.pipe_model.specs.Language.SyntaxTree.{Expression}
use Rattle.wave_laws.specs.Waves.MarkFlags.{first_true, no_flags}

abbrev pub AreFalse : List Bool → Type 0
AreFalse [] = Unit {0}
AreFalse (b ∷ bs) = (b ≡ false) × AreFalse bs

pub none_true : (n : ℕ) (bs : List Bool) → first_true n bs ≡ None → AreFalse bs
none_true n [] h = tt
none_true n (true ∷ bs) h = absurd (cc)
none_true n (false ∷ bs) h = (refl, none_true (n + 1) bs h)

pub falses : (n : ℕ) (bs : List Bool) → AreFalse bs → first_true n bs ≡ None
falses n [] h = refl
falses n (b ∷ bs) h = rw h.0 (falses (n + 1) bs h.1)

pub both_false : (xs ys : List Bool) → AreFalse xs → AreFalse ys → AreFalse (xs ++ ys)
both_false [] ys h k = k
both_false (x ∷ xs) ys h k = (h.0, both_false xs ys h.1 k)

pub false_left : (xs ys : List Bool) → AreFalse (xs ++ ys) → AreFalse xs
false_left [] ys h = tt
false_left (x ∷ xs) ys h = (h.0, false_left xs ys h.1)

pub false_right : (xs ys : List Bool) → AreFalse (xs ++ ys) → AreFalse ys
false_right [] ys h = h
false_right (x ∷ xs) ys h = false_right xs ys h.1

-- no mark of an expression is looked for
pub none_flagged : (e : Expression) → AreFalse (no_flags e)
none_flagged (syntax.Number n) = tt
none_flagged (syntax.Name x) = (refl, tt)
none_flagged (syntax.Element x i) = (refl, none_flagged i)
none_flagged (syntax.And a b) = both_false (no_flags a) (no_flags b) (none_flagged a) (none_flagged b)
none_flagged (syntax.Or a b) = both_false (no_flags a) (no_flags b) (none_flagged a) (none_flagged b)
none_flagged (syntax.Binary code a b) = both_false (no_flags a) (no_flags b) (none_flagged a) (none_flagged b)
none_flagged (syntax.Unary code a) = none_flagged a
none_flagged syntax.More = tt
none_flagged syntax.Take = tt
none_flagged syntax.Iter = (refl, tt)
