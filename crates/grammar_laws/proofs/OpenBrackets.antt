-- Counts of open brackets over prefixes.
use Rattle.std.proofs.Common.{◌≡◌, ◌+◌, ◌≤◌, List, [], ◌∷◌, ◌++◌, append-nil, refl, ap, ◌∙◌, arith, subst, ◌⊎◌, inl, inr, Bool, cond}
use Rattle.std.specs.List.{count_by}
use Rattle.std.proofs.lemmas.List.Sums.{sum_by-append}
use Rattle.pipe_model.specs.declared.symbol.Symbol.{Symbol}
use Rattle.pipe_model.specs.Language.Spelling.{open_brackets, IsShallow}
use Rattle.grammar_laws.proofs.FaultRules.{IsShallowBefore}

-- a further symbol raises a count by one or not at all
pub count_one_more : (p : Symbol → Bool) (ts : List Symbol) (t : Symbol) → count_by p (ts ++ t ∷ []) ≡ count_by p ts + cond (p t) 1 0
count_one_more p ts t =
    sum_by-append (λ x. cond (p x) 1 0) ts (t ∷ []) ∙ ap (λ n. count_by p ts + n) (omega (arith))

-- a prefix of the symbols and one more is a prefix of the symbols, or all of them
pub front_of_more : (ts : List Symbol) (t : Symbol) (b a : List Symbol) → ts ++ t ∷ [] ≡ b ++ a
    → (a ≡ []) ⊎ ((more : List Symbol) × (ts ≡ b ++ more))
front_of_more [] t [] a h = inr ([], refl)
front_of_more [] t (x ∷ []) a h = inl (cc (h))
front_of_more [] t (x ∷ y ∷ b) a h = absurd (cc (h))
front_of_more (y ∷ ts) t [] a h = inr (y ∷ ts, refl)
front_of_more (y ∷ ts) t (x ∷ b) a h =
    let tail : ts ++ t ∷ [] ≡ b ++ a = cc (h) in
    let head : y ≡ x = cc (h) in
    elim (front_of_more ts t b a tail) [
      | inl e ↦ inl e
      | inr m ↦ inr (m.0, (let rest = m.1 in cc (head, rest)))
    ]

-- shallow symbols and one more are shallow if at most 64 brackets are then open
pub shallow_more : (ts : List Symbol) (t : Symbol) → IsShallow ts → open_brackets (ts ++ t ∷ []) ≤ 64 → IsShallow (ts ++ t ∷ [])
shallow_more ts t h l = record {
  shallow = λ b a e. elim (front_of_more ts t b a e) [
    | inl none ↦ subst (λ x. open_brackets x ≤ 64) (e ∙ ap (λ x. b ++ x) none ∙ append-nil b) l
    | inr m ↦ h.shallow b m.0 m.1
  ];
}

-- with any further symbol they are shallow before it
pub shallow_before_one : (ts : List Symbol) (t : Symbol) → IsShallow ts → IsShallowBefore (ts ++ t ∷ [])
shallow_before_one ts t h = record {
  shallow = λ b a e n. elim (front_of_more ts t b a e) [ inl none ↦ absurd (n none) | inr m ↦ h.shallow b m.0 m.1 ];
}

-- shallow symbols are shallow before their last symbol
pub shallow_is_before : (ts : List Symbol) → IsShallow ts → IsShallowBefore ts
shallow_is_before ts h = record { shallow = λ b a e n. h.shallow b a e }

pub no_symbols_shallow : IsShallow []
no_symbols_shallow = record { shallow = λ b a e. none_open b a e }
  where
    none_open : (b a : List Symbol) → [] ≡ b ++ a → open_brackets b ≤ 64
    none_open [] a e = omega arith
    none_open (x ∷ b) a e = absurd (cc (e))
