-- Counting brackets in a loop.
use Rattle.std.proofs.Common.{◌≡◌, ℕ, ◌+◌, ◌-◌, ◌<◌, ◌≤◌, List, [], ◌∷◌, ◌++◌, length, append_assoc, append-nil, length-append, refl, sym}
use Rattle.std.proofs.Common.{ap, ◌∙◌, arith, subst, Bool, true, false, cond}
use Rattle.std.specs.List.{count_by}
use Rattle.std.proofs.lemmas.List.Sums.{count_by-le-length}
use Rattle.pipe_model.specs.declared.symbol.Symbol.{Symbol}
use Rattle.pipe_model.specs.Language.Spelling.{is_opening_bracket, is_closing_bracket, IsShallow}
use Rattle.grammar_laws.proofs.OpenBrackets.{count_one_more, shallow_more, no_symbols_shallow}
use Rattle.pipe_parser.specs.Depths.{OpensTooMany}

-- the symbols before the rest are shallow, and this many of them open and close brackets
pub record Counted (all rest : List Symbol) (opened closed : ℕ) : Type 0 where
  pub before : List Symbol
  pub split : all ≡ before ++ rest
  pub shallow : IsShallow before
  pub opens : opened ≡ count_by is_opening_bracket before
  pub closes : closed ≡ count_by is_closing_bracket before

-- nothing is counted at the beginning
pub counted_none : (all : List Symbol) → Counted all all 0 0
counted_none all = record { before = []; split = refl; shallow = no_symbols_shallow; opens = refl; closes = refl }

-- the count of one kind after one more symbol
pub opened_more : (p : Symbol → Bool) (before : List Symbol) (t : Symbol) (n m : ℕ) → n ≡ count_by p before → m ≡ n + cond (p t) 1 0
    → m ≡ count_by p (before ++ t ∷ [])
opened_more p before t n m h i = i ∙ ap (λ x. x + cond (p t) 1 0) h ∙ sym (count_one_more p before t)

-- the counts after one more symbol
pub counted_more : (all rest following : List Symbol) (t : Symbol) (opened closed o c : ℕ) → Counted all rest opened closed
    → rest ≡ t ∷ following
    → o ≡ opened + cond (is_opening_bracket t) 1 0 → c ≡ closed + cond (is_closing_bracket t) 1 0 → o - c ≤ 64
    → Counted all following o c
counted_more all rest following t opened closed o c k h i j l =
    let opens = opened_more is_opening_bracket k.before t opened o k.opens i in
    let closes = opened_more is_closing_bracket k.before t closed c k.closes j in
    record {
      before = k.before ++ t ∷ [];
      split = k.split ∙ ap (λ x. k.before ++ x) h ∙ sym (append_assoc k.before (t ∷ []) following);
      shallow = shallow_more k.before t k.shallow (omega (arith, l, opens, closes));
      opens = opens;
      closes = closes;
    }

-- the symbol with which too many brackets are open
pub counted_too_many : (all rest following : List Symbol) (t : Symbol) (opened closed o c : ℕ) → Counted all rest opened closed
    → rest ≡ t ∷ following
    → o ≡ opened + cond (is_opening_bracket t) 1 0 → c ≡ closed + cond (is_closing_bracket t) 1 0 → 64 < o - c
    → OpensTooMany all (length all - length following)
counted_too_many all rest following t opened closed o c k h i j l =
    let opens = opened_more is_opening_bracket k.before t opened o k.opens i in
    let closes = opened_more is_closing_bracket k.before t closed c k.closes j in
    let many : length all ≡ length k.before + length rest = ap length k.split ∙ length-append k.before rest in
    record {
      before = k.before;
      t = t;
      after = following;
      split = k.split ∙ ap (λ x. k.before ++ x) h;
      many = omega (arith, many, ap length h);
      shallow = k.shallow;
      deep = omega (arith, l, opens, closes);
    }

-- at the end all symbols are shallow
pub counted_all : (all : List Symbol) (rest : List Symbol) (opened closed : ℕ) → Counted all rest opened closed → rest ≡ [] → IsShallow all
counted_all all rest opened closed k h =
    subst IsShallow (sym (k.split ∙ ap (λ x. k.before ++ x) h ∙ append-nil k.before)) k.shallow

-- no more are counted than there are symbols
pub counted_within : (all rest : List Symbol) (opened closed : ℕ) → Counted all rest opened closed
    → (opened + length rest ≤ length all) × (closed + length rest ≤ length all)
counted_within all rest opened closed k =
    let many : length all ≡ length k.before + length rest = ap length k.split ∙ length-append k.before rest in (
      omega (arith, many, k.opens, count_by-le-length is_opening_bracket k.before),
      omega
          (arith, many, k.closes, count_by-le-length is_closing_bracket k.before),
    )

-- one symbol adds at most 1
pub one_at_most : (b : Bool) → cond b 1 0 ≤ 1
one_at_most true = omega arith
one_at_most false = omega arith
