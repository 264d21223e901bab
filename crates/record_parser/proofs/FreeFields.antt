-- Fields have no space in them, so a text is divided at its spaces in one way.
use Rattle.std.proofs.Common.{◌≡◌, ◌≢◌, ◌∙◌, ap, sym, subst, refl, arith, ℕ, ℤ, pos, negsuc, suc, ◌<◌, ◌^◌, List, [], ◌∷◌, ◌++◌, Bool, true}
use Rattle.std.proofs.Common.{false, FitsSigned}
use Rattle.std.specs.Prelude.{◌==◌, ◌&&◌, not}
use Rattle.std.specs.Fmt.{decimal, signed_decimal}
use Rattle.std.specs.Int.{IsInRange}
use Rattle.std.specs.List.{list_all}
use Rattle.std.proofs.lemmas.Fmt.{digits_decimal}
use Rattle.std.proofs.lemmas.List.{get_or_default}
use Rattle.std.proofs.lemmas.Str.Parse.{not_in_digits}
use mir.Syntax.{w64}
use Rattle.pipe_model.specs.declared.access.AccessKind.{AccessKind}
use Rattle.pipe_model.specs.declared.access.AccessKind.TheVariants as kinds
use Rattle.pipe_model.specs.declared.trap.Trap.{Trap as Trap_name}
use Rattle.pipe_model.specs.declared.trap.Trap.TheVariants as traps
use Rattle.pipe_model.specs.declared.tree.StageKind.TheVariants as stages
use Rattle.pipe_model.specs.Language.Lexis.{is_letter}
use Rattle.pipe_model.specs.Texts.{kind_text, trap_name}
use Rattle.record_parser.specs.ByteDivisions.{IsFreeOf}
use Rattle.record_parser.specs.LogForms.{space, word_text}
use Rattle.record_parser.specs.declared.log_word.LogWord.{LogWord}
use Rattle.record_parser.specs.declared.log_word.LogWord.TheVariants as words
use Rattle.record_parser.specs.RecordLines.{IsIteration}
use Rattle.record_parser.specs.OutcomeForms.{EndsInAccess, IsInstanceText, slash}
use Rattle.record_parser.proofs.Divisions.{at_last, free_append, free_cons}
use Rattle.record_parser.proofs.PlainDecimals.{own}

-- ---- words

-- a test by computation
pub free_by_test : (b : ℕ) (xs : List ℕ) → list_all (λ x. not (x == b)) xs ≡ true → IsFreeOf b xs
free_by_test b [] e = λ k d l. absurd (omega (arith, l))
free_by_test b (x ∷ xs) e = free_cons b x xs (λ same. (let z : (x == b) ≡ true = grind (arith, same) in absurd (by (x == b) z e)))
    (free_by_test b xs (rest (not (x == b)) e))
  where
    by : (t : Bool) → t ≡ true → (not t && list_all (λ x. not (x == b)) xs) ≡ true → ⊥
    by true z f = absurd (cc)
    by false z f = absurd (cc)

    rest : (t : Bool) → (t && list_all (λ x. not (x == b)) xs) ≡ true → list_all (λ x. not (x == b)) xs ≡ true
    rest true f = f
    rest false f = absurd (cc)

-- a text of bytes of one kind is free of the others
pub free_by : (p : ℕ → Bool) (b : ℕ) (xs : List ℕ) → p b ≡ false → list_all p xs ≡ true → IsFreeOf b xs
free_by p b [] other e = λ k d l. absurd (omega (arith, l))
free_by p b (x ∷ xs) other e =
    let parts = and_parts (p x) (list_all p xs) e in
    free_cons b x xs (λ same. (let z : true ≡ false = sym parts.0 ∙ ap p same ∙ other in absurd (cc))) (free_by p b xs other parts.1)
  where
    and_parts : (s t : Bool) → (s && t) ≡ true → (s ≡ true) × (t ≡ true)
    and_parts true t f = (refl, f)
    and_parts false t f = absurd (cc)

kind_letters : (kind : AccessKind) → list_all is_letter (kind_text kind) ≡ true
kind_letters kinds.Read = refl
kind_letters kinds.Write = refl

word_letters : (w : LogWord) → list_all is_letter (word_text w) ≡ true
word_letters words.Begin = refl
word_letters words.Enter = refl
word_letters words.End = refl
word_letters words.Closed = refl
word_letters words.Trap = refl
word_letters (words.Access kind) = kind_letters kind
word_letters (words.Stage stages.Wait) = refl
word_letters (words.Stage stages.Continue) = refl

trap_letters : (t : Trap_name) → list_all is_letter (trap_name t) ≡ true
trap_letters traps.Overflow = refl
trap_letters traps.DivZero = refl
trap_letters traps.Index = refl
trap_letters traps.Budget = refl
trap_letters traps.StageOrder = refl
trap_letters traps.StageLimit = refl
trap_letters traps.InputEnd = refl
trap_letters traps.IterLimit = refl
trap_letters traps.OutputLimit = refl

pub kind_free : (b : ℕ) (kind : AccessKind) → is_letter b ≡ false → IsFreeOf b (kind_text kind)
kind_free b kind other = free_by is_letter b (kind_text kind) other (kind_letters kind)

pub word_free : (b : ℕ) (w : LogWord) → is_letter b ≡ false → IsFreeOf b (word_text w)
word_free b w other = free_by is_letter b (word_text w) other (word_letters w)

pub trap_free : (b : ℕ) (t : Trap_name) → is_letter b ≡ false → IsFreeOf b (trap_name t)
trap_free b t other = free_by is_letter b (trap_name t) other (trap_letters t)

-- ---- numbers

pub decimal_free : (b n : ℕ) → n < 2 ^ 64 → (IsInRange 48 57 b → ⊥) → IsFreeOf b (decimal n)
decimal_free b n small out = λ k d l. subst (λ x. x ≢ b) (get_or_default (decimal n) k 0 d l)
    (not_in_digits own (decimal n) b (digits_decimal own n small) out k l)

pub iteration_free : (b i : ℕ) → IsIteration i → (IsInRange 48 57 b → ⊥) → IsFreeOf b (decimal i)
iteration_free b i h out = decimal_free b i (omega (arith, h)) out

pub signed_free : (b : ℕ) (z : ℤ) → FitsSigned w64 z → (IsInRange 48 57 b → ⊥) → 45 ≢ b → IsFreeOf b (signed_decimal z)
signed_free b (pos n) fits out apart = decimal_free b n (let small = fits.sfits in omega (arith, small)) out
signed_free b (negsuc n) fits out apart = free_cons b 45 (decimal (suc n)) apart
    (decimal_free b (suc n) (let small = fits.sfits in omega (arith, small)) out)

pub no_digit : IsInRange 48 57 space → ⊥
no_digit r = let low = r.0 in omega (arith, low)

pub no_sign : 45 ≢ space
no_sign e = omega (arith, e)

-- ---- instances

pub no_digit_slash : IsInRange 48 57 slash → ⊥
no_digit_slash r = let low = r.0 in omega (arith, low)

pub instance_free : (text : List ℕ) → IsInstanceText text → IsFreeOf space text
instance_free text h = subst (IsFreeOf space) (sym h.is)
    (free_append space (decimal h.iteration) (slash ∷ signed_decimal h.number) (iteration_free space h.iteration h.within no_digit)
    (free_cons space slash (signed_decimal h.number) (λ e. omega (arith, e)) (signed_free space h.number h.fits no_digit no_sign)))

-- a text ends in one access
pub one_access : (text before other : List ℕ) → EndsInAccess text before → EndsInAccess text other → before ≡ other
one_access text before other h g =
    let parts = at_last space text (before ++ space ∷ kind_text h.kind) h.instance (other ++ space ∷ kind_text g.kind) g.instance
    h.is (instance_free h.instance h.is_instance) g.is (instance_free g.instance g.is_instance) in
    (at_last space (before ++ space ∷ kind_text h.kind) before (kind_text h.kind) other (kind_text g.kind) refl
    (kind_free space h.kind refl) parts.0 (kind_free space g.kind refl)).0
