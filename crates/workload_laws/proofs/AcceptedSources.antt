-- Each generated source is the canonical text of its program, and is accepted.
use Rattle.std.proofs.Common.{◌≡◌, ◌≤◌, subst, length, length-append, refl, ℕ, pos, ◌*ℤ◌, None, false, true, arith, ap, sym, cond, Bool}
use Rattle.std.proofs.Common.{◌+◌, ◌∙◌, ◌∷◌, [], List, ◌++◌, append_assoc, int_lt}
use Rattle.std.specs.Fmt.{decimal, digits}
use Rattle.std.specs.List.{count_by}
use Rattle.std.proofs.lemmas.Bool.Decides.{nat_tests}
use Rattle.std.proofs.lemmas.Fmt.{length-decimal-le}
use Rattle.std.proofs.lemmas.List.Sums.{sum_by-cons}
use Rattle.pipe_model.specs.declared.symbol.Symbol.{Symbol}
use Rattle.pipe_model.specs.Language.CanonicalText.{program_text}
use Rattle.pipe_model.specs.Language.CheckingRules.{fault_of}
use Rattle.pipe_model.specs.Language.Grammar.{flat}
use Rattle.pipe_model.specs.Language.SourceRefusals.{IsAccepted}
use Rattle.pipe_model.specs.Language.SourceSpelling.{SourceSpells}
use Rattle.pipe_model.specs.Language.Spelling.{IsShallow, Spells, is_opening_bracket}
use Rattle.grammar_laws.proofs.CanonicalDerivations.{program_derived}
use Rattle.grammar_laws.proofs.CanonicalDivision.{program_source}
use Rattle.grammar_laws.proofs.CanonicalSymbols.{program_pieces, IsName, IsNumeral, Numeral, Positive, IsWritableProgram}
use Rattle.pipe_gen.specs.Workload.{source_text}
use Rattle.pipe_gen.specs.declared.workload.TheConstants.{MOST_SIZE}
use Rattle.workload_laws.specs.GeneratedPrograms as names
use Rattle.workload_laws.specs.GeneratedPrograms.{generated_tree}

-- the canonical text of the program is the source
text_is : (size : ℕ) → program_text (generated_tree size) ≡ source_text size
unfolding digits
text_is size = simp append_assoc refl

-- the program breaks no rule
obeys : (size : ℕ) → 1 ≤ size → size ≤ MOST_SIZE → fault_of (generated_tree size) ≡ None
obeys size some bounded =
    let low : int_lt (pos size) (pos 1) ≡ false = grind (arith, nat_tests) in
    let high : int_lt (pos 65536) (pos size) ≡ false = grind (arith, nat_tests) in
    let product : int_lt (pos 262144) (pos size *ℤ pos 6) ≡ false = grind (arith, nat_tests) in
    let emits : int_lt (pos 1048576) (pos size) ≡ false = grind (arith, nat_tests) in
    rw (low, high, product, emits) refl

-- ---- the program can be written

x : IsName names.x
x = record { symbol = refl; short = omega arith }

a : IsName names.a
a = record { symbol = refl; short = omega arith }

sum : IsName names.sum
sum = record { symbol = refl; short = omega arith }

number : (n : ℕ) → n ≤ MOST_SIZE → IsNumeral (pos n)
number n bounded = Numeral n (omega (arith, bounded))

-- its names are names, and its numbers are within their range
writable : (size : ℕ) → size ≤ MOST_SIZE → IsWritableProgram (generated_tree size)
writable size bounded = record {
  iterations = number size bounded;
  stages = number 6 (omega arith);
  steps = number 100 (omega arith);
  emits = number size bounded;
  cells = (sum, tt, Positive 0 (omega arith), tt);
  init = tt;
  test = tt;
  body = (
    (x, tt),
    (
      number 1 (omega arith),
      (
        (a, (omega arith, omega arith, (omega arith, omega arith, x, number 3 (omega arith)), number 1 (omega arith))),
        (
          number 2 (omega arith),
          (
            (a, (omega arith, omega arith, a, number 1024 (omega arith))),
            (
              number 3 (omega arith),
              (
                (a, (omega arith, omega arith, a, a)),
                (
                  number 4 (omega arith),
                  (
                    (a, (omega arith, omega arith, a, number 1000 (omega arith))),
                    (
                      number 5 (omega arith),
                      ((sum, (omega arith, omega arith, sum, a)), (sum, tt)),
                    ),
                  ),
                ),
              ),
            ),
          ),
        ),
      ),
    ),
  );
  last = tt;
}

-- ---- its symbols have few brackets

-- 1 if a test passes, and else 0
abbrev one_if : Bool → ℕ
one_if b = cond b 1 0

-- the count of a list with one more symbol
counted : (p : Symbol → Bool) (t : Symbol) (ts : List Symbol) → count_by p (t ∷ ts) ≡ one_if (p t) + count_by p ts
counted p t ts = sum_by-cons (λ s. cond (p s) 1 0) t ts ∙ by_test (p t)
  where
    by_test : (b : Bool) → cond b 1 0 + count_by p ts ≡ one_if b + count_by p ts
    by_test true = refl
    by_test false = refl

-- a prefix opens no more brackets than the whole
prefix_opens : (before after : List Symbol) → count_by is_opening_bracket before ≤ count_by is_opening_bracket (before ++ after)
prefix_opens [] after = omega arith
prefix_opens (t ∷ before) after =
    let ih = prefix_opens before after in
    rw (counted is_opening_bracket t before, counted is_opening_bracket t (before ++ after)) (omega (arith, ih))

-- the whole program opens at most 64 brackets
shallow : (size : ℕ) → IsShallow (flat (program_pieces (generated_tree size)))
shallow size = record {
  shallow = λ before after e.
      let whole : count_by is_opening_bracket (flat (program_pieces (generated_tree size))) ≤ 64 = omega arith in
      let prefix = prefix_opens before after in
      let some : count_by is_opening_bracket before ≤ 64 = omega (arith, prefix, whole, ap (count_by is_opening_bracket) e) in
      omega (arith, some);
}

-- ---- the source spells the program

-- the symbols spell the program
spells : (size : ℕ) → size ≤ MOST_SIZE → Spells (flat (program_pieces (generated_tree size))) (generated_tree size)
spells size bounded = record {
  pieces = program_pieces (generated_tree size);
  split = refl;
  derived = program_derived (generated_tree size) (writable size bounded);
  short = (
    omega arith,
    (
      omega arith,
      (
        omega arith,
        (
          omega arith,
          (
            omega arith,
            (
              omega arith,
              (
                omega arith,
                (
                  omega arith,
                  (omega arith, (omega arith, (omega arith, (omega arith, (omega arith, tt))))),
                ),
              ),
            ),
          ),
        ),
      ),
    ),
  );
  shallow = shallow size;
}

-- the text is short
text_short : (size : ℕ) → size ≤ MOST_SIZE → length (program_text (generated_tree size)) ≤ 1048576
text_short size bounded =
    let d : length (decimal size) ≤ 5 = length-decimal-le 5 size (omega arith) (omega (arith, bounded)) (omega (arith, bounded)) in
    let whole : length (source_text size) ≤ 1048576 = simp length-append (omega (arith, d)) in
    subst (λ n. length n ≤ 1048576) (sym (text_is size)) whole

pub accepted : (size : ℕ) → 1 ≤ size → size ≤ MOST_SIZE → IsAccepted (source_text size) (generated_tree size)
accepted size some bounded =
    let made = program_source (generated_tree size) (writable size bounded) (text_short size bounded) in
    let spelled : SourceSpells (program_text (generated_tree size)) (generated_tree size) =
    record {
      tokens = made.tokens;
      lexed = made.lexed;
      spelled = subst (λ ts. Spells ts (generated_tree size)) (sym made.same)
          (spells size bounded);
    } in
    record { spelled = subst (λ text. SourceSpells text (generated_tree size)) (text_is size) spelled; obeys = obeys size some bounded }
