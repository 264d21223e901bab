-- The results of reading symbols, with the bound on open brackets.
use Rattle.std.proofs.Common.{◌≡◌, ◌≢◌, ℕ, zero, suc, ◌+◌, ◌-◌, ◌<◌, ◌≤◌, List, [], ◌∷◌, ◌++◌, length, take, append_assoc, append-nil}
use Rattle.std.proofs.Common.{length-append, refl, sym, ap, ◌∙◌, arith, subst, inl, inr}
use Rattle.std.proofs.Math.Seq.{take-append_seam}
use Rattle.pipe_model.specs.declared.symbol.Symbol.{Symbol}
use Rattle.grammar_laws.specs.ProgramMachine.{Outside, Verdict, Accepted, Unexpected, TooLong, judge, program}
use Rattle.pipe_model.specs.Language.SyntaxTree.{SyntaxTree}
use Rattle.grammar_laws.specs.Reading.{ReadsProgram}
use Rattle.pipe_model.specs.Language.Spelling as spelling
use Rattle.pipe_model.specs.Language.Spelling.{Spells, IsShallow, FirstFault, GrammarRule}
use Rattle.grammar_laws.proofs.FaultRules.{IsShallowBefore, ComesToLast, first_unexpected, first_unexpected_end, first_too_long}
use Rattle.grammar_laws.proofs.FaultRules.{first_too_deep}
use Rattle.grammar_laws.proofs.FirstFaults.{is_unexpected, is_too_long}
use Rattle.grammar_laws.proofs.OpenBrackets.{shallow_before_one, shallow_is_before}
use Rattle.grammar_laws.proofs.ProgramPassing.{accepts_program}
use Rattle.grammar_laws.proofs.ProgramReading.{sound_program}
use Rattle.pipe_parser.specs.Depths.{OpensTooMany}
use Rattle.pipe_parser.specs.Parses.{BreaksFirst}
use Rattle.pipe_parser.specs.SyntaxFaults.{Refuses}
use Rattle.pipe_parser.specs.declared.fault.SyntaxFault.{SyntaxFault}
use Rattle.pipe_parser.specs.declared.fault.SyntaxFault.TheVariants as faults

-- shallow symbols spell the program that was read from them
pub spelled : (ts : List Symbol) (p : SyntaxTree) → ReadsProgram 256 ts p → IsShallow ts → Spells ts p
spelled ts p r h = let t = sound_program r in record {
  pieces = t.taken;
  split = t.split;
  derived = t.derived;
  short = t.short;
  shallow =
      h;
}

-- no more symbols are left than there are
pub unexpected_within : (ts : List Symbol) (n : ℕ) → judge 256 ts (Outside program) ≡ Unexpected n → n ≤ length ts
unexpected_within ts n v = let u = is_unexpected ts n v in omega (arith, u.many, ap length u.split, length-append u.before u.rest)

-- if the machine finds an expression too long, at least one symbol is left, and no more than there are
pub too_long_within : (ts : List Symbol) (n : ℕ) → judge 256 ts (Outside program) ≡ TooLong n → (0 < n) × (n ≤ length ts)
too_long_within ts n v =
    let x = is_too_long ts n v in
    let many : length ts ≡ length x.before + length (x.t ∷ x.after) = ap length x.split ∙ length-append x.before (x.t ∷ x.after) in
    (omega (arith, x.many), omega (arith, x.many, many))

-- a fault of symbols followed by none
without_more : {ts : List Symbol} {rule : GrammarRule} {k : ℕ} → FirstFault (ts ++ []) rule k → FirstFault ts rule k
without_more {ts} {rule} {k} f = subst (λ x. FirstFault x rule k) (append-nil ts) f

-- a fault at the same index
pub at_place : {ts : List Symbol} {rule : GrammarRule} {k m : ℕ} → k ≡ m → FirstFault ts rule k → FirstFault ts rule m
at_place {ts} {rule} h f = subst (FirstFault ts rule) h f

-- ---- symbols that never open too many brackets
-- what the machine does not expect, a symbol or the end, is the first fault
pub shallow_unexpected : (ts : List Symbol) (n : ℕ) → judge 256 ts (Outside program) ≡ Unexpected n → IsShallow ts
    → FirstFault ts spelling.Unexpected (length ts - n)
shallow_unexpected ts n v h = by_left n refl
  where
    by_left : (m : ℕ) → n ≡ m → FirstFault ts spelling.Unexpected (length ts - n)
    by_left zero e = at_place (omega (arith, e)) (first_unexpected_end ts (v ∙ ap Unexpected e) h)
    by_left (suc m) e =
        without_more (first_unexpected ts [] n (length ts - n) v (omega (arith, e)) (omega (arith, unexpected_within ts n v))
        (shallow_is_before ts h))

-- the symbol that makes an expression too long is the first fault
pub shallow_too_long : (ts : List Symbol) (n : ℕ) → judge 256 ts (Outside program) ≡ TooLong n → IsShallow ts
    → FirstFault ts spelling.TooLong (length ts - n)
shallow_too_long ts n v h =
    without_more (first_too_long ts [] n (length ts - n) v (inr (h.shallow ts [] (sym (append-nil ts))))
    (omega (arith, (too_long_within ts n v).1))
    (shallow_is_before ts h))

-- so the fault that the readers report is the first one
pub shallow_fault : (ts : List Symbol) (f : SyntaxFault) → Refuses ts f → IsShallow ts → BreaksFirst ts f
shallow_fault ts (faults.Unexpected left) v h = shallow_unexpected ts left v h
shallow_fault ts (faults.TooDeep left) v h = absurd v
shallow_fault ts (faults.TooLong left) v h = shallow_too_long ts left v h
shallow_fault ts faults.NoMemory v h = tt

-- ---- symbols that open too many

-- the bracket too many is one of the symbols
pub count_within : (ts : List Symbol) (k : ℕ) → OpensTooMany ts k → (1 ≤ k) × (k ≤ length ts)
count_within ts k o =
    let all : length ts ≡ length o.before + length (o.t ∷ o.after) = ap length o.split ∙ length-append o.before (o.t ∷ o.after) in
    (omega (arith, o.many), omega (arith, o.many, all))

-- the symbols up to and including the bracket too many
cut_is : (ts : List Symbol) (k : ℕ) → (o : OpensTooMany ts k) → take k ts ≡ o.before ++ o.t ∷ []
cut_is ts k o =
    let all : ts ≡ (o.before ++ o.t ∷ []) ++ o.after = o.split ∙ sym (append_assoc o.before (o.t ∷ []) o.after) in
    let many : k ≡ length (o.before ++ o.t ∷ []) = omega (arith, o.many, length-append o.before (o.t ∷ [])) in
    ap (λ n. take n ts) many ∙ ap (take (length (o.before ++ o.t ∷ []))) all ∙ take-append_seam (o.before ++ o.t ∷ []) o.after

-- there are k of them
cut_many : (ts : List Symbol) (k : ℕ) → OpensTooMany ts k → length (take k ts) ≡ k
cut_many ts k o = omega (arith, ap length (cut_is ts k o), length-append o.before (o.t ∷ []), o.many)

-- together with the symbols after them they are all symbols
cut_more : (ts : List Symbol) (k : ℕ) → (o : OpensTooMany ts k) → take k ts ++ o.after ≡ ts
cut_more ts k o = ap (λ x. x ++ o.after) (cut_is ts k o) ∙ append_assoc o.before (o.t ∷ []) o.after ∙ sym o.split

-- only the last of them opens too many
cut_shallow : (ts : List Symbol) (k : ℕ) → (o : OpensTooMany ts k) → IsShallowBefore (take k ts)
cut_shallow ts k o = subst IsShallowBefore (sym (cut_is ts k o)) (shallow_before_one o.before o.t o.shallow)

-- a fault of the same symbols
of_all : {ts us : List Symbol} {rule : GrammarRule} {k : ℕ} → us ≡ ts → FirstFault us rule k → FirstFault ts rule k
of_all {rule = rule} {k = k} h f = subst (λ x. FirstFault x rule k) h f

-- if the machine does not expect a symbol, no more of them are left than there are
pub cut_within : (ts : List Symbol) (k n : ℕ) → OpensTooMany ts k → judge 256 (take k ts) (Outside program) ≡ Unexpected n → n ≤ k
cut_within ts k n o v = omega (arith, cut_many ts k o, unexpected_within (take k ts) n v)

-- the same if it finds an expression too long
pub cut_long_within : (ts : List Symbol) (k n : ℕ) → OpensTooMany ts k → judge 256 (take k ts) (Outside program) ≡ TooLong n → n ≤ k
cut_long_within ts k n o v = omega (arith, cut_many ts k o, (too_long_within (take k ts) n v).1)

-- the symbol that the machine does not expect is the first fault, if any symbol is left
pub cut_unexpected : (ts : List Symbol) (k n : ℕ) → OpensTooMany ts k → judge 256 (take k ts) (Outside program) ≡ Unexpected n → 0 < n
    → FirstFault ts spelling.Unexpected (k - n)
cut_unexpected ts k n o v l =
    of_all (cut_more ts k o) (first_unexpected (take k ts) o.after n (k - n) v l (omega (arith, cut_many ts k o, cut_within ts k n o v))
    (cut_shallow ts k o))

-- the symbol that makes an expression too long is the first fault, if it is not the bracket too many
pub cut_too_long : (ts : List Symbol) (k n : ℕ) → OpensTooMany ts k → judge 256 (take k ts) (Outside program) ≡ TooLong n → n ≢ 1
    → FirstFault ts spelling.TooLong (k - n)
cut_too_long ts k n o v l =
    let some = (too_long_within (take k ts) n v).0 in
    of_all (cut_more ts k o) (first_too_long (take k ts) o.after n (k - n) v (inl (grind (arith, l, some)))
    (omega (arith, cut_many ts k o, cut_long_within ts k n o v)) (cut_shallow ts k o))

-- the bracket too many is the first fault, if the machine reaches it
pub cut_too_deep : (ts : List Symbol) (k : ℕ) (v : Verdict) → OpensTooMany ts k → judge 256 (take k ts) (Outside program) ≡ v
    → ComesToLast v
    → FirstFault ts spelling.TooDeep (k - 1)
cut_too_deep ts k v o e c =
    let same : judge 256 (o.before ++ o.t ∷ []) (Outside program) ≡ v = ap (λ x. judge 256 x (Outside program)) (sym (cut_is ts k o)) ∙ e in
    of_all (sym o.split) (at_place (omega (arith, o.many))
    (first_too_deep o.before o.t o.after v same c (shallow_before_one o.before o.t o.shallow) o.deep))

-- and also if a program was read
pub cut_read : (ts : List Symbol) (k : ℕ) (p : SyntaxTree) → OpensTooMany ts k → ReadsProgram 256 (take k ts) p
    → FirstFault ts spelling.TooDeep (k - 1)
cut_read ts k p o r = cut_too_deep ts k Accepted o (accepts_program r) tt
