-- Each list of symbols spells a program or has a first fault.
use Rattle.std.proofs.Common.{◌≡◌, ◌≢◌, ℕ, zero, suc, ◌+◌, ◌-◌, List, [], ◌∷◌, ◌++◌, length, take, append_assoc, append-nil, refl, sym}
use Rattle.std.proofs.Common.{arith, subst, ◌⊎◌, inl, inr}
use Rattle.std.proofs.lemmas.Bool.{cases_eq, cases_lt}
use Rattle.pipe_model.specs.declared.symbol.Symbol.{Symbol}
use Rattle.grammar_laws.specs.ProgramMachine.{Outside, Verdict, Accepted, Unexpected, TooLong, judge, program}
use Rattle.pipe_model.specs.Language.Spelling as spelling
use Rattle.pipe_model.specs.Language.Spelling.{IsShallow, open_brackets}
use Rattle.grammar_laws.proofs.AcceptedPrograms.{accepted_spelled}
use Rattle.grammar_laws.proofs.OpenBrackets.{shallow_more, no_symbols_shallow}
use Rattle.pipe_parser.specs.Depths.{OpensTooMany}
use Rattle.pipe_parser.specs.ParsingLaw.{IsProgramOrFault}
use Rattle.pipe_parser.proofs.Parses.{shallow_unexpected, shallow_too_long, cut_unexpected, cut_too_long, cut_too_deep}

-- no symbol opens too many brackets, or there is a first that does
shallow_or_deep : (before rest : List Symbol) → IsShallow before → IsShallow (before ++ rest) ⊎ ((k : ℕ) × OpensTooMany (before ++ rest) k)
shallow_or_deep before [] h = inl (subst IsShallow (sym (append-nil before)) h)
shallow_or_deep before (t ∷ rest) h =
    elim (cases_lt 64 (open_brackets (before ++ t ∷ []))) [
      | inl l ↦ inr (length before + 1, record { before = before; t = t; after = rest; split = refl; many = refl; shallow = h; deep = l })
      | inr l ↦ (
          let same : (before ++ t ∷ []) ++ rest ≡ before ++ t ∷ rest = append_assoc before (t ∷ []) rest in
          subst (λ x. IsShallow x ⊎ ((k : ℕ) × OpensTooMany x k)) same
          (shallow_or_deep (before ++ t ∷ []) rest (shallow_more before t h l)))
    ]

-- symbols that never open too many brackets, by the machine's verdict on all of them
by_verdict : (ts : List Symbol) (v : Verdict) → judge 256 ts (Outside program) ≡ v → IsShallow ts → IsProgramOrFault ts
by_verdict ts Accepted e h = inl (accepted_spelled ts e h)
by_verdict ts (Unexpected n) e h = inr (spelling.Unexpected, length ts - n, shallow_unexpected ts n e h)
by_verdict ts (TooLong n) e h = inr (spelling.TooLong, length ts - n, shallow_too_long ts n e h)

-- symbols that open too many, by the machine's verdict on those up to and including the first bracket too many
by_cut : (ts : List Symbol) (k : ℕ) (v : Verdict) → OpensTooMany ts k → judge 256 (take k ts) (Outside program) ≡ v → IsProgramOrFault ts
by_cut ts k Accepted o e = inr (spelling.TooDeep, k - 1, cut_too_deep ts k Accepted o e tt)
by_cut ts k (Unexpected zero) o e = inr (spelling.TooDeep, k - 1, cut_too_deep ts k (Unexpected zero) o e refl)
by_cut ts k (Unexpected (suc n)) o e = inr (spelling.Unexpected, k - suc n, cut_unexpected ts k (suc n) o e (omega arith))
by_cut ts k (TooLong n) o e = by_left (cases_eq n 1)
  where
    by_left : (n ≡ 1) ⊎ (n ≢ 1) → IsProgramOrFault ts
    by_left (inl one) = inr (spelling.TooDeep, k - 1, cut_too_deep ts k (TooLong n) o e one)
    by_left (inr other) = inr (spelling.TooLong, k - n, cut_too_long ts k n o e other)

pub program_or_fault : (ts : List Symbol) → IsProgramOrFault ts
program_or_fault ts =
    elim (shallow_or_deep [] ts no_symbols_shallow) [
      | inl h ↦ by_verdict ts (judge 256 ts (Outside program)) refl h
      | inr d ↦ by_cut ts d.0 (judge 256 (take d.0 ts) (Outside program)) d.1 refl
    ]
