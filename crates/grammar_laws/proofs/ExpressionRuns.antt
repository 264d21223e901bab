-- Runs of the machine of expressions: in two parts, and up to where the machine stops.
use Rattle.std.proofs.Common.{◌≡◌, ℕ, List, [], ◌∷◌, ◌++◌, refl, ap, ◌∙◌, Option, Some, None, Bool, true, false, length}
use Rattle.pipe_model.specs.declared.symbol.Symbol.{Symbol}
use Rattle.grammar_laws.specs.ExpressionMachine.{Want, step, run, and_run, may_end, Done, Stuck, ended, ending, ending_on}

run_part_on : (o : Option (List Want)) (ts us : List Symbol)
    → ((wants : List Want) → run (ts ++ us) wants ≡ and_run (run ts wants) (run us))
    → and_run o (run (ts ++ us)) ≡ and_run (and_run o (run ts)) (run us)
run_part_on None ts us h = refl
run_part_on (Some wants) ts us h = h wants

-- a run over two lists is two runs
pub run_part : (ts us : List Symbol) (wants : List Want) → run (ts ++ us) wants ≡ and_run (run ts wants) (run us)
run_part [] us wants = refl
run_part (t ∷ ts) us wants = run_part_on (step wants t) ts us (run_part ts us)

-- the second run continues from the state after the first
pub run_then : (ts us : List Symbol) (wants mid : List Want) → run ts wants ≡ Some mid → run (ts ++ us) wants ≡ run us mid
run_then ts us wants mid h = run_part ts us wants ∙ ap (λ o. and_run o (run us)) h

-- the first symbol is not allowed
abbrev pub Refused : List Want → List Symbol → Type 0
Refused wants [] = Unit {0}
Refused wants (t ∷ ts) = step wants t ≡ None

-- the machine runs over a prefix and cannot continue
pub record Stopped (ts : List Symbol) (wants : List Want) : Type 0 where
  pub before : List Symbol
  pub rest : List Symbol
  pub left : List Want
  pub split : ts ≡ before ++ rest
  pub runs : run before wants ≡ Some left
  pub refused : Refused left rest
  pub ends : ending ts wants ≡ ended (may_end left) rest

stopped_on : (t : Symbol) (ts : List Symbol) (wants : List Want) (o : Option (List Want)) → step wants t ≡ o
    → ((mid : List Want) → Stopped ts mid)
    → Stopped (t ∷ ts) wants
stopped_on t ts wants None e f = record {
  before = [];
  rest = t ∷ ts;
  left = wants;
  split = refl;
  runs = refl;
  refused = e;
  ends = ap (λ o. ending_on o (ended (may_end wants) (t ∷ ts)) (ending ts)) e;
}
stopped_on t ts wants (Some mid) e f =
    let s = f mid in
    record {
      before = t ∷ s.before;
      rest = s.rest;
      left = s.left;
      split = ap (λ x. t ∷ x) s.split;
      runs = ap (λ o. and_run o (run s.before)) e ∙ s.runs;
      refused = s.refused;
      ends = ap (λ o. ending_on o (ended (may_end wants) (t ∷ ts)) (ending ts)) e ∙ s.ends;
    }

-- the prefix over which the machine runs
pub stopped : (ts : List Symbol) (wants : List Want) → Stopped ts wants
stopped [] wants = record { before = []; rest = []; left = wants; split = refl; runs = refl; refused = tt; ends = refl }
stopped (t ∷ ts) wants = stopped_on t ts wants (step wants t) refl (λ mid. stopped ts mid)

-- what a result of `ended` says about the wants
pub done_may_end : (b : Bool) (ts rest : List Symbol) → ended b ts ≡ Done rest → (b ≡ true) × (ts ≡ rest)
done_may_end true ts rest h = (refl, cc (h))
done_may_end false ts rest h = absurd (cc (h))

pub stuck_may_not_end : (b : Bool) (ts : List Symbol) (left : ℕ) → ended b ts ≡ Stuck left → (b ≡ false) × (length ts ≡ left)
stuck_may_not_end true ts left h = absurd (cc (h))
stuck_may_not_end false ts left h = (refl, cc (h))
