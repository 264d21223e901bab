-- The machine of programs at a full expression: it passes one that is read and is not too long; otherwise it says why it stops.
use Rattle.std.proofs.Common.{◌≡◌, ℕ, suc, ◌<◌, ◌≤◌, ◌+◌, List, [], ◌∷◌, ◌++◌, length, refl, sym, ap, ◌∙◌, length-append, arith, Option}
use Rattle.std.proofs.Common.{Some, None, true, false, nat_le, ◌⊎◌, inl, inr, ◌==◌}
use Rattle.std.proofs.lemmas.Bool.{cases_lt}
use Rattle.pipe_model.specs.declared.sign_bytes.TheConstants as signs
use Rattle.pipe_model.specs.declared.symbol.Symbol.{Symbol}
use Rattle.pipe_model.specs.declared.symbol.Symbol.TheVariants as symbols
use Rattle.pipe_model.specs.Language.SyntaxTree.{Expression}
use Rattle.grammar_laws.specs.Reading.{Reads, ReadsNumeral, ReadsName, ReadsElement, ReadsMore, ReadsTake, ReadsIter, ReadsNegative}
use Rattle.grammar_laws.specs.Reading.{ReadsNot, ReadsBracketed, ReadsChain, ReadsFull, NoSign}
use Rattle.grammar_laws.specs.ExpressionMachine as expression
use Rattle.grammar_laws.specs.ProgramMachine.{Want, Sign, FullExpression, StageNumber, MachineState, Outside, Inside, whole, entered}
use Rattle.grammar_laws.specs.ProgramMachine.{continued, step, Verdict, Unexpected, TooLong, judged, judge}
use Rattle.grammar_laws.proofs.ExpressionPassing.{passes_expression}
use Rattle.grammar_laws.proofs.ExpressionRuns.{Refused, stopped, done_may_end, stuck_may_not_end}

enters_on : (longest : ℕ) (o : Option (List expression.Want)) (wants : List Want) (below : Option MachineState) (left : ℕ)
    (go : MachineState → Verdict)
    → judged longest (entered o wants) left go ≡ judged longest (continued o false 0 wants below) left go
enters_on longest None wants below left go = refl
enters_on longest (Some inner) wants below left go = refl

-- before its first symbol, the state is as good as inside the full expression
pub enters : (longest : ℕ) (ts : List Symbol) (wants : List Want)
    → judge longest ts (Outside (FullExpression ∷ wants)) ≡ judge longest ts (Inside 0 whole wants)
enters longest [] wants = refl
enters longest (t ∷ ts) wants = enters_on longest (expression.step whole t) wants (step wants t) (length (t ∷ ts)) (judge longest ts)

goes_on : (longest n : ℕ) (o : Option (List expression.Want)) (inner : List expression.Want) (t : Symbol) (ts : List Symbol)
    (wants : List Want)
    → expression.step inner t ≡ o
    → judge longest (t ∷ ts) (Inside n inner wants)
    ≡ judged longest (continued o (expression.may_end inner) n wants (step wants t)) (length (t ∷ ts)) (judge longest ts)
goes_on longest n o inner t ts wants h =
    ap (λ x. judged longest (continued x (expression.may_end inner) n wants (step wants t)) (length (t ∷ ts)) (judge longest ts)) h

-- the machine runs over these symbols inside a full expression
abbrev RunsOver : (longest : ℕ) → List Symbol → List Symbol → List Want → Type 0
RunsOver longest before rest wants =
    (n : ℕ) (inner left : List expression.Want) → expression.run before inner ≡ Some left → n + length before ≤ longest
    → judge longest (before ++ rest) (Inside n inner wants) ≡ judge longest rest (Inside (n + length before) left wants)

inside_runs_on : (longest : ℕ) (t : Symbol) (before rest : List Symbol) (wants : List Want) (n : ℕ) (inner left : List expression.Want)
    (o : Option (List expression.Want)) → expression.step inner t ≡ o → RunsOver longest before rest wants
    → expression.and_run o (expression.run before) ≡ Some left → n + length (t ∷ before) ≤ longest
    → judge longest (t ∷ (before ++ rest)) (Inside n inner wants) ≡ judge longest rest (Inside (n + length (t ∷ before)) left wants)
inside_runs_on longest t before rest wants n inner left None e f h l = absurd (cc (h))
inside_runs_on longest t before rest wants n inner left (Some mid) e f h l =
    let fits : nat_le (suc n) longest ≡ true = grind (arith, l) in
    let many : n + length (t ∷ before) ≡ suc n + length before = omega arith in
    goes_on longest n (Some mid) inner t (before ++ rest) wants e ∙ rw (fits, many) (f (suc n) mid left h (omega (arith, l)))

-- symbols that continue a full expression and are not too many
pub inside_runs : (longest : ℕ) (before rest : List Symbol) (wants : List Want) → RunsOver longest before rest wants
inside_runs longest [] rest wants n inner left h l = let same : inner ≡ left = cc (h) in let none : n + 0 ≡ n = omega arith in
    rw (same, none) refl
inside_runs longest (t ∷ before) rest wants n inner left h l =
    inside_runs_on longest t before rest wants n inner left (expression.step inner t) refl (inside_runs longest before rest wants) h l

-- the machine reports that the last of these symbols is one too many
abbrev FindsOver : (longest : ℕ) → List Symbol → List Symbol → List Want → Type 0
FindsOver longest before rest wants =
    (n : ℕ) (inner left : List expression.Want) → expression.run before inner ≡ Some left → n ≤ longest → n + length before ≡ suc longest
    → judge longest (before ++ rest) (Inside n inner wants) ≡ TooLong (suc (length rest))

inside_over_on : (longest : ℕ) (t : Symbol) (before rest : List Symbol) (wants : List Want) (n : ℕ) (inner left : List expression.Want)
    (o : Option (List expression.Want)) → expression.step inner t ≡ o → FindsOver longest before rest wants
    → expression.and_run o (expression.run before) ≡ Some left → n ≤ longest → n + length (t ∷ before) ≡ suc longest
    → (n < longest) ⊎ (longest ≤ n)
    → judge longest (t ∷ (before ++ rest)) (Inside n inner wants) ≡ TooLong (suc (length rest))
inside_over_on longest t before rest wants n inner left None e f h l m c = absurd (cc (h))
inside_over_on longest t before rest wants n inner left (Some mid) e f h l m (inl c) =
    let fits : nat_le (suc n) longest ≡ true = grind (arith, c) in
    goes_on longest n (Some mid) inner t (before ++ rest) wants e ∙ rw fits (f (suc n) mid left h (omega (arith, c)) (omega (arith, m)))
inside_over_on longest t before rest wants n inner left (Some mid) e f h l m (inr c) =
    let over : nat_le (suc n) longest ≡ false = grind (arith, c) in
    let many : length (t ∷ (before ++ rest)) ≡ suc (length rest) = omega (arith, m, c, l, length-append before rest) in
    goes_on longest n (Some mid) inner t (before ++ rest) wants e ∙ rw (over, many) refl

-- symbols that continue a full expression; with the last of them it is too long
pub inside_over : (longest : ℕ) (before rest : List Symbol) (wants : List Want) → FindsOver longest before rest wants
inside_over longest [] rest wants n inner left h l m = absurd (omega (arith, l, m))
inside_over longest (t ∷ before) rest wants n inner left h l m =
    inside_over_on longest t before rest wants n inner left (expression.step inner t) refl (inside_over longest before rest wants) h l m
    (cases_lt n longest)

-- a full expression may end before a symbol that does not continue it
pub leaves : (longest : ℕ) (rest : List Symbol) (n : ℕ) (inner : List expression.Want) (wants : List Want) → expression.may_end inner ≡ true
    → Refused inner rest
    → judge longest rest (Inside n inner wants) ≡ judge longest rest (Outside wants)
leaves longest [] n inner wants h r = rw h refl
leaves longest (t ∷ ts) n inner wants h r =
    goes_on longest n None inner t ts wants r
    ∙ ap (λ b. judged longest (continued None b n wants (step wants t)) (length (t ∷ ts)) (judge longest ts)) h

-- otherwise the machine stops there
pub stuck_inside : (longest : ℕ) (rest : List Symbol) (n : ℕ) (inner : List expression.Want) (wants : List Want)
    → expression.may_end inner ≡ false
    → Refused inner rest
    → judge longest rest (Inside n inner wants) ≡ Unexpected (length rest)
stuck_inside longest [] n inner wants h r = rw h refl
stuck_inside longest (t ∷ ts) n inner wants h r =
    goes_on longest n None inner t ts wants r
    ∙ ap (λ b. judged longest (continued None b n wants (step wants t)) (length (t ∷ ts)) (judge longest ts)) h

nothing_wanted : (ts : List Symbol) → expression.ending ts [] ≡ expression.Done ts
nothing_wanted [] = refl
nothing_wanted (t ∷ ts) = refl

-- a full expression is passed
pub passes_full : {longest : ℕ} {ts rest : List Symbol} {e : Expression} → ReadsFull longest ts e rest → (wants : List Want)
    → judge longest ts (Outside (FullExpression ∷ wants)) ≡ judge longest rest (Outside wants)
passes_full {longest} {ts} {rest} r wants =
    let s = stopped ts whole in
    let ends = done_may_end (expression.may_end s.left) s.rest rest (sym s.ends ∙ passes_expression r.read [] ∙ nothing_wanted rest) in
    let split : ts ≡ s.before ++ rest = s.split ∙ ap (λ x. s.before ++ x) ends.1 in
    let many : length ts ≡ length s.before + length rest = ap length split ∙ length-append s.before rest in
    enters longest ts wants ∙ ap (λ x. judge longest x (Inside 0 whole wants)) split
    ∙ inside_runs longest s.before rest wants 0 whole s.left s.runs (omega (arith, many, r.short))
    ∙ leaves longest rest (0 + length s.before) s.left wants ends.0 (rw (sym ends.1) s.refused)

-- if a reader of an expression gets stuck within the bound, the machine stops
pub stuck_full : (longest : ℕ) (ts : List Symbol) (left : ℕ) (wants : List Want) → expression.IsStuck whole ts left
    → length ts ≤ left + longest
    → judge longest ts (Outside (FullExpression ∷ wants)) ≡ Unexpected left
stuck_full longest ts left wants r l =
    let s = stopped ts whole in
    let ends = stuck_may_not_end (expression.may_end s.left) s.rest left (sym s.ends ∙ r.stuck []) in
    let many : length ts ≡ length s.before + length s.rest = ap length s.split ∙ length-append s.before s.rest in
    enters longest ts wants ∙ ap (λ x. judge longest x (Inside 0 whole wants)) s.split
    ∙ inside_runs longest s.before s.rest wants 0 whole s.left s.runs (omega (arith, many, l, ends.1))
    ∙ stuck_inside longest s.rest (0 + length s.before) s.left wants ends.0 s.refused
    ∙ ap Unexpected ends.1

-- if the machine of expressions runs over one symbol more than the bound, that symbol is one too many
pub over_full : (longest : ℕ) (before rest : List Symbol) (left : List expression.Want) (wants : List Want)
    → expression.run before whole ≡ Some left
    → length before ≡ suc longest
    → judge longest (before ++ rest) (Outside (FullExpression ∷ wants)) ≡ TooLong (suc (length rest))
over_full longest before rest left wants h l =
    enters longest (before ++ rest) wants ∙ inside_over longest before rest wants 0 whole left h (omega arith) (omega (arith, l))

-- ---- a stage number, which may be missing

-- if the symbols do not begin with a closing bracket, a stage number is read as a full expression
pub stage_number : (longest : ℕ) (ts : List Symbol) (wants : List Want) → NoSign signs.CLOSE_ROUND ts
    → judge longest ts (Outside (StageNumber ∷ Sign signs.CLOSE_ROUND ∷ wants))
    ≡ judge longest ts (Outside (FullExpression ∷ Sign signs.CLOSE_ROUND ∷ wants))
stage_number longest [] wants h = refl
stage_number longest (symbols.Name name ∷ ts) wants h = refl
stage_number longest (symbols.Word k ∷ ts) wants h = refl
stage_number longest (symbols.Number n ∷ ts) wants h = refl
stage_number longest (symbols.Operator code ∷ ts) wants h = refl
stage_number longest (symbols.Sign b ∷ ts) wants h = let e : (b == signs.CLOSE_ROUND) ≡ false = grind (arith, h) in rw e refl

-- no expression begins with a closing bracket
pub begins_open : {level : ℕ} {ts rest : List Symbol} {e : Expression} → Reads level ts e rest → NoSign signs.CLOSE_ROUND ts
begins_open (ReadsNumeral n rest) = tt
begins_open (ReadsName name rest h) = tt
begins_open (ReadsElement name r) = tt
begins_open (ReadsMore rest) = tt
begins_open (ReadsTake rest) = tt
begins_open (ReadsIter rest) = tt
begins_open (ReadsNegative r) = tt
begins_open (ReadsNot r) = λ h. absurd (omega (arith, h))
begins_open (ReadsBracketed r) = λ h. absurd (omega (arith, h))
begins_open (ReadsChain r g) = begins_open r

-- a stage number is passed
pub passes_stage_number : {longest : ℕ} {ts rest : List Symbol} {e : Expression} → ReadsFull longest ts e rest → (wants : List Want)
    → judge longest ts (Outside (StageNumber ∷ Sign signs.CLOSE_ROUND ∷ wants))
    ≡ judge longest rest (Outside (Sign signs.CLOSE_ROUND ∷ wants))
passes_stage_number {longest} {ts} r wants = stage_number longest ts wants (begins_open r.read)
    ∙ passes_full r (Sign signs.CLOSE_ROUND ∷ wants)
