-- The verdict of the machine of programs names the first symbol that breaks a rule, as the grammar alone defines it.
use Rattle.std.proofs.Common.{◌≡◌, ◌≢◌, ℕ, suc, ◌<◌, ◌≤◌, List, [], ◌∷◌, ◌++◌, length, refl, sym, ap, ◌∙◌, append_assoc, append-nil}
use Rattle.std.proofs.Common.{length-append, arith, subst, ◌⊎◌, inl, inr, Option, Some, None, Bool, true, false, nat_le, if◌then◌else◌}
use Rattle.std.proofs.lemmas.Bool.{cases_lt}
use Rattle.pipe_model.specs.declared.sign_bytes.TheConstants as signs
use Rattle.pipe_model.specs.declared.symbol.Symbol.{Symbol}
use Rattle.pipe_model.specs.declared.symbol.Symbol.TheVariants as symbols
use Rattle.pipe_model.specs.Language.SyntaxTree.{Expression, SyntaxTree}
use Rattle.pipe_model.specs.Language.Grammar.{any_expression, Derives, Numeral, Named, Indexed, CallsMore, CallsTake, CallsIter, Negative}
use Rattle.pipe_model.specs.Language.Grammar.{Not, Bracketed, Tighter, Joined, Piece, Single, FullExpression, flat, DerivesProgram}
use Rattle.pipe_model.specs.Language.Spelling.{IsProgramPrefix, EndsTooLong}
use Rattle.grammar_laws.specs.Reading.{NoSign}
use Rattle.grammar_laws.specs.ExpressionMachine as expression
use Rattle.grammar_laws.specs.ProgramMachine as machine
use Rattle.grammar_laws.specs.ProgramMachine.{Want, Sign, MachineState, Outside, Inside, Takes, Skips, move, stepped, next, step, continued}
use Rattle.grammar_laws.specs.ProgramMachine.{run, and_run, Verdict, Accepted, Unexpected, TooLong, is_final, judge, judged, judged_in}
use Rattle.grammar_laws.specs.ProgramMachine.{program}
use Rattle.grammar_laws.proofs.FullExpressions.{stage_number}
use Rattle.grammar_laws.proofs.ProgramFaults.{reached, reached_front, reached_too_long, front_runs, accepted_from, program_accepted}
use Rattle.grammar_laws.proofs.ProgramFaults.{FindsTooLong, too_long_here, over_or_past}
use Rattle.grammar_laws.proofs.ProgramFronts.{step_leads}
use Rattle.grammar_laws.proofs.ProgramWalks.{Walks, Stays, Begins, LeavesOut, OverFull, OverStage, walks_program}

-- ---- over the pieces before a full expression that is too long
finds_moved : {longest : ℕ} {ts us : List Symbol} {wants : List Want} {rest : List Symbol} → ts ≡ us → FindsTooLong longest us wants rest
    → FindsTooLong longest ts wants rest
finds_moved {longest} {wants = wants} {rest = rest} h f = subst (λ x. FindsTooLong longest x wants rest) (sym h) f

takes_then : {want : Want} {wants more : List Want} {t : Symbol} {rest : List Symbol} (longest : ℕ) (ts : List Symbol)
    → move want t ≡ Takes more
    → FindsTooLong longest ts (more ++ wants) rest
    → FindsTooLong longest (t ∷ ts) (want ∷ wants) rest
takes_then {want} {wants} {t = t} longest ts h f = record {
  left = f.left;
  verdict = ap (λ m. judged longest (stepped m t wants (step wants t)) (length (t ∷ ts)) (judge longest ts)) h ∙ f.verdict;
  more = f.more;
}

skips_then : {want : Want} {wants : List Want} {t : Symbol} {rest : List Symbol} (longest : ℕ) (ts : List Symbol) → move want t ≡ Skips
    → FindsTooLong longest (t ∷ ts) wants rest
    → FindsTooLong longest (t ∷ ts) (want ∷ wants) rest
skips_then {want} {wants} {t = t} longest ts h f = record {
  left = f.left;
  verdict = ap (λ m. judged longest (stepped m t wants (step wants t)) (length (t ∷ ts)) (judge longest ts)) h ∙ f.verdict;
  more = f.more;
}

swapped : {a b : ℕ} → (a < b) ⊎ (b ≤ a) → (b ≤ a) ⊎ (a < b)
swapped (inl h) = inr h
swapped (inr h) = inl h

-- no expression begins with a closing bracket
derived_begins : {level : ℕ} {ts : List Symbol} {e : Expression} → Derives level ts e → (rest : List Symbol)
    → NoSign signs.CLOSE_ROUND (ts ++ rest)
derived_begins (Numeral n) rest = tt
derived_begins (Named name) rest = tt
derived_begins (Indexed name d) rest = tt
derived_begins CallsMore rest = tt
derived_begins CallsTake rest = tt
derived_begins CallsIter rest = tt
derived_begins (Negative d) rest = tt
derived_begins (Not d) rest = λ h. absurd (omega (arith, h))
derived_begins (Bracketed d) rest = λ h. absurd (omega (arith, h))
derived_begins (Tighter d) rest = derived_begins d rest
derived_begins (Joined {left = left} {right = right} code h d d') rest =
    subst (NoSign signs.CLOSE_ROUND) (sym (append_assoc left (symbols.Operator code ∷ right) rest))
    (derived_begins d (symbols.Operator code ∷ (right ++ rest)))

front_begins : (inside more rest : List Symbol) → inside ≢ [] → NoSign signs.CLOSE_ROUND (inside ++ more)
    → NoSign signs.CLOSE_ROUND (inside ++ rest)
front_begins [] more rest n h = absurd (n refl)
front_begins (symbols.Name name ∷ ts) more rest n h = tt
front_begins (symbols.Word k ∷ ts) more rest n h = tt
front_begins (symbols.Number m ∷ ts) more rest n h = tt
front_begins (symbols.Operator code ∷ ts) more rest n h = tt
front_begins (symbols.Sign b ∷ ts) more rest n h = h

-- a stage number, read as a full expression
stage_then : {rest : List Symbol} (longest : ℕ) (ts : List Symbol) (wants : List Want) → NoSign signs.CLOSE_ROUND ts
    → FindsTooLong longest ts (machine.FullExpression ∷ Sign signs.CLOSE_ROUND ∷ wants) rest
    → FindsTooLong longest ts (machine.StageNumber ∷ Sign signs.CLOSE_ROUND ∷ wants) rest
stage_then longest ts wants h f = record { left = f.left; verdict = stage_number longest ts wants h ∙ f.verdict; more = f.more }

some_inside : (inside : List Symbol) (n : ℕ) → length inside ≡ suc n → inside ≢ []
some_inside inside n h = λ e. absurd (omega (arith, h, ap length e))

after_more : (before : List Piece) (inside rest : List Symbol) → length rest ≤ length (flat before ++ (inside ++ rest))
after_more before inside rest = omega (arith, length-append (flat before) (inside ++ rest), length-append inside rest)

-- the symbols of a full expression that is passed, and the sign after it
passed_split : (ts : List Symbol) (sign : ℕ) (before : List Piece) (following : List Symbol)
    → flat (FullExpression ts ∷ Single (symbols.Sign sign) ∷ before) ++ following ≡ ts ++ symbols.Sign sign ∷ (flat before ++ following)
passed_split ts sign before following = append_assoc ts (symbols.Sign sign ∷ flat before) following

no_piece : (after : List Piece) (x : Piece) (before : List Piece) → [] ≡ before ++ x ∷ after → ⊥
no_piece after x [] h = cc (h)
no_piece after x (p ∷ before) h = cc (h)

-- the machine runs over the pieces before it and stops there or earlier
finds_too_long : (longest : ℕ) (inside more : List Symbol) (after : List Piece) (rest : List Symbol) → length inside ≡ suc longest
    → {wants : List Want} {ps : List Piece} → Walks wants ps → (before : List Piece) → ps ≡ before ++ FullExpression
    (inside ++ more) ∷ after
    → FindsTooLong longest (flat before ++ (inside ++ rest)) wants rest
finds_too_long longest inside more after rest h (Stays wants) before s = absurd (no_piece after (FullExpression (inside ++ more)) before s)
finds_too_long longest inside more after rest h (Begins e w) [] s = absurd (cc (s))
finds_too_long longest inside more after rest h (Begins {t = t} {ps = ps} e w) (p ∷ before) s =
    let head : p ≡ Single t = cc (s) in
    let tail : ps ≡ before ++ FullExpression (inside ++ more) ∷ after = cc (s) in
    rw head (takes_then longest (flat before ++ (inside ++ rest)) e (finds_too_long longest inside more after rest h w before tail))
finds_too_long longest inside more after rest h (LeavesOut e w) [] s = absurd (cc (s))
finds_too_long longest inside more after rest h (LeavesOut {t = t} e w) (p ∷ before) s =
    let head : p ≡ Single t = cc (s) in
    let f = finds_too_long longest inside more after rest h w (p ∷ before) s in
    rw head (skips_then longest (flat before ++ (inside ++ rest)) e (rw head at f))
finds_too_long longest inside more after rest h (OverFull {wants = wants} {ts = ts} {e = e} sign n d w) [] s =
    let same : ts ≡ inside ++ more = cc (s) in
    too_long_here longest inside more rest (Sign sign ∷ wants) (subst (λ x. Derives any_expression x e) same d) h
finds_too_long longest inside more after rest h (OverFull sign n d w) (p ∷ []) s = absurd (cc (s))
finds_too_long longest inside more after rest h (OverFull {wants = wants} {ts = ts} {ps = ps} sign n d w) (p ∷ q ∷ before) s =
    let first : p ≡ FullExpression ts = cc (s) in
    let second : q ≡ Single (symbols.Sign sign) = cc (s) in
    let tail : ps ≡ before ++ FullExpression (inside ++ more) ∷ after = cc (s) in
    rw (first, second) (finds_moved (passed_split ts sign before (inside ++ rest))
    (over_or_past longest ts sign (flat before ++ (inside ++ rest)) rest wants d n (swapped (cases_lt longest (length ts)))
    (after_more before inside rest) (finds_too_long longest inside more after rest h w before tail)))
finds_too_long longest inside more after rest h (OverStage {wants = wants} {ts = ts} {e = e} d w) [] s =
    let same : ts ≡ inside ++ more = cc (s) in
    let d = subst (λ x. Derives any_expression x e) same d in
    stage_then longest (inside ++ rest) wants
    (front_begins inside more rest (some_inside inside longest h) (subst (NoSign signs.CLOSE_ROUND) (append-nil (inside ++ more))
    (derived_begins d [])))
    (too_long_here longest inside more rest (Sign signs.CLOSE_ROUND ∷ wants) d h)
finds_too_long longest inside more after rest h (OverStage d w) (p ∷ []) s = absurd (cc (s))
finds_too_long longest inside more after rest h (OverStage {wants = wants} {ts = ts} {ps = ps} d w) (p ∷ q ∷ before) s =
    let first : p ≡ FullExpression ts = cc (s) in
    let second : q ≡ Single (symbols.Sign signs.CLOSE_ROUND) = cc (s) in
    let tail : ps ≡ before ++ FullExpression (inside ++ more) ∷ after = cc (s) in
    rw (first, second) (finds_moved (passed_split ts signs.CLOSE_ROUND before (inside ++ rest))
    (stage_then longest (ts ++ symbols.Sign signs.CLOSE_ROUND ∷ (flat before ++ (inside ++ rest))) wants
    (derived_begins d (symbols.Sign signs.CLOSE_ROUND ∷ (flat before ++ (inside ++ rest))))
    (over_or_past longest ts signs.CLOSE_ROUND (flat before ++ (inside ++ rest)) rest wants d (λ x. absurd (omega (arith, x)))
    (swapped (cases_lt longest (length ts)))
    (after_more before inside rest) (finds_too_long longest inside more after rest h w before tail))))

-- the machine rejects a prefix that ends too long there or earlier, whatever follows
pub too_long_found : (ts rest : List Symbol) → EndsTooLong ts → FindsTooLong 256 (ts ++ rest) program rest
too_long_found ts rest f =
    finds_moved (ap (λ x. x ++ rest) f.split ∙ append_assoc (flat f.before) f.inside rest)
    (finds_too_long 256 f.inside f.more f.after rest f.many (walks_program f.derived) f.before refl)

-- ---- what a verdict says

-- with n symbols left, the next symbol is not allowed
pub record VerdictFault (longest : ℕ) (ts : List Symbol) (s : MachineState) (n : ℕ) : Type 0 where
  pub before : List Symbol
  pub rest : List Symbol
  pub state : MachineState
  pub split : ts ≡ before ++ rest
  pub many : length rest ≡ n
  pub runs : run before s ≡ Some state
  pub refused : (t : Symbol) (after : List Symbol) → rest ≡ t ∷ after → next state t ≡ None
  pub ends : rest ≡ [] → is_final state ≡ false

refusal_in : (b : Bool) (n m : ℕ) (go : Verdict) → (if b then go else TooLong n) ≡ Unexpected m → go ≡ Unexpected m
refusal_in true n m go h = h
refusal_in false n m go h = absurd (cc (h))

refusal_at : (longest : ℕ) (s : MachineState) (n m : ℕ) (go : MachineState → Verdict) → judged_in longest s n go ≡ Unexpected m
    → go s ≡ Unexpected m
refusal_at longest (Outside wants) n m go h = h
refusal_at longest (Inside k i wants) n m go h = refusal_in (nat_le k longest) n m (go (Inside k i wants)) h

same_symbol : {t t' : Symbol} {ts ts' : List Symbol} → t ∷ ts ≡ t' ∷ ts' → t ≡ t'
same_symbol h = cc (h)

refusal_on : (longest : ℕ) (o : Option MachineState) (t : Symbol) (ts : List Symbol) (s : MachineState) (n : ℕ) → next s t ≡ o
    → ((mid : MachineState) → judge longest ts mid ≡ Unexpected n → VerdictFault longest ts mid n)
    → judged longest o (length (t ∷ ts)) (judge longest ts) ≡ Unexpected n → VerdictFault longest (t ∷ ts) s n
refusal_on longest None t ts s n e f h = record {
  before = [];
  rest = t ∷ ts;
  state = s;
  split = refl;
  many = cc (h);
  runs = refl;
  refused = λ t' after i. ap (next s) (sym (same_symbol i)) ∙ e;
  ends = λ i. absurd (cc (i));
}
refusal_on longest (Some mid) t ts s n e f h =
    let r = f mid (refusal_at longest mid (length (t ∷ ts)) n (judge longest ts) h) in
    record {
      before = t ∷ r.before;
      rest = r.rest;
      state = r.state;
      split = ap (λ x. t ∷ x) r.split;
      many = r.many;
      runs = ap (λ o. and_run o (run r.before)) e ∙ r.runs;
      refused = r.refused;
      ends = r.ends;
    }

not_final : (b : Bool) (n : ℕ) → (if b then Accepted else Unexpected 0) ≡ Unexpected n → (b ≡ false) × (0 ≡ n)
not_final true n h = absurd (cc (h))
not_final false n h = (refl, cc (h))

refusal : (longest : ℕ) (ts : List Symbol) (s : MachineState) (n : ℕ) → judge longest ts s ≡ Unexpected n → VerdictFault longest ts s n
refusal longest [] s n h =
    let p = not_final (is_final s) n h in
    record {
      before = [];
      rest = [];
      state = s;
      split = refl;
      many = p.1;
      runs = refl;
      refused = λ t after i. absurd (cc (i));
      ends = λ i. p.0;
    }
refusal longest (t ∷ ts) s n h = refusal_on longest (next s t) t ts s n refl (λ mid i. refusal longest ts mid n i) h

-- the machine reaches the first symbol beyond the longest full expression; n symbols are left, this one included
pub record Excess (ts : List Symbol) (s : MachineState) (n : ℕ) : Type 0 where
  pub before : List Symbol
  pub t : Symbol
  pub after : List Symbol
  pub inner : List expression.Want
  pub wants : List Want
  pub split : ts ≡ before ++ t ∷ after
  pub many : n ≡ suc (length after)
  pub runs : run (before ++ t ∷ []) s ≡ Some (Inside 257 inner wants)

-- at most 256 symbols of a full expression have been counted
abbrev Counted : MachineState → Type 0
Counted (Outside wants) = Unit {0}
Counted (Inside n i wants) = n ≤ 256

entered_count : (wants : List Want) (t : Symbol) (k : ℕ) (i : List expression.Want) (left : List Want)
    → step wants t ≡ Some (Inside k i left) → k ≡ 1
entered_count wants t k i left h = (step_leads wants t (Inside k i left) h).0

inside_count : (o : Option (List expression.Want)) (b : Bool) (n k : ℕ) (i : List expression.Want) (wants left : List Want) (t : Symbol)
    → n ≤ 256
    → continued o b n wants (step wants t) ≡ Some (Inside k i left) → k ≤ 257
inside_count (Some mid) b n k i wants left t l h = let e : suc n ≡ k = cc (h) in omega (arith, e, l)
inside_count None true n k i wants left t l h = omega (arith, entered_count wants t k i left h)
inside_count None false n k i wants left t l h = absurd (cc (h))

-- a further symbol raises the count by at most one
next_count : (s : MachineState) (t : Symbol) (k : ℕ) (i : List expression.Want) (left : List Want) → Counted s
    → next s t ≡ Some (Inside k i left) → k ≤ 257
next_count (Outside wants) t k i left c h = omega (arith, entered_count wants t k i left h)
next_count (Inside n j wants) t k i left c h = inside_count (expression.step j t) (expression.may_end j) n k i wants left t c h

excess_here : (s : MachineState) (t : Symbol) (ts : List Symbol) (k n : ℕ) (i : List expression.Want) (wants : List Want) → k ≡ 257
    → next s t ≡ Some (Inside k i wants) → length (t ∷ ts) ≡ n
    → Excess (t ∷ ts) s n
excess_here s t ts k n i wants h e m = record {
  before = [];
  t = t;
  after = ts;
  inner = i;
  wants = wants;
  split = refl;
  many = sym m;
  runs = ap (λ o. and_run o (run [])) e ∙ ap (λ x. Some (Inside x i wants)) h;
}

excess_later : (s mid : MachineState) (t : Symbol) (ts : List Symbol) (n : ℕ) → next s t ≡ Some mid → Excess ts mid n → Excess (t ∷ ts) s n
excess_later s mid t ts n e x = record {
  before = t ∷ x.before;
  t = x.t;
  after = x.after;
  inner = x.inner;
  wants = x.wants;
  split = ap (λ us. t ∷ us) x.split;
  many = x.many;
  runs = ap (λ o. and_run o (run (x.before ++ x.t ∷ []))) e ∙ x.runs;
}

excess_in : (b : Bool) (s : MachineState) (t : Symbol) (ts : List Symbol) (k n : ℕ) (i : List expression.Want) (wants : List Want)
    (go : Verdict)
    → nat_le k 256 ≡ b → k ≤ 257 → next s t ≡ Some (Inside k i wants) → (k ≤ 256 → go ≡ TooLong n → Excess ts (Inside k i wants) n)
    → (if b then go else TooLong (length (t ∷ ts))) ≡ TooLong n → Excess (t ∷ ts) s n
excess_in true s t ts k n i wants go c l e f h = excess_later s (Inside k i wants) t ts n e (f (grind (arith, c)) h)
excess_in false s t ts k n i wants go c l e f h = excess_here s t ts k n i wants (grind (arith, c, l)) e (cc (h))

excess_on : (o : Option MachineState) (t : Symbol) (ts : List Symbol) (s : MachineState) (n : ℕ) → Counted s → next s t ≡ o
    → ((mid : MachineState) → Counted mid → judge 256 ts mid ≡ TooLong n → Excess ts mid n)
    → judged 256 o (length (t ∷ ts)) (judge 256 ts) ≡ TooLong n → Excess (t ∷ ts) s n
excess_on None t ts s n c e f h = absurd (cc (h))
excess_on (Some (Outside wants)) t ts s n c e f h = excess_later s (Outside wants) t ts n e (f (Outside wants) tt h)
excess_on (Some (Inside k i wants)) t ts s n c e f h =
    excess_in (nat_le k 256) s t ts k n i wants (judge 256 ts (Inside k i wants)) refl (next_count s t k i wants c e) e
    (λ l j. f (Inside k i wants) l j) h

not_too_long : (b : Bool) (n : ℕ) → (if b then Accepted else Unexpected 0) ≡ TooLong n → ⊥
not_too_long true n h = cc (h)
not_too_long false n h = cc (h)

excess : (ts : List Symbol) (s : MachineState) (n : ℕ) → Counted s → judge 256 ts s ≡ TooLong n → Excess ts s n
excess [] s n c h = absurd (not_too_long (is_final s) n h)
excess (t ∷ ts) s n c h = excess_on (next s t) t ts s n c refl (λ mid d i. excess ts mid n d i) h

-- ---- the verdicts, by the grammar alone

-- no prefix of the symbols ends in a full expression that is too long
abbrev pub NoneTooLong : List Symbol → Type 0
NoneTooLong ts = (before after : List Symbol) → ts ≡ before ++ after → EndsTooLong before → ⊥

-- with n symbols left, those before them break neither rule, and the next symbol is not allowed
pub record IsUnexpected (ts : List Symbol) (n : ℕ) : Type 0 where
  pub before : List Symbol
  pub rest : List Symbol
  pub split : ts ≡ before ++ rest
  pub many : length rest ≡ n
  pub front : IsProgramPrefix before
  pub short : NoneTooLong before
  pub only : (t : Symbol) (after : List Symbol) → rest ≡ t ∷ after → IsProgramPrefix (before ++ t ∷ []) → ⊥
  pub ends : rest ≡ [] → (pieces : List Piece) (tree : SyntaxTree) → DerivesProgram pieces tree → ts ≡ flat pieces → ⊥

-- with n symbols left, those before them break neither rule, and the next symbol makes a full expression too long
pub record IsTooLong (ts : List Symbol) (n : ℕ) : Type 0 where
  pub before : List Symbol
  pub t : Symbol
  pub after : List Symbol
  pub split : ts ≡ before ++ t ∷ after
  pub many : n ≡ suc (length after)
  pub front : IsProgramPrefix before
  pub short : NoneTooLong before
  pub ends : EndsTooLong (before ++ t ∷ [])

run_part_on : (o : Option MachineState) (ts us : List Symbol) → ((s : MachineState) → run (ts ++ us) s ≡ and_run (run ts s) (run us))
    → and_run o (run (ts ++ us)) ≡ and_run (and_run o (run ts)) (run us)
run_part_on None ts us h = refl
run_part_on (Some s) ts us h = h s

-- a run over two lists is two runs
pub run_part : (ts us : List Symbol) (s : MachineState) → run (ts ++ us) s ≡ and_run (run ts s) (run us)
run_part [] us s = refl
run_part (t ∷ ts) us s = run_part_on (next s t) ts us (run_part ts us)

run_then : (ts us : List Symbol) (s mid : MachineState) → run ts s ≡ Some mid → run (ts ++ us) s ≡ run us mid
run_then ts us s mid h = run_part ts us s ∙ ap (λ o. and_run o (run us)) h

front_ran : (o : Option MachineState) (go : MachineState → Option MachineState) (s : MachineState) → and_run o go ≡ Some s
    → (mid : MachineState) × (o ≡ Some mid)
front_ran None go s h = absurd (cc (h))
front_ran (Some mid) go s h = (mid, refl)

-- no prefix of the symbols before `rest` ends too long, if a verdict `TooLong` can only name a symbol of `rest`
pub none_too_long : (ts before rest : List Symbol) → ts ≡ before ++ rest
    → ((n : ℕ) → judge 256 ts (Outside program) ≡ TooLong n → n ≤ length rest)
    → NoneTooLong before
none_too_long ts before rest s h b a split f =
    let g = too_long_found b (a ++ rest) f in
    let same : ts ≡ b ++ (a ++ rest) = s ∙ ap (λ x. x ++ rest) split ∙ append_assoc b a rest in
    let v : judge 256 ts (Outside program) ≡ TooLong g.left = ap (λ x. judge 256 x (Outside program)) same ∙ g.verdict in
    absurd (omega (arith, h g.left v, g.more, length-append a rest))

not_front : (before : List Symbol) (t : Symbol) (state : MachineState) → run before (Outside program) ≡ Some state → next state t ≡ None
    → IsProgramPrefix (before ++ t ∷ []) → ⊥
not_front before t state r h f =
    let a = front_runs (before ++ t ∷ []) f in
    let none : run (before ++ t ∷ []) (Outside program) ≡ None =
    run_then before (t ∷ []) (Outside program) state r ∙ ap (λ o. and_run o (run [])) h in
    cc (a.runs, none)

final_accepted : (b : Bool) → (if b then Accepted else Unexpected 0) ≡ Accepted → b ≡ true
final_accepted true h = refl
final_accepted false h = cc (h)

not_whole : (ts before : List Symbol) (state : MachineState) → ts ≡ before → run before (Outside program) ≡ Some state
    → is_final state ≡ false
    → (pieces : List Piece) (tree : SyntaxTree) → DerivesProgram pieces tree → ts ≡ flat pieces → ⊥
not_whole ts before state s r f pieces tree d h =
    let longest = length (flat pieces) in
    let whole : judge longest (before ++ []) (Outside program) ≡ Accepted =
    ap (λ x. judge longest x (Outside program)) (append-nil before ∙ sym s ∙ h) ∙ program_accepted pieces tree d in
    let a = accepted_from longest before [] (Outside program) whole in
    let same : Some state ≡ Some a.state = sym r ∙ a.runs in
    let states : state ≡ a.state = cc (same) in
    let final : is_final state ≡ true = ap is_final states ∙ final_accepted (is_final a.state) a.accepted in
    cc (final, f)

-- a symbol that is not allowed
pub is_unexpected : (ts : List Symbol) (n : ℕ) → judge 256 ts (Outside program) ≡ Unexpected n → IsUnexpected ts n
is_unexpected ts n h =
    let r = refusal 256 ts (Outside program) n h in
    record {
      before = r.before;
      rest = r.rest;
      split = r.split;
      many = r.many;
      front = reached_front (reached r.before r.state r.runs);
      short = none_too_long ts r.before r.rest r.split (λ m i. absurd (let e : Unexpected n ≡ TooLong m = sym h ∙ i in cc (e)));
      only = λ t after i. not_front r.before t r.state r.runs (r.refused t after i);
      ends = λ i. not_whole ts r.before r.state (r.split ∙ ap (λ x. r.before ++ x) i ∙ append-nil r.before) r.runs (r.ends i);
    }

-- a symbol that makes a full expression too long
pub is_too_long : (ts : List Symbol) (n : ℕ) → judge 256 ts (Outside program) ≡ TooLong n → IsTooLong ts n
is_too_long ts n h =
    let x = excess ts (Outside program) n tt h in
    let front = front_ran (run x.before (Outside program)) (run (x.t ∷ [])) (Inside 257 x.inner x.wants)
    (sym (run_part x.before (x.t ∷ []) (Outside program)) ∙ x.runs) in
    record {
      before = x.before;
      t = x.t;
      after = x.after;
      split = x.split;
      many = x.many;
      front = reached_front (reached x.before front.0 front.1);
      short = none_too_long ts x.before (x.t ∷ x.after) x.split
          (λ m i. let e : TooLong n ≡ TooLong m = sym h ∙ i in let same : n ≡ m = cc (e) in omega (arith, same, x.many));
      ends = reached_too_long (reached (x.before ++ x.t ∷ []) (Inside 257 x.inner x.wants) x.runs) refl;
    }
