-- What the machine of programs reports holds by the grammar alone: which symbols begin a program, and which full expression is too long.
use Rattle.std.proofs.Common.{◌≡◌, ◌≢◌, ℕ, suc, ◌<◌, ◌≤◌, List, [], ◌∷◌, ◌++◌, take, drop, length, refl, sym, ap, ◌∙◌, append_assoc}
use Rattle.std.proofs.Common.{append-nil, length-append, arith, subst, ◌⊎◌, inl, inr, Option, Some, None, Bool, true, false, ◌==◌, nat_le}
use Rattle.std.proofs.Common.{if◌then◌else◌}
use Rattle.std.proofs.lemmas.List.{take-append-drop, length-take}
use Rattle.pipe_model.specs.declared.sign_bytes.TheConstants as signs
use Rattle.pipe_model.specs.declared.symbol.Symbol.{Symbol}
use Rattle.pipe_model.specs.declared.symbol.Symbol.TheVariants as symbols
use Rattle.pipe_model.specs.Language.SyntaxTree.{Expression, SyntaxTree}
use Rattle.pipe_model.specs.Language.Grammar.{any_expression, Derives, Piece, Single, FullExpression, flat, BlockIs, DerivesProgram}
use Rattle.pipe_model.specs.Language.Grammar.{ProgramIs}
use Rattle.pipe_model.specs.Language.Spelling.{IsProgramPrefix, EndsTooLong}
use Rattle.pipe_model.specs.Language.Words.{close_brace, open_brace}
use Rattle.grammar_laws.specs.ExpressionMachine as expression
use Rattle.grammar_laws.specs.ProgramMachine as machine
use Rattle.grammar_laws.specs.ProgramMachine.{Want, Sign, MachineState, Outside, Inside, whole, next, step, continued, run, and_run}
use Rattle.grammar_laws.specs.ProgramMachine.{Verdict, Accepted, Unexpected, TooLong, is_final, judge, judged, judged_in, program}
use Rattle.grammar_laws.proofs.ExpressionFronts as inner
use Rattle.grammar_laws.proofs.ExpressionReading.{found, found_alone, loose_end}
use Rattle.grammar_laws.proofs.ExpressionPassing.{passes_expression}
use Rattle.grammar_laws.proofs.ExpressionRuns as runs
use Rattle.grammar_laws.proofs.FullExpressions.{passes_full, over_full}
use Rattle.grammar_laws.proofs.Pieces.{flat_append, all_short}
use Rattle.grammar_laws.proofs.ProgramFronts.{Completes, Nothing, OfSign, OfWord, OfNumber, OfFull, OfStatements, OfPart, OfCells}
use Rattle.grammar_laws.proofs.ProgramFronts.{completion, Leads, step_leads}
use Rattle.grammar_laws.proofs.ProgramPassing.{accepts_program}
use Rattle.grammar_laws.proofs.StatementReading.{found_full}
use Rattle.grammar_laws.proofs.ProgramReading.{found_program}

-- ---- where symbols lead

-- the symbols lead from the start to the state: pieces, and possibly the start of a full expression
pub data Reached : List Symbol → MachineState → Type 0 where
  Between : (ps : List Piece) (wants : List Want) → ((qs : List Piece) → Completes wants qs → Completes program (ps ++ qs))
      → Reached (flat ps) (Outside wants)
  Within : (ps : List Piece) (inside : List Symbol) (n : ℕ) (inner : List expression.Want) (wants : List Want) → length inside ≡ n
      → expression.run inside whole ≡ Some inner
      → ((ts : List Symbol) (e : Expression) (qs : List Piece) → Derives any_expression ts e → Completes wants qs
      → Completes program (ps ++ FullExpression ts ∷ qs))
      → Reached (flat ps ++ inside) (Inside n inner wants)

reached_moved : {ts us : List Symbol} {s : MachineState} → ts ≡ us → Reached ts s → Reached us s
reached_moved {s = s} h r = subst (λ x. Reached x s) h r

completes_moved : {wants : List Want} {ps qs : List Piece} → ps ≡ qs → Completes wants ps → Completes wants qs
completes_moved {wants} h c = subst (Completes wants) h c

-- a symbol outside full expressions
reached_outside : (ps : List Piece) (wants : List Want) (t : Symbol) (s : MachineState)
    → ((qs : List Piece) → Completes wants qs → Completes program (ps ++ qs)) → Leads wants t s
    → Reached (flat ps ++ t ∷ []) s
reached_outside ps wants t (Outside left) f g =
    reached_moved (flat_append ps (Single t ∷ []))
    (Between (ps ++ Single t ∷ []) left (λ qs c. completes_moved (sym (append_assoc ps (Single t ∷ []) qs)) (f (Single t ∷ qs) (g qs c))))
reached_outside ps wants t (Inside n i left) f g =
    Within ps (t ∷ []) n i left (sym g.0) (ap (λ o. expression.and_run o (expression.run [])) g.1)
    (λ ts e qs d c. f (FullExpression ts ∷ qs) (g.2 ts e qs d c))

-- a symbol after a full expression that ends
reached_after : (ps : List Piece) (inside : List Symbol) (wants : List Want) (t : Symbol) (s : MachineState)
    → ((ts : List Symbol) (e : Expression) (qs : List Piece) → Derives any_expression ts e → Completes wants qs
    → Completes program (ps ++ FullExpression ts ∷ qs))
    → inner.IsExpression inside → step wants t ≡ Some s
    → Reached ((flat ps ++ inside) ++ t ∷ []) s
reached_after ps inside wants t s f x h =
    let same : flat (ps ++ FullExpression inside ∷ []) ++ t ∷ [] ≡ (flat ps ++ inside) ++ t ∷ [] =
    ap (λ us. us ++ t ∷ []) (flat_append ps (FullExpression inside ∷ []) ∙ ap (λ us. flat ps ++ us) (append-nil inside)) in
    reached_moved same (reached_outside (ps ++ FullExpression inside ∷ []) wants t s
    (λ qs c. completes_moved (sym (append_assoc ps (FullExpression inside ∷ []) qs)) (f inside x.e qs x.derived c))
    (step_leads wants t s h))

reached_inside : (ps : List Piece) (inside : List Symbol) (n : ℕ) (i : List expression.Want) (wants : List Want) (t : Symbol)
    (s : MachineState)
    (o : Option (List expression.Want)) (b : Bool) → expression.step i t ≡ o → expression.may_end i ≡ b → length inside ≡ n
    → expression.run inside whole ≡ Some i
    → ((ts : List Symbol) (e : Expression) (qs : List Piece) → Derives any_expression ts e → Completes wants qs
    → Completes program (ps ++ FullExpression ts ∷ qs))
    → continued o b n wants (step wants t) ≡ Some s → Reached ((flat ps ++ inside) ++ t ∷ []) s
reached_inside ps inside n i wants t s (Some mid) b e m l r f h =
    let same : Inside (suc n) mid wants ≡ s = cc (h) in
    let many : length (inside ++ t ∷ []) ≡ suc n = omega (arith, length-append inside (t ∷ []), l) in
    let ran = runs.run_then inside (t ∷ []) whole i r ∙ ap (λ o. expression.and_run o (expression.run [])) e in
    subst (Reached ((flat ps ++ inside) ++ t ∷ [])) same
    (reached_moved (sym (append_assoc (flat ps) inside (t ∷ []))) (Within ps (inside ++ t ∷ []) (suc n) mid wants many ran f))
reached_inside ps inside n i wants t s None true e m l r f h = reached_after ps inside wants t s f (inner.run_ended inside i r m) h
reached_inside ps inside n i wants t s None false e m l r f h = absurd (cc (h))

reached_next : {ts : List Symbol} {s : MachineState} → Reached ts s → (t : Symbol) (s' : MachineState) → next s t ≡ Some s'
    → Reached (ts ++ t ∷ []) s'
reached_next (Between ps wants f) t s' h = reached_outside ps wants t s' f (step_leads wants t s' h)
reached_next (Within ps inside n i wants l r f) t s' h =
    reached_inside ps inside n i wants t s' (expression.step i t) (expression.may_end i) refl refl l r f h

reached_on : (o : Option MachineState) (before : List Symbol) (t : Symbol) (ts : List Symbol) (s s' : MachineState) → Reached before s
    → next s t ≡ o
    → ((mid : MachineState) → Reached (before ++ t ∷ []) mid → run ts mid ≡ Some s' → Reached ((before ++ t ∷ []) ++ ts) s')
    → and_run o (run ts) ≡ Some s' → Reached (before ++ t ∷ ts) s'
reached_on None before t ts s s' r e f h = absurd (cc (h))
reached_on (Some mid) before t ts s s' r e f h = reached_moved (append_assoc before (t ∷ []) ts) (f mid (reached_next r t mid e) h)

reached_from : (before ts : List Symbol) (s s' : MachineState) → Reached before s → run ts s ≡ Some s' → Reached (before ++ ts) s'
reached_from before [] s s' r h = let e : s ≡ s' = cc (h) in subst (Reached (before ++ [])) e (reached_moved (sym (append-nil before)) r)
reached_from before (t ∷ ts) s s' r h =
    reached_on (next s t) before t ts s s' r refl (λ mid q i. reached_from (before ++ t ∷ []) ts mid s' q i) h

-- symbols over which the machine runs lead to its state
pub reached : (ts : List Symbol) (s : MachineState) → run ts (Outside program) ≡ Some s → Reached ts s
reached ts s h = reached_from [] ts (Outside program) s (Between [] program (λ qs c. c)) h

-- ---- what completes a program

pub record IsProgram (ps : List Piece) : Type 0 where
  pub tree : SyntaxTree
  pub derived : DerivesProgram ps tree

-- pieces that complete the wants of a program derive a program
pub completed_program : {ps : List Piece} → Completes program ps → IsProgram ps
completed_program (OfWord w (OfWord w' (OfNumber iterations
    (OfSign b (OfWord w'' (OfNumber stages (OfSign b' (OfWord v (OfNumber steps (OfSign b''
    (OfWord v' (OfNumber emits (OfSign d (OfCells {ps = cs} c
    (OfPart {ps = is} seven i (OfWord v'' (OfSign d' (OfFull {ts = ts} e (OfSign d''
    (OfSign x (OfStatements {ps = bs} s (OfSign y (OfPart {ps = ls} eleven l Nothing))))))))))))))))))))))) =
    let p = ProgramIs iterations stages steps emits c i e (BlockIs s) l in
    let same : Single open_brace ∷ ((bs ++ Single close_brace ∷ []) ++ ls) ≡ Single open_brace ∷ (bs ++ Single close_brace ∷ (ls ++ [])) =
    ap (λ x. Single open_brace ∷ x) (append_assoc bs (Single close_brace ∷ []) ls
    ∙ ap (λ x. bs ++ Single close_brace ∷ x) (sym (append-nil ls))) in
    rw (sym same) (record { tree = _; derived = p })

-- ---- symbols that lead to a state are a prefix of a program

-- symbols that lead to a state outside full expressions
between_front : (ps : List Piece) (wants : List Want) → ((qs : List Piece) → Completes wants qs → Completes program (ps ++ qs))
    → IsProgramPrefix (flat ps)
between_front ps wants f =
    let c = completion wants in
    let p = completed_program (f c.pieces c.completes) in
    record { after = flat c.pieces; pieces = ps ++ c.pieces; tree = p.tree; derived = p.derived; split = sym (flat_append ps c.pieces) }

-- a full expression that extends the given start, in a program that extends the given pieces
pub record GoesOnAsProgram (ps : List Piece) (inside : List Symbol) : Type 0 where
  pub more : List Symbol
  pub after : List Piece
  pub tree : SyntaxTree
  pub derived : DerivesProgram (ps ++ FullExpression (inside ++ more) ∷ after) tree

within_goes_on : (ps : List Piece) (inside : List Symbol) (i : List expression.Want) (wants : List Want)
    → expression.run inside whole ≡ Some i
    → ((ts : List Symbol) (e : Expression) (qs : List Piece) → Derives any_expression ts e → Completes wants qs
    → Completes program (ps ++ FullExpression ts ∷ qs))
    → GoesOnAsProgram ps inside
within_goes_on ps inside i wants r f =
    let m = inner.completion i in
    let x = inner.run_completed inside m.ts i r m.completes in
    let c = completion wants in
    let p = completed_program (f (inside ++ m.ts) x.e c.pieces x.derived c.completes) in
    record { more = m.ts; after = c.pieces; tree = p.tree; derived = p.derived }

within_front : (ps : List Piece) (inside : List Symbol) → GoesOnAsProgram ps inside → IsProgramPrefix (flat ps ++ inside)
within_front ps inside g = record {
  after = g.more ++ flat g.after;
  pieces = ps ++ FullExpression (inside ++ g.more) ∷ g.after;
  tree = g.tree;
  derived = g.derived;
  split =
      append_assoc (flat ps) inside (g.more ++ flat g.after) ∙ ap (λ x. flat ps ++ x) (sym (append_assoc inside g.more (flat g.after)))
      ∙ sym (flat_append ps (FullExpression (inside ++ g.more) ∷ g.after));
}

-- symbols that lead to a state are a prefix of a program
pub reached_front : {ts : List Symbol} {s : MachineState} → Reached ts s → IsProgramPrefix ts
reached_front (Between ps wants f) = between_front ps wants f
reached_front (Within ps inside n i wants l r f) = within_front ps inside (within_goes_on ps inside i wants r f)

-- they end too long if 257 symbols of a full expression were counted
pub reached_too_long : {ts : List Symbol} {n : ℕ} {i : List expression.Want} {wants : List Want} → Reached ts (Inside n i wants) → n ≡ 257
    → EndsTooLong ts
reached_too_long (Within ps inside n i wants l r f) h =
    let g = within_goes_on ps inside i wants r f in
    record { before = ps; inside = inside; more = g.more; after = g.after; tree = g.tree; derived = g.derived; many = l ∙ h; split = refl }

-- ---- the machine runs over each prefix of a program

-- the machine runs over the symbols before, and accepts those after from its state
pub record AcceptedFrom (longest : ℕ) (before after : List Symbol) (s : MachineState) : Type 0 where
  pub state : MachineState
  pub runs : run before s ≡ Some state
  pub accepted : judge longest after state ≡ Accepted

accepted_in : (longest : ℕ) (b : Bool) (n : ℕ) (go : Verdict) → (if b then go else TooLong n) ≡ Accepted → go ≡ Accepted
accepted_in longest true n go h = h
accepted_in longest false n go h = absurd (cc (h))

accepted_at : (longest : ℕ) (s : MachineState) (n : ℕ) (go : MachineState → Verdict) → judged_in longest s n go ≡ Accepted → go s ≡ Accepted
accepted_at longest (Outside wants) n go h = h
accepted_at longest (Inside k i wants) n go h = accepted_in longest (nat_le k longest) n (go (Inside k i wants)) h

accepted_on : (longest : ℕ) (o : Option MachineState) (n : ℕ) (t : Symbol) (before after : List Symbol) (s : MachineState) → next s t ≡ o
    → ((mid : MachineState) → judge longest (before ++ after) mid ≡ Accepted → AcceptedFrom longest before after mid)
    → judged longest o n (judge longest (before ++ after)) ≡ Accepted → AcceptedFrom longest (t ∷ before) after s
accepted_on longest None n t before after s e f h = absurd (cc (h))
accepted_on longest (Some mid) n t before after s e f h =
    let a = f mid (accepted_at longest mid n (judge longest (before ++ after)) h) in
    record { state = a.state; runs = ap (λ o. and_run o (run before)) e ∙ a.runs; accepted = a.accepted }

pub accepted_from : (longest : ℕ) (before after : List Symbol) (s : MachineState) → judge longest (before ++ after) s ≡ Accepted
    → AcceptedFrom longest before after s
accepted_from longest [] after s h = record { state = s; runs = refl; accepted = h }
accepted_from longest (t ∷ before) after s h =
    accepted_on longest (next s t) (length (t ∷ (before ++ after))) t before after s refl
    (λ mid i. accepted_from longest before after mid i) h

-- the machine accepts a program if the bound is at least its length
pub program_accepted : (ps : List Piece) (p : SyntaxTree) → DerivesProgram ps p → judge (length (flat ps)) (flat ps)
    (Outside program) ≡ Accepted
program_accepted ps p d = accepts_program (found_program d (all_short (length (flat ps)) ps (omega arith)))

-- the machine runs over a prefix of a program
pub front_runs : (ts : List Symbol) → (f : IsProgramPrefix ts) → AcceptedFrom (length (flat f.pieces)) ts f.after (Outside program)
front_runs ts f =
    accepted_from (length (flat f.pieces)) ts f.after (Outside program)
    (ap (λ x. judge (length (flat f.pieces)) x (Outside program)) f.split ∙ program_accepted f.pieces f.tree f.derived)

-- ---- a full expression that is too long is found

-- the machine runs over the symbols of an expression
pub record RunsTo (ts : List Symbol) : Type 0 where
  pub left : List expression.Want
  pub ran : expression.run ts whole ≡ Some left

pub derived_runs : {ts : List Symbol} {e : Expression} → Derives any_expression ts e → RunsTo ts
derived_runs {ts} {e} d =
    let s = runs.stopped (ts ++ []) whole in
    let ends = runs.done_may_end (expression.may_end s.left) s.rest []
    (sym s.ends ∙ passes_expression (found_alone any_expression ts e (found d) [] loose_end) []) in
    let same : ts ≡ s.before = sym (append-nil ts) ∙ s.split ∙ ap (λ x. s.before ++ x) ends.1 ∙ append-nil s.before in
    record { left = s.left; ran = ap (λ x. expression.run x whole) same ∙ s.runs }

front_ran : (o : Option (List expression.Want)) (go : List expression.Want → Option (List expression.Want)) (left : List expression.Want)
    → expression.and_run o go ≡ Some left → (mid : List expression.Want) × (o ≡ Some mid)
front_ran None go left h = absurd (cc (h))
front_ran (Some mid) go left h = (mid, refl)

-- the machine runs over each prefix of an expression
expression_front_runs : {e : Expression} (inside more : List Symbol) → Derives any_expression (inside ++ more) e → RunsTo inside
expression_front_runs inside more d =
    let r = derived_runs d in
    let m = front_ran (expression.run inside whole) (expression.run more) r.left (sym (runs.run_part inside more whole) ∙ r.ran) in
    record { left = m.0; ran = m.1 }

-- the machine stops at a symbol too many, with more than `rest` left
pub record FindsTooLong (longest : ℕ) (ts : List Symbol) (wants : List Want) (rest : List Symbol) : Type 0 where
  pub left : ℕ
  pub verdict : judge longest ts (Outside wants) ≡ TooLong left
  pub more : length rest < left

-- this full expression is too long
pub too_long_here : {e : Expression} (longest : ℕ) (inside more rest : List Symbol) (wants : List Want)
    → Derives any_expression (inside ++ more) e
    → length inside ≡ suc longest
    → FindsTooLong longest (inside ++ rest) (machine.FullExpression ∷ wants) rest
too_long_here longest inside more rest wants d h =
    let r = expression_front_runs inside more d in
    record { left = suc (length rest); verdict = over_full longest inside rest r.left wants r.ran h; more = omega arith }

-- the machine passes a full expression on the way, or finds that it is too long
pub over_or_past : {e : Expression} (longest : ℕ) (ts : List Symbol) (sign : ℕ) (following rest : List Symbol) (wants : List Want)
    → Derives any_expression ts e → sign ≢ signs.OPEN_SQUARE
    → (length ts ≤ longest) ⊎ (longest < length ts) → length rest ≤ length following
    → FindsTooLong longest following wants rest
    → FindsTooLong longest (ts ++ symbols.Sign sign ∷ following) (machine.FullExpression ∷ Sign sign ∷ wants) rest
over_or_past longest ts sign following rest wants d n (inl c) m f =
    let same : (sign == sign) ≡ true = grind arith in
    let step : judge longest (symbols.Sign sign ∷ following) (Outside (Sign sign ∷ wants)) ≡ judge longest following (Outside wants) =
    rw same refl in
    record { left = f.left; verdict = passes_full (found_full sign following n d c) (Sign sign ∷ wants) ∙ step ∙ f.verdict; more = f.more }
over_or_past {e} longest ts sign following rest wants d n (inr c) m f =
    let front = take (suc longest) ts in
    let back = drop (suc longest) ts in
    let whole_of : front ++ back ≡ ts = take-append-drop (suc longest) ts in
    let many : length front ≡ suc longest = omega (arith, length-take (suc longest) ts, c) in
    let t = too_long_here longest front back (back ++ symbols.Sign sign ∷ following) (Sign sign ∷ wants)
    (subst (λ x. Derives any_expression x e) (sym whole_of) d) many in
    let same : ts ++ symbols.Sign sign ∷ following ≡ front ++ (back ++ symbols.Sign sign ∷ following) =
    ap (λ x. x ++ symbols.Sign sign ∷ following) (sym whole_of) ∙ append_assoc front back (symbols.Sign sign ∷ following) in
    record {
      left = t.left;
      verdict = ap (λ x. judge longest x (Outside (machine.FullExpression ∷ Sign sign ∷ wants))) same ∙ t.verdict;
      more = omega (arith, t.more, m, length-append back (symbols.Sign sign ∷ following));
    }
