-- The first symbol that breaks a rule, from the verdict of the machine and the number of open brackets; a program has no such symbol.
use Rattle.std.proofs.Common.{◌≡◌, ◌≢◌, ℕ, suc, ◌<◌, ◌≤◌, ◌+◌, List, [], ◌∷◌, ◌++◌, length, refl, sym, ap, ◌∙◌, append_assoc, append-nil}
use Rattle.std.proofs.Common.{length-append, arith, subst, ◌⊎◌, inl, inr}
use Rattle.std.proofs.lemmas.Bool.{cases_lt}
use Rattle.pipe_model.specs.declared.symbol.Symbol.{Symbol}
use Rattle.pipe_model.specs.Language.SyntaxTree.{SyntaxTree}
use Rattle.pipe_model.specs.Language.Grammar.{Piece, FullExpression, flat, DerivesProgram}
use Rattle.pipe_model.specs.Language.Spelling.{Spells, IsProgramPrefix, EndsTooLong, IsShallow, BreaksNoGrammarRule, FirstFault}
use Rattle.pipe_model.specs.Language.Spelling.{UnexpectedSymbol, UnexpectedEnd, FirstTooDeep, FirstTooLong, open_brackets, GrammarRule}
use Rattle.pipe_model.specs.Language.Spelling as spelling
use Rattle.grammar_laws.specs.ProgramMachine.{Outside, Verdict, Accepted, Unexpected, TooLong, judge, program}
use Rattle.grammar_laws.proofs.FirstFaults.{IsUnexpected, is_unexpected, is_too_long, NoneTooLong, none_too_long, too_long_found}
use Rattle.grammar_laws.proofs.Pieces.{flat_append}
use Rattle.grammar_laws.proofs.ProgramFaults.{accepted_from, reached, reached_front}
use Rattle.grammar_laws.proofs.ProgramPassing.{accepts_program}
use Rattle.grammar_laws.proofs.ProgramReading.{found_program, one_program}

-- at each point before the last at most 64 brackets are open
pub record IsShallowBefore (ts : List Symbol) : Type 0 where
  pub shallow : (before after : List Symbol) → ts ≡ before ++ after → after ≢ [] → open_brackets before ≤ 64

-- a prefix of a prefix of a program is one
pub shorter_front : (before after : List Symbol) → IsProgramPrefix (before ++ after) → IsProgramPrefix before
shorter_front before after f = record {
  after = after ++ f.after;
  pieces = f.pieces;
  tree = f.tree;
  derived = f.derived;
  split = sym (append_assoc before after f.after) ∙ f.split;
}

-- symbols that end in a full expression that is too long are a prefix of a program
pub too_long_front : {ts : List Symbol} → EndsTooLong ts → IsProgramPrefix ts
too_long_front {ts} f = record {
  after = f.more ++ flat f.after;
  pieces = f.before ++ FullExpression (f.inside ++ f.more) ∷ f.after;
  tree = f.tree;
  derived = f.derived;
  split =
      ap (λ x. x ++ (f.more ++ flat f.after)) f.split ∙ append_assoc (flat f.before) f.inside (f.more ++ flat f.after)
      ∙ ap (λ x. flat f.before ++ x) (sym (append_assoc f.inside f.more (flat f.after)))
      ∙ sym (flat_append f.before (FullExpression (f.inside ++ f.more) ∷ f.after));
}

some_left : (t : Symbol) (ts : List Symbol) → t ∷ ts ≢ []
some_left t ts = λ e. absurd (cc (e))

-- the symbols before a symbol are shallow
front_shallow : (ts before : List Symbol) (t : Symbol) (after : List Symbol) → IsShallowBefore ts → ts ≡ before ++ t ∷ after
    → IsShallow before
front_shallow ts before t after h s = record {
  shallow = λ b a e. h.shallow b (a ++ t ∷ after) (s ∙ ap (λ x. x ++ t ∷ after) e ∙ append_assoc b a (t ∷ after)) (not_empty a);
}
  where
    not_empty : (a : List Symbol) → a ++ t ∷ after ≢ []
    not_empty [] = some_left t after
    not_empty (x ∷ a) = some_left x (a ++ t ∷ after)

-- the same symbols followed by more
put_after : (ts before : List Symbol) (t : Symbol) (after more : List Symbol) → ts ≡ before ++ t ∷ after
    → ts ++ more ≡ before ++ t ∷ (after ++ more)
put_after ts before t after more h = ap (λ x. x ++ more) h ∙ append_assoc before (t ∷ after) more

fault_moved : {ts us : List Symbol} {rule : GrammarRule} {k m : ℕ} → ts ≡ us → k ≡ m → FirstFault us rule m → FirstFault ts rule k
fault_moved {ts} {us} {rule} {k} {m} h i f = subst (λ x. FirstFault x rule k) (sym h) (subst (λ x. FirstFault us rule x) (sym i) f)

-- ---- the first fault by the verdict

unexpected_at : (cut more : List Symbol) (n k : ℕ) → (u : IsUnexpected cut n) → (rest : List Symbol) → u.rest ≡ rest → 0 < n
    → k + n ≡ length cut
    → IsShallowBefore cut
    → FirstFault (cut ++ more) spelling.Unexpected k
unexpected_at cut more n k u [] e l m h = absurd (omega (arith, l, u.many, ap length e))
unexpected_at cut more n k u (t ∷ after) e l m h =
    let split : cut ≡ u.before ++ t ∷ after = u.split ∙ ap (λ x. u.before ++ x) e in
    let many : length cut ≡ length u.before + length (t ∷ after) = ap length split ∙ length-append u.before (t ∷ after) in
    let place : k ≡ length u.before = omega (arith, many, m, u.many, ap length e) in
    fault_moved (put_after cut u.before t after more split) place
    (UnexpectedSymbol u.before t (after ++ more)
    (record { front = u.front; shallow = front_shallow cut u.before t after h split; short = u.short }) (u.only t after e))

-- a symbol that is not allowed, k symbols from the start and n from the end
pub first_unexpected : (cut more : List Symbol) (n k : ℕ) → judge 256 cut (Outside program) ≡ Unexpected n → 0 < n → k + n ≡ length cut
    → IsShallowBefore cut
    → FirstFault (cut ++ more) spelling.Unexpected k
first_unexpected cut more n k v l m h = let u = is_unexpected cut n v in unexpected_at cut more n k u u.rest refl l m h

no_symbols : (ts : List Symbol) → length ts ≡ 0 → ts ≡ []
no_symbols [] h = refl
no_symbols (t ∷ ts) h = absurd (omega (arith, h))

-- the symbols end too early
pub first_unexpected_end : (ts : List Symbol) → judge 256 ts (Outside program) ≡ Unexpected 0 → IsShallow ts
    → FirstFault ts spelling.Unexpected (length ts)
first_unexpected_end ts v h =
    let u = is_unexpected ts 0 v in
    let none = no_symbols u.rest u.many in
    let same : ts ≡ u.before = u.split ∙ ap (λ x. u.before ++ x) none ∙ append-nil u.before in
    UnexpectedEnd ts (record {
      front = subst IsProgramPrefix (sym same) u.front;
      shallow = h;
      short = subst NoneTooLong (sym same) u.short;
    }) (u.ends none)

-- a symbol beyond the longest full expression
pub first_too_long : (cut more : List Symbol) (n k : ℕ) → judge 256 cut (Outside program) ≡ TooLong n → (1 < n) ⊎ (open_brackets cut ≤ 64)
    → k + n ≡ length cut → IsShallowBefore cut
    → FirstFault (cut ++ more) spelling.TooLong k
first_too_long cut more n k v c m h =
    let x = is_too_long cut n v in
    let many : length cut ≡ length x.before + length (x.t ∷ x.after) = ap length x.split ∙ length-append x.before (x.t ∷ x.after) in
    let here : cut ≡ (x.before ++ x.t ∷ []) ++ x.after = x.split ∙ sym (append_assoc x.before (x.t ∷ []) x.after) in
    let place : k ≡ length x.before = omega (arith, many, m, x.many) in
    fault_moved (put_after cut x.before x.t x.after more x.split) place
    (FirstTooLong x.before x.t (x.after ++ more)
    (record { front = x.front; shallow = front_shallow cut x.before x.t x.after h x.split; short = x.short })
    (shallow_here cut n c (x.before ++ x.t ∷ []) x.after x.many here h) x.ends)
  where
    shallow_here : (cut : List Symbol) (n : ℕ) → (1 < n) ⊎ (open_brackets cut ≤ 64) → (b a : List Symbol) → n ≡ suc (length a)
        → cut ≡ b ++ a
        → IsShallowBefore cut → open_brackets b ≤ 64
    shallow_here cut n c b (t ∷ a) e s h = h.shallow b (t ∷ a) s (some_left t a)
    shallow_here cut n (inl l) b [] e s h = absurd (omega (arith, l, e))
    shallow_here cut n (inr l) b [] e s h = subst (λ x. open_brackets x ≤ 64) (s ∙ append-nil b) l

-- the machine reaches the last symbol, and that symbol is allowed
abbrev pub ComesToLast : Verdict → Type 0
ComesToLast Accepted = Unit {0}
ComesToLast (Unexpected n) = n ≡ 0
ComesToLast (TooLong n) = n ≡ 1

last_front : (ts : List Symbol) (v : Verdict) → judge 256 ts (Outside program) ≡ v → ComesToLast v → IsProgramPrefix ts
last_front ts Accepted v c =
    let a = accepted_from 256 ts [] (Outside program) (ap (λ x. judge 256 x (Outside program)) (append-nil ts) ∙ v) in
    reached_front (reached ts a.state a.runs)
last_front ts (Unexpected n) v c =
    let u = is_unexpected ts n v in
    let none = no_symbols u.rest (u.many ∙ c) in
    subst IsProgramPrefix (sym (u.split ∙ ap (λ x. u.before ++ x) none ∙ append-nil u.before)) u.front
last_front ts (TooLong n) v c =
    let x = is_too_long ts n v in
    let none = no_symbols x.after (omega (arith, x.many, c)) in
    subst IsProgramPrefix (sym (x.split ∙ ap (λ y. x.before ++ x.t ∷ y) none)) (too_long_front x.ends)

last_count : (v : Verdict) (n : ℕ) → ComesToLast v → v ≡ TooLong n → n ≤ 1
last_count Accepted n c h = absurd (cc (h))
last_count (Unexpected m) n c h = absurd (cc (h))
last_count (TooLong m) n c h = let e : m ≡ n = cc (h) in omega (arith, e, c)

-- a symbol that opens one bracket too many
pub first_too_deep : (before : List Symbol) (t : Symbol) (more : List Symbol) (v : Verdict)
    → judge 256 (before ++ t ∷ []) (Outside program) ≡ v
    → ComesToLast v → IsShallowBefore (before ++ t ∷ []) → 64 < open_brackets (before ++ t ∷ [])
    → FirstFault (before ++ t ∷ more) spelling.TooDeep (length before)
first_too_deep before t more v e c h l =
    let front = last_front (before ++ t ∷ []) v e c in
    FirstTooDeep before t more
    (record {
      front = shorter_front before (t ∷ []) front;
      shallow = front_shallow (before ++ t ∷ []) before t [] h refl;
      short = none_too_long (before ++ t ∷ []) before (t ∷ []) refl (λ n i. last_count v n c (sym e ∙ i));
    }) front l

-- ---- programs

-- symbols that spell a program are accepted
pub spelled_accepted : {ts : List Symbol} {p : SyntaxTree} → Spells ts p → judge 256 ts (Outside program) ≡ Accepted
spelled_accepted s = ap (λ x. judge 256 x (Outside program)) s.split ∙ accepts_program (found_program s.derived s.short)

-- symbols spell one program at most
pub one_spelled : {ts : List Symbol} {p q : SyntaxTree} → Spells ts p → Spells ts q → p ≡ q
one_spelled {p = p} {q = q} s r = one_program s.pieces r.pieces p q s.derived r.derived (sym s.split ∙ r.split)

spelled_front : {ts : List Symbol} {p : SyntaxTree} → Spells ts p → (before after : List Symbol) → ts ≡ before ++ after
    → IsProgramPrefix before
spelled_front {p = p} s before after h = record { after = after; pieces = s.pieces; tree = p; derived = s.derived; split = sym h ∙ s.split }

-- symbols that spell a program break no rule
pub spelled_without_fault : {ts : List Symbol} {p : SyntaxTree} {rule : GrammarRule} {k : ℕ} → FirstFault ts rule k → Spells ts p → ⊥
spelled_without_fault (UnexpectedSymbol before t after b only) s =
    only (spelled_front s (before ++ t ∷ []) after (sym (append_assoc before (t ∷ []) after)))
spelled_without_fault {p = p} (UnexpectedEnd ts b ends) s = ends s.pieces p s.derived s.split
spelled_without_fault (FirstTooDeep before t after b front l) s =
    absurd (omega (arith, l, s.shallow.shallow (before ++ t ∷ []) after (sym (append_assoc before (t ∷ []) after))))
spelled_without_fault (FirstTooLong before t after b l ends) s =
    let g = too_long_found (before ++ t ∷ []) after ends in
    let v = ap (λ x. judge 256 x (Outside program)) (append_assoc before (t ∷ []) after) in
    let e : Accepted ≡ TooLong g.left = sym (spelled_accepted s) ∙ sym v ∙ g.verdict in
    cc (e)

-- ---- there is one first fault

-- of two prefixes of one list, the longer extends the shorter
record Longer (b r b' r' : List Symbol) : Type 0 where
  x : Symbol
  more : List Symbol
  front : b' ≡ b ++ x ∷ more
  rest : r ≡ x ∷ (more ++ r')

longer : (b r b' r' : List Symbol) → b ++ r ≡ b' ++ r' → length b < length b' → Longer b r b' r'
longer [] r [] r' h l = absurd (omega (arith, l))
longer [] r (x ∷ b') r' h l = record { x = x; more = b'; front = refl; rest = h }
longer (y ∷ b) r [] r' h l = absurd (omega (arith, l))
longer (y ∷ b) r (x ∷ b') r' h l =
    let head : y ≡ x = cc (h) in
    let tail : b ++ r ≡ b' ++ r' = cc (h) in
    let m = longer b r b' r' tail (omega (arith, l)) in
    let front = m.front in
    record { x = m.x; more = m.more; front = cc (head, front); rest = m.rest }

as_long : (b r b' r' : List Symbol) → b ++ r ≡ b' ++ r' → length b ≡ length b' → (b ≡ b') × (r ≡ r')
as_long [] r [] r' h l = (refl, h)
as_long [] r (x ∷ b') r' h l = absurd (omega (arith, l))
as_long (y ∷ b) r [] r' h l = absurd (omega (arith, l))
as_long (y ∷ b) r (x ∷ b') r' h l =
    let tail : b ++ r ≡ b' ++ r' = cc (h) in
    let p = as_long b r b' r' tail (omega (arith, l)) in
    let front = p.0 in
    (cc (h, front), p.1)

-- how the symbols after a prefix break a rule
abbrev Breaks : GrammarRule → List Symbol → List Symbol → Type 0
Breaks spelling.Unexpected before [] = (pieces : List Piece) (tree : SyntaxTree) → DerivesProgram pieces tree → before ≡ flat pieces → ⊥
Breaks spelling.Unexpected before (t ∷ after) = IsProgramPrefix (before ++ t ∷ []) → ⊥
Breaks spelling.TooDeep before [] = ⊥
Breaks spelling.TooDeep before (t ∷ after) = IsProgramPrefix (before ++ t ∷ []) × (64 < open_brackets (before ++ t ∷ []))
Breaks spelling.TooLong before [] = ⊥
Breaks spelling.TooLong before (t ∷ after) = (open_brackets (before ++ t ∷ []) ≤ 64) × EndsTooLong (before ++ t ∷ [])

record Broken (ts : List Symbol) (rule : GrammarRule) (k : ℕ) : Type 0 where
  before : List Symbol
  rest : List Symbol
  split : before ++ rest ≡ ts
  many : length before ≡ k
  obeys : BreaksNoGrammarRule before
  breaks : Breaks rule before rest

broken : {ts : List Symbol} {rule : GrammarRule} {k : ℕ} → FirstFault ts rule k → Broken ts rule k
broken (UnexpectedSymbol before t after b only) = record {
  before = before;
  rest = t ∷ after;
  split = refl;
  many = refl;
  obeys =
      b;
  breaks = only;
}
broken (UnexpectedEnd ts b ends) = record { before = ts; rest = []; split = append-nil ts; many = refl; obeys = b; breaks = ends }
broken (FirstTooDeep before t after b front l) = record {
  before = before;
  rest = t ∷ after;
  split = refl;
  many = refl;
  obeys = b;
  breaks =
      (front, l);
}
broken (FirstTooLong before t after b l ends) = record {
  before = before;
  rest = t ∷ after;
  split = refl;
  many = refl;
  obeys = b;
  breaks =
      (l, ends);
}

-- a symbol breaks no rule if longer symbols break none
not_before : (rule : GrammarRule) (before : List Symbol) (x : Symbol) (more after : List Symbol) → BreaksNoGrammarRule (before ++ x ∷ more)
    → Breaks rule before (x ∷ after) → ⊥
not_before spelling.Unexpected before x more after o b =
    b (shorter_front (before ++ x ∷ []) more (subst IsProgramPrefix (sym (append_assoc before (x ∷ []) more)) o.front))
not_before spelling.TooDeep before x more after o b =
    absurd (omega (arith, b.1, o.shallow.shallow (before ++ x ∷ []) more (sym (append_assoc before (x ∷ []) more))))
not_before spelling.TooLong before x more after o b = o.short (before ++ x ∷ []) more (sym (append_assoc before (x ∷ []) more)) b.1

-- a symbol breaks at most one rule first
one_rule : (r r' : GrammarRule) (before rest : List Symbol) → Breaks r before rest → Breaks r' before rest → r ≡ r'
one_rule spelling.Unexpected spelling.Unexpected before rest b c = refl
one_rule spelling.Unexpected spelling.TooDeep before [] b c = absurd c
one_rule spelling.Unexpected spelling.TooDeep before (t ∷ after) b c = absurd (b c.0)
one_rule spelling.Unexpected spelling.TooLong before [] b c = absurd c
one_rule spelling.Unexpected spelling.TooLong before (t ∷ after) b c = absurd (b (too_long_front c.1))
one_rule spelling.TooDeep spelling.Unexpected before [] b c = absurd b
one_rule spelling.TooDeep spelling.Unexpected before (t ∷ after) b c = absurd (c b.0)
one_rule spelling.TooDeep spelling.TooDeep before rest b c = refl
one_rule spelling.TooDeep spelling.TooLong before [] b c = absurd b
one_rule spelling.TooDeep spelling.TooLong before (t ∷ after) b c = absurd (omega (arith, b.1, c.0))
one_rule spelling.TooLong spelling.Unexpected before [] b c = absurd b
one_rule spelling.TooLong spelling.Unexpected before (t ∷ after) b c = absurd (c (too_long_front b.1))
one_rule spelling.TooLong spelling.TooDeep before [] b c = absurd b
one_rule spelling.TooLong spelling.TooDeep before (t ∷ after) b c = absurd (omega (arith, c.1, b.0))
one_rule spelling.TooLong spelling.TooLong before rest b c = refl

not_earlier : {ts : List Symbol} {r r' : GrammarRule} {k k' : ℕ} → Broken ts r k → Broken ts r' k' → k < k' → ⊥
not_earlier {r = r} a b l =
    let m = longer a.before a.rest b.before b.rest (a.split ∙ sym b.split) (omega (arith, l, a.many, b.many)) in
    not_before r a.before m.x m.more (m.more ++ b.rest) (subst BreaksNoGrammarRule m.front b.obeys)
    (subst (λ x. Breaks r a.before x) m.rest a.breaks)

one_broken : {ts : List Symbol} {r r' : GrammarRule} {k k' : ℕ} → Broken ts r k → Broken ts r' k' → k ≡ k' → r ≡ r'
one_broken {r = r} {r' = r'} a b e =
    let p = as_long a.before a.rest b.before b.rest (a.split ∙ sym b.split) (a.many ∙ e ∙ sym b.many) in
    one_rule r r' a.before a.rest a.breaks (subst (λ x. Breaks r' x a.rest) (sym p.0)
    (subst (λ x. Breaks r' b.before x) (sym p.1) b.breaks))

-- symbols have at most one first fault
pub one_fault : {ts : List Symbol} {r r' : GrammarRule} {k k' : ℕ} → FirstFault ts r k → FirstFault ts r' k' → (k ≡ k') × (r ≡ r')
one_fault {k = k} {k' = k'} f g =
    let a = broken f in
    let b = broken g in
    let same : k ≡ k' = elim (cases_lt k k') [
      | inl l ↦ absurd (not_earlier a b l)
      | inr l ↦ elim (cases_lt k' k) [ inl m ↦ absurd (not_earlier b a m) | inr m ↦ omega (arith, l, m) ]
    ] in
    (same, one_broken a b same)
