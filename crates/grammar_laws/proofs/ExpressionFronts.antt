-- If the machine of expressions runs over symbols, some expression begins with them.
use Rattle.std.proofs.Common.{◌≡◌, ℕ, ◌≤◌, List, [], ◌∷◌, ◌++◌, refl, sym, ap, ◌∙◌, append_assoc, append-nil, arith, subst, ◌⊎◌, inl, inr}
use Rattle.std.proofs.Common.{Option, Some, None, Bool, true, false, ◌==◌, pos, if◌then◌else◌}
use Rattle.std.proofs.lemmas.Bool.{cases_eq}
use Rattle.pipe_model.specs.declared.operator_codes.TheConstants as operator_codes
use Rattle.pipe_model.specs.declared.sign_bytes.TheConstants as signs
use Rattle.pipe_model.specs.declared.word_codes.TheConstants as words
use Rattle.pipe_model.specs.declared.symbol.Symbol.{Symbol}
use Rattle.pipe_model.specs.declared.symbol.Symbol.TheVariants as symbols
use Rattle.pipe_model.specs.Language.SyntaxTree.{Expression}
use Rattle.pipe_model.specs.Language.Grammar.{any_expression, operand_level, Derives, Numeral, Named, Indexed, CallsMore, CallsTake}
use Rattle.pipe_model.specs.Language.Grammar.{CallsIter, Negative, Not, Bracketed, level_of}
use Rattle.grammar_laws.specs.ExpressionMachine.{Want, Sign, Operand, Index, Tail, Move, Takes, Skips, Refuses, move, step, stepped, run}
use Rattle.grammar_laws.specs.ExpressionMachine.{and_run, is_operator, is_call, may_end}
use Rattle.grammar_laws.proofs.ExpressionGrowth.{grown}
use Rattle.pipe_model.proofs.LevelLaws.{looser}

-- ---- symbols that complete a list of wants
pub data Completes : List Want → List Symbol → Type 0 where
  Nothing : Completes [] []
  OfSign : {wants : List Want} {ts : List Symbol} (sign : ℕ) → Completes wants ts → Completes (Sign sign ∷ wants) (symbols.Sign sign ∷ ts)
  OfOperand : {wants : List Want} {us ts : List Symbol} {e : Expression} → Derives operand_level us e → Completes wants ts
      → Completes (Operand ∷ wants) (us ++ ts)
  OfNoIndex : {wants : List Want} {ts : List Symbol} → Completes wants ts → Completes (Index ∷ wants) ts
  OfIndex : {wants : List Want} {us ts : List Symbol} {e : Expression} → Derives any_expression us e → Completes wants ts
      → Completes (Index ∷ wants) (symbols.Sign signs.OPEN_SQUARE ∷ (us ++ symbols.Sign signs.CLOSE_SQUARE ∷ ts))
  OfNoTail : {wants : List Want} {ts : List Symbol} → Completes wants ts → Completes (Tail ∷ wants) ts
  OfTail : {wants : List Want} {us ts : List Symbol} {e : Expression} (code : ℕ) → is_operator code ≡ true → Derives operand_level us e
      → Completes (Tail ∷ wants) ts
      → Completes (Tail ∷ wants) (symbols.Operator code ∷ (us ++ ts))

-- symbols that complete the wants
pub record Completion (wants : List Want) : Type 0 where
  pub ts : List Symbol
  pub completes : Completes wants ts

one_more : (want : Want) (wants : List Want) → Completion wants → Completion (want ∷ wants)
one_more (Sign sign) wants s = record { ts = symbols.Sign sign ∷ s.ts; completes = OfSign sign s.completes }
one_more Operand wants s = record { ts = symbols.Number (pos 0) ∷ s.ts; completes = OfOperand (Numeral (pos 0)) s.completes }
one_more Index wants s = record { ts = s.ts; completes = OfNoIndex s.completes }
one_more Tail wants s = record { ts = s.ts; completes = OfNoTail s.completes }

-- each list of wants is completed by some symbols
pub completion : (wants : List Want) → Completion wants
completion [] = record { ts = []; completes = Nothing }
completion (want ∷ wants) = one_more want wants (completion wants)

-- wants that may end are completed by no symbols
pub completes_end : (wants : List Want) → may_end wants ≡ true → Completes wants []
completes_end [] h = Nothing
completes_end (Sign sign ∷ wants) h = absurd (cc (h))
completes_end (Operand ∷ wants) h = absurd (cc (h))
completes_end (Index ∷ wants) h = OfNoIndex (completes_end wants h)
completes_end (Tail ∷ wants) h = OfNoTail (completes_end wants h)

-- ---- an operand and the operators after it are an expression
pub record First (wants : List Want) (left ts : List Symbol) : Type 0 where
  pub taken : List Symbol
  pub rest : List Symbol
  pub e : Expression
  pub derived : Derives any_expression (left ++ taken) e
  pub split : ts ≡ taken ++ rest
  pub completes : Completes wants rest

-- each operator has a level of at least 1
operator_level : (code : ℕ) → is_operator code ≡ true → any_expression ≤ level_of code
operator_level code h = grind (arith, h)

joined_first : {wants : List Want} (left us ts : List Symbol) (code : ℕ) → First wants (left ++ symbols.Operator code ∷ us) ts
    → First wants left (symbols.Operator code ∷ (us ++ ts))
joined_first left us ts code w = record {
  taken = symbols.Operator code ∷ (us ++ w.taken);
  rest = w.rest;
  e = w.e;
  derived = subst (λ x. Derives any_expression x w.e) (append_assoc left (symbols.Operator code ∷ us) w.taken) w.derived;
  split = ap (λ x. symbols.Operator code ∷ x) (ap (λ x. us ++ x) w.split ∙ sym (append_assoc us w.taken w.rest));
  completes = w.completes;
}

tail_first : {wants : List Want} (left : List Symbol) {ts : List Symbol} {e : Expression} → Derives any_expression left e
    → Completes (Tail ∷ wants) ts
    → First wants left ts
tail_first left {e = e} d (OfNoTail {ts = ts} s) = record {
  taken = [];
  rest = ts;
  e = e;
  derived = subst (λ us. Derives any_expression us e) (sym (append-nil left)) d;
  split = refl;
  completes = s;
}
tail_first left d (OfTail {us = us} {ts = ts} code h o s) =
    let x = grown code o d (operator_level code h) in
    joined_first left us ts code (tail_first (left ++ symbols.Operator code ∷ us) x.derived s)

operand_first : {wants : List Want} (us ts : List Symbol) → First wants us ts → First wants [] (us ++ ts)
operand_first us ts w = record {
  taken = us ++ w.taken;
  rest = w.rest;
  e = w.e;
  derived = w.derived;
  split = ap (λ x. us ++ x) w.split ∙ sym (append_assoc us w.taken w.rest);
  completes = w.completes;
}

-- completing symbols begin with an expression
pub first : {wants : List Want} {ts : List Symbol} → Completes (Operand ∷ Tail ∷ wants) ts → First wants [] ts
first (OfOperand {us = us} {ts = ts} d s) = operand_first us ts (tail_first us (looser any_expression (omega arith) d) s)

-- ---- a step back
moved : {wants : List Want} {ts us : List Symbol} → ts ≡ us → Completes wants us → Completes wants ts
moved {wants} h s = subst (Completes wants) (sym h) s

-- an expression and the sign that closes it
record Closed (wants : List Want) (sign : ℕ) (ts : List Symbol) : Type 0 where
  inside : List Symbol
  rest : List Symbol
  e : Expression
  derived : Derives any_expression inside e
  split : ts ≡ inside ++ symbols.Sign sign ∷ rest
  completes : Completes wants rest

closed_by : {wants : List Want} {sign : ℕ} (inside : List Symbol) {e : Expression} {ts rest : List Symbol} → Derives any_expression inside e
    → ts ≡ inside ++ rest
    → Completes (Sign sign ∷ wants) rest
    → Closed wants sign ts
closed_by inside {e = e} d h (OfSign {ts = rest} sign s) =
    record { inside = inside; rest = rest; e = e; derived = d; split = h; completes = s }

closed_first : {wants : List Want} {sign : ℕ} {ts : List Symbol} → Completes (Operand ∷ Tail ∷ Sign sign ∷ wants) ts → Closed wants sign ts
closed_first s = let w = first s in closed_by w.taken w.derived w.split w.completes

bracket_back : {wants : List Want} {ts : List Symbol} → Closed wants signs.CLOSE_ROUND ts
    → Completes (Operand ∷ wants) (symbols.Sign signs.OPEN_ROUND ∷ ts)
bracket_back c =
    moved (ap (λ x. symbols.Sign signs.OPEN_ROUND ∷ x) (c.split ∙ sym (append_assoc c.inside (symbols.Sign signs.CLOSE_ROUND ∷ []) c.rest)))
    (OfOperand (Bracketed c.derived) c.completes)

index_back : {wants : List Want} {ts : List Symbol} → Closed wants signs.CLOSE_SQUARE ts
    → Completes (Index ∷ wants) (symbols.Sign signs.OPEN_SQUARE ∷ ts)
index_back c = moved (ap (λ x. symbols.Sign signs.OPEN_SQUARE ∷ x) c.split) (OfIndex c.derived c.completes)

name_back : {wants : List Want} {ts : List Symbol} (name : List ℕ) → Completes (Index ∷ wants) ts
    → Completes (Operand ∷ wants) (symbols.Name name ∷ ts)
name_back name (OfNoIndex s) = OfOperand (Named name) s
name_back name (OfIndex {us = us} {ts = ts} d s) =
    moved (ap (λ x. symbols.Name name ∷ symbols.Sign signs.OPEN_SQUARE ∷ x) (sym (append_assoc us
    (symbols.Sign signs.CLOSE_SQUARE ∷ []) ts)))
    (OfOperand (Indexed name d) s)

negative_back : {wants : List Want} {ts : List Symbol} → Completes (Operand ∷ wants) ts → Completes (Operand ∷ wants)
    (symbols.Operator operator_codes.MINUS ∷ ts)
negative_back (OfOperand d s) = OfOperand (Negative d) s

not_back : {wants : List Want} {ts : List Symbol} → Completes (Operand ∷ wants) ts
    → Completes (Operand ∷ wants) (symbols.Sign signs.EXCLAMATION ∷ ts)
not_back (OfOperand d s) = OfOperand (Not d) s

tail_back : {wants : List Want} {ts : List Symbol} (code : ℕ) → is_operator code ≡ true → Completes (Operand ∷ Tail ∷ wants) ts
    → Completes (Tail ∷ wants) (symbols.Operator code ∷ ts)
tail_back code h (OfOperand d s) = OfTail code h d s

call_back : {wants : List Want} {ts : List Symbol} (word : ℕ) → ((word ≡ words.MORE) ⊎ ((word ≡ words.TAKE) ⊎ (word ≡ words.ITER)))
    → Completes (Sign signs.OPEN_ROUND ∷ Sign signs.CLOSE_ROUND ∷ wants) ts
    → Completes (Operand ∷ wants) (symbols.Word word ∷ ts)
call_back word (inl h) (OfSign sign (OfSign sign' s)) = rw h (OfOperand CallsMore s)
call_back word (inr (inl h)) (OfSign sign (OfSign sign' s)) = rw h (OfOperand CallsTake s)
call_back word (inr (inr h)) (OfSign sign (OfSign sign' s)) = rw h (OfOperand CallsIter s)

which_call : (word : ℕ) → is_call word ≡ true → (word ≡ words.MORE) ⊎ ((word ≡ words.TAKE) ⊎ (word ≡ words.ITER))
which_call word h =
    elim (cases_eq word 17) [
      | inl e ↦ inl e
      | inr e ↦ elim (cases_eq word 18) [ inl f ↦ inr (inl f) | inr f ↦ inr (inr (grind (arith, e, f, h))) ]
    ]

same_sign : (sign b : ℕ) → (b == sign) ≡ true → {wants : List Want} {ts : List Symbol} → Completes wants ts
    → Completes (Sign sign ∷ wants) (symbols.Sign b ∷ ts)
same_sign sign b h s = let e : b ≡ sign = grind (arith, h) in rw e (OfSign sign s)

-- if symbols complete the wants after the move, then `t` and these symbols complete the wants before it
abbrev MovesBack : Move → Want → Symbol → Type 0
MovesBack (Takes more) want t = (wants : List Want) (ts : List Symbol) → Completes (more ++ wants) ts → Completes (want ∷ wants) (t ∷ ts)
MovesBack Skips want t = (wants : List Want) (ts : List Symbol) → Completes wants ts → Completes (want ∷ wants) ts
MovesBack Refuses want t = Unit {0}

either : (b : Bool) (x y : Move) (want : Want) (t : Symbol) → (b ≡ true → MovesBack x want t) → (b ≡ false → MovesBack y want t)
    → MovesBack (if b then x else y) want t
either true x y want t f g = f refl
either false x y want t f g = g refl

operand_sign_back : (b : ℕ) → MovesBack (move Operand (symbols.Sign b)) Operand (symbols.Sign b)
operand_sign_back b =
    either (b == signs.OPEN_ROUND) (Takes (Operand ∷ Tail ∷ Sign signs.CLOSE_ROUND ∷ [])) (if b == signs.EXCLAMATION then Takes
    (Operand ∷ []) else Refuses) Operand (symbols.Sign b)
    (λ h wants ts s. let e : b ≡ signs.OPEN_ROUND = grind (arith, h) in rw e (bracket_back (closed_first s)))
    (λ h. either (b == signs.EXCLAMATION) (Takes (Operand ∷ [])) Refuses Operand (symbols.Sign b)
    (λ i wants ts s. let e : b ≡ signs.EXCLAMATION = grind (arith, i) in rw e (not_back s)) (λ i. tt))

-- each entry of the table is sound
back : (want : Want) (t : Symbol) → MovesBack (move want t) want t
back (Sign sign) (symbols.Sign b) = either (b == sign) (Takes []) Refuses (Sign sign) (symbols.Sign b)
    (λ h wants ts s. same_sign sign b h s) (λ h. tt)
back (Sign sign) (symbols.Name name) = tt
back (Sign sign) (symbols.Word word) = tt
back (Sign sign) (symbols.Number n) = tt
back (Sign sign) (symbols.Operator code) = tt
back Operand (symbols.Number n) = λ wants ts s. OfOperand (Numeral n) s
back Operand (symbols.Name name) = λ wants ts s. name_back name s
back Operand (symbols.Word word) =
    either (is_call word) (Takes (Sign signs.OPEN_ROUND ∷ Sign signs.CLOSE_ROUND ∷ [])) Refuses Operand (symbols.Word word)
    (λ h wants ts s. call_back word (which_call word h) s)
    (λ h. tt)
back Operand (symbols.Operator code) =
    either (code == operator_codes.MINUS) (Takes (Operand ∷ [])) Refuses Operand (symbols.Operator code)
    (λ h wants ts s. let e : code ≡ operator_codes.MINUS = grind (arith, h) in rw e (negative_back s)) (λ h. tt)
back Operand (symbols.Sign b) = operand_sign_back b
back Index (symbols.Sign b) =
    either (b == signs.OPEN_SQUARE) (Takes (Operand ∷ Tail ∷ Sign signs.CLOSE_SQUARE ∷ [])) Skips Index (symbols.Sign b)
    (λ h wants ts s. let e : b ≡ signs.OPEN_SQUARE = grind (arith, h) in rw e (index_back (closed_first s))) (λ h wants ts s. OfNoIndex s)
back Index (symbols.Name name) = λ wants ts s. OfNoIndex s
back Index (symbols.Word word) = λ wants ts s. OfNoIndex s
back Index (symbols.Number n) = λ wants ts s. OfNoIndex s
back Index (symbols.Operator code) = λ wants ts s. OfNoIndex s
back Tail (symbols.Operator code) =
    either (is_operator code) (Takes (Operand ∷ Tail ∷ [])) Skips Tail (symbols.Operator code) (λ h wants ts s. tail_back code h s)
    (λ h wants ts s. OfNoTail s)
back Tail (symbols.Name name) = λ wants ts s. OfNoTail s
back Tail (symbols.Word word) = λ wants ts s. OfNoTail s
back Tail (symbols.Number n) = λ wants ts s. OfNoTail s
back Tail (symbols.Sign b) = λ wants ts s. OfNoTail s

stepped_back : (m : Move) (want : Want) (t : Symbol) (wants : List Want) (below : Option (List Want)) → MovesBack m want t
    → ((left : List Want) (ts : List Symbol) → below ≡ Some left → Completes left ts → Completes wants (t ∷ ts))
    → (left : List Want) (ts : List Symbol) → stepped m wants below ≡ Some left → Completes left ts → Completes (want ∷ wants) (t ∷ ts)
stepped_back (Takes more) want t wants below f g left ts h s = let e : more ++ wants ≡ left = cc (h) in f wants ts (rw e s)
stepped_back Skips want t wants below f g left ts h s = f wants (t ∷ ts) (g left ts h s)
stepped_back Refuses want t wants below f g left ts h s = absurd (cc (h))

-- the same for a step of the machine
pub step_back : (wants : List Want) (t : Symbol) (left : List Want) (ts : List Symbol) → step wants t ≡ Some left → Completes left ts
    → Completes wants (t ∷ ts)
step_back [] t left ts h s = absurd (cc (h))
step_back (want ∷ wants) t left ts h s =
    stepped_back (move want t) want t wants (step wants t) (back want t) (λ left ts h s. step_back wants t left ts h s) left ts h s

run_back_on : (o : Option (List Want)) (wants : List Want) (t : Symbol) (before ts : List Symbol) (left : List Want) → step wants t ≡ o
    → ((mid : List Want) → run before mid ≡ Some left → Completes mid (before ++ ts)) → and_run o (run before) ≡ Some left
    → Completes wants (t ∷ (before ++ ts))
run_back_on None wants t before ts left e f h = absurd (cc (h))
run_back_on (Some mid) wants t before ts left e f h = step_back wants t mid (before ++ ts) e (f mid h)

-- the same for a run of the machine
pub run_back : (before ts : List Symbol) (wants left : List Want) → run before wants ≡ Some left → Completes left ts
    → Completes wants (before ++ ts)
run_back [] ts wants left h s = let e : wants ≡ left = cc (h) in rw e s
run_back (t ∷ before) ts wants left h s = run_back_on (step wants t) wants t before ts left refl
    (λ mid i. run_back before ts mid left i s) h

-- ---- completing a prefix to an expression

pub record IsExpression (ts : List Symbol) : Type 0 where
  pub e : Expression
  pub derived : Derives any_expression ts e

nothing_more : (ts taken rest : List Symbol) → ts ≡ taken ++ rest → Completes [] rest → ts ≡ taken
nothing_more ts taken rest h Nothing = h ∙ append-nil taken

-- symbols that a run accepts, followed by symbols that complete its wants, are an expression
pub run_completed : (before more : List Symbol) (left : List Want) → run before (Operand ∷ Tail ∷ []) ≡ Some left → Completes left more
    → IsExpression (before ++ more)
run_completed before more left h s =
    let w = first (run_back before more (Operand ∷ Tail ∷ []) left h s) in
    record {
      e = w.e;
      derived = subst (λ x. Derives any_expression x w.e)
          (sym (nothing_more (before ++ more) w.taken w.rest w.split w.completes)) w.derived;
    }

-- if the run may end, the symbols are an expression
pub run_ended : (before : List Symbol) (left : List Want) → run before (Operand ∷ Tail ∷ []) ≡ Some left → may_end left ≡ true
    → IsExpression before
run_ended before left h i =
    let x = run_completed before [] left h (completes_end left i) in
    record { e = x.e; derived = subst (λ ts. Derives any_expression ts x.e) (append-nil before) x.derived }
