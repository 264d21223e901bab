-- A reader of expressions finds what the whole grammar derives, and nothing else, and in one way.
use Rattle.std.proofs.Common.{◌≡◌, ◌≢◌, ℕ, suc, ◌<◌, List, [], ◌∷◌, ◌++◌, refl, sym, ap, ◌∙◌, append_assoc, append-nil, arith, subst}
use Rattle.pipe_model.specs.declared.sign_bytes.TheConstants as signs
use Rattle.pipe_model.specs.declared.symbol.Symbol.{Symbol}
use Rattle.pipe_model.specs.declared.symbol.Symbol.TheVariants as symbols
use Rattle.pipe_model.specs.Language.SyntaxTree.{Expression, Element, Unary, binary_expression}
use Rattle.pipe_model.specs.Language.Grammar.{any_expression, operand_level, Derives, Numeral, Named, Indexed, CallsMore, CallsTake}
use Rattle.pipe_model.specs.Language.Grammar.{CallsIter, Negative, Not, Bracketed, Tighter, Joined, level_of}
use Rattle.grammar_laws.specs.Reading.{Reads, ReadsNumeral, ReadsName, ReadsElement, ReadsMore, ReadsTake, ReadsIter, ReadsNegative}
use Rattle.grammar_laws.specs.Reading.{ReadsNot, ReadsBracketed, ReadsChain, Extends, Ends, Joins, NoSign, next_level}
use Rattle.pipe_model.proofs.LevelLaws.{below_operands}
use Rattle.pipe_model.specs.Language.Words.{word_more, word_take, word_iter, minus, exclamation, open_round, close_round, open_square}
use Rattle.pipe_model.specs.Language.Words.{close_square}

-- ---- what was read is derived

-- the symbols of an expression that was read
pub record Took (level : ℕ) (ts : List Symbol) (e : Expression) (rest : List Symbol) : Type 0 where
  pub taken : List Symbol
  pub split : ts ≡ taken ++ rest
  pub derived : Derives level taken e

-- symbols that are read after a first operand derive an expression together with it
record Extended (level : ℕ) (left ts : List Symbol) (e : Expression) (rest : List Symbol) : Type 0 where
  taken : List Symbol
  split : ts ≡ taken ++ rest
  derived : Derives level (left ++ taken) e

bracketed : {e : Expression} (ts rest : List Symbol) → Took any_expression ts e (close_round ∷ rest)
    → Took operand_level (open_round ∷ ts) e rest
bracketed ts rest t = record {
  taken = open_round ∷ (t.taken ++ close_round ∷ []);
  split = ap (λ x. open_round ∷ x) (t.split ∙ sym (append_assoc t.taken (close_round ∷ []) rest));
  derived = Bracketed t.derived;
}

indexed : (name : List ℕ) {e : Expression} (ts rest : List Symbol) → Took any_expression ts e (close_square ∷ rest)
    → Took operand_level (symbols.Name name ∷ open_square ∷ ts) (Element name e) rest
indexed name ts rest t = record {
  taken = symbols.Name name ∷ open_square ∷ (t.taken ++ close_square ∷ []);
  split = ap (λ x. symbols.Name name ∷ open_square ∷ x) (t.split ∙ sym (append_assoc t.taken (close_square ∷ []) rest));
  derived = Indexed name t.derived;
}

negative : {e : Expression} (ts rest : List Symbol) → Took operand_level ts e rest → Took operand_level (minus ∷ ts) (Unary 1 e) rest
negative ts rest t = record { taken = minus ∷ t.taken; split = ap (λ x. minus ∷ x) t.split; derived = Negative t.derived }

negated : {e : Expression} (ts rest : List Symbol) → Took operand_level ts e rest → Took operand_level (exclamation ∷ ts) (Unary 2 e) rest
negated ts rest t = record { taken = exclamation ∷ t.taken; split = ap (λ x. exclamation ∷ x) t.split; derived = Not t.derived }

-- a part of the next level, and what extends it
chained : {level : ℕ} {a e : Expression} (ts mid rest : List Symbol) → (t : Took (suc level) ts a mid) → Extended level t.taken mid e rest
    → Took level ts e rest
chained ts mid rest t w = record {
  taken = t.taken ++ w.taken;
  split = t.split ∙ ap (λ x. t.taken ++ x) w.split ∙ sym (append_assoc t.taken w.taken rest);
  derived = w.derived;
}

-- an operator and its right operand, and what extends them
joined : {level : ℕ} {b e : Expression} (left ts mid rest : List Symbol) (code : ℕ) → (t : Took (suc level) ts b mid)
    → Extended level (left ++ symbols.Operator code ∷ t.taken) mid e rest → Extended level left (symbols.Operator code ∷ ts) e rest
joined {level} {e = e} left ts mid rest code t w = record {
  taken = symbols.Operator code ∷ (t.taken ++ w.taken);
  split = ap (λ x. symbols.Operator code ∷ x) (t.split ∙ ap (λ x. t.taken ++ x) w.split ∙ sym (append_assoc t.taken w.taken rest));
  derived = subst (λ x. Derives level x e) (append_assoc left (symbols.Operator code ∷ t.taken) w.taken) w.derived;
}

mutual
  -- each reading consumes symbols that derive its expression
  pub sound : {level : ℕ} {ts rest : List Symbol} {e : Expression} → Reads level ts e rest → Took level ts e rest
  sound (ReadsNumeral n rest) = record { taken = symbols.Number n ∷ []; split = refl; derived = Numeral n }
  sound (ReadsName name rest h) = record { taken = symbols.Name name ∷ []; split = refl; derived = Named name }
  sound (ReadsElement {ts} {rest} name r) = indexed name ts rest (sound r)
  sound (ReadsMore rest) = record { taken = word_more ∷ open_round ∷ close_round ∷ []; split = refl; derived = CallsMore }
  sound (ReadsTake rest) = record { taken = word_take ∷ open_round ∷ close_round ∷ []; split = refl; derived = CallsTake }
  sound (ReadsIter rest) = record { taken = word_iter ∷ open_round ∷ close_round ∷ []; split = refl; derived = CallsIter }
  sound (ReadsNegative {ts} {rest} r) = negative ts rest (sound r)
  sound (ReadsNot {ts} {rest} r) = negated ts rest (sound r)
  sound (ReadsBracketed {ts} {rest} r) = bracketed ts rest (sound r)
  sound (ReadsChain {ts = ts} {mid = mid} {rest = rest} r g) =
      let t = sound r in chained ts mid rest t (extended t.taken g (Tighter t.derived))

  extended : {level : ℕ} {ts rest : List Symbol} {a e : Expression} (left : List Symbol) → Extends level a ts e rest → Derives level left a
      → Extended level left ts e rest
  extended left (Ends {level} {a} ts h) d = record {
    taken = [];
    split = refl;
    derived = subst (λ x. Derives level x a)
        (sym (append-nil left)) d;
  }
  extended left (Joins {ts = ts} {mid = mid} {rest = rest} code h r g) d =
      let t = sound r in joined left ts mid rest code t (extended (left ++ symbols.Operator code ∷ t.taken) g (Joined code h d t.derived))

-- ---- what is derived is read

-- nothing is read at a level above the level of operands
no_level_above : {level : ℕ} {ts rest : List Symbol} {e : Expression} → Reads level ts e rest → operand_level < level → ⊥
no_level_above (ReadsNumeral n rest) l = omega (arith, l)
no_level_above (ReadsName name rest h) l = omega (arith, l)
no_level_above (ReadsElement name r) l = omega (arith, l)
no_level_above (ReadsMore rest) l = omega (arith, l)
no_level_above (ReadsTake rest) l = omega (arith, l)
no_level_above (ReadsIter rest) l = omega (arith, l)
no_level_above (ReadsNegative r) l = omega (arith, l)
no_level_above (ReadsNot r) l = omega (arith, l)
no_level_above (ReadsBracketed r) l = omega (arith, l)
no_level_above (ReadsChain r g) l = no_level_above r (omega (arith, l))

-- so an operand is not read as part of the next level
pub no_next_level : {ts rest : List Symbol} {e : Expression} → Reads (suc operand_level) ts e rest → ⊥
no_next_level r = no_level_above r (omega arith)

-- the symbols do not begin with an index, nor with an operator of the level or a higher one
abbrev pub Loose : ℕ → List Symbol → Type 0
Loose level rest = NoSign signs.OPEN_SQUARE rest × (next_level rest < level)

-- the symbols are read and then extended by what follows, if that is no index and no operator of a higher level
abbrev Found : ℕ → List Symbol → Expression → Type 0
Found level ts e =
    (rest : List Symbol) (whole : Expression) (end : List Symbol) → Loose (suc level) rest → Extends level e rest whole end
    → Reads level (ts ++ rest) whole end

-- symbols that derive an expression are read if no operator of its levels follows
pub found_alone : (level : ℕ) (ts : List Symbol) (e : Expression) → Found level ts e → (rest : List Symbol) → Loose level rest
    → Reads level (ts ++ rest) e rest
found_alone level ts e f rest h = let l = h.1 in f rest e rest (h.0, omega (arith, l)) (Ends rest (λ x. omega (arith, l, x)))

-- an operator at the start has a lower level than operands
pub level_at_front : (ts : List Symbol) → next_level ts < operand_level
level_at_front [] = omega arith
level_at_front (symbols.Name name ∷ ts) = omega arith
level_at_front (symbols.Word k ∷ ts) = omega arith
level_at_front (symbols.Number n ∷ ts) = omega arith
level_at_front (symbols.Operator code ∷ ts) = below_operands code
level_at_front (symbols.Sign b ∷ ts) = omega arith

-- no operator extends an operand
unextended : {ts rest end : List Symbol} {e whole : Expression} → Reads operand_level ts e rest → Extends operand_level e rest whole end
    → Reads operand_level ts whole end
unextended r (Ends rest h) = r
unextended r (Joins code h r' g) = absurd (no_next_level r')

-- a reading depends only on the symbols
moved : (level : ℕ) {a b : List Symbol} {e : Expression} (rest : List Symbol) → a ≡ b → Reads level a e rest → Reads level b e rest
moved level {e = e} rest h r = subst (λ x. Reads level x e rest) h r

-- two operands with an operator between them are read, if no operator of a higher level follows
found_joined : (level : ℕ) (left right : List Symbol) (a b : Expression) (code : ℕ) → level_of code ≡ level → Found level left a
    → Found (suc level) right b
    → Found level (left ++ symbols.Operator code ∷ right) (binary_expression code a b)
found_joined level left right a b code h f g rest whole end loose goes =
    moved level end (sym (append_assoc left (symbols.Operator code ∷ right) rest))
    (f (symbols.Operator code ∷ (right ++ rest)) whole end (tt, omega (arith, h))
    (Joins code h (found_alone (suc level) right b g rest loose) goes))

-- a sign other than `[` ends an expression
pub loose_sign : (sign : ℕ) (rest : List Symbol) → sign ≢ signs.OPEN_SQUARE → Loose any_expression (symbols.Sign sign ∷ rest)
loose_sign sign rest h = (h, omega arith)

-- the end of the symbols ends an expression
pub loose_end : Loose any_expression []
loose_end = (tt, omega arith)

-- an expression that is found is read before a sign that closes it
found_closed : (sign : ℕ) (inside rest : List Symbol) (e : Expression) → Found any_expression inside e → sign ≢ signs.OPEN_SQUARE
    → Reads any_expression ((inside ++ symbols.Sign sign ∷ []) ++ rest) e (symbols.Sign sign ∷ rest)
found_closed sign inside rest e f h =
    moved any_expression (symbols.Sign sign ∷ rest) (sym (append_assoc inside (symbols.Sign sign ∷ []) rest))
    (found_alone any_expression inside e f (symbols.Sign sign ∷ rest) (loose_sign sign rest h))

-- an operand is read if no index follows
operand_alone : (ts : List Symbol) (e : Expression) → Found operand_level ts e → (rest : List Symbol) → NoSign signs.OPEN_SQUARE rest
    → Reads operand_level (ts ++ rest) e rest
operand_alone ts e f rest h = found_alone operand_level ts e f rest (h, level_at_front rest)

-- symbols that derive an expression are read
pub found : {level : ℕ} {ts : List Symbol} {e : Expression} → Derives level ts e → Found level ts e
found (Numeral n) = λ rest whole end loose goes. unextended (ReadsNumeral n rest) goes
found (Named name) = λ rest whole end loose goes. unextended (ReadsName name rest loose.0) goes
found (Indexed {inside} {e} name d) = λ rest whole end loose goes.
    unextended (ReadsElement name (found_closed signs.CLOSE_SQUARE inside rest e (found d) (λ x. absurd (omega (arith, x))))) goes
found CallsMore = λ rest whole end loose goes. unextended (ReadsMore rest) goes
found CallsTake = λ rest whole end loose goes. unextended (ReadsTake rest) goes
found CallsIter = λ rest whole end loose goes. unextended (ReadsIter rest) goes
found (Negative {ts} {e} d) = λ rest whole end loose goes. unextended (ReadsNegative (operand_alone ts e (found d) rest loose.0)) goes
found (Not {ts} {e} d) = λ rest whole end loose goes. unextended (ReadsNot (operand_alone ts e (found d) rest loose.0)) goes
found (Bracketed {inside} {e} d) = λ rest whole end loose goes.
    unextended (ReadsBracketed (found_closed signs.CLOSE_ROUND inside rest e (found d) (λ x. absurd (omega (arith, x))))) goes
found (Tighter {level} {ts} {e} d) = λ rest whole end loose goes. ReadsChain (found_alone (suc level) ts e (found d) rest loose) goes
found (Joined {level} {left} {right} {a} {b} code h d d') = found_joined level left right a b code h (found d) (found d')

-- they are read before a sign other than `[`
pub found_before_sign : {ts : List Symbol} {e : Expression} (sign : ℕ) (rest : List Symbol) → sign ≢ signs.OPEN_SQUARE
    → Derives any_expression ts e
    → Reads any_expression (ts ++ symbols.Sign sign ∷ rest) e (symbols.Sign sign ∷ rest)
found_before_sign {ts} {e} sign rest h d = found_alone any_expression ts e (found d) (symbols.Sign sign ∷ rest) (loose_sign sign rest h)

-- ---- two readings of the same symbols are one

-- two readings with the same result and the same rest
pub record SameReading (A : Type 0) (a b : A) (rest rest' : List Symbol) : Type 0 where
  pub tree : a ≡ b
  pub left : rest ≡ rest'

-- an extension depends only on what it extends and on the symbols
extends_from : (level : ℕ) {a a' e : Expression} {ts ts' rest : List Symbol} → a ≡ a' → ts ≡ ts' → Extends level a' ts' e rest
    → Extends level a ts e rest
extends_from level {a = a} {e = e} {ts' = ts'} {rest = rest} h i g =
    subst (λ x. Extends level a x e rest) (sym i) (subst (λ x. Extends level x ts' e rest) (sym h) g)

mutual
  -- an expression of a level is read in one way
  pub one_reading : {level : ℕ} {ts rest rest' : List Symbol} {e e' : Expression} → Reads level ts e rest → Reads level ts e' rest'
      → SameReading Expression e e' rest rest'
  one_reading (ReadsNumeral n rest) (ReadsNumeral m rest') = record { tree = refl; left = refl }
  one_reading (ReadsName n rest h) (ReadsName m rest' h') = record { tree = refl; left = refl }
  one_reading (ReadsName n rest h) (ReadsElement m r') = absurd (h refl)
  one_reading (ReadsElement n r) (ReadsName m rest' h') = absurd (h' refl)
  one_reading (ReadsElement n r) (ReadsElement m r') = let s = one_reading r r' in
      record { tree = ap (Element n) s.tree; left = cc (s.left) }
  one_reading (ReadsMore rest) (ReadsMore rest') = record { tree = refl; left = refl }
  one_reading (ReadsTake rest) (ReadsTake rest') = record { tree = refl; left = refl }
  one_reading (ReadsIter rest) (ReadsIter rest') = record { tree = refl; left = refl }
  one_reading (ReadsNegative r) (ReadsNegative r') = let s = one_reading r r' in record { tree = ap (Unary 1) s.tree; left = s.left }
  one_reading (ReadsNot r) (ReadsNot r') = let s = one_reading r r' in record { tree = ap (Unary 2) s.tree; left = s.left }
  one_reading (ReadsBracketed r) (ReadsBracketed r') = let s = one_reading r r' in record { tree = s.tree; left = cc (s.left) }
  one_reading (ReadsChain {level} r g) (ReadsChain r' g') = let s = one_reading r r' in one_extension g
      (extends_from level s.tree s.left g')
  one_reading (ReadsNumeral n rest) (ReadsChain r g) = absurd (no_next_level r)
  one_reading (ReadsName n rest h) (ReadsChain r g) = absurd (no_next_level r)
  one_reading (ReadsElement n r) (ReadsChain r' g) = absurd (no_next_level r')
  one_reading (ReadsMore rest) (ReadsChain r g) = absurd (no_next_level r)
  one_reading (ReadsTake rest) (ReadsChain r g) = absurd (no_next_level r)
  one_reading (ReadsIter rest) (ReadsChain r g) = absurd (no_next_level r)
  one_reading (ReadsNegative r) (ReadsChain r' g) = absurd (no_next_level r')
  one_reading (ReadsNot r) (ReadsChain r' g) = absurd (no_next_level r')
  one_reading (ReadsBracketed r) (ReadsChain r' g) = absurd (no_next_level r')
  one_reading (ReadsChain r g) (ReadsNumeral n rest) = absurd (no_next_level r)
  one_reading (ReadsChain r g) (ReadsName n rest h) = absurd (no_next_level r)
  one_reading (ReadsChain r g) (ReadsElement n r') = absurd (no_next_level r)
  one_reading (ReadsChain r g) (ReadsMore rest) = absurd (no_next_level r)
  one_reading (ReadsChain r g) (ReadsTake rest) = absurd (no_next_level r)
  one_reading (ReadsChain r g) (ReadsIter rest) = absurd (no_next_level r)
  one_reading (ReadsChain r g) (ReadsNegative r') = absurd (no_next_level r)
  one_reading (ReadsChain r g) (ReadsNot r') = absurd (no_next_level r)
  one_reading (ReadsChain r g) (ReadsBracketed r') = absurd (no_next_level r)

  one_extension : {level : ℕ} {ts rest rest' : List Symbol} {a e e' : Expression} → Extends level a ts e rest → Extends level a ts e' rest'
      → SameReading Expression e e' rest rest'
  one_extension (Ends ts h) (Ends ts' h') = record { tree = refl; left = refl }
  one_extension (Ends ts h) (Joins code h' r g) = absurd (h h')
  one_extension (Joins code h r g) (Ends ts h') = absurd (h' h)
  one_extension (Joins {level} {a} code h r g) (Joins code' h' r' g') =
      let s = one_reading r r' in one_extension g (extends_from level (ap (binary_expression code a) s.tree) s.left g')
