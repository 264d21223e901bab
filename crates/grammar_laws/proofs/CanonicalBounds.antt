-- The canonical symbols of a program are at most as many as any symbols that derive it, and open at most as many brackets at a time.
use Rattle.std.proofs.Common.{◌≡◌, ◌∙◌, ap, sym, refl, subst, ℕ, suc, ◌+◌, ◌-◌, ◌≤◌, Bool, true, false, List, [], ◌∷◌, ◌++◌, append_assoc}
use Rattle.std.proofs.Common.{append-nil, length, length-append, arith, nat_le, if◌then◌else◌, ◌==◌, cond}
use Rattle.std.specs.List.{count_by}
use Rattle.std.proofs.lemmas.Bool.{false≢true}
use Rattle.std.proofs.lemmas.Bool.Decides.{nat_tests}
use Rattle.std.proofs.lemmas.List.Sums.{sum_by-cons}
use Rattle.pipe_model.specs.declared.symbol.Symbol.{Symbol}
use Rattle.pipe_model.specs.declared.symbol.Symbol.TheVariants as symbols
use Rattle.grammar_laws.proofs.CanonicalSymbols.{unary_symbol, symbols_at_level, binary_symbols, expression_symbols}
use Rattle.pipe_model.specs.Language.CanonicalText.{level_in}
use Rattle.pipe_model.specs.Language.SyntaxTree.{Expression, Number, Name, Element, And, Or, Binary, Unary, More, Take, Iter}
use Rattle.pipe_model.specs.Language.SyntaxTree.{binary_expression}
use Rattle.pipe_model.specs.Language.Grammar.{any_expression, operand_level, level_of, Derives, Numeral, Named, Indexed, CallsMore}
use Rattle.pipe_model.specs.Language.Grammar.{CallsTake, CallsIter, Negative, Not, Bracketed, Tighter, Joined}
use Rattle.pipe_model.specs.Language.Spelling.{is_opening_bracket, is_closing_bracket, open_brackets, IsShallow}
use Rattle.pipe_model.specs.Language.Words.{minus, exclamation, open_round, close_round, open_square, close_square}

-- ---- the most brackets that are open

-- 1 if the test passes, else 0
abbrev pub ones : Bool → ℕ
ones true = 1
ones false = 0

-- the greater of two numbers
abbrev pub greater : ℕ → ℕ → ℕ
greater a b = if nat_le a b then b else a

-- the most brackets that are open at any point of the symbols, after `opened` opening and `closed` closing brackets
abbrev pub most_open : (opened closed : ℕ) → List Symbol → ℕ
most_open opened closed [] = opened - closed
most_open opened closed (t ∷ ts) = greater (opened - closed)
    (most_open (opened + ones (is_opening_bracket t)) (closed + ones (is_closing_bracket t)) ts)

-- the same if n brackets are open before the symbols; the count is taken bracket by bracket
abbrev pub peak : ℕ → List Symbol → ℕ
peak n [] = n
peak n (t ∷ ts) = greater n (peak ((n + ones (is_opening_bracket t)) - ones (is_closing_bracket t)) ts)

greater_least : (a b c : ℕ) → a ≤ c → b ≤ c → greater a b ≤ c
greater_least a b c h i = grind (arith, nat_tests)

greater_both : (a b c d : ℕ) → a ≤ c → b ≤ d → greater a b ≤ greater c d
greater_both a b c d h i = grind (arith, nat_tests)

greater_right : (a b : ℕ) → b ≤ greater a b
greater_right a b = grind (arith, nat_tests)

greater_left : (a b : ℕ) → a ≤ greater a b
greater_left a b = grind (arith, nat_tests)

-- a symbol that is no bracket
pub record IsUnjoined (t : Symbol) : Type 0 where
  pub no_opening : is_opening_bracket t ≡ false
  pub no_closing : is_closing_bracket t ≡ false

-- an opening bracket, and a closing bracket
pub record IsPair (a b : Symbol) : Type 0 where
  pub opens : is_opening_bracket a ≡ true
  pub stays : is_closing_bracket a ≡ false
  pub ends : is_opening_bracket b ≡ false
  pub closes : is_closing_bracket b ≡ true

-- how each kind of symbol changes the peak
peak_plain : (n : ℕ) (t : Symbol) (ts : List Symbol) → IsUnjoined t → peak n (t ∷ ts) ≡ greater n (peak n ts)
peak_plain n t ts h = let a = h.no_opening in let b = h.no_closing in let e : (n + 0) - 0 ≡ n = omega arith in rw (a, b, e) refl

peak_open : (n : ℕ) (a b : Symbol) (ts : List Symbol) → IsPair a b → peak n (a ∷ ts) ≡ greater n (peak (suc n) ts)
peak_open n a b ts h = let x = h.opens in let y = h.stays in let e : (n + 1) - 0 ≡ suc n = omega arith in rw (x, y, e) refl

peak_close : (n : ℕ) (a b : Symbol) (ts : List Symbol) → IsPair a b → peak (suc n) (b ∷ ts) ≡ greater (suc n) (peak n ts)
peak_close n a b ts h = let x = h.ends in let y = h.closes in let e : (suc n + 0) - 1 ≡ n = omega arith in rw (x, y, e) refl

most_plain : (o c : ℕ) (t : Symbol) (ts : List Symbol) → IsUnjoined t → most_open o c (t ∷ ts) ≡ greater (o - c) (most_open o c ts)
most_plain o c t ts h = let a = h.no_opening in let b = h.no_closing in let e : o + 0 ≡ o = omega arith in
    let f : c + 0 ≡ c = omega arith in
    rw (a, b, e, f) refl

most_open_one : (o c : ℕ) (a b : Symbol) (ts : List Symbol) → IsPair a b → most_open o c (a ∷ ts) ≡ greater (o - c) (most_open (suc o) c ts)
most_open_one o c a b ts h = let x = h.opens in let y = h.stays in let e : o + 1 ≡ suc o = omega arith in let f : c + 0 ≡ c = omega arith in
    rw (x, y, e, f) refl

most_close_one : (o c : ℕ) (a b : Symbol) (ts : List Symbol) → IsPair a b → most_open o c (b ∷ ts) ≡ greater (o - c)
    (most_open o (suc c) ts)
most_close_one o c a b ts h = let x = h.ends in let y = h.closes in let e : o + 0 ≡ o = omega arith in
    let f : c + 1 ≡ suc c = omega arith in
    rw (x, y, e, f) refl

-- ---- symbols that open no more at a time than others

-- `rest` never has more brackets open than `other`, however many were closed before
abbrev pub Below : ℕ → (rest other : List Symbol) → Type 0
Below n rest other = (c : ℕ) → peak n rest ≤ most_open (n + c) c other

-- followed by such rests, `us` never has more brackets open than `ts`
pub record NoDeeper (us ts : List Symbol) : Type 0 where
  pub deep : (n : ℕ) (rest other : List Symbol) → Below n rest other → Below n (us ++ rest) (ts ++ other)

pub none_deep : NoDeeper [] []
none_deep = record { deep = λ n rest other h. h }

pub plain_deep : {us ts : List Symbol} (t u : Symbol) → IsUnjoined t → IsUnjoined u → NoDeeper us ts → NoDeeper (t ∷ us) (u ∷ ts)
plain_deep {us} {ts} t u p q d = record {
  deep = λ n rest other h c.
      rw (peak_plain n t (us ++ rest) p, most_plain (n + c) c u (ts ++ other) q)
      (greater_both n (peak n (us ++ rest)) ((n + c) - c) (most_open (n + c) c (ts ++ other)) (omega arith) (d.deep n rest other h c));
}

-- another symbol, which is no bracket, before `us`
pub front_deep : {us ts : List Symbol} (t : Symbol) → IsUnjoined t → NoDeeper us ts → NoDeeper us (t ∷ ts)
front_deep {us} {ts} t p d = record {
  deep = λ n rest other h c.
      rw (most_plain (n + c) c t (ts ++ other) p)
      (let x = d.deep n rest other h c in let y = greater_right ((n + c) - c) (most_open (n + c) c (ts ++ other)) in omega (arith, x, y));
}

peak_least : (n : ℕ) (ts : List Symbol) → n ≤ peak n ts
peak_least n [] = omega arith
peak_least n (t ∷ ts) = greater_left n (peak ((n + ones (is_opening_bracket t)) - ones (is_closing_bracket t)) ts)

pub more_deep : {us ts : List Symbol} (t : Symbol) → IsUnjoined t → NoDeeper us ts → NoDeeper (t ∷ us) ts
more_deep {us} {ts} t p d = record {
  deep = λ n rest other h c.
      rw (peak_plain n t (us ++ rest) p)
      (let x = d.deep n rest other h c in let y = peak_least n (us ++ rest) in
      greater_least n (peak n (us ++ rest)) (most_open (n + c) c (ts ++ other)) (omega (arith, x, y)) x);
}

pub both_deep : {us ts vs ws : List Symbol} → NoDeeper us ts → NoDeeper vs ws → NoDeeper (us ++ vs) (ts ++ ws)
both_deep {us} {ts} {vs} {ws} d e = record {
  deep = λ n rest other h. rw (append_assoc us vs rest, append_assoc ts ws other)
      (d.deep n (vs ++ rest) (ws ++ other) (e.deep n rest other h));
}

-- a closing bracket before both
close_below : (n : ℕ) (a b : Symbol) (rest other : List Symbol) → IsPair a b → Below n rest other → Below (suc n) (b ∷ rest) (b ∷ other)
close_below n a b rest other p h c =
    let e : suc n + c ≡ n + suc c = omega arith in
    rw (peak_close n a b rest p, most_close_one (suc n + c) c a b other p)
    (greater_both (suc n) (peak n rest) ((suc n + c) - c) (most_open (suc n + c) (suc c) other) (omega arith) (rw e (h (suc c))))

pub nested_deep : {us ts : List Symbol} (a b : Symbol) → IsPair a b → NoDeeper us ts → NoDeeper (a ∷ (us ++ b ∷ [])) (a ∷ (ts ++ b ∷ []))
nested_deep {us} {ts} a b p d = record { deep = inside }
  where
    inside : (n : ℕ) (rest other : List Symbol) → Below n rest other → Below n ((a ∷ (us ++ b ∷ [])) ++ rest)
        ((a ∷ (ts ++ b ∷ [])) ++ other)
    inside n rest other h c =
        let e : suc (n + c) ≡ suc n + c = omega arith in
        let i = d.deep (suc n) (b ∷ rest) (b ∷ other) (close_below n a b rest other p h) c in
        rw (
          append_assoc us (b ∷ []) rest,
          append_assoc ts (b ∷ []) other,
          peak_open n a b (us ++ b ∷ rest) p,
          most_open_one (n + c) c a b
              (ts ++ b ∷ other) p,
        )
        (greater_both n (peak (suc n) (us ++ b ∷ rest)) ((n + c) - c) (most_open (suc (n + c)) c (ts ++ b ∷ other)) (omega arith) (rw e i))

-- ---- symbols one bracket deeper

pub record Lifts (us : List Symbol) : Type 0 where
  pub lift : (n : ℕ) (rest other : List Symbol) → peak n rest ≤ peak (suc n) other → peak n (us ++ rest) ≤ peak (suc n) (us ++ other)

pub none_lifts : Lifts []
none_lifts = record { lift = λ n rest other h. h }

plain_lifts : {us : List Symbol} (t : Symbol) → IsUnjoined t → Lifts us → Lifts (t ∷ us)
plain_lifts {us} t p l = record {
  lift = λ n rest other h.
      rw (peak_plain n t (us ++ rest) p, peak_plain (suc n) t (us ++ other) p)
      (greater_both n (peak n (us ++ rest)) (suc n) (peak (suc n) (us ++ other)) (omega arith) (l.lift n rest other h));
}

both_lift : {us vs : List Symbol} → Lifts us → Lifts vs → Lifts (us ++ vs)
both_lift {us} {vs} l m = record {
  lift = λ n rest other h. rw (append_assoc us vs rest, append_assoc us vs other)
      (l.lift n (vs ++ rest) (vs ++ other) (m.lift n rest other h));
}

nested_lifts : {us : List Symbol} (a b : Symbol) → IsPair a b → Lifts us → Lifts (a ∷ (us ++ b ∷ []))
nested_lifts {us} a b p l = record { lift = inside }
  where
    inside : (n : ℕ) (rest other : List Symbol) → peak n rest ≤ peak (suc n) other
        → peak n ((a ∷ (us ++ b ∷ [])) ++ rest) ≤ peak (suc n) ((a ∷ (us ++ b ∷ [])) ++ other)
    inside n rest other h =
        let following : peak (suc n) (b ∷ rest) ≤ peak (suc (suc n)) (b ∷ other) =
        rw (peak_close n a b rest p, peak_close (suc n) a b other p)
        (greater_both (suc n) (peak n rest) (suc (suc n)) (peak (suc n) other) (omega arith) h) in
        rw (
          append_assoc us (b ∷ []) rest,
          append_assoc us (b ∷ []) other,
          peak_open n a b (us ++ b ∷ rest) p,
          peak_open (suc n) a b
              (us ++ b ∷ other) p,
        )
        (greater_both n (peak (suc n) (us ++ b ∷ rest)) (suc n) (peak (suc (suc n)) (us ++ b ∷ other)) (omega arith)
        (l.lift (suc n) (b ∷ rest) (b ∷ other) following))

-- without the outer brackets
pub fewer_deep : {us ts : List Symbol} (a b : Symbol) → IsPair a b → Lifts us → NoDeeper us ts → NoDeeper us (a ∷ (ts ++ b ∷ []))
fewer_deep {us} {ts} a b p l d = record { deep = inside }
  where
    inside : (n : ℕ) (rest other : List Symbol) → Below n rest other → Below n (us ++ rest) ((a ∷ (ts ++ b ∷ [])) ++ other)
    inside n rest other h c =
        let e : suc (n + c) ≡ suc n + c = omega arith in
        let i = d.deep (suc n) (b ∷ rest) (b ∷ other) (close_below n a b rest other p h) c in
        let up : peak n rest ≤ peak (suc n) (b ∷ rest) = rw (peak_close n a b rest p) (greater_right (suc n) (peak n rest)) in
        let j = l.lift n rest (b ∷ rest) up in
        let most = greater_right ((n + c) - c) (most_open (suc (n + c)) c (ts ++ b ∷ other)) in
        let k : most_open (suc n + c) c (ts ++ b ∷ other) ≤ greater ((n + c) - c) (most_open (suc (n + c)) c (ts ++ b ∷ other)) =
        rw (← e) most in
        rw (append_assoc ts (b ∷ []) other, most_open_one (n + c) c a b (ts ++ b ∷ other) p) (omega (arith, i, j, k))

-- ---- expressions

round_pair : IsPair open_round close_round
round_pair = record { opens = refl; stays = refl; ends = refl; closes = refl }

square_pair : IsPair open_square close_square
square_pair = record { opens = refl; stays = refl; ends = refl; closes = refl }

one_plain : (code : ℕ) → IsUnjoined (unary_symbol code)
one_plain code = by_test (code == 1)
  where
    by_test : (b : Bool) → IsUnjoined (if b then minus else exclamation)
    by_test true = record { no_opening = refl; no_closing = refl }
    by_test false = record { no_opening = refl; no_closing = refl }

levelled_lifts : (needed own : ℕ) (ts : List Symbol) → Lifts ts → Lifts (symbols_at_level needed own ts)
levelled_lifts needed own ts l = by_test (nat_le needed own)
  where
    by_test : (b : Bool) → Lifts (if b then ts else open_round ∷ (ts ++ close_round ∷ []))
    by_test true = l
    by_test false = nested_lifts open_round close_round round_pair l

sides_lift : (code la lb : ℕ) (a b : List Symbol) → Lifts a → Lifts b → Lifts (binary_symbols code la lb a b)
sides_lift code la lb a b l m =
    both_lift (levelled_lifts (level_of code) la a l)
    (plain_lifts (symbols.Operator code) (record { no_opening = refl; no_closing = refl }) (levelled_lifts (level_of code + 1) lb b m))

expression_lifts : (e : Expression) → Lifts (expression_symbols e)
expression_lifts (Number n) = plain_lifts _ (record { no_opening = refl; no_closing = refl }) none_lifts
expression_lifts (Name x) = plain_lifts _ (record { no_opening = refl; no_closing = refl }) none_lifts
expression_lifts (Element x i) =
    plain_lifts _ (record { no_opening = refl; no_closing = refl }) (nested_lifts open_square close_square square_pair (expression_lifts i))
expression_lifts (Or a b) = sides_lift 1 (level_in a) (level_in b) _ _ (expression_lifts a) (expression_lifts b)
expression_lifts (And a b) = sides_lift 2 (level_in a) (level_in b) _ _ (expression_lifts a) (expression_lifts b)
expression_lifts (Binary code a b) = sides_lift code (level_in a) (level_in b) _ _ (expression_lifts a) (expression_lifts b)
expression_lifts (Unary code a) = plain_lifts _ (one_plain code) (levelled_lifts 7 (level_in a) _ (expression_lifts a))
expression_lifts More = plain_lifts _ (record { no_opening = refl; no_closing = refl })
    (nested_lifts open_round close_round round_pair none_lifts)
expression_lifts Take = plain_lifts _ (record { no_opening = refl; no_closing = refl })
    (nested_lifts open_round close_round round_pair none_lifts)
expression_lifts Iter = plain_lifts _ (record { no_opening = refl; no_closing = refl })
    (nested_lifts open_round close_round round_pair none_lifts)

-- `us` has at most as many symbols as `ts`, and never more brackets open
pub record NoMore (us ts : List Symbol) : Type 0 where
  pub bounded : length us ≤ length ts
  pub deep : NoDeeper us ts

-- the canonical symbols of an expression at a given level are at most as many as `ts`
pub record Least (level : ℕ) (ts : List Symbol) (e : Expression) : Type 0 where
  pub own : 1 ≤ level_in e
  pub no_more : NoMore (symbols_at_level level (level_in e) (expression_symbols e)) ts

plain_more : {us ts : List Symbol} (t : Symbol) → IsUnjoined t → NoMore us ts → NoMore (t ∷ us) (t ∷ ts)
plain_more t p m = record { bounded = (let f = m.bounded in omega (arith, f)); deep = plain_deep t t p p m.deep }

nested_more : {us ts : List Symbol} (a b : Symbol) → IsPair a b → NoMore us ts → NoMore (a ∷ (us ++ b ∷ [])) (a ∷ (ts ++ b ∷ []))
nested_more {us} {ts} a b p m = record {
  bounded = (let f = m.bounded in let x = length-append us (b ∷ []) in let y = length-append ts (b ∷ []) in omega (arith, f, x, y));
  deep = nested_deep a b p m.deep;
}

both_more : {us ts vs ws : List Symbol} → NoMore us ts → NoMore vs ws → NoMore (us ++ vs) (ts ++ ws)
both_more {us} {ts} {vs} {ws} m k = record {
  bounded =
      (let f = m.bounded in let g = k.bounded in let x = length-append us vs in let y = length-append ts ws in omega (arith, f, g, x, y));
  deep = both_deep m.deep k.deep;
}

none_more : NoMore [] []
none_more = record { bounded = omega arith; deep = none_deep }

fewer_more : {us ts : List Symbol} (a b : Symbol) → IsPair a b → Lifts us → NoMore us ts → NoMore us (a ∷ (ts ++ b ∷ []))
fewer_more {us} {ts} a b p l m = record {
  bounded = (let f = m.bounded in let y = length-append ts (b ∷ []) in omega (arith, f, y));
  deep = fewer_deep a b p l m.deep;
}

-- no brackets are added if the expression has the needed level
at_its_level : (needed own : ℕ) (us : List Symbol) → needed ≤ own → symbols_at_level needed own us ≡ us
at_its_level needed own us h = let e : nat_le needed own ≡ true = grind (arith, nat_tests, h) in rw e refl

-- the canonical text with or without brackets, compared with symbols in brackets
bracketed_more : (needed own : ℕ) (us ts : List Symbol) → Lifts us → NoMore us ts
    → NoMore (symbols_at_level needed own us) (open_round ∷ (ts ++ close_round ∷ []))
bracketed_more needed own us ts l m = by_test (nat_le needed own)
  where
    by_test : (b : Bool) → NoMore (if b then us else open_round ∷ (us ++ close_round ∷ [])) (open_round ∷ (ts ++ close_round ∷ []))
    by_test true = fewer_more open_round close_round round_pair l m
    by_test false = nested_more open_round close_round round_pair m

-- without the outer brackets on the left side
pub unbracketed_deep : {us ts : List Symbol} (a b : Symbol) → IsPair a b → Lifts us → NoDeeper (a ∷ (us ++ b ∷ [])) ts → NoDeeper us ts
unbracketed_deep {us} {ts} a b p l d = record { deep = inside }
  where
    inside : (n : ℕ) (rest other : List Symbol) → Below n rest other → Below n (us ++ rest) (ts ++ other)
    inside n rest other h c =
        let i = d.deep n rest other h c in
        let up : peak n rest ≤ peak (suc n) (b ∷ rest) = rw (peak_close n a b rest p) (greater_right (suc n) (peak n rest)) in
        let j = l.lift n rest (b ∷ rest) up in
        let e : peak n ((a ∷ (us ++ b ∷ [])) ++ rest) ≡ greater n (peak (suc n) (us ++ b ∷ rest)) =
        rw (append_assoc us (b ∷ []) rest, peak_open n a b (us ++ b ∷ rest) p) refl in
        let k = greater_right n (peak (suc n) (us ++ b ∷ rest)) in
        omega (arith, i, j, e, k)

unbracketed : {us ts : List Symbol} (a b : Symbol) → IsPair a b → Lifts us → NoMore (a ∷ (us ++ b ∷ [])) ts → NoMore us ts
unbracketed {us} {ts} a b p l m = record {
  bounded = (let f = m.bounded in let y = length-append us (b ∷ []) in omega (arith, f, y));
  deep = unbracketed_deep a b p l m.deep;
}

-- a lower needed level
lower_more : (lower needed own : ℕ) (us ts : List Symbol) → lower ≤ needed → Lifts us → NoMore (symbols_at_level needed own us) ts
    → NoMore (symbols_at_level lower own us) ts
lower_more lower needed own us ts h l m = by_tests (nat_le lower own) (nat_le needed own) (λ e. grind (arith, nat_tests, h, e)) m
  where
    by_tests : (x y : Bool) → (y ≡ true → x ≡ true) → NoMore (if y then us else open_round ∷ (us ++ close_round ∷ [])) ts
        → NoMore (if x then us else open_round ∷ (us ++ close_round ∷ [])) ts
    by_tests true true f k = k
    by_tests true false f k = unbracketed open_round close_round round_pair l k
    by_tests false true f k = absurd (false≢true (f refl))
    by_tests false false f k = k

-- if any level is allowed
in_full : (e : Expression) (ts : List Symbol) → Least any_expression ts e → NoMore (expression_symbols e) ts
in_full e ts r = subst (λ x. NoMore x ts) (at_its_level 1 (level_in e) (expression_symbols e) r.own) r.no_more

-- two operands joined by an operator
pub record IsJoined (code : ℕ) (a b e : Expression) : Type 0 where
  pub level : level_in e ≡ level_of code
  pub same : expression_symbols e ≡ binary_symbols code (level_in a) (level_in b) (expression_symbols a) (expression_symbols b)

joined : (code : ℕ) (a b : Expression) → IsJoined code a b (binary_expression code a b)
joined code a b = by_code (code == 1) (code == 2) (λ e. grind (arith, nat_tests, e)) (λ e. grind (arith, nat_tests, e))
  where
    by_code : (x y : Bool) → (x ≡ true → code ≡ 1) → (y ≡ true → code ≡ 2) → IsJoined code a b
        (if x then Or a b else (if y then And a b else Binary code a b))
    by_code true y f g = (let e = f refl in rw e (record { level = refl; same = refl }))
    by_code false true f g = (let e = g refl in rw e (record { level = refl; same = refl }))
    by_code false false f g = record { level = refl; same = refl }

joined_least : (level code : ℕ) (left right : List Symbol) (a b e : Expression) → level_of code ≡ level → 1 ≤ level → IsJoined code a b e
    → Least level left a → Least (suc level) right b → Least level (left ++ symbols.Operator code ∷ right) e
joined_least level code left right a b e eq l j x y =
    let own = j.level in
    let next : suc level ≡ level_of code + 1 = omega (arith, eq) in
    let here : symbols_at_level level (level_in e) (expression_symbols e) ≡ binary_symbols code (level_in a) (level_in b)
    (expression_symbols a) (expression_symbols b) =
    at_its_level level (level_in e) (expression_symbols e) (omega (arith, eq, own)) ∙ j.same in
    let first = subst (λ k. NoMore (symbols_at_level k (level_in a) (expression_symbols a)) left) (sym eq) x.no_more in
    let second = subst (λ k. NoMore (symbols_at_level k (level_in b) (expression_symbols b)) right) next y.no_more in
    record {
      own = omega (arith, own, eq, l);
      no_more = subst (λ us. NoMore us (left ++ symbols.Operator code ∷ right)) (sym here)
          (both_more first (plain_more (symbols.Operator code) (record { no_opening = refl; no_closing = refl }) second));
    }

-- the canonical symbols of an expression are at most as many as any symbols that derive it
pub least : {level : ℕ} {ts : List Symbol} {e : Expression} → 1 ≤ level → Derives level ts e → Least level ts e
least l (Numeral n) = record { own = omega arith; no_more = plain_more _ (record { no_opening = refl; no_closing = refl }) none_more }
least l (Named x) = record { own = omega arith; no_more = plain_more _ (record { no_opening = refl; no_closing = refl }) none_more }
least l (Indexed {inside} {e} x d) = record {
  own = omega arith;
  no_more = plain_more _ (record { no_opening = refl; no_closing = refl })
      (nested_more open_square close_square square_pair (in_full e inside (least (omega arith) d)));
}
least l CallsMore = record {
  own = omega arith;
  no_more = plain_more _ (record { no_opening = refl; no_closing = refl }) (nested_more open_round close_round round_pair none_more);
}
least l CallsTake = record {
  own = omega arith;
  no_more = plain_more _ (record { no_opening = refl; no_closing = refl }) (nested_more open_round close_round round_pair none_more);
}
least l CallsIter = record {
  own = omega arith;
  no_more = plain_more _ (record { no_opening = refl; no_closing = refl }) (nested_more open_round close_round round_pair none_more);
}
least l (Negative {ts} {e} d) = (let r = least (omega arith) d in
    record { own = omega arith; no_more = plain_more minus (one_plain 1) r.no_more })
least l (Not {ts} {e} d) = (let r = least (omega arith) d in
    record { own = omega arith; no_more = plain_more exclamation (one_plain 2) r.no_more })
least l (Bracketed {inside} {e} d) =
    let r = least (omega arith) d in
    record {
      own = r.own;
      no_more = bracketed_more operand_level (level_in e) (expression_symbols e) inside (expression_lifts e)
          (in_full e inside r);
    }
least l (Tighter {level} {ts} {e} d) =
    let r = least (omega (arith, l)) d in
    record {
      own = r.own;
      no_more = lower_more level (suc level) (level_in e) (expression_symbols e) ts (omega arith)
          (expression_lifts e) r.no_more;
    }
least l (Joined {level} {left} {right} {a} {b} code eq x y) =
    joined_least level code left right a b (binary_expression code a b) eq l (joined code a b) (least l x) (least (omega (arith, l)) y)

-- a full expression
pub full_least : {ts : List Symbol} {e : Expression} → Derives any_expression ts e → NoMore (expression_symbols e) ts
full_least {ts} {e} d = in_full e ts (least (omega arith) d)

-- ---- the bound on brackets

-- how a further symbol changes a count
counted : (p : Symbol → Bool) (t : Symbol) (ts : List Symbol) → count_by p (t ∷ ts) ≡ ones (p t) + count_by p ts
counted p t ts = sum_by-cons (λ x. cond (p x) 1 0) t ts ∙ by_test (p t)
  where
    by_test : (x : Bool) → cond x 1 0 + count_by p ts ≡ ones x + count_by p ts
    by_test true = refl
    by_test false = refl

-- the peak is within the bound if the count after each prefix is
most_within : (bound o c : ℕ) (ts : List Symbol)
    → ((before after : List Symbol) → ts ≡ before ++ after
    → (o + count_by is_opening_bracket before) - (c + count_by is_closing_bracket before) ≤ bound)
    → most_open o c ts ≤ bound
most_within bound o c [] h = (let x = h [] [] refl in omega (arith, x))
most_within bound o c (t ∷ ts) h =
    let here = h [] (t ∷ ts) refl in
    greater_least (o - c) (most_open (o + ones (is_opening_bracket t)) (c + ones (is_closing_bracket t)) ts) bound (omega (arith, here))
    (most_within bound (o + ones (is_opening_bracket t)) (c + ones (is_closing_bracket t)) ts
    (λ before after e. following before after e (h (t ∷ before) after (ap (λ x. t ∷ x) e))))
  where
    following : (before after : List Symbol) → ts ≡ before ++ after
        → (o + count_by is_opening_bracket (t ∷ before)) - (c + count_by is_closing_bracket (t ∷ before)) ≤ bound
        → ((o + ones (is_opening_bracket t)) + count_by is_opening_bracket before) -
        ((c + ones (is_closing_bracket t)) + count_by is_closing_bracket before) ≤ bound
    following before after e g = let x = counted is_opening_bracket t before in let y = counted is_closing_bracket t before in
        omega (arith, g, x, y)

-- the count after each prefix is at most the peak
within_peak : (n : ℕ) (before after : List Symbol) → (n + count_by is_opening_bracket before) - count_by is_closing_bracket before ≤ peak n
    (before ++ after)
within_peak n [] after = at_front n after
  where
    at_front : (m : ℕ) (ts : List Symbol) → (m + 0) - 0 ≤ peak m ts
    at_front m [] = omega arith
    at_front m (t ∷ ts) = (let x = greater_left m (peak ((m + ones (is_opening_bracket t)) - ones (is_closing_bracket t)) ts) in
        omega (arith, x))
within_peak n (t ∷ before) after =
    let i = within_peak ((n + ones (is_opening_bracket t)) - ones (is_closing_bracket t)) before after in
    let g = greater_right n (peak ((n + ones (is_opening_bracket t)) - ones (is_closing_bracket t)) (before ++ after)) in
    let x = counted is_opening_bracket t before in let y = counted is_closing_bracket t before in
    omega (arith, i, g, x, y)

-- symbols that never have more brackets open than shallow symbols are shallow
pub no_deeper_shallow : (us ts : List Symbol) → NoDeeper us ts → IsShallow ts → IsShallow us
no_deeper_shallow us ts d s = record { shallow = fronts }
  where
    at_end : Below 0 [] []
    at_end c = omega arith

    most : most_open 0 0 ts ≤ 64
    most = most_within 64 0 0 ts (λ before after e. let x = s.shallow before after e in omega (arith, x))

    whole : peak 0 us ≤ most_open 0 0 ts
    whole = (let x = d.deep 0 [] [] at_end 0 in rw (append-nil us, append-nil ts) at x)

    fronts : (before after : List Symbol) → us ≡ before ++ after → open_brackets before ≤ 64
    fronts before after e = (let x = within_peak 0 before after in let y : peak 0 us ≡ peak 0 (before ++ after) = ap (peak 0) e in let z =
        whole in let m = most in omega (arith, x, y, z, m))
