-- Texts that are one token each, with the bytes that may follow them.
use Rattle.std.proofs.Common.{◌≡◌, ◌≢◌, ◌∙◌, ap, sym, refl, ℕ, zero, suc, ◌+◌, ◌-◌, ◌*◌, ◌/◌, ◌%◌, ◌<◌, ◌≤◌, ◌^◌, pos, Bool, true, false}
use Rattle.std.proofs.Common.{List, [], ◌∷◌, ◌++◌, length, ◌&&◌, Some, None, arith, codes, cond, position, length-append, ◌==◌}
use Rattle.std.specs.Fmt.{decimal}
use Rattle.std.specs.List.{list_all}
use Rattle.std.proofs.lemmas.Bool.{and_parts, false≢true}
use Rattle.std.proofs.lemmas.Bool.Decides.{nat_tests}
use Rattle.std.proofs.lemmas.Fmt.{decimal_by_steps}
use Rattle.std.proofs.lemmas.List.Folds.{list_all-append}
use Rattle.std.proofs.lemmas.List.Sums.{fold-append}
use Rattle.pipe_model.specs.declared.operator_codes.TheConstants as operator_codes
use Rattle.pipe_model.specs.declared.sign_bytes.TheConstants as signs
use Rattle.pipe_model.specs.declared.symbol.Symbol.{Symbol}
use Rattle.pipe_model.specs.declared.symbol.Symbol.TheVariants as symbols
use Rattle.grammar_laws.proofs.CanonicalSymbols.{IsName}
use Rattle.pipe_model.specs.Language.CanonicalText.{operator_text}
use Rattle.std.specs.Str.{bytes_eq}
use Rattle.pipe_model.specs.Language.Lexis.{operators, is_letter, is_digit, is_name_byte, number_of, symbol_of, word_symbol}
use Rattle.pipe_model.specs.Language.Lexis.{punctuation_symbol}
use Rattle.pipe_model.specs.Language.Tokens.{begins_comment, IsToken}
use Rattle.grammar_laws.proofs.TokenLaws.{no_name}

-- ---- words and names

abbrev pub begins_letter : List ℕ → Bool
begins_letter [] = false
begins_letter (b ∷ bs) = is_letter b

-- the text is not empty and does not begin with an equals sign
abbrev pub Opens : List ℕ → Type 0
Opens [] = ⊥
Opens (c ∷ cs) = (c == signs.EQUALS) ≡ false

-- bytes that do not begin with a slash begin no comment
pub no_comment : (b : ℕ) (bs : List ℕ) → (b == 47) ≡ false → begins_comment (b ∷ bs) ≡ false
no_comment b [] h = refl
no_comment b (c ∷ bs) h = rw h refl

-- a list with an element that fails the test
front_fails : (p : ℕ → Bool) (bs : List ℕ) (d : ℕ) (more : List ℕ) → p d ≡ false → list_all p (bs ++ d ∷ more) ≡ false
front_fails p [] d more h = rw h refl
front_fails p (b ∷ bs) d more h = by_first (p b) (front_fails p bs d more h)
  where
    by_first : (x : Bool) → list_all p (bs ++ d ∷ more) ≡ false → (x && list_all p (bs ++ d ∷ more)) ≡ false
    by_first true f = f
    by_first false f = refl

not_longer : (b : ℕ) (bs : List ℕ) (c : ℕ) (rest more after : List ℕ) (s : Symbol) → is_letter b ≡ true → is_name_byte c ≡ false
    → c ∷ rest ≡ more ++ after → more ≢ [] → symbol_of ((b ∷ bs) ++ more) ≡ Some s → ⊥
not_longer b bs c rest [] after s l n e some t = some refl
not_longer b bs c rest (d ∷ more) after s l n e some t =
    let same : c ≡ d = cc (e) in
    let fails : list_all is_name_byte (bs ++ d ∷ more) ≡ false = front_fails is_name_byte bs d more (ap is_name_byte (sym same) ∙ n) in
    let none : None ≡ Some s = rw (l, fails) at t in cc (none)

-- a word or a name, followed by a byte that cannot be part of one
pub word_token : (text : List ℕ) (s : Symbol) (c : ℕ) (rest : List ℕ) → begins_letter text ≡ true → symbol_of text ≡ Some s
    → is_name_byte c ≡ false
    → IsToken text (c ∷ rest) s
word_token [] s c rest l t n = absurd (false≢true l)
word_token (b ∷ bs) s c rest l t n = record {
  symbol = t;
  longest = record { longest = λ more after s' e some h. not_longer b bs c rest more after s' l n e some h };
  no_comment = no_comment b (bs ++ c ∷ rest) (grind (arith, nat_tests, l));
}

-- a name begins with a letter
name_begins : (x : List ℕ) → symbol_of x ≡ Some (symbols.Name x) → begins_letter x ≡ true
name_begins [] t = (let none : None ≡ Some (symbols.Name []) = t in cc (none))
name_begins (b ∷ bs) t = by_kind (is_letter b) (list_all is_name_byte bs) (is_digit b) (list_all is_digit bs) t
  where
    by_kind : (letter named digit numbered : Bool)
        → cond letter (cond named (Some (word_symbol (b ∷ bs))) None)
        (cond digit (cond numbered (Some (symbols.Number (pos (number_of (b ∷ bs))))) None) (punctuation_symbol (b ∷ bs)))
        ≡ Some (symbols.Name (b ∷ bs))
        → letter ≡ true
    by_kind true named digit numbered e = refl
    by_kind false named true true e = cc (e)
    by_kind false named true false e = cc (e)
    by_kind false named false numbered e = absurd (no_name (position (λ operator. bytes_eq operator (b ∷ bs)) operators) (b ∷ bs)
        (b ∷ bs) e)

pub name_token : (x : List ℕ) (c : ℕ) (rest : List ℕ) → IsName x → is_name_byte c ≡ false → IsToken x (c ∷ rest) (symbols.Name x)
name_token x c rest h n = word_token x (symbols.Name x) c rest (name_begins x h.symbol) h.symbol n

-- a name does not begin with an equals sign
pub name_opens : (x rest : List ℕ) → IsName x → Opens (x ++ rest)
name_opens x rest h = by_letter x (name_begins x h.symbol)
  where
    by_letter : (y : List ℕ) → begins_letter y ≡ true → Opens (y ++ rest)
    by_letter [] l = absurd (false≢true l)
    by_letter (b ∷ bs) l = grind (arith, nat_tests, l)

-- ---- numbers

-- the bytes are the digits of the number, at least one
abbrev AreDigitsOf : ℕ → List ℕ → Type 0
AreDigitsOf n ds = (list_all is_digit ds ≡ true) × (number_of ds ≡ n) × (0 < length ds)

pub last_digit : (m : ℕ) → is_digit (48 + m % 10) ≡ true
last_digit m = grind (arith, nat_tests)

pub digit_below : (m : ℕ) → m < 10 → is_digit (48 + m) ≡ true
digit_below m l = grind (arith, nat_tests)

pub one_digit : (m : ℕ) → m < 10 → AreDigitsOf m ((48 + m) ∷ [])
one_digit m l = (rw (digit_below m l) refl, omega arith, omega arith)

pub more_digits : (m : ℕ) (ds : List ℕ) → 10 ≤ m → AreDigitsOf (m / 10) ds → AreDigitsOf m (ds ++ (48 + m % 10) ∷ [])
more_digits m ds l h = (
  list_all-append is_digit ds ((48 + m % 10) ∷ []) ∙ rw (h.0, last_digit m) refl,
  fold-append (λ n d. 10 * n + (d - 48)) 0 ds ((48 + m % 10) ∷ []) ∙ (let e = h.1 in rw e (omega arith)),
  (let many = length-append ds ((48 + m % 10) ∷ []) in omega (arith, many)),
)

digits_of_decimal : (n : ℕ) → n < 2 ^ 64 → AreDigitsOf n (decimal n)
digits_of_decimal n h = decimal_by_steps AreDigitsOf one_digit more_digits n h

digit_no_letter : (b : ℕ) → is_digit b ≡ true → is_letter b ≡ false
digit_no_letter b h = grind (arith, nat_tests, h)

digit_no_slash : (b : ℕ) → is_digit b ≡ true → (b == 47) ≡ false
digit_no_slash b h = grind (arith, nat_tests, h)

no_digit : (b : ℕ) → is_name_byte b ≡ false → is_digit b ≡ false
no_digit b h = grind (arith, nat_tests, h)

all_digits : (p : ℕ → Bool) (b : ℕ) (bs : List ℕ) → list_all p (b ∷ bs) ≡ true → (p b ≡ true) × (list_all p bs ≡ true)
all_digits p b bs h = and_parts _ _ h

no_longer_number : (b : ℕ) (bs : List ℕ) (c : ℕ) (rest more after : List ℕ) (s : Symbol) → is_digit b ≡ true → is_digit c ≡ false
    → c ∷ rest ≡ more ++ after → more ≢ [] → symbol_of ((b ∷ bs) ++ more) ≡ Some s → ⊥
no_longer_number b bs c rest [] after s l n e some t = some refl
no_longer_number b bs c rest (d ∷ more) after s l n e some t =
    let same : c ≡ d = cc (e) in
    let fails : list_all is_digit (bs ++ d ∷ more) ≡ false = front_fails is_digit bs d more (ap is_digit (sym same) ∙ n) in
    let none : None ≡ Some s = rw (digit_no_letter b l, l, fails) at t in cc (none)

digits_token : (text : List ℕ) (n c : ℕ) (rest : List ℕ) → AreDigitsOf n text → is_digit c ≡ false
    → IsToken text (c ∷ rest) (symbols.Number (pos n))
digits_token [] n c rest h d = absurd (omega (arith, h.2))
digits_token (b ∷ bs) n c rest h d =
    let parts = all_digits is_digit b bs h.0 in
    record {
      symbol = rw (digit_no_letter b parts.0, parts.0, parts.1) (ap (λ k. Some (symbols.Number (pos k))) h.1);
      longest = record { longest = λ more after s' e some t. no_longer_number b bs c rest more after s' parts.0 d e some t };
      no_comment = no_comment b (bs ++ c ∷ rest) (digit_no_slash b parts.0);
    }

-- a number in decimal, followed by a byte that cannot be part of a name
pub number_token : (n c : ℕ) (rest : List ℕ) → n < 2 ^ 64 → is_name_byte c ≡ false → IsToken (decimal n) (c ∷ rest) (symbols.Number (pos n))
number_token n c rest h d = digits_token (decimal n) n c rest (digits_of_decimal n h) (no_digit c d)

-- the first byte of a number is not an equals sign
pub decimal_opens : (n : ℕ) (rest : List ℕ) → n < 2 ^ 64 → Opens (decimal n ++ rest)
decimal_opens n rest h = by_digits (decimal n) (digits_of_decimal n h)
  where
    by_digits : (ds : List ℕ) → AreDigitsOf n ds → Opens (ds ++ rest)
    by_digits [] d = absurd (omega (arith, d.2))
    by_digits (b ∷ bs) d = (let parts = all_digits is_digit b bs d.0 in let p = parts.0 in grind (arith, nat_tests, p))

-- ---- operators and signs

-- a text that is no prefix of a longer symbol
pub closed_token : (b : ℕ) (rest : List ℕ) (s : Symbol) → symbol_of (b ∷ []) ≡ Some s
    → ((c : ℕ) (more : List ℕ) → symbol_of (b ∷ c ∷ more) ≡ None) → (b == 47) ≡ false
    → IsToken (b ∷ []) rest s
closed_token b rest s t closed slash = record {
  symbol = t;
  longest = record { longest = no_longer };
  no_comment = no_comment b rest slash;
}
  where
    no_longer : (more after : List ℕ) (s' : Symbol) → rest ≡ more ++ after → more ≢ [] → symbol_of ((b ∷ []) ++ more) ≡ Some s' → ⊥
    no_longer [] after s' e some h = some refl
    no_longer (c ∷ more) after s' e some h = let none : None ≡ Some s' = sym (closed c more) ∙ h in cc (none)

-- a text that a space does not extend, followed by a space
pub spaced_token : (text rest : List ℕ) (s : Symbol) → symbol_of text ≡ Some s → ((more : List ℕ) → symbol_of (text ++ 32 ∷ more) ≡ None)
    → begins_comment (text ++ 32 ∷ rest) ≡ false → IsToken text (32 ∷ rest) s
spaced_token text rest s t closed comment = record {
  symbol = t;
  longest = record { longest = no_longer };
  no_comment = comment;
}
  where
    no_longer : (more after : List ℕ) (s' : Symbol) → 32 ∷ rest ≡ more ++ after → more ≢ [] → symbol_of (text ++ more) ≡ Some s' → ⊥
    no_longer [] after s' e some h = some refl
    no_longer (c ∷ more) after s' e some h =
        let same : c ≡ 32 = cc (e) in
        let none : None ≡ Some s' = sym (closed more) ∙ ap (λ x. symbol_of (text ++ x ∷ more)) (sym same) ∙ h in cc (none)

-- `!`, if no equals sign follows
pub not_token : (rest : List ℕ) → Opens rest → IsToken (33 ∷ []) rest (symbols.Sign signs.EXCLAMATION)
not_token [] h = absurd h
not_token (c ∷ rest) h = record {
  symbol = refl;
  longest = record { longest = no_longer };
  no_comment = refl;
}
  where
    no_longer : (more after : List ℕ) (s' : Symbol) → c ∷ rest ≡ more ++ after → more ≢ [] → symbol_of ((33 ∷ []) ++ more) ≡ Some s' → ⊥
    no_longer [] after s' e some t = some refl
    no_longer (d ∷ more) after s' e some t =
        let same : c ≡ d = cc (e) in
        let apart : (61 == d) ≡ false = grind (arith, nat_tests, h, same) in
        let none : None ≡ Some s' = rw apart at t in cc (none)

-- a binary operator, followed by a space
pub operator_token : (code : ℕ) (rest : List ℕ) → 1 ≤ code → code ≤ 13 → IsToken (operator_text code) (32 ∷ rest) (symbols.Operator code)
operator_token zero rest l h = absurd (omega (arith, l))
operator_token (suc zero) rest l h = spaced_token (codes "||") rest (symbols.Operator operator_codes.OR) refl (λ more. refl) refl
operator_token (suc (suc zero)) rest l h = spaced_token (codes "&&") rest (symbols.Operator operator_codes.AND) refl (λ more. refl) refl
operator_token (suc (suc (suc zero))) rest l h = spaced_token (codes "==") rest (symbols.Operator operator_codes.EQUAL) refl
    (λ more. refl) refl
operator_token (suc (suc (suc (suc zero)))) rest l h = spaced_token (codes "!=") rest (symbols.Operator operator_codes.UNEQUAL) refl
    (λ more. refl) refl
operator_token (suc (suc (suc (suc (suc zero))))) rest l h = spaced_token (codes "<") rest (symbols.Operator operator_codes.LESS) refl
    (λ more. refl) refl
operator_token (suc (suc (suc (suc (suc (suc zero)))))) rest l h = spaced_token (codes "<=") rest
    (symbols.Operator operator_codes.AT_MOST) refl
    (λ more. refl) refl
operator_token (suc (suc (suc (suc (suc (suc (suc zero))))))) rest l h = spaced_token (codes ">") rest
    (symbols.Operator operator_codes.GREATER) refl
    (λ more. refl) refl
operator_token (suc (suc (suc (suc (suc (suc (suc (suc zero)))))))) rest l h = spaced_token (codes ">=") rest
    (symbols.Operator operator_codes.AT_LEAST) refl
    (λ more. refl) refl
operator_token (suc (suc (suc (suc (suc (suc (suc (suc (suc zero))))))))) rest l h = spaced_token (codes "+") rest
    (symbols.Operator operator_codes.PLUS) refl (λ more. refl) refl
operator_token (suc (suc (suc (suc (suc (suc (suc (suc (suc (suc zero)))))))))) rest l h =
    spaced_token (codes "-") rest (symbols.Operator operator_codes.MINUS) refl (λ more. refl) refl
operator_token (suc (suc (suc (suc (suc (suc (suc (suc (suc (suc (suc zero))))))))))) rest l h =
    spaced_token (codes "*") rest (symbols.Operator operator_codes.TIMES) refl (λ more. refl) refl
operator_token (suc (suc (suc (suc (suc (suc (suc (suc (suc (suc (suc (suc zero)))))))))))) rest l h =
    spaced_token (codes "/") rest (symbols.Operator operator_codes.QUOTIENT) refl (λ more. refl) refl
operator_token (suc (suc (suc (suc (suc (suc (suc (suc (suc (suc (suc (suc (suc zero))))))))))))) rest l h =
    spaced_token (codes "%") rest (symbols.Operator operator_codes.REMAINDER) refl (λ more. refl) refl
operator_token (suc (suc (suc (suc (suc (suc (suc (suc (suc (suc (suc (suc (suc (suc n)))))))))))))) rest l h = absurd (omega (arith, h))
