-- If a reading of the first symbols leaves one of them, or a reader gets stuck with one of them left, then the same happens if more symbols
-- follow.
use Rattle.std.proofs.Common.{◌≡◌, ◌≢◌, ℕ, ◌+◌, ◌<◌, List, [], ◌∷◌, ◌++◌, length, length-append, refl, sym, ap, ◌∙◌, arith, Option, Some}
use Rattle.std.proofs.Common.{None, Bool, true, false}
use Rattle.pipe_model.specs.declared.sign_bytes.TheConstants as signs
use Rattle.pipe_model.specs.declared.symbol.Symbol.{Symbol}
use Rattle.pipe_model.specs.declared.symbol.Symbol.TheVariants as symbols
use Rattle.pipe_model.specs.Language.SyntaxTree.{Expression}
use Rattle.grammar_laws.specs.Reading.{Reads, ReadsNumeral, ReadsName, ReadsElement, ReadsMore, ReadsTake, ReadsIter, ReadsNegative}
use Rattle.grammar_laws.specs.Reading.{ReadsNot, ReadsBracketed, ReadsChain, Extends, Ends, Joins, NoSign, next_level}
use Rattle.grammar_laws.specs.ExpressionMachine.{Want, step, may_end, Stuck, ended, ending, ending_on, IsStuck}

sign_window : (ts more : List Symbol) → ts ≢ [] → NoSign signs.OPEN_SQUARE ts → NoSign signs.OPEN_SQUARE (ts ++ more)
sign_window [] more n h = absurd (n refl)
sign_window (symbols.Name x ∷ ts) more n h = tt
sign_window (symbols.Word x ∷ ts) more n h = tt
sign_window (symbols.Number x ∷ ts) more n h = tt
sign_window (symbols.Operator x ∷ ts) more n h = tt
sign_window (symbols.Sign x ∷ ts) more n h = h

level_window : (ts more : List Symbol) → ts ≢ [] → next_level (ts ++ more) ≡ next_level ts
level_window [] more n = absurd (n refl)
level_window (symbols.Name x ∷ ts) more n = refl
level_window (symbols.Word x ∷ ts) more n = refl
level_window (symbols.Number x ∷ ts) more n = refl
level_window (symbols.Operator x ∷ ts) more n = refl
level_window (symbols.Sign x ∷ ts) more n = refl

some : (t : Symbol) (ts : List Symbol) → t ∷ ts ≢ []
some t ts = λ e. absurd (cc (e))

begins : {level : ℕ} {ts rest : List Symbol} {a e : Expression} → Extends level a ts e rest → rest ≢ [] → ts ≢ []
begins (Ends ts h) n = n
begins (Joins {ts = ts} code h r g) n = some (symbols.Operator code) ts

mutual
  -- a reading that leaves a symbol is the same with more symbols after
  pub reads_more : {level : ℕ} {ts rest : List Symbol} {e : Expression} → Reads level ts e rest → rest ≢ [] → (more : List Symbol)
      → Reads level (ts ++ more) e (rest ++ more)
  reads_more (ReadsNumeral n rest) k more = ReadsNumeral n (rest ++ more)
  reads_more (ReadsName n rest h) k more = ReadsName n (rest ++ more) (sign_window rest more k h)
  reads_more (ReadsElement {rest = rest} name r) k more = ReadsElement name (reads_more r (some
      (symbols.Sign signs.CLOSE_SQUARE) rest) more)
  reads_more (ReadsMore rest) k more = ReadsMore (rest ++ more)
  reads_more (ReadsTake rest) k more = ReadsTake (rest ++ more)
  reads_more (ReadsIter rest) k more = ReadsIter (rest ++ more)
  reads_more (ReadsNegative r) k more = ReadsNegative (reads_more r k more)
  reads_more (ReadsNot r) k more = ReadsNot (reads_more r k more)
  reads_more (ReadsBracketed {rest = rest} r) k more = ReadsBracketed (reads_more r (some (symbols.Sign signs.CLOSE_ROUND) rest) more)
  reads_more (ReadsChain r g) k more = ReadsChain (reads_more r (begins g k) more) (extends_more g k more)

  extends_more : {level : ℕ} {ts rest : List Symbol} {a e : Expression} → Extends level a ts e rest → rest ≢ [] → (more : List Symbol)
      → Extends level a (ts ++ more) e (rest ++ more)
  extends_more (Ends ts h) k more = Ends (ts ++ more) (λ x. h (sym (level_window ts more k) ∙ x))
  extends_more (Joins code h r g) k more = Joins code h (reads_more r (begins g k) more) (extends_more g k more)

ended_more : (b : Bool) (ts more : List Symbol) (n : ℕ) → ended b ts ≡ Stuck n → ended b (ts ++ more) ≡ Stuck (n + length more)
ended_more true ts more n h = absurd (cc (h))
ended_more false ts more n h =
    let many : length ts ≡ n = cc (h) in
    let all : length (ts ++ more) ≡ n + length more = length-append ts more ∙ ap (λ x. x + length more) many in
    ap Stuck all

stuck_on : (o : Option (List Want)) (b : Bool) (t : Symbol) (ts more : List Symbol) (n : ℕ)
    → ((mid : List Want) → ending ts mid ≡ Stuck n → ending (ts ++ more) mid ≡ Stuck (n + length more))
    → ending_on o (ended b (t ∷ ts)) (ending ts) ≡ Stuck n → ending_on o (ended b (t ∷ (ts ++ more))) (ending (ts ++ more)) ≡ Stuck
    (n + length more)
stuck_on None b t ts more n f h = ended_more b (t ∷ ts) more n h
stuck_on (Some mid) b t ts more n f h = f mid h

stuck_at_end : (b : Bool) (n : ℕ) → 0 < n → ended b [] ≡ Stuck n → ⊥
stuck_at_end true n l h = cc (h)
stuck_at_end false n l h = let e : 0 ≡ n = cc (h) in absurd (omega (arith, e, l))

ending_more : (ts more : List Symbol) (wants : List Want) (n : ℕ) → 0 < n → ending ts wants ≡ Stuck n
    → ending (ts ++ more) wants ≡ Stuck (n + length more)
ending_more [] more wants n l h = absurd (stuck_at_end (may_end wants) n l h)
ending_more (t ∷ ts) more wants n l h = stuck_on (step wants t) (may_end wants) t ts more n (λ mid i. ending_more ts more mid n l i) h

-- a reader that gets stuck with a symbol left gets stuck there with more symbols after
pub stuck_more : (wants : List Want) (ts more : List Symbol) (n : ℕ) → 0 < n → IsStuck wants ts n
    → IsStuck wants (ts ++ more) (n + length more)
stuck_more wants ts more n l s = record { stuck = λ below. ending_more ts more (wants ++ below) n l (s.stuck below) }
