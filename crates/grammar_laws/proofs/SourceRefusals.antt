-- A source is accepted as at most one program, or refused for at most one reason.
use Rattle.std.proofs.Common.{◌≡◌, ◌∙◌, ℕ, ℤ, pos, List, slice_get, Option, Some, None, ap, sym, subst}
use Rattle.pipe_model.specs.declared.token.Token.{Token}
use Rattle.pipe_model.specs.Language.CheckingRules.{Fault, LimitOut, Broken, fault_of}
use Rattle.pipe_model.specs.Language.MarkPlaces.{mark_places}
use Rattle.pipe_model.specs.Language.SourceRefusals.{IsAccepted, fault_place, BreaksAt, Refusal, Lexical, Syntactic, IsRefused, ForItsText}
use Rattle.pipe_model.specs.Language.SourceRefusals.{ForAToken, ForALimit, ForARule}
use Rattle.pipe_model.specs.Language.SourceSpelling.{SourceSpells}
use Rattle.pipe_model.specs.Language.Spelling as grammar
use Rattle.pipe_model.specs.Language.Spelling.{FirstFault, Spells}
use Rattle.pipe_model.specs.Language.SyntaxTree.{SyntaxTree}
use Rattle.pipe_model.specs.Language.Tokens.{IsLexed, symbols_in}
use Rattle.grammar_laws.proofs.FaultRules as faults
use Rattle.grammar_laws.proofs.OneSourceSpelling.{one_source_spelling}
use Rattle.grammar_laws.proofs.TokenLaws.{no_fault, one_fault, one_list}

-- a source has at most one list of tokens within the bounds
pub one_lexed : (source : List ℕ) (tokens others : List Token) → IsLexed source tokens → IsLexed source others → tokens ≡ others
one_lexed source tokens others h g = one_list source tokens others h.scanned g.scanned

-- the tokens of a source that spells a program break no rule of the grammar
spelled_unbroken : (source : List ℕ) (tokens : List Token) (rule : grammar.GrammarRule) (place : ℕ) (tree : SyntaxTree)
    → IsLexed source tokens
    → BreaksAt source tokens rule place
    → SourceSpells source tree → ⊥
spelled_unbroken source tokens rule place tree l b s =
    faults.spelled_without_fault b.breaks (subst (λ found. Spells (symbols_in source found) tree)
    (one_lexed source s.tokens tokens s.lexed l) s.spelled)

-- at most one token is the first that breaks a rule, and it breaks one rule first
one_break : (source : List ℕ) (tokens : List Token) (rule other : grammar.GrammarRule) (place at : ℕ) → BreaksAt source tokens rule place
    → BreaksAt source tokens other at
    → Syntactic rule place ≡ Syntactic other at
one_break source tokens rule other place at b c =
    let one = faults.one_fault b.breaks c.breaks in
    let places : place ≡ at = b.place_is ∙ ap (fault_place source tokens) one.0 ∙ sym c.place_is in cc (places, one.1)

-- two programs that a source spells have the same fault
same_fault : (source : List ℕ) (tree other : SyntaxTree) (f g : Option Fault) → SourceSpells source tree → SourceSpells source other
    → fault_of tree ≡ f
    → fault_of other ≡ g → f ≡ g
same_fault source tree other f g s o h k = sym h ∙ ap fault_of (one_source_spelling source tree other s o) ∙ k

-- a mark has one offset
one_place : (places others : List ℤ) (mark number : ℕ) (place at : ℕ) → places ≡ others → mark ≡ number
    → slice_get places mark ≡ Some (pos place)
    → slice_get others number ≡ Some (pos at) → place ≡ at
one_place places others mark number place at p m h k =
    let e : Some (pos place) ≡ Some (pos at) = sym h ∙ ap (λ ps. slice_get ps mark) p ∙ ap (slice_get others) m ∙ k in cc (e)

-- a source is refused for at most one reason
pub one_refusal : {source : List ℕ} {refusal other : Refusal} → IsRefused source refusal → IsRefused source other → refusal ≡ other
one_refusal {source} (ForItsText f h) (ForItsText g k) = ap Lexical (one_fault source f g h k)
one_refusal {source} (ForItsText f h) (ForAToken tokens rule place l b) = absurd (no_fault source tokens f l h)
one_refusal {source} (ForItsText f h) (ForALimit tree which s e) = absurd (no_fault source s.tokens f s.lexed h)
one_refusal {source} (ForItsText f h) (ForARule tree rule mark place s e at) = absurd (no_fault source s.tokens f s.lexed h)
one_refusal {source} (ForAToken tokens rule place l b) (ForItsText f h) = absurd (no_fault source tokens f l h)
one_refusal {source} (ForAToken tokens rule place l b) (ForAToken others other at m c) =
    one_break source tokens rule other place at b (subst (λ found. BreaksAt source found other at) (one_lexed source others tokens m l) c)
one_refusal {source} (ForAToken tokens rule place l b) (ForALimit tree which s e) =
    absurd (spelled_unbroken source tokens rule place tree l b s)
one_refusal {source} (ForAToken tokens rule place l b) (ForARule tree other mark at s e k) =
    absurd (spelled_unbroken source tokens rule place tree l b s)
one_refusal {source} (ForALimit tree which s e) (ForItsText f h) = absurd (no_fault source s.tokens f s.lexed h)
one_refusal {source} (ForALimit tree which s e) (ForAToken tokens rule place l b) =
    absurd (spelled_unbroken source tokens rule place tree l b s)
one_refusal {source} (ForALimit tree which s e) (ForALimit tree' which' s' e') =
    let f : Some (LimitOut which) ≡ Some (LimitOut which') = same_fault source tree tree' _ _ s s' e e' in cc (f)
one_refusal {source} (ForALimit tree which s e) (ForARule tree' rule mark place s' e' at) =
    absurd (let f : Some (LimitOut which) ≡ Some (Broken rule mark) = same_fault source tree tree' _ _ s s' e e' in cc (f))
one_refusal {source} (ForARule tree rule mark place s e at) (ForItsText f h) = absurd (no_fault source s.tokens f s.lexed h)
one_refusal {source} (ForARule tree other mark at s e k) (ForAToken tokens rule place l b) =
    absurd (spelled_unbroken source tokens rule place tree l b s)
one_refusal {source} (ForARule tree rule mark place s e at) (ForALimit tree' which s' e') =
    absurd (let f : Some (LimitOut which) ≡ Some (Broken rule mark) = same_fault source tree' tree _ _ s' s e' e in cc (f))
one_refusal {source} (ForARule tree rule mark place s e at) (ForARule tree' rule' mark' place' s' e' at') =
    let f : Some (Broken rule mark) ≡ Some (Broken rule' mark') = same_fault source tree tree' _ _ s s' e e' in
    let rules : rule ≡ rule' = cc (f) in
    let marks : mark ≡ mark' = cc (f) in
    let places : place ≡ place' = one_place _ _ mark mark' place place'
    (ap mark_places (one_lexed source s.tokens s'.tokens s.lexed s'.lexed)) marks at at' in
    cc (rules, places)

-- a source that is refused is not accepted
pub refused_not_accepted : {source : List ℕ} {refusal : Refusal} (tree : SyntaxTree) → IsRefused source refusal → IsAccepted source tree → ⊥
refused_not_accepted {source} tree (ForItsText f h) a = no_fault source a.spelled.tokens f a.spelled.lexed h
refused_not_accepted {source} tree (ForAToken tokens rule place l b) a = spelled_unbroken source tokens rule place tree l b a.spelled
refused_not_accepted {source} tree (ForALimit other which s e) a =
    let f : Some (LimitOut which) ≡ None = same_fault source other tree _ _ s a.spelled e a.obeys in cc (f)
refused_not_accepted {source} tree (ForARule other rule mark place s e at) a =
    let f : Some (Broken rule mark) ≡ None = same_fault source other tree _ _ s a.spelled e a.obeys in cc (f)

-- a source is accepted as at most one program
pub one_accepted : (source : List ℕ) (tree other : SyntaxTree) → IsAccepted source tree → IsAccepted source other → tree ≡ other
one_accepted source tree other a b = one_source_spelling source tree other a.spelled b.spelled
