-- Symbols that the machine of programs accepts spell a program, within the bound on full expressions.
use Rattle.std.proofs.Common.{◌≡◌, ℕ, suc, ◌<◌, List, [], ◌∷◌, ◌++◌, take, drop, length, refl, sym, ap, ◌∙◌, append_assoc, append-nil}
use Rattle.std.proofs.Common.{arith, subst, ◌⊎◌, inl, inr, Bool, true, false, ◌&&◌, if◌then◌else◌}
use Rattle.std.proofs.lemmas.Bool.{cases_lt}
use Rattle.std.proofs.lemmas.List.{take-append-drop, length-take}
use Rattle.pipe_model.specs.declared.symbol.Symbol.{Symbol}
use Rattle.pipe_model.specs.Language.SyntaxTree.{SyntaxTree}
use Rattle.pipe_model.specs.Language.Grammar.{Piece, Single, FullExpression, flat, DerivesProgram}
use Rattle.pipe_model.specs.Language.Spelling.{AreShort, EndsTooLong, IsShallow, Spells}
use Rattle.grammar_laws.specs.ExpressionMachine as expression
use Rattle.grammar_laws.specs.ProgramMachine.{MachineState, Outside, Accepted, Unexpected, TooLong, is_final, judge, may_end, program}
use Rattle.grammar_laws.proofs.ExpressionFronts.{run_ended}
use Rattle.grammar_laws.proofs.FirstFaults.{too_long_found}
use Rattle.grammar_laws.proofs.Pieces.{flat_append}
use Rattle.grammar_laws.proofs.ProgramFaults.{Reached, Between, Within, reached, accepted_from, completed_program}
use Rattle.grammar_laws.proofs.ProgramFronts.{completes_end}

-- the symbols derive some program
record IsWholeProgram (ts : List Symbol) : Type 0 where
  pieces : List Piece
  tree : SyntaxTree
  derived : DerivesProgram pieces tree
  split : ts ≡ flat pieces

pub both : (a b : Bool) → (a && b) ≡ true → (a ≡ true) × (b ≡ true)
both true b h = (refl, h)
both false b h = absurd (cc (h))

final_whole : {ts : List Symbol} {s : MachineState} → Reached ts s → is_final s ≡ true → IsWholeProgram ts
final_whole (Between ps wants f) h =
    let p = completed_program (f [] (completes_end wants h)) in
    record { pieces = ps ++ []; tree = p.tree; derived = p.derived; split = ap flat (sym (append-nil ps)) }
final_whole (Within ps inside n i wants l r f) h =
    let ends = both (expression.may_end i) (may_end wants) h in
    let x = run_ended inside i r ends.0 in
    let p = completed_program (f inside x.e [] x.derived (completes_end wants ends.1)) in
    record {
      pieces = ps ++ FullExpression inside ∷ [];
      tree = p.tree;
      derived = p.derived;
      split = ap (λ x. flat ps ++ x) (sym (append-nil inside)) ∙ sym (flat_append ps (FullExpression inside ∷ []));
    }

final_accepted : (b : Bool) → (if b then Accepted else Unexpected 0) ≡ Accepted → b ≡ true
final_accepted true h = refl
final_accepted false h = cc (h)

accepted_whole : (ts : List Symbol) → judge 256 ts (Outside program) ≡ Accepted → IsWholeProgram ts
accepted_whole ts v =
    let a = accepted_from 256 ts [] (Outside program) (ap (λ x. judge 256 x (Outside program)) (append-nil ts) ∙ v) in
    final_whole (reached ts a.state a.runs) (final_accepted (is_final a.state) a.accepted)

-- some full expression of the pieces is too long
record HasLong (longest : ℕ) (ps : List Piece) : Type 0 where
  before : List Piece
  inside : List Symbol
  more : List Symbol
  after : List Piece
  split : ps ≡ before ++ FullExpression (inside ++ more) ∷ after
  many : length inside ≡ suc longest

long_here : (longest : ℕ) (ts : List Symbol) (ps : List Piece) → longest < length ts → HasLong longest (FullExpression ts ∷ ps)
long_here longest ts ps l = record {
  before = [];
  inside = take (suc longest) ts;
  more = drop (suc longest) ts;
  after = ps;
  split = ap (λ x. FullExpression x ∷ ps) (sym (take-append-drop (suc longest) ts));
  many = omega (arith, length-take (suc longest) ts, l);
}

long_later : (longest : ℕ) (p : Piece) (ps : List Piece) → HasLong longest ps → HasLong longest (p ∷ ps)
long_later longest p ps h = record {
  before = p ∷ h.before;
  inside = h.inside;
  more = h.more;
  after = h.after;
  split = ap (λ x. p ∷ x) h.split;
  many = h.many;
}

-- all full expressions are short enough, or some full expression is too long
short_or_long : (longest : ℕ) (ps : List Piece) → AreShort longest ps ⊎ HasLong longest ps
short_or_long longest [] = inl tt
short_or_long longest (Single t ∷ ps) = elim (short_or_long longest ps) [ inl a ↦ inl a | inr h ↦ inr (long_later longest (Single t) ps h) ]
short_or_long longest (FullExpression ts ∷ ps) =
    elim (cases_lt longest (length ts)) [
      | inl l ↦ inr (long_here longest ts ps l)
      | inr l ↦ elim (short_or_long longest ps) [ inl a ↦ inl (l, a) | inr h ↦ inr (long_later longest (FullExpression ts) ps h) ]
    ]

-- accepted symbols have no full expression that is too long
not_long : (ts : List Symbol) → judge 256 ts (Outside program) ≡ Accepted → (w : IsWholeProgram ts) → HasLong 256 w.pieces → ⊥
not_long ts v w h =
    let ends : EndsTooLong (flat h.before ++ h.inside) = record {
      before = h.before;
      inside = h.inside;
      more = h.more;
      after = h.after;
      tree = w.tree;
      derived = subst (λ x. DerivesProgram x w.tree) h.split w.derived;
      many = h.many;
      split = refl;
    } in
    let f = too_long_found (flat h.before ++ h.inside) (h.more ++ flat h.after) ends in
    let same : (flat h.before ++ h.inside) ++ (h.more ++ flat h.after) ≡ ts =
    append_assoc (flat h.before) h.inside (h.more ++ flat h.after)
    ∙ ap (λ x. flat h.before ++ x) (sym (append_assoc h.inside h.more (flat h.after)))
    ∙ sym (flat_append h.before (FullExpression (h.inside ++ h.more) ∷ h.after)) ∙ sym (ap flat h.split) ∙ sym w.split in
    let e : TooLong f.left ≡ Accepted = sym f.verdict ∙ ap (λ x. judge 256 x (Outside program)) same ∙ v in
    cc (e)

-- accepted symbols that never have too many brackets open spell a program
pub accepted_spelled : (ts : List Symbol) → judge 256 ts (Outside program) ≡ Accepted → IsShallow ts → (p : SyntaxTree) × Spells ts p
accepted_spelled ts v h =
    let w = accepted_whole ts v in
    elim (short_or_long 256 w.pieces) [
      | inl a ↦ (w.tree, record { pieces = w.pieces; split = w.split; derived = w.derived; short = a; shallow = h })
      | inr l ↦ absurd (not_long ts v w l)
    ]
