-- Full expressions in a window of 257 symbols.
use Rattle.std.proofs.Common.{◌≡◌, ℕ, suc, ◌+◌, ◌-◌, ◌<◌, ◌≤◌, List, [], ◌∷◌, ◌++◌, sym, ap, ◌∙◌, append-nil, append_assoc, subst, arith}
use Rattle.std.proofs.Common.{length, take, drop, length-append, length-drop, Some}
use Rattle.std.proofs.Math.Seq.{drop-append_seam}
use Rattle.std.proofs.lemmas.List.{length-take-le, nil_from_length, take-append-drop}
use Rattle.pipe_model.specs.declared.symbol.Symbol.{Symbol}
use Rattle.grammar_laws.specs.ExpressionMachine as expression
use Rattle.grammar_laws.specs.ProgramMachine as machine
use Rattle.grammar_laws.specs.ProgramMachine.{IsRejected, Outside, judge}
use Rattle.pipe_model.specs.Language.SyntaxTree.{Expression}
use Rattle.grammar_laws.specs.Reading.{Reads, ReadsFull}
use Rattle.grammar_laws.proofs.ExpressionReading.{sound}
use Rattle.grammar_laws.proofs.ExpressionRuns.{stopped, stuck_may_not_end}
use Rattle.grammar_laws.proofs.ExpressionWindows.{reads_more, stuck_more}
use Rattle.grammar_laws.proofs.FullExpressions.{stuck_full, over_full}
use Rattle.grammar_laws.proofs.ProgramFaults.{derived_runs}
use Rattle.pipe_parser.specs.ExpressionFaults as expression_faults
use Rattle.pipe_parser.specs.ExpressionFaults.{whole}
use Rattle.pipe_parser.specs.SyntaxFaults.{SyntaxStops}
use Rattle.pipe_parser.specs.declared.fault.SyntaxFault.{SyntaxFault}
use Rattle.pipe_parser.specs.declared.fault.SyntaxFault.TheVariants as faults
use Rattle.pipe_model.specs.Language.Grammar.{any_expression}

-- what is wanted: a full expression
abbrev full : List machine.Want
full = machine.FullExpression ∷ []

-- if the machine runs over the whole window, the window's last symbol is one too many
over : (ts : List Symbol) (left : List expression.Want) → 256 < length ts → expression.run (take 257 ts) whole ≡ Some left
    → IsRejected 256 full ts (machine.TooLong (length ts - 257 + 1))
over ts left l r = record {
  refused = λ below.
      let many : suc (length (drop 257 ts)) ≡ length ts - 257 + 1 = omega (arith, length-drop 257 ts, l) in
      ap (λ x. judge 256 x (Outside (machine.FullExpression ∷ below))) (sym (take-append-drop 257 ts))
      ∙ over_full 256 (take 257 ts) (drop 257 ts) left below r (length-take-le 257 ts (omega (arith, l)))
      ∙ ap machine.TooLong many;
}

-- so it is if an expression takes the whole window
pub window_read : (ts rest : List Symbol) (e : Expression) → 256 < length ts → Reads any_expression (take 257 ts) e rest → length rest ≡ 0
    → IsRejected 256 full ts (machine.TooLong (length ts - 257 + 1))
window_read ts rest e l r h =
    let t = sound r in
    let same : take 257 ts ≡ t.taken = t.split ∙ ap (λ x. t.taken ++ x) (nil_from_length rest h) ∙ append-nil t.taken in
    let d = derived_runs t.derived in
    over ts d.left l (ap (λ x. expression.run x whole) same ∙ d.ran)

-- or if a reader is stuck at the end of the window
pub window_stuck : (ts : List Symbol) → 256 < length ts → expression.IsStuck whole (take 257 ts) 0
    → IsRejected 256 full ts (machine.TooLong (length ts - 257 + 1))
window_stuck ts l s =
    let w = take 257 ts in
    let m = stopped w whole in
    let ends = stuck_may_not_end (expression.may_end m.left) m.rest 0 (sym m.ends ∙ s.stuck []) in
    let same : w ≡ m.before = m.split ∙ ap (λ x. m.before ++ x) (nil_from_length m.rest ends.1) ∙ append-nil m.before in
    over ts m.left l (ap (λ x. expression.run x whole) same ∙ m.runs)

-- a stuck reader has no more symbols left than there are
pub stuck_within : (ts : List Symbol) (left : ℕ) → expression.IsStuck whole ts left → left ≤ length ts
stuck_within ts left s =
    let m = stopped ts whole in
    let ends = stuck_may_not_end (expression.may_end m.left) m.rest left (sym m.ends ∙ s.stuck []) in
    omega (arith, ends.1, ap length m.split, length-append m.before m.rest)

-- a reader that is stuck, in at most 256 symbols
pub stuck_short : (ts : List Symbol) (left : ℕ) → length ts ≤ 256 → expression.IsStuck whole ts left
    → IsRejected 256 full ts (machine.Unexpected left)
stuck_short ts left l s = record { refused = λ below. stuck_full 256 ts left below s (omega (arith, l)) }

-- a reader that is stuck before the end of the window
pub stuck_in_window : (ts : List Symbol) (left : ℕ) → 256 < length ts → 0 < left → expression.IsStuck whole (take 257 ts) left
    → IsRejected 256 full ts (machine.Unexpected (left + (length ts - 257)))
stuck_in_window ts left l p s =
    let many : left + length (drop 257 ts) ≡ left + (length ts - 257) = omega (arith, length-drop 257 ts) in
    let all : expression.IsStuck whole ts (left + length (drop 257 ts)) =
    subst (λ x. expression.IsStuck whole x (left + length (drop 257 ts))) (take-append-drop 257 ts)
    (stuck_more whole (take 257 ts) (drop 257 ts) left p s) in
    record {
      refused = λ below. stuck_full 256 ts (left + length (drop 257 ts)) below all (omega (arith, length-drop 257 ts, l, p))
          ∙ ap machine.Unexpected many;
    }

-- an expression that ends before the end of the window
pub read_in_window : (ts rest : List Symbol) (e : Expression) → 256 < length ts → Reads any_expression (take 257 ts) e rest
    → 0 < length rest
    → ReadsFull 256 ts e (drop (257 - length rest) ts)
read_in_window ts rest e l r p =
    let t = sound r in
    let all : ts ≡ t.taken ++ (rest ++ drop 257 ts) =
    sym (take-append-drop 257 ts) ∙ ap (λ x. x ++ drop 257 ts) t.split ∙ append_assoc t.taken rest (drop 257 ts) in
    let window : length (take 257 ts) ≡ 257 = length-take-le 257 ts (omega (arith, l)) in
    let many : length t.taken ≡ 257 - length rest = omega (arith, ap length t.split, length-append t.taken rest, window, p) in
    let following : drop (257 - length rest) ts ≡ rest ++ drop 257 ts =
    ap (λ n. drop n ts) (sym many) ∙ ap (drop (length t.taken)) all ∙ drop-append_seam t.taken (rest ++ drop 257 ts) in
    record {
      read = subst (λ x. Reads any_expression ts e x) (sym following)
          (subst (λ x. Reads any_expression x e (rest ++ drop 257 ts)) (take-append-drop 257 ts)
          (reads_more r (λ h. absurd (omega (arith, p, ap length h))) (drop 257 ts)));
      short = omega (arith, length-drop (257 - length rest) ts, p);
    }

-- in at most 256 symbols, a fault of the reader of expressions is the fault of reading a full expression
pub stuck_fault : (ts : List Symbol) → length ts ≤ 256 → (f : SyntaxFault) → expression_faults.ExpressionStops whole ts f
    → SyntaxStops full ts f
stuck_fault ts l (faults.Unexpected left) s = stuck_short ts left l s
stuck_fault ts l (faults.TooDeep left) s = s
stuck_fault ts l (faults.TooLong left) s = absurd s
stuck_fault ts l faults.NoMemory s = tt
