use Rattle.std.proofs.Common.{rules, length, ◌≡◌, ◌∙◌, ◌+◌, suc, arith, subst, w64, ◌∷◌, ap}
use mir.Val.{SFits}
use Rattle.std.proofs.lemmas.Result.{err_from_is_err_and}
use Rattle.std.proofs.lemmas.Int.{to_z-of_z}
use Rattle.pipe_model.specs.declared.operator_codes.TheConstants as operator_codes
use Rattle.pipe_model.specs.declared.sign_bytes.TheConstants as signs
use Rattle.pipe_model.specs.declared.word_codes.TheConstants as words
use Rattle.pipe_model.specs.declared.symbol.Symbol.TheVariants as terminals
use Rattle.grammar_laws.specs.Reading.{Reads, ReadsChain, Ends}
use Rattle.pipe_model.specs.Language.SyntaxTree.{expression_of}
use Rattle.pipe_parser.proofs.ExpressionFronts.{fault_chained, fault_closed, joins, passes_join, name_read, element_read, number_read}
use Rattle.pipe_parser.proofs.ExpressionFronts.{more_read, take_read, iter_read, negative_read, not_read, bracket_read}
use Rattle.pipe_parser.proofs.Results.{if_ok, if_err}
use Rattle.pipe_parser.proofs.expression.+expression.Goals as goal

pub extend-loop-code-preserved : goal.extend-loop-code-preserved
extend-loop-code-preserved t c =
    let front = c.in-Some.ensures.some in
    let next : c.args.level + 1 ≡ suc c.args.level = omega arith in
    let right : Reads (suc c.args.level) c.in-Some.following (expression_of c.in_ok-second.second) c.in_ok-second.after =
    subst (λ level. Reads level c.in-Some.following (expression_of c.in_ok-second.second) c.in_ok-second.after) next
    c.in_ok-second.ensures.ok in
    rw (c.in_ok-boxed.ensures, c.in_ok-boxed-2.ensures) (record {
      extends = λ e end g. c.loop-code.invariant.extends e end
          (joins c.args.level c.in-Some.code _ _ e c.loop-code.rest c.in-Some.following c.in_ok-second.after end front.0 front.1 right g);
      passes = λ below. c.loop-code.invariant.passes below
          ∙ passes_join c.args.level c.in-Some.code _ c.loop-code.rest c.in-Some.following c.in_ok-second.after c.requires.from front.0
          front.1 right below;
      shorter = omega (arith, c.loop-code.invariant.shorter, c.in_ok-second.ensures.shorter, ap length front.0);
    })

pub extend-returns-clause-ok : goal.extend-returns-clause-ok
extend-returns-clause-ok t c =
    c.loop-code.invariant.extends _ _ (Ends c.loop-code.rest (λ e. c.in_default.ensures.none e))

pub read_closed-returns-in_err-rest-clause-err : goal.read_closed-returns-in_err-rest-clause-err
read_closed-returns-in_err-rest-clause-err t c =
    let p = err_from_is_err_and c.from_residual-in_err-rest.result c.from_residual-in_err-rest.ensures.1 in
    rw (p.1, p.2) (fault_closed _ _ _ _ c.in_ok-e.ensures.ok _ c.in_err-rest.ensures.stuck)

pub read_expression-returns-clause-ok : goal.read_expression-returns-clause-ok
read_expression-returns-clause-ok t c =
    let next : c.args.level + 1 ≡ suc c.args.level = omega arith in
    let first : Reads (suc c.args.level) c.args.symbols.now (expression_of c.in_ok-first.first) c.in_ok-first.rest =
    subst (λ level. Reads level c.args.symbols.now (expression_of c.in_ok-first.first) c.in_ok-first.rest) next c.in_ok-first.ensures.ok in
    if_ok _ _ c.extend.result (λ x g. ReadsChain first g) c.extend.ensures.ok

pub read_expression-returns-clause-err : goal.read_expression-returns-clause-err
read_expression-returns-clause-err t c =
    if_err _ _ c.extend.result (λ x g. fault_chained (c.args.level + 1) _ _ _ (omega arith) c.in_ok-first.ensures.ok x g)
    c.extend.ensures.err

pub read_named-returns-in_ok-boxed-in-Some-clause-ok : goal.read_named-returns-in_ok-boxed-in-Some-clause-ok
read_named-returns-in_ok-boxed-in-Some-clause-ok t c =
    let same : c.name.inside.bytes.items ≡ c.args.name.now = search rules in
    rw (same, c.in_ok-boxed-in-Some.ensures) (element_read _ _ _ _ _ c.in-Some.ensures.some c.in_ok-e-in-Some.ensures.ok)

pub read_named-returns-in-None-clause-ok : goal.read_named-returns-in-None-clause-ok
read_named-returns-in-None-clause-ok t c =
    let same : c.in_ok-name.name ≡ c.args.name.now = search rules in rw same (name_read _ _ c.in-None.ensures.none)

pub read_operand-returns-in-Number-clause-ok : goal.read_operand-returns-in-Number-clause-ok
read_operand-returns-in-Number-clause-ok t c =
    let fits : SFits w64 c.in-Number.n = search rules in simp to_z-of_z (number_read _ _ _ (search rules))

pub read_operand-returns-in-Word-eq17-clause-ok : goal.read_operand-returns-in-Word-eq17-clause-ok
read_operand-returns-in-Word-eq17-clause-ok t c =
    let e : c.args.symbols.now ≡ terminals.Word words.MORE ∷ c.in-Some.first.following = search rules in
    if_ok _ _ c.read_call.result (λ x u. rw u.1 (more_read _ _ _ e u.0)) c.read_call.ensures.ok

pub read_operand-returns-in-Word-eq18-clause-ok : goal.read_operand-returns-in-Word-eq18-clause-ok
read_operand-returns-in-Word-eq18-clause-ok t c =
    let e : c.args.symbols.now ≡ terminals.Word words.TAKE ∷ c.in-Some.first.following = search rules in
    if_ok _ _ c.read_call-in-Word-eq18.result (λ x u. rw u.1 (take_read _ _ _ e u.0)) c.read_call-in-Word-eq18.ensures.ok

pub read_operand-returns-in-Word-eq19-clause-ok : goal.read_operand-returns-in-Word-eq19-clause-ok
read_operand-returns-in-Word-eq19-clause-ok t c =
    let e : c.args.symbols.now ≡ terminals.Word words.ITER ∷ c.in-Some.first.following = search rules in
    if_ok _ _ c.read_call-in-Word-eq19.result (λ x u. rw u.1 (iter_read _ _ _ e u.0)) c.read_call-in-Word-eq19.ensures.ok

pub read_operand-returns-in-Operator-eq10-clause-ok : goal.read_operand-returns-in-Operator-eq10-clause-ok
read_operand-returns-in-Operator-eq10-clause-ok t c =
    let e : c.args.symbols.now ≡ terminals.Operator operator_codes.MINUS ∷ c.in-Some.first.following = search rules in
    if_ok _ _ c.read_unary.result (λ x u. negative_read _ _ _ _ e u) c.read_unary.ensures.ok

pub read_operand-returns-in-Sign-eq33-clause-ok : goal.read_operand-returns-in-Sign-eq33-clause-ok
read_operand-returns-in-Sign-eq33-clause-ok t c =
    let e : c.args.symbols.now ≡ terminals.Sign signs.EXCLAMATION ∷ c.in-Some.first.following = search rules in
    if_ok _ _ c.read_unary-in-Sign-eq33.result (λ x u. not_read _ _ _ _ e u) c.read_unary-in-Sign-eq33.ensures.ok

pub read_operand-returns-in-Sign-eq40-clause-ok : goal.read_operand-returns-in-Sign-eq40-clause-ok
read_operand-returns-in-Sign-eq40-clause-ok t c =
    let e : c.args.symbols.now ≡ terminals.Sign signs.OPEN_ROUND ∷ c.in-Some.first.following = search rules in
    if_ok _ _ c.read_closed.result (λ x u. bracket_read _ _ _ _ e u) c.read_closed.ensures.ok
