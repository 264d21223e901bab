use Rattle.std.proofs.Common.{◌≡◌, ◌∙◌, ℕ, suc, ◌-◌, List, [], ◌∷◌, drop, take, length, refl, ap, arith, rules, w64}
use Rattle.std.proofs.lemmas.Int.{to_z-of_z}
use mir.Val.{SFits}
use Rattle.pipe_model.specs.declared.tree.Stmt.{Stmt}
use Rattle.pipe_model.specs.Language.SyntaxTree.{statements_of}
use Rattle.wave_laws.specs.Waves.LoweredLoops.{lowered_body, lowered_test}
use Rattle.wave_laws.specs.Waves.WaveLoops.{rest_of}
use Rattle.wave_lower.proofs.wave.lower.Goals as goal

drop_none : (ss : List Stmt) → drop 0 ss ≡ ss
drop_none [] = refl
drop_none (s ∷ ss) = refl

take_whole : (ss : List Stmt) → take (length ss) ss ≡ ss
take_whole [] = refl
take_whole (s ∷ ss) = ap (λ l. s ∷ l) (take_whole ss)

one_less : (n : ℕ) → suc n - 1 ≡ n
one_less n = omega arith

rest_is : (ss : List Stmt) → statements_of (take (length ss - 1) (drop 1 ss)) ≡ rest_of (statements_of ss)
rest_is [] = refl
rest_is (s ∷ ss) =
    ap (λ l. statements_of (take (suc (length ss) - 1) l)) (drop_none ss) ∙ ap (λ n. statements_of (take n ss)) (one_less (length ss))
    ∙ ap statements_of (take_whole ss)

pub returns : goal.returns
returns c =
    let limits = c.args.program.now.limits in
    let items = c.args.program.now.body.statements.items in
    let stages_fit : SFits w64 limits.stages = search rules in
    let iterations_fit : SFits w64 limits.iterations = search rules in
    let stages = to_z-of_z w64 limits.stages stages_fit in
    let iterations = to_z-of_z w64 limits.iterations iterations_fit in
    let body = c.in_ok-lowered_body.ensures
    ∙ ap (λ z. lowered_body z (statements_of (take (length c.deref.result.now - 1) (drop 1 c.deref.result.now)))) stages
    ∙ ap (λ ss. lowered_body limits.stages (statements_of (take (length ss - 1) (drop 1 ss)))) c.deref.ensures.value
    ∙ ap (lowered_body limits.stages) (rest_is items) in
    let test = c.in_ok-lowered_test.ensures ∙ ap lowered_test iterations in
    λ i. record {
      limits = limits;
      cells = c.in_ok-copy_declarations.ensures i;
      init = c.in_ok-copy_block.ensures i;
      test = test i;
      body = body i;
      last = c.in_ok-copy_block-2.ensures i;
    }
