use Rattle.std.proofs.Common.{◌≡◌, ◌∙◌, ◌+◌, ◌++◌, ◌∷◌, [], All, ap, arith, length, subst, sym}
use Rattle.std.proofs.lemmas.List.{length_push}
use Rattle.std.proofs.lemmas.List.Elements.{All-push}
use Rattle.stage_interp.specs.MachineState.{IsMadeFor}
use Rattle.schedule_play.proofs.opening.runners.Goals as goal

pub loop-preserved : goal.loop-preserved
loop-preserved g c =
    let code = g.B.PlayedCode.code in
    let runners = c.loop.runners.items in
    let runner = c.in_ok-runner.runner in
    let count = c.loop.invariant.0 in
    let items = c.push_reserved.ensures.items ∙ ap (λ l. l ++ runner ∷ []) c.in_ok-reserve.ensures.items in (
      subst (λ xs. length xs ≡ c.loop.counter + 1) (sym items) (let n = length_push runners runner in omega (arith, n, count)),
      subst (All (λ x. IsMadeFor code x.machine)) (sym items)
          (All-push (λ x. IsMadeFor code x.machine) runners runner c.loop.invariant.1 c.in_ok-runner.ensures),
    )

pub returns-clause-count : goal.returns-clause-count
returns-clause-count g c =
    let count = c.loop.invariant.0 in
    let past = c.loop-test.false in
    let within = c.loop.auto.counter-end in
    omega (arith, count, past, within)

pub returns-clause-made : goal.returns-clause-made
returns-clause-made g c = c.loop.invariant.1
