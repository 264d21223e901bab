use Rattle.std.proofs.Common.{◌≡◌, ◌∙◌, ◌+◌, All, arith, length, subst, sym}
use Rattle.std.proofs.lemmas.List.{length_push}
use Rattle.std.proofs.lemmas.List.Elements.{All-push}
use Rattle.pipe_worker.specs.Machines.{HasMachine}
use Rattle.stage_interp.specs.MachineState.{IsMadeFor}
use Rattle.program_hall.proofs.opening.payloads.Goals as goal

pub loop-preserved : goal.loop-preserved
loop-preserved g c =
    let code = g.B.RunCode.code in
    let unchanged = c.loop.invariant.unchanged in
    let items = c.in_ok-push.ensures.items in
    let count = c.loop.invariant.count in
    let passes = c.in_ok-new.ensures.passes ∙ c.in_ok-split.ensures.new ∙ unchanged in
    record {
      unchanged = c.in_ok-split.ensures.unchanged ∙ unchanged;
      count = subst (λ xs. length xs ≡ c.loop.counter + 1) (sym items)
          (let n = length_push c.loop.payloads.items c.in_ok-new.field-0 in omega (arith, n, count));
      made = subst (All (λ x. HasMachine x.machine (IsMadeFor code))) (sym items)
          (All-push (λ x. HasMachine x.machine (IsMadeFor code)) c.loop.payloads.items c.in_ok-new.field-0 c.loop.invariant.made
          c.in_ok-new.ensures.machine);
      passes = subst (All (λ x. x.passes ≡ c.args.passes.now)) (sym items)
          (All-push (λ x. x.passes ≡ c.args.passes.now) c.loop.payloads.items c.in_ok-new.field-0 c.loop.invariant.passes passes);
    }
