use Rattle.std.proofs.Common.{◌∙◌, ◌++◌, ◌∷◌, [], ℕ, ℤ, List, subst, sym, ap}
use Rattle.instance_laws.proofs.InstanceEnds.{after_instances-push, has_ended, stops_only}
use Rattle.pipe_frame.specs.Replies.{IsPerformed, after_instances, replies_of}
use Rattle.pipe_frame.specs.SeatedTokens.{IsSeated, seated_entries, seated_replies}
use Rattle.pipe_frame.specs.TokenFields.{fields_of}
use Rattle.pipe_model.specs.declared.access.Access.{Access}
use Rattle.pipe_model.specs.Language.Programs.{pipeline_of}
use Rattle.pipe_worker.specs.HeldInstances.{MemoryState}
use Rattle.pipe_worker.specs.Machines.{CanRun, HasMachine, IsAtInstance, cells_of}
use Rattle.stage_code.specs.FlatCode.{FlatCode}
use Rattle.stage_interp.specs.RemainingBehaviour.{RanInstance, Represents}
use Rattle.pipe_worker.proofs.instance.run_instance.Goals as goal

pub returns-clause-advances : goal.returns-clause-advances
returns-clause-advances g c =
    let named = g.J.RunningInstance.named in
    let i = g.J.RunningInstance.iteration in
    let given = g.J.RunningInstance.replies in
    let tree = named.tree in
    let input = named.input in
    let code = g.M.Runs.code in
    let old = c.args.token in
    let token = c.finish-lent.result.1 in
    let trace = c.finish-lent.result.2 in
    let end = c.run_stage_by-end.result.0 in
    let payload = c.put_machine.new.self in
    let fresh = c.take_machine-machine.result in
    let machine = c.run_stage_by-end.new.machine in
    let first = c.new-memory.result in
    let last = c.run_stage_by-end.new.memory in
    let d = (pipeline_of tree input).behaviour i in
    let ready = subst (λ (r : List (List ℤ)). g.M.Stands.ready_at tree input old.payload i r) c.requires.replies
    (subst (λ (n : ℕ). g.M.Stands.ready_at tree input old.payload n (seated_replies (g.M.Stands.tie old.payload))) c.requires.iteration
    c.requires.given.ready) in
    let at = subst (λ h. HasMachine h (λ m. IsAtInstance code tree input m i given)) c.take_machine-machine.ensures.machine
    (g.met.M.Runs.machine_ready tree input old.payload i given ready) in
    let before = subst (λ (x : List ℤ). Represents c.args.code.now (cells_of tree) x fresh.run (after_instances d given))
    (sym c.requires.drives.input_is)
    (subst (λ (x : FlatCode). Represents x (cells_of tree) input fresh.run (after_instances d given))
    (sym c.requires.drives.code_is) at.represents) in
    let ran = c.run_stage_by-end.ensures.ran (after_instances d given) before in
    let ran_here = subst (λ (x : List ℤ). RanInstance code (cells_of tree) x (after_instances d given) first.made last.made machine.run
    end) c.requires.drives.input_is
    (subst (λ (x : FlatCode). RanInstance x (cells_of tree) c.args.input.now (after_instances d given) first.made last.made machine.run
    end) c.requires.drives.code_is ran) in
    let from_empty = subst (λ (m : MemoryState). RanInstance code (cells_of tree) input (after_instances d given) m.made last.made
    machine.run end)
    c.new-memory.ensures ran_here in
    let ended = has_ended code (cells_of tree) input (after_instances d given) machine.run trace end
    (subst (λ (l : List Access). RanInstance code (cells_of tree) input (after_instances d given) [] l machine.run end)
    c.finish-lent.ensures.made from_empty) in
    let can : CanRun code tree machine = record { code_of = at.can.code_of; made = c.run_stage_by-end.ensures.made code at.can.made } in
    let held = c.finish-lent.ensures.held in
    let tie = c.put_machine.ensures.tie in
    let is_there = c.put_machine.ensures.machine in
    let after = seated_replies (g.M.Stands.tie payload) in
    let replies = ap seated_replies tie ∙ held.replies_are in
    record {
      out = subst (IsSeated named (fields_of token)) (sym tie) held.out;
      entries = held.entries ∙ ap seated_entries (sym tie);
      whole = g.met.M.Runs.by_machine tree payload (subst (λ h. HasMachine h (CanRun code tree)) (sym is_there) can);
      performs = subst (λ (r : List (List ℤ)). IsPerformed (pipeline_of tree input) token.iteration r trace end) (sym replies)
          (subst (λ (n : ℕ). IsPerformed (pipeline_of tree input) n given trace end) (sym held.iteration_is) ended.performs);
      ready = λ names. g.met.M.Runs.ready_by_machine tree input payload token.iteration (after ++ replies_of trace ∷ [])
          (subst (λ h. HasMachine h (λ m. IsAtInstance code tree input m token.iteration (after ++ replies_of trace ∷ []))) (sym is_there)
          (subst (λ (r : List (List ℤ)). IsAtInstance code tree input machine token.iteration (r ++ replies_of trace ∷ [])) (sym replies)
          (subst (λ (n : ℕ). IsAtInstance code tree input machine n (given ++ replies_of trace ∷ [])) (sym held.iteration_is)
          (record {
            can = can;
            represents = subst (Represents code (cells_of tree) input machine.run) (sym (after_instances-push d given (replies_of trace)))
                (ended.represents names);
          }))));
      stopped = λ is. c.finish-lent.ensures.stopped (stops_only end last.stopped is c.run_stage_by-end.ensures.stops);
    }
