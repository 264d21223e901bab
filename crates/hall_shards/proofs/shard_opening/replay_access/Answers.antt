use Rattle.std.proofs.Common.{◌≡◌, ◌∙◌, ◌++◌, ◌∷◌, ◌%◌, [], ap, arith, rules, subst, sym}
use Rattle.std.proofs.lemmas.Int.{to_z-of_z}
use mir.Val.{SFits}
use mir.Syntax.{w64}
use Rattle.pipe_model.specs.declared.access.Access.{Access}
use Rattle.pipe_model.specs.Pipelines.Behaviour.{write_access}
use Rattle.cell_store.specs.ShardState.{IsStateAfter}
use Rattle.hall_shards.proofs.ShardAccesses.{as_write}
use Rattle.hall_shards.proofs.ReplayedAccesses.{missing_cell}
use Rattle.hall_shards.proofs.shard_opening.replay_access.Goals as goal

pub returns-then-count-access-clause-state : goal.returns-then-count-access-clause-state
returns-then-count-access-clause-state c = λ store before h.
    missing_cell store before c.args.access c.args.cells.now (omega arith) (omega arith) h

pub returns-then-access-number-clause-state : goal.returns-then-access-number-clause-state
returns-then-access-number-clause-state c = λ store before h.
    c.other_accesses_change_nothing.ensures store before c.args.access c.args.cells.now
    (λ own. let e : c.args.access.cell.0 % 16 ≡ c.args.number = ap (λ n. c.args.access.cell.0 % n) (sym c.requires.shards) ∙ own
    ∙ c.requires.number in
    absurd (omega arith)) h

pub returns-in-Write-clause-state : goal.returns-in-Write-clause-state
returns-in-Write-clause-state c =
    let fits : SFits w64 c.args.access.value = search rules in
    let num = to_z-of_z w64 c.args.access.value fits in
    λ store before h. subst (λ (a : Access). IsStateAfter store (before ++ a ∷ []) c.write.new.self)
    (ap (λ z. write_access c.args.access.cell.0 z) num ∙ sym (as_write c.args.access c.in-Write.is)) (c.write.ensures.state store before h)

pub returns-in-Read-clause-state : goal.returns-in-Read-clause-state
returns-in-Read-clause-state c = λ store before h.
    c.other_accesses_change_nothing-in-Read.ensures store before c.args.access c.args.cells.now (λ _. c.in-Read.is) h
