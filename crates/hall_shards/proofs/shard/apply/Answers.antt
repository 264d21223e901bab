use Rattle.std.proofs.Common.{◌++◌, ◌∷◌, [], ap, sym, subst, ◌∙◌, rules}
use Rattle.std.proofs.lemmas.Int.{to_z-of_z}
use mir.Val.{SFits}
use mir.Syntax.{w64}
use Rattle.pipe_model.specs.declared.access.Access.{Access}
use Rattle.pipe_model.specs.Pipelines.Behaviour.{write_access}
use Rattle.cell_store.specs.ShardState.{IsStateAfter}
use Rattle.hall_shards.proofs.ShardAccesses.{as_write}
use Rattle.hall_shards.proofs.shard.apply.Goals as goal

pub returns-in-Write-clause-state : goal.returns-in-Write-clause-state
returns-in-Write-clause-state c =
    let fits : SFits w64 c.args.access.value = search rules in
    let num = to_z-of_z w64 c.args.access.value fits in
    λ store before h. subst (λ (a : Access). IsStateAfter store (before ++ a ∷ []) c.write.new.self)
    (ap (λ z. write_access c.args.access.cell.0 z) num ∙ sym (as_write c.args.access c.in-Write.is))
    (c.write.ensures.state store before h)

pub returns-in-Read-clause-state : goal.returns-in-Read-clause-state
returns-in-Read-clause-state c = λ store before h. c.other_accesses_change_nothing.ensures store before c.args.access c.args.cells.now
    (λ q. c.in-Read.is) h
