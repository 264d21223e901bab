use Rattle.std.proofs.Common.{◌≡◌, ◌∙◌, ◌++◌, ◌+◌, ◌<◌, ◌%◌, ap, arith, length, refl, subst, sym}
use Rattle.std.proofs.lemmas.List.{get_or_default}
use Rattle.cell_store.specs.ShardState.{IsStateAfter, Shard}
use Rattle.hall_calls.specs.Closing.{no_shard}
use Rattle.hall_shards.specs.ShardValues.{ShardValue}
use Rattle.pipe_engine.proofs.CollectedCells.{all_cells, below, next_cell, no_cell}
use Rattle.pipe_engine.proofs.final_cells.collect.Goals as goal

pub loop-cell-init : goal.loop-cell-init
loop-cell-init c = record { state = λ store before run was shards. no_cell store before run c.args.cells.now was; shard = refl }

pub loop-cell-preserved : goal.loop-cell-preserved
loop-cell-preserved c =
    let cell = c.loop-cell.cell in
    let all = c.requires.all in
    let within : cell % 16 < length c.args.shards.now = omega (arith, all) in
    let own = c.index-shards-cell.is
    ∙ get_or_default c.args.shards.now (cell % 16) c.index-shards-cell.result no_shard within in
    record {
      state = λ store before run was shards.
          c.copy_from.ensures.state store (before ++ below cell run) (before ++ run) (before ++ below (cell + 1) run)
          (c.loop-cell.invariant.state store before run was shards)
          (subst (IsStateAfter store (before ++ run)) (sym (c.cells.ensures ∙ ap (λ (x : ShardValue). x.cells) own))
          (shards (cell % 16) (omega arith)))
          (next_cell store before run cell);
      shard = c.copy_from.ensures.shard ∙ c.loop-cell.invariant.shard;
    }

pub returns-clause-state : goal.returns-clause-state
returns-clause-state c = λ store before run was shards.
    let cells = c.loop-cell.cells in
    let count : cells.shard.cells ≡ c.args.count = ap (λ (s : Shard). s.cells) c.loop-cell.invariant.shard ∙ c.requires.count in
    let output = c.requires.output in
    let least = c.loop-cell-test.false in
    let most = c.loop-cell.auto.cell-end in
    let last : c.loop-cell.cell ≡ cells.shard.cells = omega (arith, count, least, most) in
    all_cells store before run cells (omega (arith, count, output))
    (subst (λ n. IsStateAfter store (before ++ below n run) cells) last (c.loop-cell.invariant.state store before run was shards))
