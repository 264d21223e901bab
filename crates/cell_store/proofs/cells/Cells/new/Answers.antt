use Rattle.std.proofs.Common.{◌≡◌, ◌∙◌, ◌+◌, ◌*◌, ◌<◌, ◌≤◌, ◌∷◌, ap, arith, get_or, length, pos, refl, subst, sym, List, ℕ, ℤ}
use Rattle.pipe_model.specs.declared.tree.Program.{Program}
use Rattle.pipe_model.specs.Language.Programs.{declared_values, natural, store_of}
use Rattle.pipe_model.specs.Language.SyntaxTree.{tree_of}
use Rattle.pipe_model.specs.Pipelines.Store.{InitialStore}
use Rattle.cell_store.proofs.DeclaredCells.{values_length}
use Rattle.cell_store.proofs.FreshShards.{is_fresh}
use Rattle.cell_store.proofs.cells.Cells.new.Goals as goal

pub returns-clause-state : goal.returns-clause-state
returns-clause-state c =
    let program = c.program-program.ensures.program in
    let same = c.as_slice.ensures ∙ ap (λ (p : Program). p.cells) program in
    let store : InitialStore = store_of (tree_of c.args.checked.now) in
    let all : c.as_slice-2.result.now ≡ store.values =
    c.as_slice-2.ensures.value ∙ c.in_ok-all.ensures.values ∙ ap (λ ds. pos 0 ∷ (pos 0 ∷ declared_values ds)) same in
    let shard = c.args.shard in
    let shards = c.args.shards in
    let values = c.in_ok-values_of_shard.field-0.items in
    let count = c.cell_count-cells.ensures.count in
    let cells : c.cell_count-cells.result ≡ length store.values = omega (arith, values_length c.args.checked.now.cells) in
    let complete = subst (λ (l : List ℤ). length l ≤ shard + shards * length values) all c.in_ok-values_of_shard.ensures.complete in
    let taken = subst (λ (l : List ℤ). (slot : ℕ) → slot < length values → get_or values slot (pos 0) ≡ get_or l (shard + shards * slot)
    (pos 0)) all
    c.in_ok-values_of_shard.ensures.values in
    is_fresh store _ cells (c.output_limit-output_limit.ensures ∙ ap (λ (p : Program). natural p.limits.emits) program) refl
    (subst (λ n. n ≤ shard + shards * length values) (sym cells) complete) taken c.in_ok-with_capacity.ensures.items
