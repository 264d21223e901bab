use Rattle.std.proofs.Common.{◌≡◌, ◌<◌, ◌∙◌, ◌++◌, ◌∷◌, ap, arith, length, pos, rules, sym, w64, List, ℤ, replicate, take}
use Rattle.std.proofs.lemmas.List.{take_all}
use mir.Val.{SFits}
use Rattle.std.proofs.lemmas.Int.{to_z-of_z}
use Rattle.pipe_model.specs.declared.tree.Declaration.{Declaration}
use Rattle.pipe_model.specs.Language.Programs.{declared_size, declared_values}
use Rattle.cell_store.proofs.DeclaredCells.{resized, size_within, values_length, values_take_more}
use Rattle.cell_store.proofs.initial_values.initial_values.Goals as goal

pub declared_cells-requires-clause-bounded : goal.declared_cells-requires-clause-bounded
declared_cells-requires-clause-bounded c =
    let inside : c.loop-declaration.declaration-index < length c.args.cells.now = omega arith in
    let within = size_within c.args.cells.now c.loop-declaration.declaration-index c.declaration-item.result inside in
    let same = ap (λ (d : Declaration). declared_size d.size) c.declaration-item.is in
    omega (arith, within, same)

pub overflow_add-len : goal.overflow_add-len
overflow_add-len c =
    let vs = c.loop-declaration.values in
    let inside : c.loop-declaration.declaration-index < length c.args.cells.now = omega arith in
    let within = size_within c.args.cells.now c.loop-declaration.declaration-index c.declaration-item.result inside in
    let same = ap (λ (d : Declaration). declared_size d.size) c.declaration-item.is in
    omega (arith, within, same, vs.small, vs.ok.1)

pub loop-declaration-preserved : goal.loop-declaration-preserved
loop-declaration-preserved c =
    let i = c.loop-declaration.declaration-index in
    let d = c.declaration-item.result in
    let vs = c.loop-declaration.values in
    let inside : i < length c.args.cells.now = omega arith in
    let fits : SFits w64 d.value = search rules in
    let more = values_take_more c.args.cells.now i d inside c.declaration-item.is in
    (simp to_z-of_z at c.in_ok-resize.ensures.items)
    ∙ resized vs.items c.len.result _ c.declared_cells.result d.value (c.len.ensures ∙ vs.ok.0) vs.ok.0
    ∙ ap (λ n. vs.items ++ replicate n d.value) c.declared_cells.ensures
    ∙ ap (λ (l : List ℤ). l ++ replicate (declared_size d.size) d.value) c.loop-declaration.invariant
    ∙ ap (λ (l : List ℤ). pos 0 ∷ (pos 0 ∷ l)) (sym more)

pub returns-clause-len : goal.returns-clause-len
returns-clause-len c =
    let all : take c.loop-declaration.declaration-index c.args.cells.now ≡ c.args.cells.now = take_all _ _ (omega arith) in
    ap length c.loop-declaration.invariant ∙ ap (λ ds. length (pos 0 ∷ (pos 0 ∷ declared_values ds))) all
    ∙ omega (arith, values_length c.args.cells.now)
