use Rattle.std.proofs.Common.{◌<◌, arith, get_or, length, pos, subst, set, sym, take, ◌∙◌}
use Rattle.std.proofs.lemmas.List.{get_or_default, take_more}
use Rattle.pipe_model.specs.declared.access.AccessKind.TheVariants.{Read}
use Rattle.pipe_model.specs.declared.access.NodeAccess.{NodeAccess}
use Rattle.pipe_model.specs.Races.CellRaces.{accesses_to}
use Rattle.dag_build.specs.AccessFronts.{AreFronts}
use Rattle.dag_build.specs.ClearAccesses.{AreClear, no_fronts}
use Rattle.dag_build.proofs.CellGroups.{cell_of}
use Rattle.dag_build.proofs.ClearLaws.{clear_more}
use Rattle.dag_build.proofs.dag.Dag.are_clear.Goals as goal

pub loop-access-preserved : goal.loop-access-preserved
loop-access-preserved c =
    let s = c.loop-access in
    let accesses = c.args.accesses.now in
    let columns = c.args.self.now in
    let none : NodeAccess = record {
      node = record { iteration = 0; index = 0 };
      access = record { cell = record { 0 = 0 }; kind = Read; value = pos 0 };
    } in
    let access = get_or accesses s.access-index none in
    let w : cell_of access < length c.extend.new.fronts.items = omega (arith, c.in_ok-extend.ensures.count) in
    let noted = accesses_to (cell_of access) (take s.access-index accesses) in
    let here : AreFronts columns noted (length noted) (get_or c.extend.new.fronts.items (cell_of access) no_fronts) =
    subst (AreFronts columns noted (length noted)) (sym (c.in_ok-extend.ensures.fronts (cell_of access)))
    (s.invariant.fronts (cell_of access)) in
    let there : AreFronts columns noted (length noted) c.index.result.now =
    subst (AreFronts columns noted (length noted))
    (get_or_default c.extend.new.fronts.items (cell_of access) no_fronts _ w ∙ sym c.index.ensures) here in
    subst (λ l. AreClear columns l (set c.extend.new.fronts.items (cell_of access) c.in-Some.after))
    (sym (take_more accesses s.access-index none c.loop-access-test.true))
    (clear_more columns (take s.access-index accesses) s.fronts.items c.extend.new.fronts.items access c.in-Some.after
    s.invariant (c.in-Some.ensures noted there) w c.in_ok-extend.ensures.fronts)
