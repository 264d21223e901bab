use Rattle.std.proofs.Common.{◌≡◌, ◌<◌, arith, rules, inl, inr, length, subst}
use Rattle.std.proofs.lemmas.Bool.{cases_lt}
use Rattle.pipe_model.specs.Races.CellRaces.{RacesAt}
use Rattle.dag_build.specs.RacingAccesses.{noted_all}
use Rattle.dag_build.proofs.FrontLaws.{fronts_moved, fronts_grown, joined_fronts-column}
use Rattle.dag_build.proofs.dag.Dag.first_race.Goals as goal

pub racing_before-requires-clause-fronts : goal.racing_before-requires-clause-fronts
racing_before-requires-clause-fronts c =
    let moved = c.moved-fronts.ensures in
    fronts_moved _ _ _ _ _ _ c.loop-later.invariant.1 moved.column moved.writes moved.accesses

pub loop-later-preserved : goal.loop-later-preserved
loop-later-preserved c =
    let moved = c.moved-fronts.ensures in
    let fronts = fronts_moved _ _ _ _ _ _ c.loop-later.invariant.1 moved.column moved.writes moved.accesses in
    let within : c.loop-later.later < length c.args.accesses.now = omega arith in (
      rw (c.joined-fronts.ensures, joined_fronts-column, moved.column) (search rules),
      fronts_grown _ _ _ _ _ _ _ within fronts c.joined-fronts.ensures c.moved-here.ensures,
      λ n k l r. elim (cases_lt n c.loop-later.later) [
        | inl less ↦ c.loop-later.invariant.2 n k less r
        | inr past ↦ (
            let here : n ≡ c.loop-later.later = omega (arith, l, past) in
            c.in_default.ensures.none k (subst (λ m. RacesAt c.args.self.now (noted_all c.args.accesses.now) m k) here r))
      ],
    )
