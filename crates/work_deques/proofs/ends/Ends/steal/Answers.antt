use Rattle.std.proofs.Common.{◌≡◌, ◌∙◌, [], ap, refl}
use Rattle.std.proofs.Math.Seq.{map-set_same}
use Rattle.work_deques.proofs.EndCalls.{either_option, other_tally, stolen}
use Rattle.work_deques.specs.Tallies.{tally}
use Rattle.work_deques.specs.WorkerEnds.{deque_of_front, parts_of_front, tally_of_front}
use Rattle.work_deques.specs.declared.tally.Tally.{Tally}
use Rattle.work_deques.proofs.ends.Ends.steal.Goals as goal

pub returns-clause-front : goal.returns-clause-front
returns-clause-front g c =
    let fronts = c.args.self.now.fronts in
    stolen (tally_of_front {T = g.row.T.Denot} {Q = g.row.Q.Denot}) fronts.items c.args.victim c.steal.new.self
    (tally 0 [] []) c.steal.result g.Q.TaskTest.tag
    c.index_mut.result.now c.requires.victim c.index_mut.ensures.value c.steal.ensures.tally

pub returns-clause-others : goal.returns-clause-others
returns-clause-others g c = other_tally (tally_of_front {T = g.row.T.Denot} {Q = g.row.Q.Denot}) c.args.self.now.fronts.items c.args.victim
    c.steal.new.self (tally 0 [] [])

pub returns-clause-deques : goal.returns-clause-deques
returns-clause-deques g c =
    let items = c.args.self.now.fronts.items in
    let deque = deque_of_front {T = g.row.T.Denot} {Q = g.row.Q.Denot} in
    let parts = parts_of_front {T = g.row.T.Denot} {Q = g.row.Q.Denot} in
    let same : parts c.steal.new.self ≡ parts c.index_mut.result.now = either_option c.steal.result _ _ c.steal.ensures.tally
    (parts c.steal.new.self ≡ parts c.index_mut.result.now)
    (λ h. ap (λ (v : Tally). v.parts) h) (λ _ h. ap (λ (v : Tally). v.parts) h) in
    record {
      own = refl;
      fronts = map-set_same deque items c.args.victim c.steal.new.self c.index_mut.result.now
          (c.steal.ensures.deque ∙ ap deque c.index_mut.ensures.value);
      own_parts = refl;
      front_parts = map-set_same parts items c.args.victim c.steal.new.self c.index_mut.result.now
          (same ∙ ap parts c.index_mut.ensures.value);
    }
