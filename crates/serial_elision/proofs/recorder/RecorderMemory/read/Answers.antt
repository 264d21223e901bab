use Rattle.std.proofs.Common.{◌∙◌, ap, rules, sym, subst, w64}
use Rattle.std.proofs.lemmas.Int.{to_z-of_z}
use mir.Val.{SFits}
use Rattle.cell_store.specs.ShardState.{ShardState}
use Rattle.pipe_model.specs.declared.node.NodeId.{NodeId}
use Rattle.pipe_model.specs.Pipelines.Behaviour.{read_access}
use Rattle.serial_elision.specs.Recording.{Adds, made_since}
use Rattle.serial_elision.proofs.Recording.{adds_more}
use Rattle.serial_elision.proofs.recorder.RecorderMemory.read.Goals as goal

pub invariant_of-self-else-not-record_access : goal.invariant_of-self-else-not-record_access
invariant_of-self-else-not-record_access g c =
    let log = g.B.Beginning.log in
    let was = c.self.inside.log in
    let now = c.record_access.new.self in
    let is = c.self.invariant in
    let fits : SFits w64 c.read-value.result = search rules in
    let accesses = simp to_z-of_z at c.if-not-record_access.ensures.accesses in
    let adds = subst (λ (x : NodeId). Adds x log (made_since log was) was) (sym is.node_is) (is.adds c.if-self.false) in
    let more = adds_more log was now c.self.inside.node (read_access c.args.cell.0 c.read-value.result) adds accesses
    (λ store before state. rw c.record_access.ensures.cells (c.read-value.ensures.state store before state))
    (λ store before state kind. c.read-value.ensures.value store before state) in
    record {
      node_is = is.node_is;
      whole = rw c.record_access.ensures.cells is.whole;
      shard = ap (λ (s : ShardState). s.shard) c.record_access.ensures.cells ∙ is.shard;
      adds = λ open'. subst (λ (x : NodeId). Adds x log (made_since log now) now) is.node_is more;
    }
