use Rattle.std.proofs.Common.{◌∙◌, ap, sym, subst, w64}
use Rattle.std.proofs.lemmas.Int.{to_z-of_z}
use mir.Val.{SFits}
use Rattle.cell_store.specs.ShardState.{ShardState}
use Rattle.pipe_model.specs.declared.node.NodeId.{NodeId}
use Rattle.pipe_model.specs.Pipelines.Behaviour.{write_access}
use Rattle.serial_elision.specs.Recording.{Adds, made_since}
use Rattle.serial_elision.proofs.Recording.{adds_more}
use Rattle.serial_elision.proofs.recorder.RecorderMemory.write.Goals as goal

pub invariant_of-self-2 : goal.invariant_of-self-2
invariant_of-self-2 g c =
    let log = g.B.Beginning.log in
    let was = c.self.inside.log in
    let now = record c.record_access.new.self { cells = c.write.new.self } in
    let is = c.self.invariant in
    let fits : SFits w64 c.args.value = c.ranges.value in
    let accesses = simp to_z-of_z at c.if-not-record_access.ensures.accesses in
    let cells = c.record_access.ensures.cells in
    let shard = c.write.ensures.shard ∙ ap (λ (s : ShardState). s.shard) cells in
    let written = simp to_z-of_z at c.write.ensures.state in
    let adds = subst (λ (x : NodeId). Adds x log (made_since log was) was) (sym is.node_is) (is.adds c.if-self.false) in
    let more = adds_more log was now c.self.inside.node (write_access c.args.cell.0 c.args.value) adds accesses
    (λ store before state. written store before (rw cells state)) (λ store before state kind. absurd (cc (kind))) in
    record {
      node_is = is.node_is;
      whole = record { shards = ap (λ s. s.shards) shard ∙ is.whole.shards; number = ap (λ s. s.number) shard ∙ is.whole.number };
      shard = shard ∙ is.shard;
      adds = λ open'. subst (λ (x : NodeId). Adds x log (made_since log now) now) is.node_is more;
    }
