use Rattle.std.proofs.Common.{ap, sym, ◌∙◌}
use Rattle.pipe_frame.specs.Ties.{SeenLists}
use Rattle.order_2d.proofs.QuestionIdentities.{same_identities, same_name}
use Rattle.hall_shards.proofs.shard.note_at.Goals as goal

pub returns-then-asks-clause-identities : goal.returns-then-asks-clause-identities
returns-then-asks-clause-identities g c =
    let e = c.passes-1.given.1 (sym (same_name _ _ _ _ _ _ c.note_joined.ensures.unchanged)) in
    let s = same_identities _ _ _ _ _ _ c.note_joined.ensures.unchanged in
    (ap (λ (l : SeenLists). l.down) e ∙ s.0, ap (λ (l : SeenLists). l.right) e ∙ s.1)
