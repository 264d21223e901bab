use Rattle.std.proofs.Common.{◌≡◌, ◌∙◌, ◌+◌, ◌++◌, ◌∷◌, [], ap, ap₂, append-nil, get_or, sym, take}
use Rattle.std.proofs.lemmas.Grind.{flat_map-append}
use Rattle.std.proofs.lemmas.List.{take_more}
use Rattle.hall_shards.specs.FoundRaces.{found_by, found_in}
use Rattle.hall_shards.proofs.found.found_by.Goals as goal

pub loop-shard-preserved : goal.loop-shard-preserved
loop-shard-preserved c =
    let shards = c.args.shards.now in
    let i = c.loop-shard.shard-index in
    let x = get_or shards i c.shard-item.result in
    let longer : found_by (take (i + 1) shards) ≡ found_by (take i shards) ++ found_in x =
    ap found_by (take_more shards i c.shard-item.result c.loop-shard-test.true) ∙ flat_map-append found_in (take i shards) (x ∷ [])
    ∙ ap (λ l. found_by (take i shards) ++ l) (append-nil (found_in x)) in
    c.in_ok-extend_from_slice.ensures.items ∙ ap₂ (λ xs ys. xs ++ ys) c.loop-shard.invariant
    (c.as_slice.ensures.value ∙ c.in_ok-races.ensures ∙ ap found_in c.shard-item.is) ∙ sym longer
