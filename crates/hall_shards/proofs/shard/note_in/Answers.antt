use Rattle.std.proofs.Common.{◌≡◌, get_or, set, sym, subst, ◌∙◌, length-set, get_or-set_same}
use Rattle.access_history.specs.declared.history.History.{History}
use Rattle.access_history.specs.KeptInstances.{KeepsAmong, KeptAreIn, nothing_kept}
use Rattle.hall_shards.specs.Accesses.{IsNotedStep}
use Rattle.hall_shards.specs.ShardValues.{down_list, right_list}
use Rattle.hall_shards.proofs.ListItems.{get_any, set_other}
use Rattle.hall_shards.proofs.shard.note_in.Goals as goal

pub returns : goal.returns
returns g c =
    let hs = c.args.histories.now.items in
    let slot = c.args.slot in
    let new = c.note_at.new.history in
    let old : c.index_mut.result.now ≡ get_or hs slot nothing_kept = c.index_mut.ensures.value
    ∙ get_any hs slot c.index_mut.result.now nothing_kept c.requires.there in
    let after : get_or (set hs slot new) slot nothing_kept ≡ new = get_or-set_same hs slot new nothing_kept c.requires.there in
    record {
      noted = record {
        lists = record { identities = c.note_at.ensures.identities; down = c.note_at.ensures.down; right = c.note_at.ensures.right };
        len = length-set hs slot new;
        others = λ n ne. set_other hs slot n new nothing_kept ne;
        each = subst (λ (k : History). KeepsAmong (get_or hs slot nothing_kept) c.args.who k) (sym after)
            (subst (λ (h : History). KeepsAmong h c.args.who new) old c.note_at.ensures.each);
        step = subst (λ (k : History). IsNotedStep c.args.who c.args.joined c.args.kind c.args.passes.now (get_or hs slot nothing_kept) k)
            (sym after) (subst (λ (h : History). IsNotedStep c.args.who c.args.joined c.args.kind c.args.passes.now h new) old
            c.note_at.ensures.step);
      };
    }

pub note_at-requires-clause-kept : goal.note_at-requires-clause-kept
note_at-requires-clause-kept g c =
    let old : c.index_mut.result.now ≡ get_or c.args.histories.now.items c.args.slot nothing_kept = c.index_mut.ensures.value
    ∙ get_any c.args.histories.now.items c.args.slot c.index_mut.result.now nothing_kept c.requires.there in
    subst (λ (h : History). KeptAreIn (down_list c.args.passes.now) (right_list c.args.passes.now) h) (sym old) c.requires.kept
