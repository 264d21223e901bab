-- The links both ways and the labels with the new element.
use Rattle.std.proofs.Common.{◌∙◌, ap}
use Rattle.om_list.specs.KeptLists.{links_back}
use Rattle.om_list.proofs.Insertions.{labelled_inserted, list_inserted}
use Rattle.om_list.proofs.insertion.insert_labelled.Goals as goal

pub returns-clause-labelled : goal.returns-clause-labelled
returns-clause-labelled c =
    let links = c.args.links.now in
    let r = c.requires in
    labelled_inserted links record { next = c.link_after-after.new.next; prev = c.link_back.new.prev; label = c.push_reserved.new.self }
    r.labelled c.args.x c.args.label record {
      next = c.link_after-after.ensures.links;
      prev = c.link_back.ensures.links ∙ ap (links_back links.prev.items c.args.x) c.link_after-after.ensures.after;
      labels = c.push_reserved.ensures.items;
    } r.there r.above r.below r.bounded

pub returns-clause-list : goal.returns-clause-list
returns-clause-list c =
    let links = c.args.links.now in
    let r = c.requires in
    list_inserted links record { next = c.link_after-after.new.next; prev = c.link_back.new.prev; label = c.push_reserved.new.self }
    r.labelled c.args.x c.args.label record {
      next = c.link_after-after.ensures.links;
      prev = c.link_back.ensures.links ∙ ap (links_back links.prev.items c.args.x) c.link_after-after.ensures.after;
      labels = c.push_reserved.ensures.items;
    } r.there
