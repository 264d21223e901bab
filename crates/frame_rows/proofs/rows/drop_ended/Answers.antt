use Rattle.std.proofs.Common.{rules, subst, sym}
use Rattle.std.proofs.lemmas.Fn.{filter_same}
use Rattle.frame_rows.specs.AliveLists.{ListsAlive, is_alive_in}
use Rattle.frame_rows.proofs.AliveRows.{lists_kept}
use Rattle.frame_rows.proofs.rows.drop_ended.Goals as goal

pub returns-then-len-most-clause-list : goal.returns-then-len-most-clause-list
returns-then-len-most-clause-list g c = λ h.
    let kept = filter_same _ (is_alive_in c.args.rows.now) _ (λ x b f' k. search rules) _ _ c.retain.ensures.filtered in
    subst (ListsAlive c.args.rows.now) (sym kept) (lists_kept c.args.rows.now _ h)
