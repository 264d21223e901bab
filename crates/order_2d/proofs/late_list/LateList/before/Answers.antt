-- All insertions have been made when the list is asked.
use Rattle.std.proofs.Common.{◌≡◌, ◌≤◌, ◌↔◌, ◌∙◌, ◌++◌, List, ℕ, ap, sym, subst, length, IsTrue}
use Rattle.pipe_model.specs.Orders.OrderList.{IsBeforeIn, list_of_log}
use Rattle.order_2d.specs.OrderPairs.{OrderedList}
use Rattle.order_2d.proofs.late_list.LateList.before.Goals.{After-insert_all}
use Rattle.order_2d.proofs.late_list.LateList.before.Goals as goal

-- the list has the log that was seen
module _ (c : After-insert_all) where
  whole : c.insert_all.new.list.log ≡ c.args.self.now.log
  whole = c.insert_all.ensures.log ∙ (ap (λ (l : List ℕ). c.self.inside.list.log ++ l) c.as_slice.ensures.value
      ∙ ap (λ (l : OrderedList). l.log) c.self.view_is)

pub before-requires-clause-first : goal.before-requires-clause-first
before-requires-clause-first c = subst (λ (l : List ℕ). c.args.x ≤ length l)
    (sym (whole (goal.at.before-requires-clause-first c).After-insert_all)) c.requires.first

pub before-requires-clause-second : goal.before-requires-clause-second
before-requires-clause-second c = subst (λ (l : List ℕ). c.args.y ≤ length l)
    (sym (whole (goal.at.before-requires-clause-second c).After-insert_all)) c.requires.second

pub returns-clause-order : goal.returns-clause-order
returns-clause-order c = subst (λ (l : List ℕ). IsTrue c.before-2.result ↔ IsBeforeIn (list_of_log l) c.args.x c.args.y)
    (whole (goal.at.returns-clause-order c).After-insert_all) c.before-2.ensures
