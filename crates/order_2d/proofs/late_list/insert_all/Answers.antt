-- Each entry goes into the list, which has room for all.
use Rattle.std.proofs.Common.{◌≡◌, ◌+◌, ◌≤◌, ◌++◌, ◌∷◌, [], ◌∙◌, ℕ, List, ap, sym, arith, length, length-append, take, append_assoc, get_or}
use Rattle.std.proofs.lemmas.List.{length-take-le, take_all, take_more}
use Rattle.om_shared.proofs.PendingEntries.{pending_entry}
use Rattle.order_2d.proofs.late_list.insert_all.Goals as goal

-- how long the list is after k entries
so_far : (log old pending : List ℕ) (k : ℕ) → k ≤ length pending → log ≡ old ++ take k pending → length log ≡ length old + k
so_far log old pending k l e =
    let a = ap length e ∙ length-append old (take k pending) in
    let b = length-take-le k pending l in
    omega (arith, a, b)

pub insert_after-requires-clause-there : goal.insert_after-requires-clause-there
insert_after-requires-clause-there c =
    let below = pending_entry c.args.list.now.log c.args.pending.now c.loop-k.k c.requires.log c.loop-k-test.true in
    let long = so_far c.loop-k.list.log c.args.list.now.log c.args.pending.now c.loop-k.k c.loop-k.auto.k-end c.loop-k.invariant.log in
    omega (arith, below, long)

pub insert_after-requires-clause-room : goal.insert_after-requires-clause-room
insert_after-requires-clause-room c =
    let room = c.requires.room in
    let all = length-append c.args.list.now.log c.args.pending.now in
    let more = c.loop-k-test.true in
    let same = c.loop-k.invariant.capacity in
    let long = so_far c.loop-k.list.log c.args.list.now.log c.args.pending.now c.loop-k.k c.loop-k.auto.k-end c.loop-k.invariant.log in
    omega (arith, room, all, more, same, long)

pub loop-k-preserved : goal.loop-k-preserved
loop-k-preserved c = record {
  log = c.insert_after.ensures.log
      ∙ (ap (λ (l : List ℕ). l ++ get_or c.args.pending.now c.loop-k.k 0 ∷ []) c.loop-k.invariant.log
      ∙ (append_assoc c.args.list.now.log (take c.loop-k.k c.args.pending.now) (get_or c.args.pending.now c.loop-k.k 0 ∷ [])
      ∙ ap (λ (l : List ℕ). c.args.list.now.log ++ l) (sym (take_more c.args.pending.now c.loop-k.k 0 c.loop-k-test.true))));
  capacity = c.insert_after.ensures.capacity ∙ c.loop-k.invariant.capacity;
}

pub returns-clause-log : goal.returns-clause-log
returns-clause-log c = c.loop-k.invariant.log
    ∙ ap (λ (l : List ℕ). c.args.list.now.log ++ l) (take_all c.loop-k.k c.args.pending.now (omega (arith, c.loop-k-test.false)))
