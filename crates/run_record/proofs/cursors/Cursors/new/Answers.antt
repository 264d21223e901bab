use Rattle.std.proofs.Common.{◌≡◌, ◌∙◌, ◌++◌, ◌∷◌, [], ℕ, zero, suc, List, Option, None, ap, get_or, length, map, refl, replicate}
use Rattle.std.proofs.Common.{slice_index, subst, sym, take}
use Rattle.std.proofs.lemmas.List.{length-map, length-replicate, map-append, take_all, take_more}
use Rattle.pipe_model.specs.declared.ticket.ShardEntry.{ShardEntry}
use Rattle.run_record.specs.LogCursors.{IsFirst, shard_ticket, ticket_at}
use Rattle.run_record.specs.MergedLogs.{shard_at}
use Rattle.run_record.proofs.cursors.Cursors.new.Goals as goal

-- the ticket of the first entry of a shard
abbrev first_ticket : List ShardEntry → Option ℕ
first_ticket shard = shard_ticket shard 0

tickets_at : (shards : List (List ShardEntry)) (k : ℕ) → ticket_at (map first_ticket shards) k ≡ first_ticket (shard_at shards k)
tickets_at [] k = refl
tickets_at (s ∷ ss) zero = refl
tickets_at (s ∷ ss) (suc k) = tickets_at ss k

zeros_at : (n k : ℕ) → slice_index (replicate n 0) k ≡ 0
zeros_at zero k = refl
zeros_at (suc n) zero = refl
zeros_at (suc n) (suc k) = zeros_at n k

pub loop-shard-preserved : goal.loop-shard-preserved
loop-shard-preserved c =
    let shards = c.args.shards.now in
    let i = c.loop-shard.shard-index in
    let shard = get_or shards i c.shard-item.result in
    let here : c.ticket_in_shard.result ≡ first_ticket shard = c.ticket_in_shard.ensures
    ∙ ap first_ticket (c.as_slice.ensures ∙ c.shard-item.is) in
    c.in_ok-push.ensures.items
    ∙ ap (λ l. l ++ c.ticket_in_shard.result ∷ []) c.loop-shard.invariant
    ∙ ap (λ t. map first_ticket (take i shards) ++ t ∷ []) here
    ∙ sym (map-append first_ticket (take i shards) (shard ∷ []))
    ∙ ap (map first_ticket) (sym (take_more shards i c.shard-item.result c.loop-shard-test.true))

pub returns-clause-starts : goal.returns-clause-starts
returns-clause-starts c = record {
  book = refl;
  shards = λ k. ap (λ l. slice_index l k) (c.in_ok-starts.ensures.items_if_clones_equal (λ y e. e)) ∙ zeros_at _ k;
}

pub returns-clause-cursors : goal.returns-clause-cursors
returns-clause-cursors c =
    let shards = c.args.shards.now in
    let starts = c.in_ok-starts.ensures.items_if_clones_equal (λ y e. e) in
    let tickets : c.loop-shard.tickets.items ≡ map first_ticket shards = c.loop-shard.invariant
    ∙ ap (map first_ticket) (take_all c.loop-shard.shard-index shards c.loop-shard-test.false) in
    record {
      cursors = ap length starts ∙ length-replicate _ 0;
      tickets = ap length tickets ∙ length-map shards first_ticket;
      are = λ k. ap (λ l. ticket_at l k) tickets ∙ tickets_at shards k
          ∙ ap (shard_ticket (shard_at shards k)) (sym (ap (λ l. slice_index l k) starts ∙ zeros_at _ k));
      first = subst (λ t. IsFirst None t (length t) c.next_log-first.result) c.as_slice-2.ensures.value c.next_log-first.ensures;
    }
