use Rattle.std.proofs.Common.{◌≡◌, ◌∙◌, ◌+◌, ◌<◌, ap, sym, subst, refl, length, nat_lt, take, false}
use Rattle.pipe_model.specs.declared.tree.Program.{Program}
use Rattle.pipe_model.specs.Language.CheckingRules.{BreaksNoRule}
use Rattle.pipe_model.specs.Language.SyntaxTree.{tree_of}
use Rattle.pipe_model.specs.Runs.RunLogs.{state_after}
use Rattle.schedule_play.specs.PlayStates.{pipeline_played}
use Rattle.serial_elision.proofs.Results.{map_ok}
use Rattle.record_check.specs.CheckedLoops.{IsLoopAnswer, IsNoRun, with_stop}
use Rattle.record_check.proofs.CheckedRuns.{all_events, all_followed, no_stops, refused_after, refused_before}
use Rattle.record_check.proofs.NextEvents.{same_pipeline}
use Rattle.record_check.proofs.check_loop.check_on.Goals as goal

pub follow-requires : goal.follow-requires
follow-requires g c = record {
  code = c.requires.code;
  input = c.requires.input;
  play = c.requires.play;
  new = c.requires.new;
  going = no_stops c.args.events.now c.first_stop-stop.result c.first_stop-stop.ensures;
}

pub returns-then-count-stop : goal.returns-then-count-stop
returns-then-count-stop g c =
    let events = c.args.events.now in
    let n = c.first_stop-stop.result in
    let v = c.args.player in
    IsNoRun c.in-Ok.count (refused_before (pipeline_played v) v.book.limit events (take n events) n c.in-Ok.count c.first_stop-stop.ensures
    refl c.if-count-stop.true c.in-Ok.ensures.followed)

pub returns-then-stop-events : goal.returns-then-stop-events
returns-then-stop-events g c =
    let events = c.args.events.now in
    let n = c.first_stop-stop.result in
    let v = c.args.player in
    let p = pipeline_played v in
    let first = c.first_stop-stop.ensures in
    let all = all_followed p v.book.limit events n c.in-Ok.count first c.if-count-stop.false c.in-Ok.ensures.followed in
    let going : (state_after (take n events)).stopped ≡ false =
    subst (λ es. (state_after es).stopped ≡ false) (c.in-Ok.ensures.all all.0) c.in-Ok.ensures.play.going in
    IsNoRun (n + 1) (refused_after p v.book.limit events n first c.if-stop-events.true all.1 going)

pub end_record-requires : goal.end_record-requires
end_record-requires g c =
    let keeps = c.in-Ok.ensures.keeps in
    record {
      play = c.in-Ok.ensures.play;
      accepted = subst (λ (q : Program). BreaksNoRule (tree_of q)) (sym keeps.program) c.requires.accepted;
      limit = subst (λ n. 0 < n) (sym keeps.limit) c.requires.limit;
    }

pub returns-else-stop-events : goal.returns-else-stop-events
returns-else-stop-events g c =
    let events = c.args.events.now in
    let n = c.first_stop-stop.result in
    let v = c.args.player in
    let w = c.follow.new.player in
    let p = pipeline_played v in
    let first = c.first_stop-stop.ensures in
    let all = all_followed p v.book.limit events n c.in-Ok.count first c.if-count-stop.false c.in-Ok.ensures.followed in
    let are = c.in-Ok.ensures.all all.0 in
    let keeps = c.in-Ok.ensures.keeps in
    let b = nat_lt n (length events) in
    let whole : with_stop b w.events ≡ events = ap (with_stop b) are ∙ all_events events n first c.if-stop-events.false b refl in
    map_ok c.end_record.result c.end_record.ensures (λ r end.
    subst (λ es. IsLoopAnswer p v.book.limit es r) whole
    (subst (λ l. IsLoopAnswer p l (with_stop b w.events) r) keeps.limit
    (subst (λ q. IsLoopAnswer q w.book.limit (with_stop b w.events) r) (same_pipeline v w keeps) end)))
