use Rattle.std.proofs.Common.{◌≡◌, ◌∙◌, ◌<◌, ◌+◌, ◌++◌, ◌∷◌, [], arith, ap, sym, subst, length, List, ℤ, Some, None, IfSome, slice_index_or}
use Rattle.std.proofs.lemmas.List.{get_or_default}
use Rattle.pipe_model.specs.declared.event.Event.TheVariants as events
use Rattle.serial_elision.proofs.Results.{map_ok}
use Rattle.schedule_play.specs.declared.running_instance.NextAction.TheVariants as actions
use Rattle.pipe_model.specs.Language.SyntaxTree.{tree_of}
use Rattle.frame_book.specs.BookStates.{replies_at}
use Rattle.schedule_play.specs.RunningIterations.{RunningIterationState, IsRunningIteration}
use Rattle.pipe_model.specs.Runs.Allowed.{IsRunning}
use Rattle.pipe_model.specs.Runs.NextEvents.{next_event}
use Rattle.schedule_play.specs.PlayStates.{IsPlay, PlayState, pipeline_played, run_state}
use Rattle.schedule_play.proofs.Playing.Accesses.{access_made, fits, slot_taken, slot_within}
use Rattle.schedule_play.proofs.player.Player.access.Goals as goal

pub index_mut-requires : goal.index_mut-requires
index_mut-requires g c =
    let code = g.B.PlayedCode.code in
    let cells = g.B.PlayedCode.cells in
    let v = c.args.self.now in
    let i = c.args.iteration in
    let long = c.self.inside.running.ok.0 in
    let same = ap (λ (x : PlayState). length x.running) c.self.view_is in
    let within = slot_within code cells v c.requires.play i c.requires.runs.frame c.requires.runs.is in
    let here : i < c.self.inside.running.len = omega (arith, long, same, within) in
    here

pub unreachable-requires : goal.unreachable-requires
unreachable-requires g c =
    let code = g.B.PlayedCode.code in
    let cells = g.B.PlayedCode.cells in
    let v = c.args.self.now in
    let i = c.args.iteration in
    let running = ap (λ (x : PlayState). x.running) c.self.view_is in
    let within = slot_within code cells v c.requires.play i c.requires.runs.frame c.requires.runs.is in
    let slot = c.index_mut.ensures.value ∙ ap (λ l. slice_index_or l i c.index_mut.result.now) running
    ∙ get_or_default v.running i c.index_mut.result.now None within in
    slot_taken code cells v c.requires.play i c.requires.runs (sym slot ∙ c.in_default.is)

pub access-made-requires-clause-pending : goal.access-made-requires-clause-pending
access-made-requires-clause-pending g c =
    let code = g.B.PlayedCode.code in
    let cells = g.B.PlayedCode.cells in
    let v = c.args.self.now in
    let i = c.args.iteration in
    let running = ap (λ (x : PlayState). x.running) c.self.view_is in
    let within = slot_within code cells v c.requires.play i c.requires.runs.frame c.requires.runs.is in
    let slot = c.index_mut.ensures.value ∙ ap (λ l. slice_index_or l i c.index_mut.result.now) running
    ∙ get_or_default v.running i c.index_mut.result.now None within in
    subst (λ o. IfSome o (λ (h : RunningIterationState). h.next ≡ actions.Access)) (sym slot ∙ c.in-Some.is) c.requires.next

pub access-made-requires-clause-instance : goal.access-made-requires-clause-instance
access-made-requires-clause-instance g c =
    let code = g.B.PlayedCode.code in
    let cells = g.B.PlayedCode.cells in
    let v = c.args.self.now in
    let i = c.args.iteration in
    let running = ap (λ (x : PlayState). x.running) c.self.view_is in
    let within = slot_within code cells v c.requires.play i c.requires.runs.frame c.requires.runs.is in
    let slot = c.index_mut.ensures.value ∙ ap (λ l. slice_index_or l i c.index_mut.result.now) running
    ∙ get_or_default v.running i c.index_mut.result.now None within in
    let at = fits code cells v c.requires.play i c.requires.runs.frame c.requires.runs.is c.requires.runs.runs c.in-Some.running
    (sym slot ∙ c.in-Some.is) in (
      tree_of v.book.program,
      (
        replies_at v.book i,
        subst (λ (l : List ℤ). IsRunningIteration code cells (tree_of v.book.program) l
            (replies_at v.book i) c.in-Some.running) (sym c.requires.input) at.instance,
      ),
    )

pub returns-clause-play : goal.returns-clause-play
returns-clause-play g c =
    let code = g.B.PlayedCode.code in
    let cells = g.B.PlayedCode.cells in
    let inside = c.self.inside in
    let w : PlayState = record {
      book = inside.book;
      schedule = inside.schedule;
      running = inside.running.items;
      cells =
          inside.cells;
      events = inside.events;
    } in
    let h = subst (IsPlay code cells) (sym c.self.view_is) c.requires.play in
    let i = c.args.iteration in
    let runs = subst (λ (x : PlayState). IsRunning (run_state x) i) (sym c.self.view_is) c.requires.runs in
    let within = slot_within code cells w h i runs.frame runs.is in
    let kept = sym (get_or_default inside.running.items i c.index_mut.result.now None within)
    ∙ sym c.index_mut.ensures.value ∙ c.in-Some.is in
    let input = c.requires.input ∙ ap (λ (x : PlayState). x.book.input) (sym c.self.view_is) in
    let ensured = c.access-made.ensures in
    let ticket = c.len.ensures in
    let made = access_made code cells w h i runs c.in-Some.running kept c.args.input.now input c.access-made.result c.access-made.new.self
    c.access-made.new.cells
    ensured.instance ensured.event (subst (λ n. c.access-made.new.self.token ≡ record c.in-Some.running.token { now = n + 1 }) ticket
    ensured.fields)
    (subst (λ n. c.access-made.new.self.trace ≡ c.in-Some.running.trace ++ record { ticket = n + 1; access = c.access-made.result } ∷ [])
    ticket ensured.trace) ensured.state ensured.shard in
    map_ok c.append.result c.append.ensures (λ u appended. rw appended made.1)

pub returns-clause-event : goal.returns-clause-event
returns-clause-event g c = map_ok c.append.result c.append.ensures (λ u appended e next.
    let code = g.B.PlayedCode.code in
    let cells = g.B.PlayedCode.cells in
    let inside = c.self.inside in
    let w : PlayState = record {
      book = inside.book;
      schedule = inside.schedule;
      running = inside.running.items;
      cells =
          inside.cells;
      events = inside.events;
    } in
    let h = subst (IsPlay code cells) (sym c.self.view_is) c.requires.play in
    let i = c.args.iteration in
    let runs = subst (λ (x : PlayState). IsRunning (run_state x) i) (sym c.self.view_is) c.requires.runs in
    let within = slot_within code cells w h i runs.frame runs.is in
    let kept = sym (get_or_default inside.running.items i c.index_mut.result.now None within)
    ∙ sym c.index_mut.ensures.value ∙ c.in-Some.is in
    let input = c.requires.input ∙ ap (λ (x : PlayState). x.book.input) (sym c.self.view_is) in
    let ensured = c.access-made.ensures in
    let ticket = c.len.ensures in
    let made = access_made code cells w h i runs c.in-Some.running kept c.args.input.now input c.access-made.result c.access-made.new.self
    c.access-made.new.cells
    ensured.instance ensured.event (subst (λ n. c.access-made.new.self.token ≡ record c.in-Some.running.token { now = n + 1 }) ticket
    ensured.fields)
    (subst (λ n. c.access-made.new.self.trace ≡ c.in-Some.running.trace ++ record { ticket = n + 1; access = c.access-made.result } ∷ [])
    ticket ensured.trace) ensured.state ensured.shard in
    let there = subst (λ (x : PlayState). next_event (pipeline_played x) (run_state x) i ≡ Some e) (sym c.self.view_is) next in
    let same : events.Access i c.access-made.result ≡ e = (let q = sym made.0 ∙ there in cc) in
    appended ∙ (ap (λ x. inside.events ++ x ∷ []) same ∙ ap (λ (x : PlayState). x.events ++ e ∷ []) c.self.view_is))
