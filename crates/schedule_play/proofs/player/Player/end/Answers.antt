use Rattle.std.proofs.Common.{◌≡◌, ◌∙◌, ◌<◌, ◌++◌, ◌∷◌, [], arith, ap, sym, subst, length, Some, None, IfSome, slice_index_or}
use Rattle.std.proofs.lemmas.List.{get_or_default}
use Rattle.pipe_model.specs.Language.SyntaxTree.{tree_of}
use Rattle.frame_book.specs.BookStates.{item_or, replies_at}
use Rattle.frame_book.specs.GivenTokens.{IsOutOf}
use Rattle.serial_elision.proofs.Results.{map_ok}
use Rattle.schedule_play.specs.declared.running_instance.NextAction.TheVariants as actions
use Rattle.schedule_play.specs.RunningIterations.{RunningIterationState, IsRunningIteration}
use Rattle.pipe_model.specs.Runs.Allowed.{IsRunning}
use Rattle.pipe_model.specs.Runs.NextEvents.{next_event}
use Rattle.schedule_play.specs.PlayStates.{IsPlay, PlayState, pipeline_played, run_state}
use Rattle.schedule_play.proofs.Playing.Accesses.{fits, slot_taken, slot_within}
use Rattle.schedule_play.proofs.Playing.Ends.{end_made}
use Rattle.schedule_play.proofs.player.Player.end.Goals as goal

pub index_mut-requires : goal.index_mut-requires
index_mut-requires g c =
    let code = g.B.PlayedCode.code in
    let cells = g.B.PlayedCode.cells in
    let v = c.args.self.now in
    let i = c.args.iteration in
    let long = c.self.inside.running.ok.0 in
    let same = ap (λ (x : PlayState). length x.running) c.self.view_is in
    let within = slot_within code cells v c.requires.play i c.requires.runs.frame c.requires.runs.is in
    let here : i < c.self.inside.running.len = omega (arith, long, same, within) in
    here

pub unreachable-requires : goal.unreachable-requires
unreachable-requires g c =
    let code = g.B.PlayedCode.code in
    let cells = g.B.PlayedCode.cells in
    let v = c.args.self.now in
    let i = c.args.iteration in
    let running = ap (λ (x : PlayState). x.running) c.self.view_is in
    let within = slot_within code cells v c.requires.play i c.requires.runs.frame c.requires.runs.is in
    let slot = c.take.ensures.value ∙ c.index_mut.ensures.value ∙ ap (λ l. slice_index_or l i c.index_mut.result.now) running
    ∙ get_or_default v.running i c.index_mut.result.now None within in
    slot_taken code cells v c.requires.play i c.requires.runs (sym slot ∙ c.in_default.is)

pub end-requires-clause-out : goal.end-requires-clause-out
end-requires-clause-out g c =
    let code = g.B.PlayedCode.code in
    let cells = g.B.PlayedCode.cells in
    let v = c.args.self.now in
    let i = c.args.iteration in
    let running = ap (λ (x : PlayState). x.running) c.self.view_is in
    let within = slot_within code cells v c.requires.play i c.requires.runs.frame c.requires.runs.is in
    let slot = c.take.ensures.value ∙ c.index_mut.ensures.value ∙ ap (λ l. slice_index_or l i c.index_mut.result.now) running
    ∙ get_or_default v.running i c.index_mut.result.now None within in
    let at = fits code cells v c.requires.play i c.requires.runs.frame c.requires.runs.is c.requires.runs.runs c.in-Some.running
    (sym slot ∙ c.in-Some.is) in
    subst (λ (x : PlayState). IsOutOf x.book c.in-Some.running.token) (sym c.self.view_is) at.out

pub end-requires-clause-ends : goal.end-requires-clause-ends
end-requires-clause-ends g c =
    let code = g.B.PlayedCode.code in
    let cells = g.B.PlayedCode.cells in
    let v = c.args.self.now in
    let i = c.args.iteration in
    let running = ap (λ (x : PlayState). x.running) c.self.view_is in
    let within = slot_within code cells v c.requires.play i c.requires.runs.frame c.requires.runs.is in
    let slot = c.take.ensures.value ∙ c.index_mut.ensures.value ∙ ap (λ l. slice_index_or l i c.index_mut.result.now) running
    ∙ get_or_default v.running i c.index_mut.result.now None within in
    subst (λ o. IfSome o (λ (h : RunningIterationState). h.next ≡ actions.End c.args.end)) (sym slot ∙ c.in-Some.is) c.requires.next

pub end-requires-clause-instance : goal.end-requires-clause-instance
end-requires-clause-instance g c =
    let code = g.B.PlayedCode.code in
    let cells = g.B.PlayedCode.cells in
    let v = c.args.self.now in
    let i = c.args.iteration in
    let running = ap (λ (x : PlayState). x.running) c.self.view_is in
    let within = slot_within code cells v c.requires.play i c.requires.runs.frame c.requires.runs.is in
    let slot = c.take.ensures.value ∙ c.index_mut.ensures.value ∙ ap (λ l. slice_index_or l i c.index_mut.result.now) running
    ∙ get_or_default v.running i c.index_mut.result.now None within in
    let at = fits code cells v c.requires.play i c.requires.runs.frame c.requires.runs.is c.requires.runs.runs c.in-Some.running
    (sym slot ∙ c.in-Some.is) in
    subst (λ (x : PlayState). IsRunningIteration code cells (tree_of x.book.program) x.book.input
    (replies_at x.book c.in-Some.running.token.iteration) c.in-Some.running) (sym c.self.view_is)
    (subst (λ j. IsRunningIteration code cells (tree_of v.book.program) v.book.input (replies_at v.book j) c.in-Some.running)
    (sym at.iteration) at.instance)

pub returns-clause-play : goal.returns-clause-play
returns-clause-play g c =
    let code = g.B.PlayedCode.code in
    let cells = g.B.PlayedCode.cells in
    let inside = c.self.inside in
    let w : PlayState = record {
      book = inside.book;
      schedule = inside.schedule;
      running = inside.running.items;
      cells =
          inside.cells;
      events = inside.events;
    } in
    let h = subst (IsPlay code cells) (sym c.self.view_is) c.requires.play in
    let i = c.args.iteration in
    let runs = subst (λ (x : PlayState). IsRunning (run_state x) i) (sym c.self.view_is) c.requires.runs in
    let within = slot_within code cells w h i runs.frame runs.is in
    let kept = sym (get_or_default inside.running.items i c.index_mut.result.now None within)
    ∙ sym (c.take.ensures.value ∙ c.index_mut.ensures.value) ∙ c.in-Some.is in
    let at = subst (λ o. IfSome o (λ (x : RunningIterationState). x.next ≡ actions.End c.args.end)) kept
    (subst (λ (x : PlayState). IfSome (item_or None x.running i) (λ (y : RunningIterationState). y.next ≡ actions.End c.args.end))
    (sym c.self.view_is) c.requires.next) in
    let ensured = c.end_instance-event.ensures in
    let made = end_made code cells w h i runs c.in-Some.running kept c.args.end at c.end.result c.end.ensures.returned
    c.end_instance-event.result ensured.event
    c.end_instance-event.new.self ensured.schedule ensured.limit in
    map_ok c.append.result c.append.ensures (λ u appended. rw (c.take.ensures.after, c.end.ensures.book, appended) made.1)

pub returns-clause-event : goal.returns-clause-event
returns-clause-event g c = map_ok c.append.result c.append.ensures (λ u appended e next.
    let code = g.B.PlayedCode.code in
    let cells = g.B.PlayedCode.cells in
    let inside = c.self.inside in
    let w : PlayState = record {
      book = inside.book;
      schedule = inside.schedule;
      running = inside.running.items;
      cells =
          inside.cells;
      events = inside.events;
    } in
    let h = subst (IsPlay code cells) (sym c.self.view_is) c.requires.play in
    let i = c.args.iteration in
    let runs = subst (λ (x : PlayState). IsRunning (run_state x) i) (sym c.self.view_is) c.requires.runs in
    let within = slot_within code cells w h i runs.frame runs.is in
    let kept = sym (get_or_default inside.running.items i c.index_mut.result.now None within)
    ∙ sym (c.take.ensures.value ∙ c.index_mut.ensures.value) ∙ c.in-Some.is in
    let at = subst (λ o. IfSome o (λ (x : RunningIterationState). x.next ≡ actions.End c.args.end)) kept
    (subst (λ (x : PlayState). IfSome (item_or None x.running i) (λ (y : RunningIterationState). y.next ≡ actions.End c.args.end))
    (sym c.self.view_is) c.requires.next) in
    let ensured = c.end_instance-event.ensures in
    let made = end_made code cells w h i runs c.in-Some.running kept c.args.end at c.end.result c.end.ensures.returned
    c.end_instance-event.result ensured.event
    c.end_instance-event.new.self ensured.schedule ensured.limit in
    let there = subst (λ (x : PlayState). next_event (pipeline_played x) (run_state x) i ≡ Some e) (sym c.self.view_is) next in
    let same : c.end_instance-event.result ≡ e = (let q = sym made.0 ∙ there in cc) in
    appended ∙ (ap (λ x. inside.events ++ x ∷ []) same ∙ ap (λ (x : PlayState). x.events ++ e ∷ []) c.self.view_is))
