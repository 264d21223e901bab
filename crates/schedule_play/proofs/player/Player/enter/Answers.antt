use Rattle.std.proofs.Common.{◌≡◌, ◌∙◌, ◌<◌, ◌≤◌, ◌++◌, ◌∷◌, [], ap, arith, length, sym, subst, true, ◌⊎◌, ℤ, List, Some}
use Rattle.pipe_frame.specs.TokenFields.{fields_of}
use Rattle.pipe_model.specs.declared.event.Event.TheVariants as events
use Rattle.pipe_model.specs.Language.SyntaxTree.{tree_of}
use Rattle.pipe_model.specs.Runs.Allowed.{MayEnter}
use Rattle.pipe_model.specs.Runs.NextEvents.{next_event}
use Rattle.frame_book.specs.BookStates.{BookState, replies_at, state_of}
use Rattle.frame_book.specs.GivenTokens.{IsGivenBy}
use Rattle.serial_elision.proofs.Results.{map_ok}
use Rattle.schedule_play.specs.PlayStates.{IsPlay, PlayState, pipeline_played, run_state}
use Rattle.schedule_play.specs.Runners.{IsAtInstance, no_tie}
use Rattle.stage_interp.specs.CellNumbers.{most_cell_ids}
use Rattle.schedule_play.proofs.Playing.Accesses.{slot_within}
use Rattle.schedule_play.proofs.Playing.Enters.{enter_possible, entered_made, frame_of_next}
use Rattle.schedule_play.proofs.player.Player.enter.Goals as goal

pub unreachable-requires : goal.unreachable-requires
unreachable-requires g c =
    let code = g.B.PlayedCode.code in
    let cells = g.B.PlayedCode.cells in
    let returned = subst (λ (x : PlayState). ((state_of x.book).stopped ≡ true) ⊎ (MayEnter (state_of x.book) c.args.iteration → ⊥))
    c.self.view_is c.in_default.ensures.returned in
    enter_possible code cells c.args.self.now c.requires.play c.args.iteration c.requires.next returned

pub new-running-requires : goal.new-running-requires
new-running-requires g c =
    let code = g.B.PlayedCode.code in
    let cells = g.B.PlayedCode.cells in
    let token = c.in-Some.token in
    let given = subst (λ (b : BookState). IsGivenBy (λ tree numbers x j replies. IsAtInstance code cells tree numbers x.machine j replies)
    (λ x. no_tie) b token) c.in-Some.ensures.book c.in-Some.ensures.token in
    let tree = tree_of c.self.inside.book.program in
    let replies = replies_at c.self.inside.book token.iteration in
    let count = ap (λ (x : PlayState). x.cells.shard.cells) c.self.view_is ∙ c.requires.play.count in
    let input = c.requires.input ∙ ap (λ (x : PlayState). x.book.input) (sym c.self.view_is) in
    record {
      code = c.requires.code;
      cells = count;
      bounded = subst (λ n. n ≤ most_cell_ids) (sym count) c.requires.play.bounded;
      at_instance = (
        tree,
        (
          replies,
          subst (λ (l : List ℤ). IsAtInstance code cells tree l token.payload.machine token.iteration replies) (sym input)
              given.payload.ready,
        ),
      );
    }

pub index_mut-requires : goal.index_mut-requires
index_mut-requires g c =
    let v = c.args.self.now in
    let i = c.args.iteration in
    let f = frame_of_next (pipeline_played v) (run_state v) i (events.Enter i) c.requires.next in
    let long = c.self.inside.running.ok.0 in
    let same = ap (λ (x : PlayState). length x.running) c.self.view_is in
    let within = slot_within g.B.PlayedCode.code g.B.PlayedCode.cells v c.requires.play i f.0 f.1 in
    let here : i < c.self.inside.running.len = omega (arith, long, same, within) in
    here

pub returns-clause-play : goal.returns-clause-play
returns-clause-play g c =
    let code = g.B.PlayedCode.code in
    let cells = g.B.PlayedCode.cells in
    let inside = c.self.inside in
    let w : PlayState = record {
      book = inside.book;
      schedule = inside.schedule;
      running = inside.running.items;
      cells =
          inside.cells;
      events = inside.events;
    } in
    let h = subst (IsPlay code cells) (sym c.self.view_is) c.requires.play in
    let i = c.args.iteration in
    let next = subst (λ (x : PlayState). next_event (pipeline_played x) (run_state x) i ≡ Some (events.Enter i))
    (sym c.self.view_is) c.requires.next in
    let input = c.requires.input ∙ ap (λ (x : PlayState). x.book.input) (sym c.self.view_is) in
    let token = c.in-Some.token in
    let given = subst (λ (b : BookState). IsGivenBy (λ tree numbers x j replies. IsAtInstance code cells tree numbers x.machine j replies)
    (λ x. no_tie) b token) c.in-Some.ensures.book c.in-Some.ensures.token in
    let ensured = c.new-running.ensures in
    let made = entered_made code cells w h i next (fields_of token) c.in-Some.ensures.returned.2 given.out token.payload.machine
    given.payload.ready c.new-running.result
    ensured.fields ensured.empty c.args.input.now input ensured.instance c.enter-2.new.self c.enter-2.ensures.schedule
    c.enter-2.ensures.limit in
    map_ok c.append.result c.append.ensures (λ u appended. rw (c.in-Some.ensures.book, appended) made)

pub returns-clause-event : goal.returns-clause-event
returns-clause-event g c = map_ok c.append.result c.append.ensures (λ u appended e next.
    let same : events.Enter c.args.iteration ≡ e = (let q = sym c.requires.next ∙ next in cc) in
    appended ∙ (ap (λ x. c.self.inside.events ++ x ∷ []) same ∙ ap (λ (x : PlayState). x.events ++ e ∷ []) c.self.view_is))
