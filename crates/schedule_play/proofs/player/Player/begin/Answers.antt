use Rattle.std.proofs.Common.{◌≡◌, ◌<◌, ◌∙◌, ◌++◌, ◌∷◌, [], ap, length, sym, subst, Some}
use Rattle.pipe_frame.specs.CallResults.{BeginReturns}
use Rattle.pipe_model.specs.declared.event.Event.TheVariants as events
use Rattle.pipe_model.specs.Runs.NextEvents.{next_begin}
use Rattle.frame_book.specs.BookStates.{BookState, state_of}
use Rattle.frame_book.specs.GivenTokens.{IsGivenBy}
use Rattle.serial_elision.proofs.Results.{map_ok}
use Rattle.schedule_play.specs.Runners.{IsAtInstance, no_tie}
use Rattle.schedule_play.specs.PlayStates.{IsPlay, PlayState, run_state}
use Rattle.schedule_play.proofs.Playing.Begins.{begin_fits, begin_possible, begun_made}
use Rattle.schedule_play.proofs.player.Player.begin.Goals as goal

pub unreachable-requires : goal.unreachable-requires
unreachable-requires g c =
    let code = g.B.PlayedCode.code in
    let cells = g.B.PlayedCode.cells in
    let returned = subst (λ (x : PlayState). BeginReturns x.book.limit (state_of x.book) c.begin.result) c.self.view_is
    c.begin.ensures.returned in
    begin_possible code cells c.args.self.now c.requires.play c.requires.next.0 c.requires.next.1 c.begin.result returned
    c.in_default.not-Started

pub begin-requires-2-clause-room : goal.begin-requires-2-clause-room
begin-requires-2-clause-room g c =
    let code = g.B.PlayedCode.code in
    let cells = g.B.PlayedCode.cells in
    let fits = begin_fits code cells c.args.self.now c.requires.play c.requires.next.0 c.requires.next.1 in
    subst (λ (x : PlayState). length x.schedule.alive < x.schedule.limit) (sym c.self.view_is) fits.0

pub begin-requires-2-clause-bounded : goal.begin-requires-2-clause-bounded
begin-requires-2-clause-bounded g c =
    let code = g.B.PlayedCode.code in
    let cells = g.B.PlayedCode.cells in
    let fits = begin_fits code cells c.args.self.now c.requires.play c.requires.next.0 c.requires.next.1 in
    subst (λ (x : PlayState). x.schedule.begun < 4294967295) (sym c.self.view_is) fits.1

pub returns-clause-play : goal.returns-clause-play
returns-clause-play g c =
    let code = g.B.PlayedCode.code in
    let cells = g.B.PlayedCode.cells in
    let inside = c.self.inside in
    let w : PlayState = record {
      book = inside.book;
      schedule = inside.schedule;
      running = inside.running.items;
      cells =
          inside.cells;
      events = inside.events;
    } in
    let h = subst (IsPlay code cells) (sym c.self.view_is) c.requires.play in
    let next = subst (λ (x : PlayState). next_begin x.book.limit (run_state x) ≡ Some c.requires.next.0)
    (sym c.self.view_is) c.requires.next.1 in
    let input = c.requires.input ∙ ap (λ (x : PlayState). x.book.input) (sym c.self.view_is) in
    let token = c.in-Started.token in
    let given = subst (λ (b : BookState). IsGivenBy (λ tree numbers x j replies. IsAtInstance code cells tree numbers x.machine j replies)
    (λ x. no_tie) b token) c.in-Started.ensures.book c.in-Started.ensures.token in
    let ensured = c.new-running.ensures in
    let made = begun_made code cells w h c.requires.next.0 next token c.in-Started.ensures.returned given.out token.payload.machine
    given.payload.ready c.new-running.result
    ensured.fields ensured.empty c.args.input.now input ensured.instance c.begin-2.new.self c.begin-2.ensures.schedule
    c.begin-2.ensures.limit in
    map_ok c.append.result c.append.ensures (λ u appended.
    rw (c.in-Started.ensures.book, c.push_reserved.ensures.items, c.in_ok-reserve.ensures.items, appended) made.1)

pub returns-clause-event : goal.returns-clause-event
returns-clause-event g c = map_ok c.append.result c.append.ensures (λ u appended e is.
    let code = g.B.PlayedCode.code in
    let cells = g.B.PlayedCode.cells in
    let inside = c.self.inside in
    let w : PlayState = record {
      book = inside.book;
      schedule = inside.schedule;
      running = inside.running.items;
      cells =
          inside.cells;
      events = inside.events;
    } in
    let h = subst (IsPlay code cells) (sym c.self.view_is) c.requires.play in
    let next = subst (λ (x : PlayState). next_begin x.book.limit (run_state x) ≡ Some c.requires.next.0)
    (sym c.self.view_is) c.requires.next.1 in
    let input = c.requires.input ∙ ap (λ (x : PlayState). x.book.input) (sym c.self.view_is) in
    let token = c.in-Started.token in
    let given = subst (λ (b : BookState). IsGivenBy (λ tree numbers x j replies. IsAtInstance code cells tree numbers x.machine j replies)
    (λ x. no_tie) b token) c.in-Started.ensures.book c.in-Started.ensures.token in
    let ensured = c.new-running.ensures in
    let made = begun_made code cells w h c.requires.next.0 next token c.in-Started.ensures.returned given.out token.payload.machine
    given.payload.ready c.new-running.result
    ensured.fields ensured.empty c.args.input.now input ensured.instance c.begin-2.new.self c.begin-2.ensures.schedule
    c.begin-2.ensures.limit in
    let one : Some c.requires.next.0 ≡ Some e = sym c.requires.next.1 ∙ is in
    let same : events.Begin token.iteration ≡ e = (let q = made.0 in cc) in
    appended ∙ (ap (λ x. inside.events ++ x ∷ []) same ∙ ap (λ (x : PlayState). x.events ++ e ∷ []) c.self.view_is))
