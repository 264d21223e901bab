use Rattle.std.proofs.Common.{◌≡◌, ◌∙◌, ◌+◌, ◌&&◌, ap, ap₂, arith, count_by, Bool, List, false, if◌then◌else◌, refl, sym, true, ℕ}
use mir.Val.{bool_byte}
use Rattle.schedule_play.specs.declared.turns.Alive.{Alive}
use Rattle.schedule_play.specs.AliveLists.{AliveListState}
use Rattle.schedule_play.specs.Turns.{may_go}
use Rattle.schedule_play.proofs.AliveLists.{going_counted, running_counted}
use Rattle.schedule_play.proofs.TurnCandidates.{turns_counted}
use Rattle.schedule_play.proofs.alive_list.AliveList.count_turns.Goals as goal

abbrev counted : Bool → Bool → List Alive → ℕ
counted room begins entries = count_by (λ (a : Alive). may_go room a.readiness) entries + (if room && begins then 1 else 0)

pub returns-then-room : goal.returns-then-room
returns-then-room c =
    let items = c.self.inside.entries.items in
    let same = ap (λ (l : AliveListState). l.entries) c.self.view_is in
    let counts = c.self.invariant.0 in
    ap₂ (λ n m. n + m + c.from.result) counts.running counts.ready
    ∙ ap₂ (λ n m. n + m) (sym (going_counted items)) (c.from.ensures ∙ one c.args.begins)
    ∙ ap (counted true c.args.begins) same
    ∙ ap (λ r. counted r c.args.begins c.args.self.now.entries) (sym c.if-room.true)
    ∙ sym (turns_counted c.args.room c.args.begins c.args.self.now.entries)
  where
    one : (b : Bool) → bool_byte b ≡ (if b then 1 else 0)
    one true = refl
    one false = refl

pub returns-else-room : goal.returns-else-room
returns-else-room c =
    let items = c.self.inside.entries.items in
    let same = ap (λ (l : AliveListState). l.entries) c.self.view_is in
    let count = count_by (λ (a : Alive). may_go false a.readiness) items in
    let none : count ≡ count + 0 = omega arith in
    c.self.invariant.0.running ∙ running_counted items ∙ none
    ∙ ap (counted false c.args.begins) same
    ∙ ap (λ r. counted r c.args.begins c.args.self.now.entries) (sym c.if-room.false)
    ∙ sym (turns_counted c.args.room c.args.begins c.args.self.now.entries)
