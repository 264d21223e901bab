use Rattle.std.proofs.Common.{◌≡◌, ◌∙◌, ◌<◌, ◌≤◌, List, ap, arith, length, slice_index_or, sym}
use Rattle.std.specs.Prelude.{slice_set}
use Rattle.schedule_play.specs.declared.turns.Alive.{Alive}
use Rattle.schedule_play.specs.AliveChanges.{after_change}
use Rattle.schedule_play.specs.AliveLists.{AliveListState}
use Rattle.schedule_play.proofs.AliveLists.{altered_past, altered_same, altered_within, same_entry}
use Rattle.schedule_play.proofs.alive_list.AliveList.change_at.Goals as goal

pub returns-else-index-len : goal.returns-else-index-len
returns-else-index-len c =
    let entries = c.args.self.now.entries in
    let k = c.args.index in
    let with : List Alive → AliveListState = λ l. record { entries = l; limit = c.args.self.now.limit } in
    let long = c.len.ensures ∙ c.self.inside.entries.ok.0 ∙ ap (λ (l : AliveListState). length l.entries) c.self.view_is in
    let test = c.if-index-len.false in
    let past : length entries ≤ k = omega (arith, test, long) in
    ap with (altered_past (after_change c.args.change) entries k past)

pub returns-then-ne : goal.returns-then-ne
returns-then-ne c =
    let change = after_change c.args.change in
    let entries = c.args.self.now.entries in
    let k = c.args.index in
    let own = c.index.result.now in
    let with : List Alive → AliveListState = λ l. record { entries = l; limit = c.args.self.now.limit } in
    let same = ap (λ (l : AliveListState). l.entries) c.self.view_is in
    let long = c.len.ensures ∙ c.self.inside.entries.ok.0 ∙ ap length same in
    let test = c.if-index-len.true in
    let within : k < length entries = omega (arith, test, long) in
    let there : own ≡ slice_index_or entries k own = c.index.ensures ∙ ap (λ l. slice_index_or l k own) same in
    c.replace.ensures
    ∙ ap (λ a. with (slice_set entries k a)) (c.after-new.ensures ∙ ap change there)
    ∙ ap with (altered_within change entries k own within)

pub returns-else-ne : goal.returns-else-ne
returns-else-ne c =
    let change = after_change c.args.change in
    let entries = c.args.self.now.entries in
    let k = c.args.index in
    let own = c.index.result.now in
    let with : List Alive → AliveListState = λ l. record { entries = l; limit = c.args.self.now.limit } in
    let there : own ≡ slice_index_or entries k own =
    c.index.ensures ∙ ap (λ (l : AliveListState). slice_index_or l.entries k own) c.self.view_is in
    let stays : change own ≡ own = sym c.after-new.ensures ∙ same_entry c.after-new.result own (sym c.ne.ensures ∙ c.if-ne.false) in
    ap with (altered_same change entries k own (ap change (sym there) ∙ stays ∙ there))
