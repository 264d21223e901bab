use Rattle.std.proofs.Common.{rules, ◌≡◌, ◌∙◌, sym, ◌<◌, ◌≤◌, ◌+◌, ◌++◌, ◌∷◌, [], length, take, get_or}
use Rattle.std.proofs.lemmas.Bool.{false≢true}
use Rattle.std.proofs.lemmas.List.{take_more, take_all}
use Rattle.op_table.proofs.BestRows.{takes, keeps, best_is_longest, best_is_none}
use Rattle.op_table.proofs.table.OpTable.longest.Goals as goal
use Rattle.op_table.proofs.table.OpTable.longest.Goals.{then-begins+then-outdoes, else-begins, else-begins-via-then-begins+else-outdoes}
use Rattle.op_table.proofs.table.OpTable.longest.Goals.{else-begins-via-else-begins}

pub loop-row-preserved : goal.loop-row-preserved
loop-row-preserved g c =
    let rows = c.args.self.now.rows in
    let i = c.loop-row.row-index in
    let row = get_or rows i (record { symbol = []; length = 0; level = 0; code = 0 }) in
    let within : i < length rows = search rules in
    let more : take (i + 1) rows ≡ take i rows ++ row ∷ [] = take_more rows i _ within in
    elim c.if-begins.branch [
      | then-begins+then-outdoes w ↦ rw (more, w.best-is) (takes _ _ _ row c.loop-row.invariant (c.begins.ensures.0 w.if-begins.true)
          (w.outdoes.ensures.0 w.if-outdoes.true))
      | else-begins w ↦ rw (more, w.best-is) (keeps _ _ _ row c.loop-row.invariant (elim w.else-begins.branch [
        | else-begins-via-then-begins+else-outdoes v ↦ λ front out. false≢true (sym v.if-outdoes.false ∙ v.outdoes.ensures.1 out)
        | else-begins-via-else-begins v ↦ λ front out. false≢true (sym v.if-begins.false ∙ c.begins.ensures.1 front)
      ]))
    ]

pub returns-clause-some : goal.returns-clause-some
returns-clause-some g c =
    let all : length c.args.self.now.rows ≤ c.loop-row.row-index = search rules in
    best_is_longest _ _ _ (rw (take_all c.loop-row.row-index c.args.self.now.rows all) at c.loop-row.invariant)

pub returns-clause-none : goal.returns-clause-none
returns-clause-none g c =
    let all : length c.args.self.now.rows ≤ c.loop-row.row-index = search rules in
    best_is_none _ _ _ (rw (take_all c.loop-row.row-index c.args.self.now.rows all) at c.loop-row.invariant)
