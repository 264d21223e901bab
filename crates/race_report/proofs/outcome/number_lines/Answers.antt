use Rattle.std.proofs.Common.{◌∙◌, ◌++◌, [], ℤ, ℕ, List, ap, codes, get_or, of_z, pos, rules, sym, take, to_z, w64}
use Rattle.std.specs.Fmt.{signed_decimal}
use Rattle.std.proofs.lemmas.Int.{to_z-of_z}
use Rattle.std.proofs.lemmas.List.{flat_map_more, take_all, take_more}
use mir.Val.{SFits}
use Rattle.pipe_model.specs.Texts.{output_lines}
use Rattle.race_report.proofs.outcome.number_lines.Goals as goal

pub loop-number-preserved : goal.loop-number-preserved
loop-number-preserved c =
    let line : ℤ → List ℕ = λ v. signed_decimal v ++ codes "\n" in
    let output = c.args.output.now in
    let i = c.loop-number.number-index in
    let number : ℤ = get_or output i (pos 0) in
    let fits : SFits w64 number = search rules in
    c.in_ok-push_number.ensures
    ∙ ap (λ l. l ++ line (to_z w64 (of_z w64 number))) c.loop-number.invariant
    ∙ ap (λ n. output_lines (take i output) ++ line n) (to_z-of_z w64 number fits)
    ∙ flat_map_more line [] (take i output) number
    ∙ ap output_lines (sym (take_more output i (pos 0) c.loop-number-test.true))

pub returns : goal.returns
returns c = c.loop-number.invariant ∙ ap output_lines (take_all c.loop-number.number-index c.args.output.now c.loop-number-test.false)
