use Rattle.std.proofs.Common.{◌≡◌, ◌-◌, ◌<◌, ◌++◌, ◌∷◌, [], rules, arith, refl, sym, ◌∙◌, length, length-drop, take, drop}
use Rattle.std.proofs.lemmas.List.{take_all, nil_from_length}
use Rattle.pipe_io.specs.InputFile.{IsTooLong}
use Rattle.pipe_io.specs.Numerals.{IsFlaw, IsNumeralOf}
use Rattle.pipe_io.proofs.ReadingLaws.{at_end, at_flaw, past_number, past_separator}
use Rattle.pipe_io.proofs.numbers.numbers.Goals as goal

pub returns-then-bytes-gt-LONGEST_INPUT-clause-fault : goal.returns-then-bytes-gt-LONGEST_INPUT-clause-fault
returns-then-bytes-gt-LONGEST_INPUT-clause-fault c = IsTooLong (omega arith)

pub loop-first-preserved-then-is_blank : goal.loop-first-preserved-then-is_blank
loop-first-preserved-then-is_blank c =
    past_separator _ _ _ _ _ c.loop-first.invariant c.in-Some.ensures.cases.0 (sym c.is_blank.ensures ∙ c.if-is_blank.true)

pub returns-in-Err-clause-fault : goal.returns-in-Err-clause-fault
returns-in-Err-clause-fault c =
    let flaw : IsFlaw c.loop-first.rest.now (length c.loop-first.found) c.in-Err.flaw =
    rw c.len.ensures at c.in-Err.ensures.flaw in
    rw c.at.ensures (at_flaw _ _ _ _ _ c.loop-first.invariant flaw refl)

pub loop-first-preserved : goal.loop-first-preserved
loop-first-preserved c =
    let rest = c.loop-first.rest.now in
    let numeral : IsNumeralOf rest c.in-Ok.numeral = c.in-Ok.ensures.numeral in
    let bounded : length c.loop-first.found < 1048576 = omega (arith, c.len.ensures, c.in-Ok.ensures.room) in
    let n = c.in-Ok.numeral.length in
    let tail : take (length rest - n) (drop n rest) ≡ drop n rest = take_all _ _ (omega (arith, length-drop n rest)) in
    let kept : c.push.new.self ≡ c.loop-first.found ++ c.in-Ok.numeral.value ∷ [] = search rules in
    rw (tail, kept) (past_number _ _ _ c.in-Ok.numeral c.loop-first.invariant numeral bounded)

pub returns-clause-numbers : goal.returns-clause-numbers
returns-clause-numbers c =
    let none : c.loop-first.rest.now ≡ [] = nil_from_length _ c.in_default.ensures.cases in
    at_end _ _ (rw none at c.loop-first.invariant)
