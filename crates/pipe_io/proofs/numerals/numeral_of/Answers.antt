use Rattle.std.proofs.Common.{◌≡◌, ◌-◌, length, length-drop, take, drop, cond, arith, rules, w64}
use Rattle.std.proofs.lemmas.List.{take_all}
use mir.Val.{SFits}
use Rattle.std.proofs.lemmas.Int.{to_z-of_z}
use Rattle.pipe_io.proofs.NumeralLaws.{cut, no_number, numeral, one_more, wide}
use Rattle.pipe_io.proofs.numerals.numeral_of.Goals as goal

pub returns-then-count-eq0-clause-flaw : goal.returns-then-count-eq0-clause-flaw
returns-then-count-eq0-clause-flaw c =
    let sign : c.from-sign.result ≡ cond c.args.is_negative 1 0 = search rules in
    no_number _ _ _ _ _ c.count_digits-count.ensures.counted (omega arith) sign c.requires.plain

pub returns-then-before-eq-MOST_NUMBERS-clause-flaw : goal.returns-then-before-eq-MOST_NUMBERS-clause-flaw
returns-then-before-eq-MOST_NUMBERS-clause-flaw c =
    one_more c.args.is_negative c.args.bytes.now _ _ c.count_digits-count.ensures.counted (omega arith) (omega arith)

pub returns-in_default-clause-flaw : goal.returns-in_default-clause-flaw
returns-in_default-clause-flaw c = wide c.args.is_negative c.args.bytes.now _ _ c.count_digits-count.ensures.counted (omega arith)
    (omega arith)
    c.in_default.ensures.none

pub returns-then-not-ends_number-clause-flaw : goal.returns-then-not-ends_number-clause-flaw
returns-then-not-ends_number-clause-flaw c =
    let sign : c.from-sign.result ≡ cond c.args.is_negative 1 0 = search rules in
    cut c.args.is_negative c.args.bytes.now _ _ _ c.in-Some.value c.count_digits-count.ensures.counted (omega arith) (omega arith) sign
    c.in-Some.ensures.some c.in-Some.ensures.fits (search rules)

pub returns-clause-numeral : goal.returns-clause-numeral
returns-clause-numeral c =
    let sign : c.from-sign.result ≡ cond c.args.is_negative 1 0 = search rules in
    let fits : SFits w64 c.in-Some.value = search rules in
    let bytes = c.args.bytes.now in
    let m = c.count_digits-count.result in
    let tail : take (length bytes - m) (drop m bytes) ≡ drop m bytes = take_all _ _ (omega (arith, length-drop m bytes)) in
    let yes = rw tail at c.if-not-ends_number.ensures.yes in
    simp to_z-of_z (numeral c.args.is_negative c.args.bytes.now _ _ c.in-Some.value c.count_digits-count.ensures.counted (omega arith) sign
    c.in-Some.ensures.some c.in-Some.ensures.fits yes)
