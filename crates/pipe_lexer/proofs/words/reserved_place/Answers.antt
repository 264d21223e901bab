use Rattle.std.proofs.Common.{◌≡◌, sym, rules, false, true, [], get_or, below_more, arith}
use Rattle.std.specs.Str.{bytes_eq}
use Rattle.pipe_model.specs.Language.Lexis.{reserved_words}
use Rattle.pipe_lexer.proofs.FirstPlace.{position_is, position_is_none}
use Rattle.pipe_lexer.proofs.words.reserved_place.Goals as goal

pub returns-then-eq : goal.returns-then-eq
returns-then-eq c =
    let here : bytes_eq (get_or reserved_words c.loop-place.place []) c.args.text.now ≡ true = search rules in
    sym (position_is (λ word. bytes_eq word c.args.text.now) reserved_words _ [] (omega arith) c.loop-place.invariant here)

pub loop-place-preserved : goal.loop-place-preserved
loop-place-preserved c =
    let here : bytes_eq (get_or reserved_words c.loop-place.place []) c.args.text.now ≡ false = search rules in
    below_more _ _ c.loop-place.invariant here

pub returns : goal.returns
returns c = sym (position_is_none (λ word. bytes_eq word c.args.text.now) reserved_words []
    (λ j h. c.loop-place.invariant j (omega (arith, h))))
