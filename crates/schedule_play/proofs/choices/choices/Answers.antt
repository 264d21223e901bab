use Rattle.std.proofs.Common.{◌≡◌, ◌∙◌, ◌<◌, ◌+◌, ◌++◌, ◌∷◌, [], ap, arith, length, sym}
use Rattle.std.proofs.lemmas.List.FromFn.{length-map-range_with_len, map-range_with_len_more}
use Rattle.std.proofs.lemmas.Grind.{common_steps}
use Rattle.std.specs.Prelude.{vec_capacity}
use Rattle.pipe_gen.specs.Choices.{choice}
use Rattle.pipe_gen.specs.declared.choices.TheConstants.{MOST_INDEX}
use Rattle.schedule_play.specs.SeedChoices.{first_choices}
use Rattle.schedule_play.proofs.choices.choices.Goals as goal

pub push_reserved-requires : goal.push_reserved-requires
push_reserved-requires c =
    let s = c.loop-k in
    let len : length s.choices.items ≡ s.k = ap length s.invariant.0 ∙ length-map-range_with_len (choice c.args.number) 1 s.k in
    let room = s.invariant.1 in
    let test = c.loop-k-test.true in
    let within : length s.choices.items < vec_capacity s.choices = omega (arith, len, room, test) in
    grind (arith, common_steps)

pub loop-k-preserved : goal.loop-k-preserved
loop-k-preserved c =
    let s = c.loop-k in
    let capacity = c.push_reserved.ensures.capacity in
    let room = s.invariant.1 in
    let more = map-range_with_len_more (choice c.args.number) 1 s.k (s.k + 1) (omega arith) in (
      c.push_reserved.ensures.items ∙ ap (λ l. l ++ c.choice.result ∷ []) s.invariant.0
          ∙ ap (λ v. first_choices c.args.number s.k ++ v ∷ []) c.choice.ensures.value ∙ sym more,
      omega (arith, capacity, room),
    )

pub returns : goal.returns
returns c =
    let s = c.loop-k in
    let test = c.loop-k-test.false in
    let within = s.auto.k-end in
    let end : s.k ≡ MOST_INDEX = omega (arith, test, within) in
    record { choices = s.invariant.0 ∙ ap (first_choices c.args.number) end }
