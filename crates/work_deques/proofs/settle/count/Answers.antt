use Rattle.std.proofs.Common.{◌≡◌, ◌∙◌, ◌+◌, ◌++◌, ◌∷◌, [], ℕ, All, ap, arith, refl, subst, sum_by, sym}
use Rattle.std.proofs.lemmas.List.{length-append, nil_from_length}
use Rattle.std.proofs.lemmas.List.Sums.{sum_by-append}
use Rattle.work_deques.proofs.EndTotals.{one_less}
use Rattle.work_deques.proofs.TestedLists.{All_init, All_last}
use Rattle.work_deques.specs.FrontsSoFar.{IsWhole}
use Rattle.work_deques.specs.WorkerEnds.{weight_put, weight_taken}
use Rattle.work_deques.proofs.settle.count.Goals as goal

pub loop-own-preserved : goal.loop-own-preserved
loop-own-preserved g c =
    let h = c.loop-own.invariant in
    let ends = c.loop-own.ends.items in
    let rest = c.pop.new.self.items in
    let own = c.in-Some.own in
    let items : ends ≡ rest ++ own ∷ [] = c.in-Some.ensures.items in
    let whole = rw items at h.whole in
    let mine = All_last IsWhole rest own whole in
    let left = c.left.ensures in
    record {
      whole = All_init IsWhole rest own whole;
      bound = omega (arith, h.bound, c.in-Some.ensures.len, c.left.type_inv);
      even = (
        h.even.0 ++ left.0,
        length-append h.even.0 left.0 ∙ omega (arith, h.even.1, left.1),
        λ w. omega (
          arith,
          one_less (λ v. sum_by w v.put) ends rest own items mine,
          one_less (λ v. sum_by w v.taken) ends rest own items mine,
          left.2 w,
          h.even.2 w,
          sum_by-append w h.even.0 left.0,
        ),
      );
    }

pub loop-own-init : goal.loop-own-init
loop-own-init g c =
    let ends = c.args.ends.items in
    record {
      whole = c.requires;
      bound = omega arith;
      even = ([], refl, λ w. swapped (weight_put w ends) (weight_taken w ends));
    }
  where
    swapped : (put taken : ℕ) → put + taken ≡ taken + put + 0
    swapped put taken = omega arith

pub left-requires : goal.left-requires
left-requires g c =
    let ends = c.loop-own.ends.items in
    let rest = c.pop.new.self.items in
    let own = c.in-Some.own in
    let items : ends ≡ rest ++ own ∷ [] = c.in-Some.ensures.items in
    (All_last IsWhole rest own (subst (All IsWhole) items c.loop-own.invariant.whole)).0

-- no worker is left
pub returns : goal.returns
returns g c =
    let ends = c.loop-own.ends in
    let left = c.loop-own.invariant.even in
    let none : ends.items ≡ [] = nil_from_length ends.items (sym ends.ok.0 ∙ c.in_default.ensures.cases.0) in (
      left.0,
      left.1,
      λ w. balanced _ _ _ _ _ (ap (weight_put w) none) (ap (weight_taken w) none) (left.2 w),
    )
  where
    balanced : (put taken put' taken' left : ℕ) → put' ≡ 0 → taken' ≡ 0 → put + taken' ≡ taken + put' + left → put ≡ taken + left
    balanced put taken put' taken' left a b even = omega (arith, a, b, even)
