use Rattle.std.proofs.Common.{refl}
use Rattle.order_tests.proofs.LabelledTests.{labelled_lists}
use Rattle.order_tests.proofs.range_rows.crowded.Goals as goal

pub returns : goal.returns
returns c = labelled_lists _ _ _ _ (c.in_ok-to_vec.ensures.items_if_clones_equal (λ x y e. e))
    (c.in_ok-to_vec-2.ensures.items_if_clones_equal (λ x y e. e)) (c.in_ok-to_vec-3.ensures.items_if_clones_equal (λ x y e. e)) refl
