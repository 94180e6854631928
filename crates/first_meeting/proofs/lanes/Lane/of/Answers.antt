-- the farthest points on both sides
use Rattle.std.proofs.Common.{◌∙◌, ◌≤ℤ◌, ℤ, subst, sym}
use Rattle.std.specs.List.{All}
use Rattle.lattice.specs.Plane.{IsWithin, Pair, product, widest_side}
use Rattle.lattice.specs.Places.{IsFarthest}
use Rattle.lattice.proofs.Casts.{cast_side}
use Rattle.first_meeting.proofs.PassedBy.{least_far}
use Rattle.first_meeting.proofs.lanes.Lane.of.Goals as goal

pub returns : goal.returns
returns c = λ S o.
    let left = c.in_ok-left.left in
    let cast_most = cast_side _ c.product-most.ensures.size in
    let cast_least = cast_side _ c.product-least.ensures.size in
    let most = cast_most ∙ c.product-most.ensures.value in
    let least = cast_least ∙ c.product-least.ensures.value in
    record {
      left = c.in_ok-left.ensures;
      most_fits = subst (IsWithin widest_side) (sym cast_most) c.product-most.ensures.size;
      least_fits = subst (IsWithin widest_side) (sym cast_least) c.product-least.ensures.size;
      most = subst (λ (z : ℤ). All (λ t. product left t ≤ℤ z) S) (sym most) (c.in_ok-most_left.ensures S o).1;
      least = subst (λ (z : ℤ). All (λ t. z ≤ℤ product left t) S) (sym least)
          (least_far S left c.in_ok-most_right.most_right
          (subst (λ (e : Pair). IsFarthest S e c.in_ok-most_right.most_right) c.in_ok-right.ensures
          (c.in_ok-most_right.ensures S o).1));
    }
