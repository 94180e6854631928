-- The lane of a set: where the rays along a direction come from that may meet it.
use Rattle.std.specs.Prelude.{◌≡◌, ◌≤ℤ◌, List}
use Rattle.std.specs.List.{All}
use Rattle.lattice.specs.Plane.{IsWithin, Pair, product, widest_side}
use Rattle.hull_polygon.specs.Steps.{turned_left}
use Rattle.first_meeting.specs.declared.lanes.Lane.{Lane}

-- no point of T lies farther to the left of the direction d than the most, or less far than the least, which are no
-- larger than products are
pub record IsLane (T : List Pair) (d : Pair) (lane : Lane) : Type 0 where
  pub left : lane.left ≡ turned_left d
  pub most_fits : IsWithin widest_side lane.most
  pub least_fits : IsWithin widest_side lane.least
  pub most : All (λ t. product lane.left t ≤ℤ lane.most) T
  pub least : All (λ t. lane.least ≤ℤ product lane.left t) T
