-- the point is the closest of its hull
use Rattle.hull_polygon.specs.Segments.{ends}
use Rattle.hull_polygon.proofs.TwoPoints.{alone_extreme, alone_farthest}
use Rattle.hull_polygon.proofs.polygon.Polygon.distance_to_point.Goals as goal

pub returns : goal.returns
returns c = λ S o.
    let q = c.args.q in
    c.by_other.ensures S (ends q q) record {
      vertex = alone_extreme q;
      nearest = c.in_ok-place.ensures S o;
      closest = alone_farthest q _;
    }
