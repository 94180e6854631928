-- the first arrival of the vertices before this one
use Rattle.std.proofs.Common.{◌≡◌, IfSome, take}
use Rattle.hull_polygon.specs.Lent.{vertices_of}
use Rattle.hull_polygon.specs.Polygons.{HoldsOfSetsOf}
use Rattle.first_meeting.specs.Arrivals.{ReturnsFirst}
use Rattle.first_meeting.proofs.arrivals.first_arrival.Given as goal

abbrev pub invariant-loop-vertex : goal.invariant-loop-vertex
invariant-loop-vertex l = record {
  first : HoldsOfSetsOf (vertices_of l.polygon) (λ T. ReturnsFirst T l.direction (take l.vertex-index l.vertices) l.found);
  moves : IfSome l.found (λ found. found.moves ≡ l.moves);
}
