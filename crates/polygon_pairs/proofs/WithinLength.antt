-- Whether two polygons are within a length of one another, by the sets that they are of.
use Rattle.std.proofs.Common.{◌≡◌, ◌<◌, List, [], length, inl, inr, refl, subst, arith, Bool, true, false, IsTrue, ◌↔◌}
use Rattle.std.proofs.lemmas.Bool.{false≢true}
use Rattle.std.specs.List.{Contains}
use Rattle.lattice.specs.Plane.{Pair}
use Rattle.hull_polygon.specs.Closest.{IsDistance}
use Rattle.hull_polygon.specs.Meetings.{ReturnsMeeting}
use Rattle.hull_polygon.specs.Polygons.{HoldsOfBoth, IsPolygonOf, IsShortPolygon}
use Rattle.hull_polygon.specs.Ranges.{IsNoFarther, ReturnsWithin}
use Rattle.hull_polygon.specs.Rounds.{vertex}
use Rattle.hull_polygon.specs.declared.distance.Distance.{Distance}
use Rattle.hull_polygon.specs.declared.distance.Distance.TheVariants.{Zero}
use Rattle.hull_polygon.specs.declared.ranges.Length.{Length}
use Rattle.hull_polygon.proofs.Vertices.{vertex_extreme}
use Rattle.polygon_pairs.specs.Pairs.{AreWithin}
use Rattle.polygon_pairs.proofs.Strips.{both_near, disjoint_far, intersecting_near}

-- a set with a vertex is not empty
pub some_point : (S V : List Pair) → IsPolygonOf S V → 0 < length V → S ≡ [] → ⊥
some_point S V o l e = none (vertex V 0) (subst (λ (z : List Pair). Contains z (vertex V 0)) e (vertex_extreme S V 0 o.1 l).0)
  where
    none : (p : Pair) → Contains [] p → ⊥
    none p (k, m, same) = omega (arith, m)

-- two polygons are not within a length if their sets have no such distance
pub not_within : (r : Length) (V W : List Pair) → IsShortPolygon V → IsShortPolygon W
    → ((S T : List Pair) → IsPolygonOf S V → IsPolygonOf T W → (found : Distance) → IsDistance S T found → ¬ IsNoFarther found r)
    → ¬ AreWithin r V W
not_within r V W (v, _) (w, _) far near =
    let found = near.2 v.0 v.1 w.0 w.1 in
    far v.0 w.0 v.1 w.1 found.0 found.1 found.2

-- whether they intersect decides that for the length 0
pub meeting_decides : (b : Bool) (r : Length) (V W : List Pair) → r.numerator ≡ 0 → 0 < r.denominator → IsShortPolygon V
    → IsShortPolygon W → 0 < length V → 0 < length W → HoldsOfBoth V W (λ S T. ReturnsMeeting b S T)
    → IsTrue b ↔ AreWithin r V W
meeting_decides true r V W e d hv hw sv sw h = (λ t. (sv, sw, λ S o T q. (Zero, h S o T q, intersecting_near r)), λ near. refl)
meeting_decides false r V W e d hv hw sv sw h = (
  λ t. absurd (false≢true t),
  λ near. absurd (not_within r V W hv hw (λ S T o q found m. disjoint_far r S T found e d (h S o T q) m) near),
)

-- and so does whether their distance is at most the length
pub distance_decides : (b : Bool) (r : Length) (V W : List Pair) → IsShortPolygon V → IsShortPolygon W → 0 < length V → 0 < length W
    → HoldsOfBoth V W (λ S T. ReturnsWithin b r S T) → IsTrue b ↔ AreWithin r V W
distance_decides true r V W hv hw sv sw h = (λ t. (sv, sw, h), λ near. refl)
distance_decides false r V W hv hw sv sw h = (
  λ t. absurd (false≢true t),
  λ near. absurd (not_within r V W hv hw (λ S T o q found m close. elim (h S o T q) [
    | inl none ↦ some_point S V o sv none
    | inr (inl none) ↦ some_point T W q sw none
    | inr (inr far) ↦ far.2 (both_near r S T far.0 found far.1 m close)
  ]) near),
)
