-- The pairs of many convex polygons whose distance is at most a length.
use Rattle.std.specs.Prelude.{◌≡◌, ◌≢◌, ◌↔◌, ◌⊎◌, ◌++◌, ℕ, ◌<◌, ◌≤◌, ◌^◌, true, List, [], length, drop, map, take, slice_index_or}
use Rattle.std.specs.List.{AllAdjacentBelow, AllPairs, Contains}
use denote.Ref.{Bor}
use Rattle.lattice.specs.Plane.{Pair}
use Rattle.hull_polygon.specs.Polygons.{HoldsOfBoth}
use Rattle.hull_polygon.specs.Ranges.{ReturnsWithin}
use Rattle.hull_polygon.specs.declared.ranges.Length.{Length}
use Rattle.hull_reply.specs.Encoded.{IsBare, IsNumber}
use Rattle.hull_reply.specs.declared.code.Code.TheVariants as code
use Rattle.hull_reply.specs.declared.reply.HullReply.{HullReply}
use Rattle.polygon_pairs.specs.declared.pair.HullPair.{HullPair}

-- the vertices of the polygon at an index; beyond the last one, none
abbrev pub polygon_at : List (Bor (List Pair)) → ℕ → List Pair
polygon_at polygons i = slice_index_or (map (λ o. o.now) polygons) i []

-- both have vertices, and their distance is at most the length r
abbrev pub AreWithin : Length → List Pair → List Pair → Type 0
AreWithin r vertices others =
    (0 < length vertices) × (0 < length others) × HoldsOfBoth vertices others (λ S T. ReturnsWithin true r S T)

-- the lesser index is first, and the distance of the two polygons is at most the length r
abbrev pub IsPairWithin : Length → List (Bor (List Pair)) → HullPair → Type 0
IsPairWithin r polygons p =
    (p.first < p.second) × (p.second < length polygons)
    × AreWithin r (polygon_at polygons p.first) (polygon_at polygons p.second)

-- by the first index, and then by the second
abbrev pub IsEarlier : HullPair → HullPair → Type 0
IsEarlier p q = (p.first < q.first) ⊎ ((p.first ≡ q.first) × (p.second < q.second))

-- exactly the pairs of polygons whose distance is at most the length r, each once
pub record ArePairsWithin (r : Length) (polygons : List (Bor (List Pair))) (pairs : List HullPair) : Type 0 where
  pub once : AllPairs (λ p q. p ≢ q) pairs
  pub members : (p : HullPair) → Contains pairs p ↔ IsPairWithin r polygons p

-- all pairs are at the front of the array, in order, and its rest is unchanged
pub record AreInFront (pairs before after : List HullPair) : Type 0 where
  pub few : length pairs ≤ length before
  pub in_order : AllAdjacentBelow IsEarlier pairs (length pairs)
  pub written : after ≡ pairs ++ drop (length pairs) before

-- all pairs were written and the reply has their number; or they are too many for the array, which contains some of them, and
-- the reply has their number
abbrev pub ListsPairs : Length → List (Bor (List Pair)) → List HullPair → List HullPair → HullReply → Type 0
ListsPairs r polygons before after encoded =
    (pairs : List HullPair) × ArePairsWithin r polygons pairs
    × ((AreInFront pairs before after × IsNumber code.Number (length pairs) encoded)
    ⊎ ((length before < length pairs) × (after ≡ take (length before) pairs) × IsNumber code.TooSmall (length pairs) encoded))

-- the pairs were listed; or the array is unchanged, since there are 2^32 polygons or more, or memory was refused (none need none)
abbrev pub EncodesPairs : Length → List (Bor (List Pair)) → List HullPair → List HullPair → HullReply → Type 0
EncodesPairs r polygons before after encoded =
    ListsPairs r polygons before after encoded
    ⊎ ((after ≡ before) × (((2 ^ 32 ≤ length polygons) × IsBare code.TooMany encoded)
    ⊎ ((0 < length polygons) × IsBare code.NoMemory encoded)))
