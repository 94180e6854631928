-- Bridges between one point and a half: one end is known, and the other is searched.
use Rattle.std.specs.Prelude.{◌≡◌, ◌⊎◌, ℕ, ◌+◌, ◌≤◌, None, pos, ◌≤ℤ◌, ◌<ℤ◌}
use Rattle.lattice.specs.Bridges.{IsAllBefore, IsBridge, IsNotBeyond}
use Rattle.lattice.specs.Plane.{Pair, orient}
use Rattle.lattice.specs.declared.side.Side.{Side}
use Rattle.lattice.specs.declared.side.Side.TheVariants.{Upper}
use Rattle.bridge_search.specs.Trees.{Tree, Leaf, On, edge_of, height_of}
use Rattle.bucket_tree.specs.declared.other_end.BridgeEnd.{BridgeEnd}
use Rattle.bucket_tree.specs.declared.other_end.BridgeEnd.TheVariants.{Start, End}

-- the other end of a bridge
abbrev pub opposite : BridgeEnd → BridgeEnd
opposite Start = End
opposite End = Start

-- all of the half is after the point
abbrev pub IsAfterPoint : Pair → Tree → Type 0
IsAfterPoint p w = IsAllBefore (On (Leaf p)) (On w)

-- all of the half is before the point
abbrev pub IsBeforePoint : Tree → Pair → Type 0
IsBeforePoint u p = IsAllBefore (On u) (On (Leaf p))

-- the bridge, on a side, from the point to the half ends at q
abbrev pub IsEndFrom : Side → Pair → Tree → Pair → Type 0
IsEndFrom side p w q = IsBridge side (On (Leaf p)) (On w) p q

-- the bridge, on a side, from the half to the point begins at q
abbrev pub IsEndTo : Side → Tree → Pair → Pair → Type 0
IsEndTo side u p q = IsBridge side (On u) (On (Leaf p)) q p

-- the end of the bridge from the point is neither before a point of the order nor after another one
abbrev pub IsEndFromWithin : Side → Pair → Tree → Pair → Pair → Type 0
IsEndFromWithin side p w first last = (q : Pair) → IsEndFrom side p w q → IsNotBeyond first last q

-- nor is the start of the bridge to the point
abbrev pub IsEndToWithin : Side → Tree → Pair → Pair → Pair → Type 0
IsEndToWithin side u p first last = (q : Pair) → IsEndTo side u p q → IsNotBeyond first last q

-- the half in which an end is searched is on that side of the point: before it for the start, after it for the end
abbrev pub IsBeside : BridgeEnd → Pair → Tree → Type 0
IsBeside Start p v = IsBeforePoint v p
IsBeside End p v = IsAfterPoint p v

-- the bridge, on a side, between the half and the point has this end at q
abbrev pub IsEndAt : BridgeEnd → Side → Pair → Tree → Pair → Type 0
IsEndAt Start side p v q = IsEndTo side v p q
IsEndAt End side p v q = IsEndFrom side p v q

-- this end is neither before a point of the order nor after another one
abbrev pub IsEndWithin : BridgeEnd → Side → Pair → Tree → Pair → Pair → Type 0
IsEndWithin end side p v first last = (q : Pair) → IsEndAt end side p v q → IsNotBeyond first last q

-- the searched end of the upper bridge is in the right one of the two halves with this edge: if the start is searched,
-- the point lies under the line of the edge; if the end is, the edge's second point lies on or over the line from the
-- point through its first one
abbrev pub IsToTheRight : BridgeEnd → Pair → Pair × Pair → Type 0
IsToTheRight Start p e = orient e.0 e.1 p <ℤ pos 0
IsToTheRight End p e = pos 0 ≤ℤ orient p e.0 e.1

-- a search is done if its bounds meet or its half is one point
abbrev pub IsFound : Tree → Pair → Pair → Type 0
IsFound v first last = (first ≡ last) ⊎ (edge_of v ≡ None)

-- n turns lead from the half w to v, which has the end of the upper bridge, within these bounds
pub record IsRange (end : BridgeEnd) (p : Pair) (w v : Tree) (first last : Pair) (n : ℕ) : Type 0 where
  pub beside : IsBeside end p v
  pub lifts : (q : Pair) → IsEndAt end Upper p v q → IsEndAt end Upper p w q
  pub within : IsEndWithin end Upper p v first last
  pub lower : height_of v + n ≤ height_of w
