-- The chains of a hull by their side, and the edges at the vertices that the tangents from a point touch.
use Rattle.std.specs.Prelude.{◌≡◌, ℕ, ◌≤◌, pos, ◌<ℤ◌, List, length}
use Rattle.lattice.specs.Plane.{Pair, orient}
use Rattle.hull_geometry.specs.Edges.{IsAlong}
use Rattle.lattice.specs.declared.side.Side.{Side}
use Rattle.lattice.specs.declared.side.Side.TheVariants.{Lower, Upper}
use Rattle.hull_polygon.specs.Rounds.{vertex}

-- the index at which a chain starts, if that of the last vertex is `last`
abbrev pub starts_at : Side → ℕ → ℕ
starts_at Lower last = 0
starts_at Upper last = last

-- the index at which it ends
abbrev pub ends_at : Side → List Pair → ℕ → ℕ
ends_at Lower V last = last
ends_at Upper V last = length V

-- the edge from a to b ends before q along the chain, and has it on its left
abbrev pub IsPassed : Side → Pair → Pair → Pair → Type 0
IsPassed side q a b = IsAlong side b q × (pos 0 <ℤ orient a b q)

-- the edge from a to b begins after q along the chain, and has it on its left
abbrev pub IsToCome : Side → Pair → Pair → Pair → Type 0
IsToCome side q a b = IsAlong side q a × (pos 0 <ℤ orient a b q)

-- p is a vertex of the chain on this side
abbrev pub StandsOn : Side → List Pair → ℕ → Pair → Type 0
StandsOn side V last p = (i : ℕ) × (starts_at side last ≤ i) × (i ≤ ends_at side V last) × (vertex V i ≡ p)
