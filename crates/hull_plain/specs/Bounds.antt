-- The bounds between which the points of a map are visited: after one part of a chain and before the other.
use Rattle.std.specs.Prelude.{◌≡◌, List, [], ◌∷◌}
use Rattle.std.specs.declared.ops.Bound.{Bound}
use Rattle.std.specs.declared.ops.Bound.TheVariants.{Included, Excluded, Unbounded}
use Rattle.lattice.specs.Plane.{Pair}
use Rattle.hull_geometry.specs.Monotone.{EndsWith}

-- the bound for points after the end of a chain: no bound if the chain has no point
abbrev pub IsBehind : List Pair → Bound Pair → Type 0
IsBehind chain (Included a) = ⊥
IsBehind chain (Excluded a) = EndsWith a chain
IsBehind chain Unbounded = chain ≡ []

-- the bound for points before the first point of a chain: no bound if the chain has no point
abbrev pub IsAhead : List Pair → Bound Pair → Type 0
IsAhead chain (Included a) = ⊥
IsAhead chain (Excluded a) = (rest : List Pair) × (chain ≡ a ∷ rest)
IsAhead chain Unbounded = chain ≡ []
