-- Orientations as they are seen from a side of a hull.
use Rattle.std.specs.Prelude.{ℤ}
use Rattle.lattice.specs.Plane.{Pair, orient}
use Rattle.lattice.specs.declared.side.Side.{Side}
use Rattle.lattice.specs.declared.side.Side.TheVariants.{Lower, Upper}

-- positive if b, between a and c in the order, lies outwards of the segment from a to c
abbrev pub orient_on : Side → Pair → Pair → Pair → ℤ
orient_on Lower a b c = orient a b c
orient_on Upper a b c = orient b a c
