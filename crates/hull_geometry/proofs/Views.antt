-- Points that lie outwards of all segments on a side: before all points, after all points, or right of an edge on that
-- side.
use Rattle.std.proofs.Common.{pos, ◌≤ℤ◌, ◌<ℤ◌, List}
use Rattle.std.specs.List.{Contains}
use Rattle.std.proofs.lemmas.List.Elements.{All-contains}
use Rattle.lattice.specs.Plane.{Pair, orient, IsBefore}
use Rattle.lattice.specs.Orientations.{orient_on}
use Rattle.lattice.specs.declared.side.Side.{Side}
use Rattle.lattice.specs.declared.side.Side.TheVariants.{Lower, Upper}
use Rattle.lattice.proofs.Numbers.{less_not_le}
use Rattle.lattice.proofs.Order.{before_irrefl, before_not}
use Rattle.hull_geometry.specs.Locations.{IsClear, IsRightOfEdge}
use Rattle.hull_geometry.proofs.Orientations.{stays_outwards}

-- a point before all points is clear
pub clear_before : (side : Side) (S : List Pair) (q : Pair) → ((t : Pair) → Contains S t → IsBefore q t)
    → IsClear side S q
clear_before side S q h = record {
  absent = λ m. before_irrefl q (h q m);
  outwards = λ s t ms mt sq qt. absurd (before_not q s (h s ms) sq);
}

-- a point after all points is clear
pub clear_after : (side : Side) (S : List Pair) (q : Pair) → ((t : Pair) → Contains S t → IsBefore t q)
    → IsClear side S q
clear_after side S q h = record {
  absent = λ m. before_irrefl q (h q m);
  outwards = λ s t ms mt sq qt. absurd (before_not t q (h t mt) qt);
}

-- a point outwards of a line that has no point of S outwards is clear
pub clear_outwards : (side : Side) (S : List Pair) (q a b : Pair) → IsBefore a b
    → ((t : Pair) → Contains S t → pos 0 ≤ℤ orient_on side a b t) → orient_on side a b q <ℤ pos 0 → IsClear side S q
clear_outwards side S q a b ab inner h = record {
  absent = λ m. less_not_le _ _ h (inner q m);
  outwards = λ s t ms mt sq qt. stays_outwards side a b s q t ab sq qt h (inner s ms) (inner t mt);
}

-- a point right of an edge is clear
pub clear_right : (side : Side) (S : List Pair) (q : Pair) → IsRightOfEdge side S q → IsClear side S q
clear_right Lower S q (c, d, e, h) =
    clear_outwards Lower S q c d e.along (λ t m. All-contains (λ z. pos 0 ≤ℤ orient c d z) S t e.left m) h
clear_right Upper S q (c, d, e, h) =
    clear_outwards Upper S q d c e.along (λ t m. All-contains (λ z. pos 0 ≤ℤ orient c d z) S t e.left m) h
