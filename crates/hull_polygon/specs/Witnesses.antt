-- Witnesses for the hulls of two finite sets, in a form that a caller can test: a common point, or a separation.
use Rattle.std.specs.Prelude.{List}
use Rattle.std.specs.List.{Contains}
use Rattle.lattice.specs.Plane.{Pair}
use Rattle.lattice.specs.Covers.{Covers}
use Rattle.hull_polygon.specs.Meetings.{IsCrossing}
use Rattle.hull_polygon.specs.Separations.{IsSeparation}
use Rattle.hull_polygon.specs.declared.meetings.Meeting.{Meeting}
use Rattle.hull_polygon.specs.declared.meetings.Meeting.TheVariants.{OfOther, OfThis, Crossing}
use Rattle.hull_polygon.specs.declared.witnesses.Witness.{Witness}
use Rattle.hull_polygon.specs.declared.witnesses.Witness.TheVariants.{Intersects, Disjoint}

-- a point of T that S covers, a point of S that T covers, or two points of S and two of T whose segments cross
abbrev pub IsMeeting : List Pair → List Pair → Meeting → Type 0
IsMeeting S T (OfOther t) = Contains T t × Covers S t
IsMeeting S T (OfThis s) = Contains S s × Covers T s
IsMeeting S T (Crossing a b c d) = Contains S a × Contains S b × Contains T c × Contains T d × IsCrossing a b c d

-- a common point, or a separation of S from T
abbrev pub IsWitness : List Pair → List Pair → Witness → Type 0
IsWitness S T (Intersects m) = IsMeeting S T m
IsWitness S T (Disjoint w) = IsSeparation S T w
