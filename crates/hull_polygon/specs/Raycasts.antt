-- Raycasts: the first point of the hull of a set S on a path from a towards b. The path is a ray, which goes on beyond
-- b, or a segment, which ends there.
use Rattle.std.specs.Prelude.{◌≡◌, ◌⊎◌, ℕ, ℤ, pos, ◌+ℤ◌, ◌-ℤ◌, ◌*ℤ◌, ◌≤ℤ◌, ◌<ℤ◌, neg_ℤ, List, Bool, true, false, Option, MatchOption}
use Rattle.std.specs.List.{Contains}
use Rattle.lattice.specs.Covers.{Covers, IsExtreme, IsPointSet}
use Rattle.lattice.specs.Places.{IsFarthest}
use Rattle.lattice.specs.Plane.{Pair, orient, product}
use Rattle.lattice.specs.Vertices.{IsLeftOf}
use Rattle.hull_polygon.specs.Closest.{magnified}
use Rattle.hull_polygon.specs.Steps.{backward, step}
use Rattle.hull_polygon.specs.declared.raycasts.Hit.{Hit}
use Rattle.hull_polygon.specs.declared.raycasts.Entry.{Entry}
use Rattle.hull_polygon.specs.declared.raycasts.Entry.TheVariants.{Start, Edge, Vertex}

-- the point to which a step along w from a leads
abbrev pub moved : Pair → Pair → Pair
moved a w = record { x = a.x +ℤ w.x; y = a.y +ℤ w.y }

-- the edge from p to q, two vertices with all of S on its left, goes from the left of the line from a to b to its
-- right; one of them may lie on the line
pub record IsCrossed (S : List Pair) (a b p q : Pair) : Type 0 where
  pub start : IsExtreme S p
  pub end : IsExtreme S q
  pub left : IsLeftOf S p q
  pub from : pos 0 ≤ℤ orient a b p
  pub to : orient a b q ≤ℤ pos 0
  pub across : pos 0 <ℤ (orient a b p -ℤ orient a b q)

-- the vertex c lies ahead of a on the line to b, and no point of S lies farther back
pub record IsEntryVertex (S : List Pair) (a b c : Pair) : Type 0 where
  pub vertex : IsExtreme S c
  pub line : orient a b c ≡ pos 0
  pub ahead : product (step a b) a <ℤ product (step a b) c
  pub first : IsFarthest S (step b a) c

-- the entry: the start, a point of an edge on whose right the path begins, or a vertex of a hull on its line
abbrev pub IsEntry : List Pair → Pair → Pair → Entry → Type 0
IsEntry S a b Start = Covers S a
IsEntry S a b (Edge p q) = IsCrossed S a b p q × (orient p q a <ℤ pos 0)
IsEntry S a b (Vertex c) = IsEntryVertex S a b c

-- how far along the path the entry is: this number ..
abbrev pub part_of : Pair → Pair → Entry → ℤ
part_of a b Start = pos 0
part_of a b (Edge p q) = neg_ℤ (orient p q a)
part_of a b (Vertex c) = product (step a b) c -ℤ product (step a b) a

-- .. divided by this one, in units of the step to b
abbrev pub whole_of : Pair → Pair → Entry → ℤ
whole_of a b Start = pos 1
whole_of a b (Edge p q) = orient a b p -ℤ orient a b q
whole_of a b (Vertex c) = product (step a b) b -ℤ product (step a b) a

-- the entry, and how far along the path it is
pub record IsHit (S : List Pair) (a b : Pair) (r : Hit) : Type 0 where
  pub entry : IsEntry S a b r.place
  pub part : pos r.numerator ≡ part_of a b r.place
  pub whole : pos r.denominator ≡ whole_of a b r.place

-- no point of the ray is covered: a direction separates S from a, and b lies no less far in it
abbrev pub MissesRay : List Pair → Pair → Pair → Type 0
MissesRay S a b =
    (d : Pair) × ((s : Pair) → Contains S s → product d s <ℤ product d a) × (product d a ≤ℤ product d b)

-- ---- the entry is the first point

-- the point of the path at n / k of the step from a to b, magnified by k
abbrev pub on_way : ℕ → ℕ → Pair → Pair → Pair
on_way k n a b = record {
  x = pos k *ℤ a.x +ℤ pos n *ℤ (b.x -ℤ a.x);
  y = pos k *ℤ a.y +ℤ pos n *ℤ (b.y -ℤ a.y);
}

-- no covered point of the path comes before the entry, points with fractions as coordinates included
abbrev pub NoneBefore : Type 0
NoneBefore =
    (S : List Pair) (a b : Pair) (place : Entry) (k n : ℕ) → IsEntry S a b place → Covers (magnified k S) (on_way k n a b)
    → (pos k *ℤ part_of a b place) ≤ℤ (pos n *ℤ whole_of a b place)

-- the entry is covered
abbrev pub EntersThere : Type 0
EntersThere =
    (S : List Pair) (a b : Pair) (place : Entry) (k n : ℕ) → IsEntry S a b place → pos n ≡ part_of a b place
    → pos k ≡ whole_of a b place → Covers (magnified k S) (on_way k n a b)

-- ---- the last point of a ray, as the entry of the opposite ray: c is a step back from a, as b is a step forward

-- a does not lie right of the edge from p to q, which goes from the left of the opposite ray to its right; or the
-- vertex e lies on the line, not behind a, and no point of S lies farther along
abbrev pub IsExit : List Pair → Pair → Pair → Entry → Type 0
IsExit S a c Start = ⊥
IsExit S a c (Edge p q) = IsCrossed S a c p q × (pos 0 ≤ℤ orient p q a)
IsExit S a c (Vertex e) =
    IsExtreme S e × (orient a c e ≡ pos 0) × (product (step a c) e ≤ℤ product (step a c) a) × IsFarthest S (step c a) e

-- the exit of the ray, and how far along it is
pub record IsLast (S : List Pair) (a c : Pair) (r : Hit) : Type 0 where
  pub exit : IsExit S a c r.place
  pub part : pos r.numerator ≡ neg_ℤ (part_of a c r.place)
  pub whole : pos r.denominator ≡ whole_of a c r.place

-- the point of the path at n / k of the step, by the step back, magnified by k
abbrev pub on_from : ℕ → ℕ → Pair → Pair → Pair
on_from k n a c = record {
  x = pos k *ℤ a.x -ℤ pos n *ℤ (c.x -ℤ a.x);
  y = pos k *ℤ a.y -ℤ pos n *ℤ (c.y -ℤ a.y);
}

-- no covered point of the path comes after the exit, points with fractions as coordinates included
abbrev pub NoneAfter : Type 0
NoneAfter =
    (S : List Pair) (a c : Pair) (place : Entry) (k n : ℕ) → IsExit S a c place → Covers (magnified k S) (on_from k n a c)
    → (pos n *ℤ whole_of a c place) ≤ℤ (pos k *ℤ neg_ℤ (part_of a c place))

-- the exit is covered
abbrev pub LeavesThere : Type 0
LeavesThere =
    (S : List Pair) (a c : Pair) (place : Entry) (k n : ℕ) → IsExit S a c place → pos n ≡ neg_ℤ (part_of a c place)
    → pos k ≡ whole_of a c place → Covers (magnified k S) (on_from k n a c)

-- ---- along the vertices

-- t lies left of the line from a to b, or on it if that counts
abbrev pub IsKept : Bool → Pair → Pair → Pair → Type 0
IsKept true a b t = pos 0 ≤ℤ orient a b t
IsKept false a b t = pos 0 <ℤ orient a b t

-- all of S lies left of the line from a to b, or all right of it, or all on it
abbrev pub IsUncrossed : List Pair → Pair → Pair → Type 0
IsUncrossed S a b =
    ((s : Pair) → Contains S s → pos 0 <ℤ orient a b s) ⊎ ((s : Pair) → Contains S s → orient a b s <ℤ pos 0)
    ⊎ ((s : Pair) → Contains S s → orient a b s ≡ pos 0)

-- the vertex c of such a set is farthest back along the path
abbrev pub IsNearestBack : List Pair → Pair → Pair → Pair → Type 0
IsNearestBack S a b c = IsUncrossed S a b × IsExtreme S c × IsFarthest S (step b a) c

-- for each set that has the property P and does not cover a, the result is the entry, or that the path misses
abbrev pub ReturnsHit : Pair → Pair → (List Pair → Type 0) → Option Hit → Type 0
ReturnsHit a b P r =
    (S : List Pair) → IsPointSet S → ¬ Covers S a → P S → MatchOption r (MissesRay S a b) (λ found. IsHit S a b found)

-- for each set that has the property P, the result is the exit of the path from a along w, or that the path misses
abbrev pub ReturnsLast : Pair → Pair → (List Pair → Type 0) → Option Hit → Type 0
ReturnsLast a w P r =
    (S : List Pair) → P S → MatchOption r (MissesRay S a (moved a w)) (λ found. IsLast S a (moved a (backward w)) found)

-- the vertex e of a set that the line does not cross is farthest along
abbrev pub IsFarthestOn : List Pair → Pair → Pair → Pair → Type 0
IsFarthestOn S a w e = IsUncrossed S a (moved a w) × IsExtreme S e × IsFarthest S w e
