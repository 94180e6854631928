-- When a finite set of points covers a point, and which of its points are extreme (Preparata and Shamos, 1985).
-- A set is the list of its points in the order "before".
use Rattle.std.specs.Prelude.{◌≡◌, ◌⊎◌, ℤ, pos, ◌<ℤ◌, ◌≤ℤ◌, List, [], ◌∷◌, Bool, true, false, cond, int_lt}
use Rattle.std.specs.List.{AllPairs, Contains}
use Rattle.lattice.specs.Plane.{Pair, orient, IsBefore}

-- each point is before all later ones, so the list has no point twice
abbrev pub IsPointSet : List Pair → Type 0
IsPointSet S = AllPairs IsBefore S

-- v lies between a and b, ends included
abbrev pub IsBetween : ℤ → ℤ → ℤ → Type 0
IsBetween a b v = ((a ≤ℤ v) × (v ≤ℤ b)) ⊎ ((b ≤ℤ v) × (v ≤ℤ a))

-- q lies on the segment from a to b, ends included
abbrev pub IsOnSegment : Pair → Pair → Pair → Type 0
IsOnSegment a b q = (orient a b q ≡ pos 0) × IsBetween a.x b.x q.x × IsBetween a.y b.y q.y

-- q lies in the closed triangle abc, which bends left
abbrev pub IsInTriangle : Pair → Pair → Pair → Pair → Type 0
IsInTriangle a b c q =
    (pos 0 <ℤ orient a b c) × (pos 0 ≤ℤ orient a b q) × (pos 0 ≤ℤ orient b c q) × (pos 0 ≤ℤ orient c a q)

-- S covers q: it is one of the points, or on a segment between two of them, or in a closed triangle of three of them
pub data Covers (S : List Pair) (q : Pair) : Type 0 where
  Member : Contains S q → Covers S q
  OnSegment : (a b : Pair) → Contains S a → Contains S b → IsOnSegment a b q → Covers S q
  InTriangle : (a b c : Pair) → Contains S a → Contains S b → Contains S c → IsInTriangle a b c q → Covers S q

-- p is before q, as a test
abbrev pub is_before : Pair → Pair → Bool
is_before p q = cond (int_lt p.x q.x) true (cond (int_lt q.x p.x) false (int_lt p.y q.y))

-- S with p
abbrev pub with_point : Pair → List Pair → List Pair
with_point p [] = p ∷ []
with_point p (t ∷ ts) = cond (is_before t p) (t ∷ with_point p ts) (cond (is_before p t) (p ∷ t ∷ ts) (t ∷ ts))

-- S without p
abbrev pub without_point : Pair → List Pair → List Pair
without_point p [] = []
without_point p (t ∷ ts) = cond (is_before t p) (t ∷ without_point p ts) (cond (is_before p t) (t ∷ ts) ts)

-- a point of S that S without it does not cover
abbrev pub IsExtreme : List Pair → Pair → Type 0
IsExtreme S p = Contains S p × ¬ Covers (without_point p S) p
