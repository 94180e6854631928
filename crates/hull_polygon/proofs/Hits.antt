-- The results of raycasts, from what the vertices show of a path.
use Rattle.std.proofs.Common.{◌≡◌, ◌∙◌, ℕ, ℤ, pos, neg_ℤ, ◌+ℤ◌, ◌-ℤ◌, ◌<ℤ◌, ◌<◌, ap, sym, subst, List, [], arith}
use Rattle.std.specs.Prelude.{Option, MatchOption}
use Rattle.std.specs.List.{Contains}
use Rattle.std.proofs.lemmas.Int.{ints}
use Rattle.lattice.specs.Places.{IsFarthest}
use Rattle.lattice.specs.Plane.{Pair, orient}
use Rattle.lattice.proofs.Order.{same_pair}
use Rattle.hull_polygon.specs.Raycasts.{IsCrossed, IsEntry, IsHit, IsLast, IsUncrossed, MissesRay, moved, part_of, whole_of}
use Rattle.hull_polygon.specs.Meetings.{AreDisjoint, segment}
use Rattle.hull_polygon.specs.Steps.{backward, step}
use Rattle.hull_polygon.specs.declared.raycasts.Hit.{Hit}
use Rattle.hull_polygon.specs.declared.raycasts.Entry.{Entry}
use Rattle.hull_polygon.specs.declared.raycasts.Entry.TheVariants.{Start, Edge, Vertex}
use Rattle.hull_polygon.proofs.Casting.{apart_before_vertex, apart_before_edge, missed_left}
use Rattle.hull_polygon.proofs.Courses.{moved_step}

-- every ray misses the empty set
pub nothing_there : (S : List Pair) (a b : Pair) → S ≡ [] → MissesRay S a b
nothing_there S a b e =
    missed_left S a b (λ s m. absurd (let k = subst (λ (z : List Pair). Contains z s) e m in omega (arith, k.1)))

-- an edge that goes over the line lies less far left at its end
pub goes_over : (S : List Pair) (a b p q : Pair) → IsCrossed S a b p q → orient a b q <ℤ orient a b p
goes_over S a b p q h = less _ _ h.across
  where
    less : (x y : ℤ) → pos 0 <ℤ (x -ℤ y) → y <ℤ x
    less x y h = omega (arith, ints)

-- the step from the point to which a vector leads back to its start is the opposite vector
step_to_start : (a w : Pair) → step (moved a w) a ≡ backward w
step_to_start a w = same_pair _ (backward w) (back a.x w.x) (back a.y w.y)
  where
    back : (x y : ℤ) → x -ℤ (x +ℤ y) ≡ neg_ℤ y
    back x y = omega (arith, ints)

-- the point farthest in the opposite direction is farthest towards the start
pub farthest_to_start : (S : List Pair) (a w d c t : Pair) → d ≡ backward w → t ≡ c → IsFarthest S d c
    → IsFarthest S (step (moved a w) a) t
farthest_to_start S a w d c t e g f =
    subst (λ (v : Pair). IsFarthest S v t) (e ∙ sym (step_to_start a w)) (subst (λ (v : Pair). IsFarthest S d v) (sym g) f)

-- an edge that is crossed, or none, for the opposite path
pub crossed_back : (S : List Pair) (start along a w p q : Pair) → start ≡ a → along ≡ backward w
    → IsCrossed S start (moved start along) p q → IsCrossed S a (moved a (backward w)) p q
crossed_back S start along a w p q e f h =
    subst (λ (v : Pair). IsCrossed S a (moved a v) p q) f (subst (λ (v : Pair). IsCrossed S v (moved v along) p q) e h)

pub not_crossed_back : (S : List Pair) (start along a w : Pair) → start ≡ a → along ≡ backward w
    → IsUncrossed S start (moved start along) → IsUncrossed S a (moved a (backward w))
not_crossed_back S start along a w e f h =
    subst (λ (v : Pair). IsUncrossed S a (moved a v)) f (subst (λ (v : Pair). IsUncrossed S v (moved v along)) e h)

-- a result for a vector is a result for an equal one
pub last_along : (S : List Pair) (a w v : Pair) (r : Option Hit) → w ≡ v
    → MatchOption r (MissesRay S a (moved a w)) (λ found. IsLast S a (moved a (backward w)) found)
    → MatchOption r (MissesRay S a (moved a v)) (λ found. IsLast S a (moved a (backward v)) found)
last_along S a w v r e h =
    subst (λ (z : Pair). MatchOption r (MissesRay S a (moved a z)) (λ found. IsLast S a (moved a (backward z)) found)) e h

-- ---- segments

-- a step to the end leads there
pub to_end : (a b w : Pair) → w ≡ step a b → moved a w ≡ b
to_end a b w e = ap (moved a) e ∙ moved_step a b

-- a place that lies beyond the end
beyond_end : (S : List Pair) (a b : Pair) (place : Entry) (n k : ℕ) → IsEntry S a b place → pos n ≡ part_of a b place
    → pos k ≡ whole_of a b place → k < n → AreDisjoint S (segment a b)
beyond_end S a b Start n k h en ek l = absurd (omega (arith, ints, en, ek, l))
beyond_end S a b (Edge p q) n k h en ek l = apart_before_edge S a b p q h.0.left h.1 (more _ _ n k en ek l)
  where
    more : (x y : ℤ) (n k : ℕ) → pos n ≡ x → pos k ≡ y → k < n → y <ℤ x
    more x y n k e f l = omega (arith, ints)
beyond_end S a b (Vertex c) n k h en ek l = apart_before_vertex S a b c h.first h.ahead (more _ _ n k en ek l)
  where
    more : (x y : ℤ) (n k : ℕ) → pos n ≡ x → pos k ≡ y → k < n → y <ℤ x
    more x y n k e f l = omega (arith, ints)

-- if the path enters beyond the end of the segment, the segment is disjoint
pub apart_beyond : (S : List Pair) (a b : Pair) (r : Hit) → IsHit S a b r → r.denominator < r.numerator → AreDisjoint S (segment a b)
apart_beyond S a b r h l = beyond_end S a b r.place r.numerator r.denominator h.entry h.part h.whole l
