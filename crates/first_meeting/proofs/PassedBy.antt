-- A point farther to one side of a direction than a set: its ray misses.
use Rattle.std.proofs.Common.{◌≡◌, ℤ, ◌+ℤ◌, ◌*ℤ◌, ◌≤ℤ◌, ◌<ℤ◌, neg_ℤ, subst, sym, List, [], ◌∷◌, arith}
use Rattle.std.proofs.lemmas.Int.{ints}
use Rattle.std.specs.List.{All, Contains}
use Rattle.std.proofs.lemmas.List.Elements.{All-contains, All-weaker}
use Rattle.lattice.specs.Places.{IsFarthest}
use Rattle.lattice.specs.Plane.{Pair, product}
use Rattle.lattice.specs.Polynomials.{difference-eq, as_difference, difference_rules}
use Rattle.lattice.proofs.Numbers.{le_less_trans, less_le_trans}
use Rattle.hull_polygon.specs.Raycasts.{moved}
use Rattle.hull_polygon.specs.Steps.{backward, turned_left}
use Rattle.first_meeting.specs.Arrivals.{NoneArrives}
use Rattle.first_meeting.specs.Lanes.{IsLane}
use Rattle.first_meeting.specs.declared.lanes.Lane.{Lane}
use Rattle.first_meeting.proofs.Hits.{missed_one}

-- a motion goes no way to its left
stays_left : (d v : Pair) → product (turned_left d) v ≡ product (turned_left d) (moved v d)
unfolding product
stays_left d v = along d.x d.y v.x v.y
  where
    along : (p q x y : ℤ) → neg_ℤ q *ℤ x +ℤ p *ℤ y ≡ neg_ℤ q *ℤ (x +ℤ p) +ℤ p *ℤ (y +ℤ q)
    along p q x y = rw (as_difference p, as_difference q, as_difference x, as_difference y)
        (simp difference_rules (difference-eq _ _ _ _ (omega arith)))

-- and none to its right
stays_right : (d v : Pair) → product (backward (turned_left d)) v ≡ product (backward (turned_left d)) (moved v d)
unfolding product
stays_right d v = along d.x d.y v.x v.y
  where
    along : (p q x y : ℤ)
        → neg_ℤ (neg_ℤ q) *ℤ x +ℤ neg_ℤ p *ℤ y ≡ neg_ℤ (neg_ℤ q) *ℤ (x +ℤ p) +ℤ neg_ℤ p *ℤ (y +ℤ q)
    along p q x y = rw (as_difference p, as_difference q, as_difference x, as_difference y)
        (simp difference_rules (difference-eq _ _ _ _ (omega arith)))

-- if each point of T lies less far in a direction in which the motion goes no way, the point does not arrive
beside : (T : List Pair) (d v e : Pair) → ((s : Pair) → Contains T s → product e s <ℤ product e v)
    → product e v ≡ product e (moved v d) → NoneArrives T d (v ∷ [])
beside T d v e less same = missed_one T d v (e, less, level _ _ same)
  where
    level : (x y : ℤ) → x ≡ y → x ≤ℤ y
    level x y e = omega (arith, ints)

-- how far a point lies in the opposite direction
product_back : (e v : Pair) → product (backward e) v ≡ neg_ℤ (product e v)
unfolding product
product_back e v = negated e.x e.y v.x v.y
  where
    negated : (p q x y : ℤ) → neg_ℤ p *ℤ x +ℤ neg_ℤ q *ℤ y ≡ neg_ℤ (p *ℤ x +ℤ q *ℤ y)
    negated p q x y = rw (as_difference p, as_difference q, as_difference x, as_difference y)
        (simp difference_rules (difference-eq _ _ _ _ (omega arith)))

-- of two points the one that lies farther in a direction lies less far in the opposite one
turned_over : (e s v : Pair) → product e v <ℤ product e s → product (backward e) s <ℤ product (backward e) v
turned_over e s v h = rw (product_back e s, product_back e v) (less (product e v) (product e s) h)
  where
    less : (x y : ℤ) → x <ℤ y → neg_ℤ y <ℤ neg_ℤ x
    less x y h = omega (arith, ints)

-- a point to the left of the lane
pub passes_left : (T : List Pair) (d v : Pair) (lane : Lane) → IsLane T d lane → lane.most <ℤ product lane.left v
    → NoneArrives T d (v ∷ [])
passes_left T d v lane h l =
    beside T d v lane.left
    (λ s ms. le_less_trans _ _ _ (All-contains (λ t. product lane.left t ≤ℤ lane.most) T s h.most ms) l)
    (subst (λ (e : Pair). product e v ≡ product e (moved v d)) (sym h.left) (stays_left d v))

-- a point to its right
pub passes_right : (T : List Pair) (d v : Pair) (lane : Lane) → IsLane T d lane → product lane.left v <ℤ lane.least
    → NoneArrives T d (v ∷ [])
passes_right T d v lane h l =
    beside T d v (backward lane.left)
    (λ s ms. turned_over lane.left s v
    (less_le_trans _ _ _ l (All-contains (λ t. lane.least ≤ℤ product lane.left t) T s h.least ms)))
    (subst (λ (e : Pair). product (backward e) v ≡ product (backward e) (moved v d)) (sym h.left) (stays_right d v))

-- what is farthest in the opposite direction is least far
pub least_far : (T : List Pair) (e m : Pair) → IsFarthest T (backward e) m → All (λ t. product e m ≤ℤ product e t) T
least_far T e m far =
    All-weaker (λ t. product (backward e) t ≤ℤ product (backward e) m) (λ t. product e m ≤ℤ product e t)
    (λ t h. back (product e m) (product e t) (rw (product_back e t, product_back e m) at h)) T far
  where
    back : (x y : ℤ) → neg_ℤ y ≤ℤ neg_ℤ x → x ≤ℤ y
    back x y h = omega (arith, ints)
