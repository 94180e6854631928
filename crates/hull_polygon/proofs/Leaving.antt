-- The exit of a ray from a set, by an edge that crosses its line, or by a vertex on it. c is a step back from its start
-- a.
use Rattle.std.proofs.lemmas.Grind.{common_steps}
use Rattle.std.proofs.Common.{◌≡◌, ℕ, ℤ, pos, ◌+ℤ◌, ◌-ℤ◌, ◌*ℤ◌, ◌≤ℤ◌, ◌<ℤ◌, neg_ℤ, inl, inr, refl, sym, ◌∙◌, subst}
use Rattle.std.proofs.Common.{List, arith}
use Rattle.std.specs.List.{Contains}
use Rattle.std.proofs.lemmas.Int.{ints}
use Rattle.std.proofs.lemmas.List.Elements.{All-contains}
use Rattle.lattice.specs.Covers.{Covers}
use Rattle.lattice.specs.Places.{IsFarthest}
use Rattle.lattice.specs.Plane.{Pair, orient, product}
use Rattle.lattice.specs.Polynomials.{difference-eq, as_difference, difference_rules}
use Rattle.lattice.specs.Vertices.{IsLeftOf}
use Rattle.lattice.proofs.Numbers.{le_less_trans, sum_nn}
use Rattle.lattice.proofs.Order.{same_pair}
use Rattle.lattice.proofs.Vectors.{as_pair}
use Rattle.hull_polygon.specs.Raycasts.{IsUncrossed, MissesRay, NoneAfter, LeavesThere, on_from, moved}
use Rattle.hull_polygon.specs.Closest.{magnified}
use Rattle.hull_polygon.specs.Steps.{backward, left_of, step}
use Rattle.hull_polygon.specs.declared.raycasts.Entry.TheVariants.{Start, Edge, Vertex}
use Rattle.hull_polygon.proofs.Casting.{at_part, comes_there, crosses_there, missed_left, missed_right, right_of_edge}
use Rattle.hull_polygon.proofs.Cones.{square_nn}
use Rattle.hull_polygon.proofs.Courses.{length_of_step, step_moved}
use Rattle.hull_polygon.proofs.FarApart.{magnified_near}
use Rattle.hull_polygon.proofs.NearestOf.{step_back}
use Rattle.hull_polygon.proofs.SeparatedLists.{weights_sum}
use Rattle.hull_polygon.proofs.Shields.{product_left}
use Rattle.lattice.proofs.LineCrossings.{orient_other}

-- a step on and a step back have opposite sides
pub side_back : (a w t : Pair) → orient a (moved a w) t ≡ neg_ℤ (orient a (moved a (backward w)) t)
unfolding orient
side_back a w t = rw (as_pair a, as_pair w, as_pair t) (simp difference_rules (difference-eq _ _ _ _ (omega arith)))

-- the step from the one to the other goes twice as far as that to the start
twice : (d a w : Pair) → product d (moved a w) -ℤ product d a ≡ product d a -ℤ product d (moved a (backward w))
unfolding product
twice d a w = rw (as_pair d, as_pair a, as_pair w) (simp difference_rules (difference-eq _ _ _ _ (omega arith)))

-- if the start lies right of an edge at which the path exits, the path misses
pub missed_out : (S : List Pair) (a w p q : Pair) → IsLeftOf S p q
    → pos 0 <ℤ (orient a (moved a (backward w)) p -ℤ orient a (moved a (backward w)) q) → orient p q a <ℤ pos 0
    → MissesRay S a (moved a w)
missed_out S a w p q left over h = (
  left_of q p,
  λ s m. less _ _ _ _ _ _ _ (product_left q p s) (product_left q p a) (orient_other p q s) (orient_other p q a)
      (All-contains (λ u. pos 0 ≤ℤ orient p q u) S s left m) h,
  farther (product (left_of q p) (moved a w)) (product (left_of q p) a) (product (left_of q p) (moved a (backward w)))
      (product (left_of q p) q) (orient q p a) (orient q p (moved a (backward w))) (orient p q a)
      (orient p q (moved a (backward w))) (orient a (moved a (backward w)) p) (orient a (moved a (backward w)) q) (twice (left_of q p) a w) (product_left q p a) (product_left q p (moved a (backward w)))
      (orient_other p q a) (orient_other p q (moved a (backward w))) (weights_sum a (moved a (backward w)) p q) over,
)
  where
    less : (x y z u v o r : ℤ) → x -ℤ y ≡ u → z -ℤ y ≡ v → u ≡ neg_ℤ o → v ≡ neg_ℤ r → pos 0 ≤ℤ o → r <ℤ pos 0 → x <ℤ z
    less x y z u v o r e f g h k l = omega (arith, ints)

    farther : (b a c q u v o r sp sq : ℤ) → b -ℤ a ≡ a -ℤ c → a -ℤ q ≡ u → c -ℤ q ≡ v → u ≡ neg_ℤ o → v ≡ neg_ℤ r
        → o -ℤ r ≡ sq -ℤ sp → pos 0 <ℤ (sp -ℤ sq) → a ≤ℤ b
    farther b a c q u v o r sp sq e f g h i j k = omega (arith, ints)

-- if the line is not crossed in one direction, it is not crossed in the other
pub uncrossed_back : (S : List Pair) (a w : Pair) → IsUncrossed S a (moved a (backward w)) → IsUncrossed S a (moved a w)
uncrossed_back S a w (inl h) = inr (inl (λ s m. below _ _ (side_back a w s) (h s m)))
  where
    below : (x y : ℤ) → x ≡ neg_ℤ y → pos 0 <ℤ y → x <ℤ pos 0
    below x y e h = omega (arith, ints)
uncrossed_back S a w (inr (inl h)) = inl (λ s m. above _ _ (side_back a w s) (h s m))
  where
    above : (x y : ℤ) → x ≡ neg_ℤ y → y <ℤ pos 0 → pos 0 <ℤ x
    above x y e h = omega (arith, ints)
uncrossed_back S a w (inr (inr h)) = inr (inr (λ s m. none _ _ (side_back a w s) (h s m)))
  where
    none : (x y : ℤ) → x ≡ neg_ℤ y → y ≡ pos 0 → x ≡ pos 0
    none x y e h = omega (arith, ints)

-- if no point of S lies as far along as the start, the path misses
pub missed_ahead : (S : List Pair) (a w e : Pair) → IsFarthest S w e → product w e <ℤ product w a
    → MissesRay S a (moved a w)
missed_ahead S a w e far h = (
  w,
  λ s m. le_less_trans _ _ _ (All-contains (λ u. product w u ≤ℤ product w e) S s far m) h,
  longer _ _ _ (length_of_step a w) (sum_nn _ _ (square_nn w.x) (square_nn w.y)),
)
  where
    longer : (b a l : ℤ) → b -ℤ a ≡ l → pos 0 ≤ℤ l → a ≤ℤ b
    longer b a l e h = omega (arith, ints)

-- ---- no point after

-- how far a point of the path lies in a direction
from_along : (d a c : Pair) (k n : ℕ)
    → product d (on_from k n a c) ≡ pos k *ℤ product d a -ℤ pos n *ℤ (product d c -ℤ product d a)
unfolding product
from_along d a c k n = parts d.x d.y a.x a.y c.x c.y (pos k) (pos n)
  where
    parts : (u v x y z w k n : ℤ)
        → u *ℤ (k *ℤ x -ℤ n *ℤ (z -ℤ x)) +ℤ v *ℤ (k *ℤ y -ℤ n *ℤ (w -ℤ y))
        ≡ k *ℤ (u *ℤ x +ℤ v *ℤ y) -ℤ n *ℤ ((u *ℤ z +ℤ v *ℤ w) -ℤ (u *ℤ x +ℤ v *ℤ y))
    parts u v x y z w k n =
        rw (
          as_difference u,
          as_difference v,
          as_difference x,
          as_difference y,
          as_difference z,
          as_difference w,
          as_difference k,
          as_difference n,
        ) (simp difference_rules (difference-eq _ _ _ _ (omega arith)))

-- if a point of the path is no farther in a direction than k times e, it does not come after
none_past : (k n : ℕ) (da dc de part whole : ℤ) → (pos k *ℤ da -ℤ pos n *ℤ (dc -ℤ da)) ≤ℤ (pos k *ℤ de)
    → part ≡ de -ℤ da → whole ≡ da -ℤ dc → (pos n *ℤ whole) ≤ℤ (pos k *ℤ part)
none_past k n da dc de part whole h e f =
    rw (e, f) (omega (arith, ints, spread (pos k) de da, turned (pos n) da dc, h))
  where
    spread : (k x y : ℤ) → k *ℤ (x -ℤ y) ≡ k *ℤ x -ℤ k *ℤ y
    spread k x y = rw (as_difference k, as_difference x, as_difference y)
        (simp difference_rules (difference-eq _ _ _ _ (omega arith)))

    turned : (n x y : ℤ) → n *ℤ (x -ℤ y) ≡ neg_ℤ (n *ℤ (y -ℤ x))
    turned n x y = rw (as_difference n, as_difference x, as_difference y)
        (simp difference_rules (difference-eq _ _ _ _ (omega arith)))

-- no covered point of the path comes after the edge or the vertex
pub none_after : NoneAfter
none_after S a c Start k n h m = absurd h
none_after S a c (Edge p q) k n h m =
    none_past k n (product (left_of q p) a) (product (left_of q p) c) (product (left_of q p) q)
    (neg_ℤ (neg_ℤ (orient p q a))) (orient a c p -ℤ orient a c q)
    (subst (λ (z : ℤ). z ≤ℤ (pos k *ℤ product (left_of q p) q)) (from_along (left_of q p) a c k n)
    (magnified_near S (left_of q p) q (on_from k n a c) k (right_of_edge S p q h.0.left) m))
    (part (product (left_of q p) a) (product (left_of q p) q) (orient q p a) (orient p q a) (product_left q p a)
    (orient_other p q a))
    (whole (product (left_of q p) a) (product (left_of q p) q) (product (left_of q p) c) (orient q p a) (orient q p c)
    (orient p q a) (orient p q c) (orient a c p) (orient a c q) (product_left q p a) (product_left q p c)
    (orient_other p q a) (orient_other p q c) (weights_sum a c p q))
  where
    part : (x y u o : ℤ) → x -ℤ y ≡ u → u ≡ neg_ℤ o → neg_ℤ (neg_ℤ o) ≡ y -ℤ x
    part x y u o e f = omega (arith, ints)

    whole : (x y z u v o r sp sq : ℤ) → x -ℤ y ≡ u → z -ℤ y ≡ v → u ≡ neg_ℤ o → v ≡ neg_ℤ r → o -ℤ r ≡ sq -ℤ sp
        → sp -ℤ sq ≡ x -ℤ z
    whole x y z u v o r sp sq e f g h k = omega (arith, ints)
none_after S a c (Vertex e) k n h m =
    none_past k n (product (step c a) a) (product (step c a) c) (product (step c a) e)
    (neg_ℤ (product (step a c) e -ℤ product (step a c) a)) (product (step a c) c -ℤ product (step a c) a)
    (subst (λ (z : ℤ). z ≤ℤ (pos k *ℤ product (step c a) e)) (from_along (step c a) a c k n)
    (magnified_near S (step c a) e (on_from k n a c) k h.3 m))
    (part (product (step c a) a) (product (step c a) e) (product (step a c) a) (product (step a c) e) (step_back a c a)
    (step_back a c e))
    (whole (product (step c a) a) (product (step c a) c) (product (step a c) a) (product (step a c) c) (step_back a c a)
    (step_back a c c))
  where
    part : (x y u v : ℤ) → x ≡ neg_ℤ u → y ≡ neg_ℤ v → neg_ℤ (v -ℤ u) ≡ y -ℤ x
    part x y u v e f = omega (arith, ints)

    whole : (x y u v : ℤ) → x ≡ neg_ℤ u → y ≡ neg_ℤ v → v -ℤ u ≡ x -ℤ y
    whole x y u v e f = omega (arith, ints)

-- ---- the exit is covered

-- a point of the path by its fraction of the step back
from_part : (k n : ℕ) (m : ℤ) (a c : Pair) → m ≡ neg_ℤ (pos n) → at_part k m a c ≡ on_from k n a c
from_part k n m a c e = same_pair _ _ (at a.x c.x) (at a.y c.y)
  where
    turned : (n x : ℤ) → neg_ℤ n *ℤ x ≡ neg_ℤ (n *ℤ x)
    turned n x = rw (as_difference n, as_difference x) (simp difference_rules (difference-eq _ _ _ _ (omega arith)))

    at : (x z : ℤ) → pos k *ℤ x +ℤ m *ℤ (z -ℤ x) ≡ pos k *ℤ x -ℤ pos n *ℤ (z -ℤ x)
    at x z = rw e (omega (arith, ints, turned (pos n) (z -ℤ x)))

-- the exit of the path is covered
pub leaves_there : LeavesThere
leaves_there S a c Start k n h en ek = absurd h
leaves_there S a c (Edge p q) k n h en ek =
    subst (Covers (magnified k S)) (from_part k n (neg_ℤ (orient p q a)) a c (twice_turned _ _ en))
    (crosses_there S a c p q k (neg_ℤ (orient p q a)) h.0.start.0 h.0.end.0 h.0.from h.0.to h.0.across refl ek)
  where
    twice_turned : (n x : ℤ) → n ≡ neg_ℤ x → x ≡ neg_ℤ n
    twice_turned n x e = omega (arith, ints)
leaves_there S a c (Vertex e) k n h en ek =
    subst (Covers (magnified k S))
    (from_part k n (product (step a c) e -ℤ product (step a c) a) a c (twice_turned _ _ en))
    (comes_there S a c e k (product (step a c) e -ℤ product (step a c) a) h.0.0 h.1 refl ek)
  where
    twice_turned : (n x : ℤ) → n ≡ neg_ℤ x → x ≡ neg_ℤ n
    twice_turned n x e = omega (arith, ints)

-- ---- results

-- if the line is not crossed, and the point of S farthest along lies beside it or behind, the path misses S
pub missed_beyond : (S : List Pair) (a w e : Pair) → IsUncrossed S a (moved a w) → IsFarthest S w e → Contains S e
    → ((orient a (moved a w) e ≡ pos 0) → product w e <ℤ product w a) → MissesRay S a (moved a w)
missed_beyond S a w e (inl h) far m k = missed_left S a (moved a w) h
missed_beyond S a w e (inr (inl h)) far m k = missed_right S a (moved a w) h
missed_beyond S a w e (inr (inr h)) far m k = missed_ahead S a w e far (k (h e m))

-- the opposite path, by its start and its direction
pub on_back : (start along a w t : Pair) → start ≡ a → along ≡ backward w
    → orient start (moved start along) t ≡ orient a (moved a (backward w)) t
on_back start along a w t e f = grind (arith, common_steps, orient, moved, along, backward, e, f)

-- in the opposite direction a point lies as far back
product_back : (w t : Pair) → product (backward w) t ≡ neg_ℤ (product w t)
unfolding product
product_back w t = rw (as_pair w, as_pair t) (simp difference_rules (difference-eq _ _ _ _ (omega arith)))

-- the step from the point behind the start to the start
step_from : (a w : Pair) → step (moved a (backward w)) a ≡ w
step_from a w = same_pair _ w (back a.x w.x) (back a.y w.y)
  where
    back : (x y : ℤ) → x -ℤ (x +ℤ neg_ℤ y) ≡ y
    back x y = omega (arith, ints)

-- a vertex on the line is on it from either side
pub line_back : (a w e : Pair) → orient a (moved a w) e ≡ pos 0 → orient a (moved a (backward w)) e ≡ pos 0
line_back a w e h = nothing _ _ (side_back a w e) h
  where
    nothing : (x y : ℤ) → x ≡ neg_ℤ y → x ≡ pos 0 → y ≡ pos 0
    nothing x y e f = omega (arith, ints)

-- a point that lies no farther back than the start, seen from the other side
pub not_behind_back : (a w e : Pair) → product w a ≤ℤ product w e
    → product (step a (moved a (backward w))) e ≤ℤ product (step a (moved a (backward w))) a
not_behind_back a w e h =
    subst (λ (d : Pair). product d e ≤ℤ product d a) (sym (step_moved a (backward w)))
    (turned _ _ _ _ (product_back w e) (product_back w a) h)
  where
    turned : (x y u v : ℤ) → x ≡ neg_ℤ u → y ≡ neg_ℤ v → v ≤ℤ u → x ≤ℤ y
    turned x y u v e f h = omega (arith, ints)

-- the point farthest along, seen from the other side
pub farthest_back : (S : List Pair) (a w e : Pair) → IsFarthest S w e
    → IsFarthest S (step (moved a (backward w)) a) e
farthest_back S a w e f = subst (λ (d : Pair). IsFarthest S d e) (sym (step_from a w)) f

-- how far a point lies ahead, seen from the other side
pub ahead_back : (a w e : Pair)
    → product w e -ℤ product w a
    ≡ neg_ℤ (product (step a (moved a (backward w))) e -ℤ product (step a (moved a (backward w))) a)
ahead_back a w e =
    subst (λ (d : Pair). product w e -ℤ product w a ≡ neg_ℤ (product d e -ℤ product d a))
    (sym (step_moved a (backward w))) (turned _ _ _ _ (product_back w e) (product_back w a))
  where
    turned : (x y u v : ℤ) → x ≡ neg_ℤ u → y ≡ neg_ℤ v → u -ℤ v ≡ neg_ℤ (x -ℤ y)
    turned x y u v e f = omega (arith, ints)

-- the squared length of a vector is that of the opposite one
pub length_back : (a w : Pair)
    → w.x *ℤ w.x +ℤ w.y *ℤ w.y
    ≡ product (step a (moved a (backward w))) (moved a (backward w)) -ℤ product (step a (moved a (backward w))) a
length_back a w =
    same w.x w.y ∙ sym (length_of_step a (backward w))
    ∙ subst (λ (d : Pair). product (backward w) (moved a (backward w)) -ℤ product (backward w) a
    ≡ product d (moved a (backward w)) -ℤ product d a) (sym (step_moved a (backward w))) refl
  where
    same : (x y : ℤ) → x *ℤ x +ℤ y *ℤ y ≡ neg_ℤ x *ℤ neg_ℤ x +ℤ neg_ℤ y *ℤ neg_ℤ y
    same x y = rw (as_difference x, as_difference y) (simp difference_rules (difference-eq _ _ _ _ (omega arith)))
