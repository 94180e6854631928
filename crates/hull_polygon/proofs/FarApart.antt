-- No points of two hulls are nearer to each other than the nearest points of the two.
use Rattle.std.proofs.Common.{◌≡◌, ℕ, ◌<◌, ℤ, pos, ◌-ℤ◌, ◌*ℤ◌, ◌≤ℤ◌, ◌<ℤ◌, neg_ℤ, refl, sym, ap, ◌∙◌, subst}
use Rattle.std.proofs.Common.{List, length, get_or, arith}
use Rattle.std.specs.List.{Contains}
use Rattle.std.proofs.lemmas.Int.{ints}
use Rattle.std.proofs.lemmas.List.{get_or-map, length-map}
use Rattle.lattice.specs.Covers.{Covers, Member}
use Rattle.lattice.specs.Places.{IsFarthest}
use Rattle.lattice.specs.Plane.{Pair, orient, product, distance_squared}
use Rattle.lattice.specs.Polynomials.{difference-eq, as_difference, difference-add, difference-neg, difference-mul, difference_rules}
use Rattle.lattice.proofs.Vectors.{as_pair}
use Rattle.lattice.specs.Signs.{product_nn, cancel_nn}
use Rattle.lattice.proofs.LineCrossings.{orient_end}
use Rattle.hull_polygon.specs.Closest.{NoneCloser, magnified, IsClosestToEdge}
use Rattle.hull_polygon.specs.Nearest.{IsNearestVertex}
use Rattle.hull_polygon.specs.Steps.{step, left_of}
use Rattle.hull_polygon.specs.declared.distance.Distance.TheVariants.{Zero, Vertices, VertexAndEdge, EdgeAndVertex}
use Rattle.hull_polygon.proofs.Distances.{covered_near, distance_nn}
use Rattle.hull_polygon.proofs.Gaps.{along_step, step_squared, some_length, as_far}
use Rattle.hull_polygon.proofs.NearestOf.{step_back}
use Rattle.hull_polygon.proofs.Rivals.{other_normal}
use Rattle.hull_polygon.proofs.Separated.{from_edge, way_on}
use Rattle.hull_polygon.proofs.Shields.{product_left}
use Rattle.lattice.proofs.Numbers.{gap_nn, le_by_gap, nn_above, nn_by_le}
use Rattle.hull_polygon.proofs.Diameters.{distance_turned}

-- ---- a magnified set

-- how far a point lies after magnifying it by k
pub times_along : (k : ℤ) (d p : Pair)
    → product d record { x = k *ℤ p.x; y = k *ℤ p.y } ≡ k *ℤ product d p
unfolding product
times_along k d p =
    rw (as_difference k, as_pair d, as_pair p)
    (simp (difference-add, difference-mul) (difference-eq _ _ _ _ (omega arith)))

-- products of a number that is not below 0 with numbers in order
times_le : (k x y : ℤ) → pos 0 ≤ℤ k → x ≤ℤ y → (k *ℤ x) ≤ℤ (k *ℤ y)
times_le k x y h l = omega (arith, ints, apart k x y, product_nn k (y -ℤ x) h (gap_nn _ _ l))
  where
    apart : (k x y : ℤ) → k *ℤ (y -ℤ x) ≡ k *ℤ y -ℤ k *ℤ x
    apart k x y = rw (as_difference k, as_difference x, as_difference y)
        (simp difference_rules (difference-eq _ _ _ _ (omega arith)))

-- a point that the magnified set covers lies no farther than k times the farthest
pub magnified_near : (S : List Pair) (d s p : Pair) (k : ℕ) → IsFarthest S d s → Covers (magnified k S) p
    → product d p ≤ℤ (pos k *ℤ product d s)
magnified_near S d s p k f c = covered_near (magnified k S) d p (pos k *ℤ product d s) near c
  where
    near : (t : Pair) → Contains (magnified k S) t → product d t ≤ℤ (pos k *ℤ product d s)
    near t (i, l, e) =
        let m : i < length S = rw length-map at l in
        subst (λ (z : Pair). product d z ≤ℤ (pos k *ℤ product d s)) e
        (rw (get_or-map _ S i s t m, times_along (pos k) d (get_or S i s))
        (times_le (pos k) _ _ (omega (arith, ints)) (f i s m)))

-- ---- two sets with a strip between them

-- no points of two sets magnified by k are nearer to each other than k times the width of the strip
far_apart : (S T : List Pair) (d back s t : Pair) (k : ℕ) (p q : Pair) (h : ℤ) → IsFarthest S d s
    → IsFarthest T back t → ((x : Pair) → product back x ≡ neg_ℤ (product d x)) → h ≡ product d t -ℤ product d s
    → pos 0 ≤ℤ h → Covers (magnified k S) p → Covers (magnified k T) q
    → ((pos k *ℤ h) *ℤ (pos k *ℤ h)) ≤ℤ (product d d *ℤ distance_squared p q)
far_apart S T d back s t k p q h fs ft orient_on e hh cp cq =
    as_far d p q (pos k *ℤ h) (product_nn (pos k) h (omega (arith, ints)) hh)
    (wide (pos k) h _ _ _ _ _ _ (apart (pos k) (product d t) (product d s)) e (magnified_near S d s p k fs cp)
    (magnified_near T back t q k ft cq) (orient_on q)
    (ap (λ (z : ℤ). pos k *ℤ z) (orient_on t) ∙ negated (pos k) (product d t)))
  where
    apart : (k x y : ℤ) → k *ℤ (x -ℤ y) ≡ k *ℤ x -ℤ k *ℤ y
    apart k x y = rw (as_difference k, as_difference x, as_difference y)
        (simp difference_rules (difference-eq _ _ _ _ (omega arith)))

    negated : (k x : ℤ) → k *ℤ neg_ℤ x ≡ neg_ℤ (k *ℤ x)
    negated k x = rw (as_difference k, as_difference x)
        (simp (difference-neg, difference-mul) (difference-eq _ _ _ _ (omega arith)))

    wide : (k h w ks kt dp dq bq : ℤ) {bt : ℤ} → k *ℤ w ≡ kt -ℤ ks → h ≡ w → dp ≤ℤ ks → bq ≤ℤ bt → bq ≡ neg_ℤ dq
        → bt ≡ neg_ℤ kt → (k *ℤ h) ≤ℤ (dq -ℤ dp)
    wide k h w ks kt dp dq bq x e a b c d = rw e (omega (arith, ints, x, a, b, c, d))

-- the same of the squared distance itself, if that is the strip's width
cancelled : (k l m : ℤ) → pos 0 <ℤ l → ((k *ℤ l) *ℤ (k *ℤ l)) ≤ℤ (l *ℤ m) → ((k *ℤ k) *ℤ l) ≤ℤ m
cancelled k l m h le = le_by_gap _ _ (cancel_nn (m -ℤ (k *ℤ k) *ℤ l) l h (nn_by_le _ _ _ (drawn k l m) le))
  where
    drawn : (k l m : ℤ) → (m -ℤ (k *ℤ k) *ℤ l) *ℤ l ≡ l *ℤ m -ℤ (k *ℤ l) *ℤ (k *ℤ l)
    drawn k l m = rw (as_difference k, as_difference l, as_difference m)
        (simp difference_rules (difference-eq _ _ _ _ (omega arith)))

-- the normal of an edge is as long as the edge
normal_squared : (a b : Pair) → product (left_of a b) (left_of a b) ≡ distance_squared a b
unfolding product distance_squared
normal_squared a b = rw (as_pair a, as_pair b) (simp difference_rules (difference-eq _ _ _ _ (omega arith)))

-- two vertices are the nearest points
apart_by_vertices : (S T : List Pair) (c d : Pair) (k : ℕ) (p q : Pair) → IsNearestVertex S d c → IsNearestVertex T c d
    → Covers (magnified k S) p → Covers (magnified k T) q
    → ((pos k *ℤ pos k) *ℤ distance_squared c d) ≤ℤ (pos 1 *ℤ distance_squared p q)
apart_by_vertices S T c d k p q hs ht cp cq =
    once _ _ (cancelled (pos k) (distance_squared c d) (distance_squared p q) (rw (← step_squared c d) long)
    (subst (λ (z : ℤ). ((pos k *ℤ distance_squared c d) *ℤ (pos k *ℤ distance_squared c d))
    ≤ℤ (z *ℤ distance_squared p q)) (step_squared c d)
    (far_apart S T (step c d) (step d c) c d k p q (distance_squared c d) hs.nearest ht.nearest (step_back c d)
    (sym (step_squared c d) ∙ along_step (step c d) c d) (rw (← step_squared c d) (nn_above _ long)) cp cq)))
  where
    long : pos 0 <ℤ product (step c d) (step c d)
    long = some_length (step c d) c d
        (way_on c d (λ e. ht.outside (Member (subst (Contains T) (sym e) ht.vertex.0))))

    once : (x y : ℤ) → x ≤ℤ y → x ≤ℤ (pos 1 *ℤ y)
    once x y h = omega (arith, ints)

-- a vertex of S and a point of an edge of T are the nearest points
apart_by_edge : (S T : List Pair) (c a b : Pair) (k : ℕ) (p q : Pair) → IsClosestToEdge S T c a b
    → Covers (magnified k S) p → Covers (magnified k T) q
    → ((pos k *ℤ pos k) *ℤ (orient a b c *ℤ orient a b c)) ≤ℤ (distance_squared a b *ℤ distance_squared p q)
apart_by_edge S T c a b k p q h cp cq =
    rw (squares (pos k) (orient a b c))
    (subst (λ (z : ℤ). ((pos k *ℤ neg_ℤ (orient a b c)) *ℤ (pos k *ℤ neg_ℤ (orient a b c)))
    ≤ℤ (z *ℤ distance_squared p q)) (normal_squared a b)
    (far_apart S T (left_of a b) (left_of b a) c b k p q (neg_ℤ (orient a b c)) h.closest
    (from_edge T c a b _ h.edge refl).farthest (other_normal b a)
    (omega (arith, ints, product_left a b c, product_left a b b, orient_end a b))
    (omega (arith, ints, h.edge.beside.0)) cp cq))
  where
    squares : (k o : ℤ) → (k *ℤ k) *ℤ (o *ℤ o) ≡ (k *ℤ neg_ℤ o) *ℤ (k *ℤ neg_ℤ o)
    squares k o = rw (as_difference k, as_difference o)
        (simp (difference-neg, difference-mul) (difference-eq _ _ _ _ (omega arith)))

-- no points are nearer
pub none_closer : NoneCloser
none_closer S T Zero k p q h cp cq = nothing (pos k *ℤ pos k) _ (distance_nn p q)
  where
    nothing : (x y : ℤ) → pos 0 ≤ℤ y → (x *ℤ pos 0) ≤ℤ (pos 1 *ℤ y)
    nothing x y h = omega (arith, ints)
none_closer S T (Vertices c d) k p q h cp cq = apart_by_vertices S T c d k p q h.0 h.1 cp cq
none_closer S T (VertexAndEdge c a b) k p q h cp cq = apart_by_edge S T c a b k p q h cp cq
none_closer S T (EdgeAndVertex a b d) k p q h cp cq =
    subst (λ (z : ℤ). ((pos k *ℤ pos k) *ℤ (orient a b d *ℤ orient a b d)) ≤ℤ (distance_squared a b *ℤ z))
    (distance_turned q p) (apart_by_edge T S d a b k q p h cq cp)
