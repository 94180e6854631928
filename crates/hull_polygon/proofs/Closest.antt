-- Of the points of two disjoint sets, a vertex of one of them is closest to the other: if the distance of some vertex
-- to the other set is the least of all, no point of its own set lies farther in that direction.
use Rattle.std.proofs.Common.{◌≡◌, ℕ, zero, suc, ◌≤◌, ◌<◌, ℤ, pos, ◌*ℤ◌, ◌≤ℤ◌, ◌<ℤ◌, neg_ℤ, inl, inr}
use Rattle.std.proofs.Common.{refl, sym, subst, List, [], ◌∷◌, length, arith}
use Rattle.std.specs.List.{Contains}
use Rattle.std.proofs.lemmas.Bool.{cases_lt}
use Rattle.std.proofs.lemmas.Int.{ints}
use Rattle.std.proofs.lemmas.List.Elements.{All-contains}
use Rattle.lattice.specs.Covers.{Covers, IsExtreme, Member}
use Rattle.lattice.specs.Places.{IsFarthest}
use Rattle.lattice.specs.Plane.{Pair, product}
use Rattle.lattice.specs.Signs.{le_or_lt}
use Rattle.hull_geometry.proofs.NotCovered.{not_covered}
use Rattle.hull_polygon.specs.Closest.{IsPassedBy, HasNoClosest, IsClosest, IsClosestToEdge, way_to}
use Rattle.hull_polygon.specs.Meetings.{IsReached, AreDisjoint}
use Rattle.hull_polygon.specs.Nearest.{IsNearest, IsNearestVertex}
use Rattle.hull_polygon.specs.Polygons.{IsPolygonOf}
use Rattle.hull_polygon.specs.Rounds.{vertex, IsSeparated}
use Rattle.hull_polygon.specs.Separations.{IsSeparation}
use Rattle.hull_polygon.specs.Steps.{step, left_of}
use Rattle.hull_polygon.specs.declared.nearest.Nearest.{Nearest}
use Rattle.hull_polygon.specs.declared.nearest.Nearest.TheVariants.{Covered, Vertex, Edge}
use Rattle.hull_polygon.specs.declared.separations.Separation.{Separation}
use Rattle.hull_polygon.proofs.Vertices.{vertex_extreme, vertex_of}
use Rattle.hull_geometry.proofs.PointLists.{all_of}
use Rattle.hull_polygon.proofs.Fractions.{quotients_le}
use Rattle.hull_polygon.proofs.SeparatedLists.{never_both}
use Rattle.hull_polygon.proofs.Separated.{apart_by, from_vertex, from_edge, way_on}
use Rattle.hull_polygon.proofs.Switches.{farthest_vertex, placed}
use Rattle.hull_polygon.proofs.Witnessed.{apart_turned}
use Rattle.hull_polygon.proofs.Rivals.{depth, reach, Rival, farther_than, reach_above, vertex_closest, other_normal}
use Rattle.hull_polygon.proofs.Rivals.{edge_closest}
use Rattle.lattice.proofs.Numbers.{le_itself, le_less, le_less_trans, le_trans, nn_above}

-- ---- the nearest feature of all

-- the separation of a set from c, by the nearest feature to c
abbrev returned : Pair → Nearest → Separation
returned c Covered = apart_by (step c c) c
returned c (Vertex d) = apart_by (step d c) d
returned c (Edge a b) = apart_by (left_of b a) b

-- it is a separation
returned_parts : (T : List Pair) (c : Pair) (place : Nearest) → ¬ Covers T c → IsNearest T c place
    → IsSeparation T (c ∷ []) (returned c place)
returned_parts T c Covered out h = absurd (out h)
returned_parts T c (Vertex d) out h = from_vertex T c d _ h refl
returned_parts T c (Edge a b) out h = from_edge T c a b _ h refl

-- no set covers a point of a set that is disjoint from it
pub not_covering : (S T : List Pair) (c : Pair) → AreDisjoint S T → Contains S c → ¬ Covers T c
not_covering S T c a m k = never_both S T (IsReached c m k) a

-- if each vertex of S has a rival in T that is no nearer, and each vertex of T one in S, no point of S lies farther
-- than c in the direction to the nearest feature
least_closest : (S T : List Pair) (c : Pair) (place : Nearest) → AreDisjoint S T → Contains S c → IsNearest T c place
    → ((d : Pair) → (s : Pair) × IsExtreme S s × IsFarthest S d s)
    → ((q : Pair) → IsExtreme S q → Rival T q (depth (returned c place) c) (reach (returned c place)))
    → ((q : Pair) → IsExtreme T q → Rival S q (depth (returned c place) c) (reach (returned c place)))
    → IsFarthest S (way_to c place) c
least_closest S T c Covered a m h far mine others = absurd (not_covering S T c a m h)
least_closest S T c (Vertex d) a m h far mine others =
    all_of (λ t. product (step c d) t ≤ℤ product (step c d) c) S
    (vertex_closest S c d m
    (farther_than T c (returned c (Vertex d)) (returned_parts T c (Vertex d) (not_covering S T c a m) h)) (others d h.vertex))
least_closest S T c (Edge u v) a m h far mine others =
    let (s, es, fs) = far (left_of u v) in
    elim (le_or_lt (product (left_of v u) c) (product (left_of v u) s)) [
      | inl k ↦ all_of (λ t. product (left_of u v) t ≤ℤ product (left_of u v) c) S
          (λ t mt. no_more _ _ _ _ _ (other_normal u v s) (other_normal u v c) k
          (All-contains (λ z. product (left_of u v) z ≤ℤ product (left_of u v) s) S t fs mt))
      | inr k ↦ absurd (edge_closest S T c u v s a.0 a.1 m es.0 h k (mine s es) (others u h.start) (others v h.end))
    ]
  where
    no_more : (t s c ns nc : ℤ) → s ≡ neg_ℤ ns → c ≡ neg_ℤ nc → nc ≤ℤ ns → t ≤ℤ s → t ≤ℤ c
    no_more t s c ns nc e f h k = omega (arith, ints)

-- ---- the least of some fractions

-- of n + 1 fractions with denominators above 0, one is no greater than the others
least_of : (A B : ℕ → ℤ) → ((i : ℕ) → pos 0 <ℤ B i) → (n : ℕ)
    → (k : ℕ) × ((i : ℕ) → i ≤ n → (A k *ℤ B i) ≤ℤ (A i *ℤ B k))
least_of A B above zero = (0, λ i l. subst (λ (j : ℕ). (A 0 *ℤ B j) ≤ℤ (A j *ℤ B 0)) (omega (arith, l)) (same _))
  where
    same : (x : ℤ) → x ≤ℤ x
    same x = omega (arith, ints)
least_of A B above (suc n) =
    let r = least_of A B above n in
    elim (le_or_lt (A r.0 *ℤ B (suc n)) (A (suc n) *ℤ B r.0)) [
      | inl h ↦ (
        r.0,
        λ i l. elim (cases_lt i (suc n)) [
          | inl k ↦ r.1 i (omega (arith, k))
          | inr k ↦ subst (λ (j : ℕ). (A r.0 *ℤ B j) ≤ℤ (A j *ℤ B r.0)) (omega (arith, k, l)) h
        ],
      )
      | inr h ↦ (
        suc n,
        λ i l. elim (cases_lt i (suc n)) [
          | inl k ↦ quotients_le (A (suc n)) (A r.0) (A i) (B (suc n)) (B r.0) (B i) (above r.0) (nn_above _ (above (suc n)))
              (nn_above _ (above i)) (le_less _ _ h) (r.1 i (omega (arith, k)))
          | inr k ↦ subst (λ (j : ℕ). (A (suc n) *ℤ B j) ≤ℤ (A j *ℤ B (suc n))) (omega (arith, k, l)) (le_itself _)
        ],
      )
    ]

-- ---- a vertex that is closest

-- if all vertices are passed by, each is
each_passed : (S V T : List Pair) → 0 < length V → HasNoClosest V S T → (i : ℕ) → IsPassedBy S T (vertex V i)
each_passed S V T n none i = let k = placed V i n in subst (IsPassedBy S T) (sym k.2) (none k.0 k.1)

-- the square of the width of the strip at each vertex of V, times a squared length
abbrev square_of : (S V T : List Pair) → ((i : ℕ) → IsPassedBy S T (vertex V i)) → ℕ → ℤ
square_of S V T f i = depth (returned (vertex V i) (f i).0) (vertex V i) *ℤ depth (returned (vertex V i) (f i).0) (vertex V i)

-- the squared length of its direction
abbrev length_of : (S V T : List Pair) → ((i : ℕ) → IsPassedBy S T (vertex V i)) → ℕ → ℤ
length_of S V T f i = reach (returned (vertex V i) (f i).0)

-- the separation of T from a vertex of S
strip_parts : (S V T : List Pair) (f : (i : ℕ) → IsPassedBy S T (vertex V i)) → IsPolygonOf S V → 0 < length V
    → AreDisjoint S T → (i : ℕ) → IsSeparation T (vertex V i ∷ []) (returned (vertex V i) (f i).0)
strip_parts S V T f o n a i =
    returned_parts T (vertex V i) (f i).0 (not_covering S T (vertex V i) a (vertex_extreme S V i o.1 n).0) (f i).1

-- each vertex is a rival
rival_of : (S V T : List Pair) (f : (i : ℕ) → IsPassedBy S T (vertex V i)) → IsPolygonOf S V → 0 < length V
    → AreDisjoint S T → (H L : ℤ)
    → ((i : ℕ) → i < length V → ((H *ℤ H) *ℤ length_of S V T f i) ≤ℤ (square_of S V T f i *ℤ L))
    → (q : Pair) → IsExtreme S q → Rival T q H L
rival_of S V T f o n a H L h q x =
    let k = vertex_of V q ((o.1.members q).1 x) in
    subst (λ (z : Pair). Rival T z H L) (sym k.2)
    (returned (vertex V k.0) (f k.0).0, strip_parts S V T f o n a k.0, h k.0 k.1)

-- the vertex of S whose strip is least wide is not passed by
least_not_passed : (S V T W : List Pair) (last k : ℕ) (f : (i : ℕ) → IsPassedBy S T (vertex V i))
    → (g : (i : ℕ) → IsPassedBy T S (vertex W i)) → IsPolygonOf S V → IsSeparated V last → IsPolygonOf T W
    → 0 < length V → 0 < length W → AreDisjoint S T
    → ((i : ℕ) → i < length V → (square_of S V T f k *ℤ length_of S V T f i) ≤ℤ (square_of S V T f i *ℤ length_of S V T f k))
    → ((i : ℕ) → i < length W → (square_of S V T f k *ℤ length_of T W S g i) ≤ℤ (square_of T W S g i *ℤ length_of S V T f k)) → ⊥
least_not_passed S V T W last k f g o p t n m a mine others =
    (f k).2 (least_closest S T (vertex V k) (f k).0 a (vertex_extreme S V k o.1 n).0 (f k).1
    (λ d. let r = farthest_vertex S V last d o p n in (vertex V r.0, vertex_extreme S V r.0 o.1 n, r.1.1))
    (rival_of S V T f o n a _ _ mine) (rival_of T W S g t m (apart_turned S T a) _ _ others))

-- of two disjoint sets not all vertices of both are passed by
pub never_all_passed : (S V T W : List Pair) (last end : ℕ) → IsPolygonOf S V → IsSeparated V last → IsPolygonOf T W
    → IsSeparated W end → 0 < length V → 0 < length W → AreDisjoint S T → HasNoClosest V S T → HasNoClosest W T S → ⊥
never_all_passed S V T W last end o p t q n m a none nor =
    let k = least_of (square_of S V T f) (length_of S V T f) up (length V) in
    let j = least_of (square_of T W S g) (length_of T W S g) down (length W) in
    elim (le_or_lt (square_of S V T f k.0 *ℤ length_of T W S g j.0) (square_of T W S g j.0 *ℤ length_of S V T f k.0)) [
      | inl h ↦ least_not_passed S V T W last k.0 f g o p t n m a (λ i l. k.1 i (omega (arith, l)))
          (λ i l. quotients_le (square_of S V T f k.0) (square_of T W S g j.0) (square_of T W S g i) (length_of S V T f k.0)
          (length_of T W S g j.0) (length_of T W S g i) (down j.0) (nn_above _ (up k.0)) (nn_above _ (down i)) h
          (j.1 i (omega (arith, l))))
      | inr h ↦ least_not_passed T W S V end j.0 g f t q o m n (apart_turned S T a) (λ i l. j.1 i (omega (arith, l)))
          (λ i l. quotients_le (square_of T W S g j.0) (square_of S V T f k.0) (square_of S V T f i) (length_of T W S g j.0)
          (length_of S V T f k.0) (length_of S V T f i) (up k.0) (nn_above _ (down j.0)) (nn_above _ (up i)) (le_less _ _ h)
          (k.1 i (omega (arith, l))))
    ]
  where
    f : (i : ℕ) → IsPassedBy S T (vertex V i)
    f = each_passed S V T n none

    g : (i : ℕ) → IsPassedBy T S (vertex W i)
    g = each_passed T W S m nor

    up : (i : ℕ) → pos 0 <ℤ length_of S V T f i
    up i = reach_above T (vertex V i) (returned (vertex V i) (f i).0) (strip_parts S V T f o n a i)

    down : (i : ℕ) → pos 0 <ℤ length_of T W S g i
    down i = reach_above S (vertex W i) (returned (vertex W i) (g i).0) (strip_parts T W S g t m (apart_turned S T a) i)

-- ---- the nearest points of two hulls

-- the vertex farthest in S in the direction to d is nearest to d
vertex_back : (S T : List Pair) (c d : Pair) → IsExtreme S c → IsNearestVertex T c d → IsFarthest S (step c d) c
    → IsNearestVertex S d c
vertex_back S T c d x h f = record {
  outside = not_covered S d (
    step c d,
    all_of (λ t. product (step c d) t <ℤ product (step c d) d) S
        (λ t m. le_less_trans _ _ _ (All-contains (λ z. product (step c d) z ≤ℤ product (step c d) c) S t f m)
        (way_on c d (λ e. h.outside (Member (subst (Contains T) (sym e) h.vertex.0))))),
  );
  vertex = x;
  nearest = f;
}

-- if a farthest point is no farther than c, none is
pub none_farther : (S : List Pair) (d p c : Pair) → IsFarthest S d p → ¬ (product d c <ℤ product d p) → IsFarthest S d c
none_farther S d p c f n =
    all_of (λ t. product d t ≤ℤ product d c) S
    (λ t m. le_trans _ _ _ (All-contains (λ z. product d z ≤ℤ product d p) S t f m) (not_less _ _ n))
  where
    not_less : (x y : ℤ) → ¬ (x <ℤ y) → y ≤ℤ x
    not_less x y n = elim (le_or_lt y x) [ inl h ↦ h | inr h ↦ absurd (n h) ]

-- and only if it is no farther
pub some_farther : (S : List Pair) (d p c : Pair) → Contains S p → IsFarthest S d c → ¬ (product d c <ℤ product d p)
some_farther S d p c m f h = omega (arith, ints, All-contains (λ z. product d z ≤ℤ product d c) S p f m)

-- two vertices
pub by_vertices : (S T : List Pair) (c d : Pair) → IsClosest S T c (Vertex d)
    → IsNearestVertex S d c × IsNearestVertex T c d
by_vertices S T c d h = (vertex_back S T c d h.vertex h.nearest h.closest, h.nearest)

-- a vertex of the one and an edge of the other
pub by_edge : (S T : List Pair) (c a b : Pair) → IsClosest S T c (Edge a b) → IsClosestToEdge S T c a b
by_edge S T c a b h = record { vertex = h.vertex; edge = h.nearest; closest = h.closest }
