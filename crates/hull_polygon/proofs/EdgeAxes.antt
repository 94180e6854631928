-- If a direction separates two sets with at least three vertices each, an edge of one of them has the other on its
-- right.
use Rattle.std.proofs.lemmas.Grind.{common_steps}
use Rattle.std.proofs.Common.{◌≡◌, ℕ, ◌+◌, ◌<◌, ℤ, pos, ◌-ℤ◌, ◌≤ℤ◌, ◌<ℤ◌, neg_ℤ, ◌⊎◌, inl, inr, sym, subst, List}
use Rattle.std.proofs.Common.{length, arith}
use Rattle.std.specs.List.{Contains}
use Rattle.std.proofs.lemmas.Int.{ints}
use Rattle.std.proofs.lemmas.List.Elements.{All-contains}
use Rattle.lattice.specs.Plane.{Pair, orient, product}
use Rattle.lattice.specs.Polynomials.{difference-eq, difference_rules}
use Rattle.lattice.specs.Vertices.{IsLeftOf}
use Rattle.lattice.proofs.Vectors.{as_pair, minus, opp, cross}
use Rattle.hull_geometry.specs.Tangents.{IsFirstFarthest}
use Rattle.hull_polygon.specs.Meetings.{AreDisjoint}
use Rattle.hull_polygon.specs.Nearest.{previous}
use Rattle.hull_polygon.specs.Polygons.{IsPolygonOf}
use Rattle.hull_polygon.specs.Rounds.{vertex, IsSeparated}
use Rattle.hull_polygon.specs.Steps.{left_of}
use Rattle.hull_polygon.proofs.Axes.{IsWedge, IsLeftAxis, IsRightAxis, axis_of}
use Rattle.hull_polygon.proofs.Cones.{no_farther_in_cone}
use Rattle.hull_polygon.proofs.Vertices.{vertex_extreme, next_left}
use Rattle.hull_polygon.proofs.NearestOf.{left_before, previous_at, bends_at}
use Rattle.hull_polygon.proofs.Shields.{product_left}
use Rattle.lattice.proofs.Sides.{side_after, side_back, side_more, side_to_end}
use Rattle.hull_polygon.proofs.Switches.{farthest_vertex, placed}
use Rattle.lattice.proofs.Numbers.{above_by_less, below_opposite, nn_by_le, np_by, np_opposite}

-- ---- identities

-- how far a step goes in a direction
pub product_minus : (d p q : Pair) → product d (minus p q) ≡ product d p -ℤ product d q
unfolding product
product_minus d p q = rw (as_pair d, as_pair p, as_pair q) (simp difference_rules (difference-eq _ _ _ _ (omega arith)))

-- how far a step goes in the opposite direction
pub product_minus_back : (d p q : Pair) → product d (minus p q) ≡ product (opp d) q -ℤ product (opp d) p
unfolding product
product_minus_back d p q =
    rw (as_pair d, as_pair p, as_pair q) (simp difference_rules (difference-eq _ _ _ _ (omega arith)))

-- the side of a point at the line from c to n, by the steps from n to c and from c
pub side_off : (c n v : Pair) → orient c n v ≡ neg_ℤ (cross (minus c n) (minus v c))
unfolding orient
side_off c n v = rw (as_pair c, as_pair n, as_pair v) (simp difference_rules (difference-eq _ _ _ _ (omega arith)))

-- the side of one point less that of another, by the step from n to c
pub side_off_more : (c n v t : Pair) → orient c n t -ℤ orient c n v ≡ neg_ℤ (cross (minus c n) (minus t v))
unfolding orient
side_off_more c n v t =
    rw (as_pair c, as_pair n, as_pair v, as_pair t) (simp difference_rules (difference-eq _ _ _ _ (omega arith)))

-- reversing both steps keeps their cross product
pub both_back : (a b c d : Pair) → cross (minus a b) (minus c d) ≡ cross (minus b a) (minus d c)
both_back a b c d =
    rw (as_pair a, as_pair b, as_pair c, as_pair d) (simp difference_rules (difference-eq _ _ _ _ (omega arith)))

-- ---- a vertex and the edges at it

-- all of T lies left of the edges from p to v and from v to n, which bend left
pub record IsBend (T : List Pair) (p v n : Pair) : Type 0 where
  pub bends : pos 0 <ℤ orient p v n
  pub to : IsLeftOf T p v
  pub from : IsLeftOf T v n

-- if the vertices beside v lie no farther to the left of a line than v, neither does any point of T
pub bend_at_most : (T : List Pair) (a b p v n : Pair) → IsBend T p v n
    → (orient a b p -ℤ orient a b v) ≤ℤ pos 0 → (orient a b n -ℤ orient a b v) ≤ℤ pos 0
    → (t : Pair) → Contains T t → orient a b t ≤ℤ orient a b v
bend_at_most T a b p v n h hp hn t m =
    let f : Pair → ℤ = product (left_of a b) in
    at_most (f t) (f v) (f a) _ _ (product_left a b t) (product_left a b v)
    (no_farther_in_cone (left_of a b) p v n t h.bends (All-contains (λ u. pos 0 ≤ℤ orient p v u) T t h.to m)
    (All-contains (λ u. pos 0 ≤ℤ orient v n u) T t h.from m)
    (same (f n) (f v) (f a) _ _ (product_left a b n) (product_left a b v) hn)
    (same (f p) (f v) (f a) _ _ (product_left a b p) (product_left a b v) hp))
  where
    at_most : (x y z u w : ℤ) → x -ℤ z ≡ u → y -ℤ z ≡ w → (x -ℤ y) ≤ℤ pos 0 → u ≤ℤ w
    at_most x y z u w e f h = omega (arith, ints)

    same : (x y z u w : ℤ) → x -ℤ z ≡ u → y -ℤ z ≡ w → (u -ℤ w) ≤ℤ pos 0 → (x -ℤ y) ≤ℤ pos 0
    same x y z u w e f h = omega (arith, ints)

-- if v lies right of the line, all of T does
bend_right : (T : List Pair) (a b p v n : Pair) → IsBend T p v n → orient a b v <ℤ pos 0
    → (orient a b p -ℤ orient a b v) ≤ℤ pos 0 → (orient a b n -ℤ orient a b v) ≤ℤ pos 0
    → (t : Pair) → Contains T t → orient a b t <ℤ pos 0
bend_right T a b p v n h k hp hn t m = omega (arith, ints, bend_at_most T a b p v n h hp hn t m)

-- the edge to c has T on its right, if the bend and v are right of it
right_of_edge_to : (T : List Pair) (b c p v n : Pair) → IsBend T p v n
    → IsLeftAxis (minus c b) (minus p v) (minus n v) (minus v c) → (t : Pair) → Contains T t → orient b c t <ℤ pos 0
right_of_edge_to T b c p v n h a =
    bend_right T b c p v n h (omega (arith, ints, side_after b c v, a.beside))
    (np_by _ _ (side_more b c v p) a.left_beside) (np_by _ _ (side_more b c v n) a.right_beside)

-- the edge from c has T on its right, if the bend and v are right of it
right_of_edge_from : (T : List Pair) (c d p v n : Pair) → IsBend T p v n
    → IsRightAxis (minus c d) (minus p v) (minus n v) (minus v c) → (t : Pair) → Contains T t → orient c d t <ℤ pos 0
right_of_edge_from T c d p v n h a =
    bend_right T c d p v n h (below_opposite _ _ (side_off c d v) a.beside)
    (np_opposite _ _ (side_off_more c d v p) a.left_beside) (np_opposite _ _ (side_off_more c d v n) a.right_beside)

-- the axis seen from the other set: all steps reversed
left_axis_back : (p v b d c : Pair) → IsLeftAxis (minus p v) (minus c b) (minus c d) (minus v c)
    → IsLeftAxis (minus v p) (minus b c) (minus d c) (minus c v)
left_axis_back p v b d c a = grind (arith, common_steps, both_back, c, d)

-- the same on the right
right_axis_back : (n v b d c : Pair) → IsRightAxis (minus n v) (minus c b) (minus c d) (minus v c)
    → IsRightAxis (minus v n) (minus b c) (minus d c) (minus c v)
right_axis_back n v b d c a = grind (arith, common_steps, both_back, n, c, d)

-- ---- the vertices farthest in a direction

-- a vertex of a set, and those beside it
abbrev pub IsBendAt : List Pair → List Pair → ℕ → Type 0
IsBendAt S V j = IsBend S (previous V j) (vertex V j) (vertex V (j + 1))

-- at least three vertices bend at each
pub bend_at : (S V : List Pair) (last j : ℕ) → IsPolygonOf S V → IsSeparated V last → 2 < length V → j < length V
    → IsBendAt S V j
bend_at S V last j o p many l = record {
  bends = bends_at S V j o.1 l many;
  to = left_before S V j o.1 l;
  from = next_left S V j (j + 1) o.1 (omega arith) l;
}

-- in each direction the vertex at some index is farthest
pub top_of : (S V : List Pair) (last : ℕ) (d : Pair) → IsPolygonOf S V → IsSeparated V last → 0 < length V
    → (j : ℕ) × (j < length V) × IsFirstFarthest S d (vertex V j)
top_of S V last d o p n =
    let r = farthest_vertex S V last d o p n in
    let j = placed V r.0 n in
    (j.0, j.1, subst (IsFirstFarthest S d) j.2 r.1)

-- the steps to a farthest vertex from those beside it do not go down
pub wedge_to : (S V : List Pair) (d : Pair) (j : ℕ) → IsPolygonOf S V → j < length V → IsBendAt S V j
    → IsFirstFarthest S d (vertex V j)
    → IsWedge d (minus (vertex V j) (previous V j)) (minus (vertex V j) (vertex V (j + 1)))
wedge_to S V d j o l h f =
    let b = previous_at V j l in
    record {
      left_up = nn_by_le _ _ _ (product_minus d (vertex V j) (previous V j))
          (All-contains (λ t. product d t ≤ℤ product d (vertex V j)) S (previous V j) f.1
          (subst (Contains S) (sym b.3) (vertex_extreme S V b.0 o.1 (omega (arith, l))).0));
      right_up = nn_by_le _ _ _ (product_minus d (vertex V j) (vertex V (j + 1)))
          (All-contains (λ t. product d t ≤ℤ product d (vertex V j)) S (vertex V (j + 1)) f.1
          (vertex_extreme S V (j + 1) o.1 (omega (arith, l))).0);
      bends = rw (← (side_to_end (previous V j) (vertex V j) (vertex V (j + 1)))) h.bends;
    }

-- the steps from a vertex that is farthest backwards do not go down
pub wedge_from : (T W : List Pair) (d : Pair) (j : ℕ) → IsPolygonOf T W → j < length W → IsBendAt T W j
    → IsFirstFarthest T (opp d) (vertex W j)
    → IsWedge d (minus (previous W j) (vertex W j)) (minus (vertex W (j + 1)) (vertex W j))
wedge_from T W d j o l h f =
    let b = previous_at W j l in
    record {
      left_up = nn_by_le _ _ _ (product_minus_back d (previous W j) (vertex W j))
          (All-contains (λ t. product (opp d) t ≤ℤ product (opp d) (vertex W j)) T (previous W j) f.1
          (subst (Contains T) (sym b.3) (vertex_extreme T W b.0 o.1 (omega (arith, l))).0));
      right_up = nn_by_le _ _ _ (product_minus_back d (vertex W (j + 1)) (vertex W j))
          (All-contains (λ t. product (opp d) t ≤ℤ product (opp d) (vertex W j)) T (vertex W (j + 1)) f.1
          (vertex_extreme T W (j + 1) o.1 (omega (arith, l))).0);
      bends = rw (← (side_back (previous W j) (vertex W j) (vertex W (j + 1)))) h.bends;
    }

-- ---- an edge that separates

-- the edge from the vertex at i has all of T on its right
abbrev pub IsBesideEdge : List Pair → List Pair → ℕ → Type 0
IsBesideEdge V T i = (t : Pair) → Contains T t → orient (vertex V i) (vertex V (i + 1)) t <ℤ pos 0

-- some edge of V has all of T on its right
abbrev pub IsBesideSome : List Pair → List Pair → Type 0
IsBesideSome V T = (i : ℕ) × (i < length V) × IsBesideEdge V T i

-- the edge to a vertex is one of the list
edge_to : (V T : List Pair) (j : ℕ) → j < length V
    → ((t : Pair) → Contains T t → orient (previous V j) (vertex V j) t <ℤ pos 0) → IsBesideSome V T
edge_to V T j l h =
    let b = previous_at V j l in (
      b.0,
      b.1,
      λ t m. subst (λ (z : Pair). orient (vertex V b.0) z t <ℤ pos 0) (sym b.4)
          (subst (λ (z : Pair). orient z (vertex V j) t <ℤ pos 0) b.3 (h t m)),
    )

-- if a direction separates S from T, some edge of S has T on its right, or some edge of T has S on its right
pub edge_parts : (S V T W : List Pair) (last end : ℕ) → IsPolygonOf S V → IsSeparated V last → IsPolygonOf T W
    → IsSeparated W end → 2 < length V → 2 < length W → AreDisjoint S T → IsBesideSome V T ⊎ IsBesideSome W S
edge_parts S V T W last end o p q r many more (d, h) =
    let a = top_of S V last d o p (omega (arith, many)) in
    let b = top_of T W end (opp d) q r (omega (arith, more)) in
    let f = bend_at S V last a.0 o p many a.1 in
    let g = bend_at T W end b.0 q r more b.1 in
    elim (axis_of d (minus (vertex W b.0) (vertex V a.0)) (minus (vertex V a.0) (previous V a.0))
    (minus (vertex V a.0) (vertex V (a.0 + 1))) (minus (previous W b.0) (vertex W b.0))
    (minus (vertex W (b.0 + 1)) (vertex W b.0)) (wedge_to S V d a.0 o a.1 f a.2) (wedge_from T W d b.0 q b.1 g b.2)
    (above_by_less _ _ _ (product_minus d (vertex W b.0) (vertex V a.0)) (h (vertex V a.0) (vertex W b.0) a.2.0 b.2.0))) [
      | inl (inl x) ↦ inl (edge_to V T a.0 a.1
          (right_of_edge_to T (previous V a.0) (vertex V a.0) (previous W b.0) (vertex W b.0) (vertex W (b.0 + 1)) g x))
      | inl (inr x) ↦ inl (
        a.0,
        a.1,
        right_of_edge_from T (vertex V a.0) (vertex V (a.0 + 1)) (previous W b.0) (vertex W b.0) (vertex W (b.0 + 1)) g
            x,
      )
      | inr (inl x) ↦ inr (edge_to W S b.0 b.1
          (right_of_edge_to S (previous W b.0) (vertex W b.0) (previous V a.0) (vertex V a.0) (vertex V (a.0 + 1)) f
          (left_axis_back (previous W b.0) (vertex W b.0) (previous V a.0) (vertex V (a.0 + 1)) (vertex V a.0) x)))
      | inr (inr x) ↦ inr (
        b.0,
        b.1,
        right_of_edge_from S (vertex W b.0) (vertex W (b.0 + 1)) (previous V a.0) (vertex V a.0) (vertex V (a.0 + 1)) f
            (right_axis_back (vertex W (b.0 + 1)) (vertex W b.0) (previous V a.0) (vertex V (a.0 + 1)) (vertex V a.0)
            x),
      )
    ]
