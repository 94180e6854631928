-- If a line divides two sets, an edge of one of them has the other on its right, or on its line.
use Rattle.std.proofs.lemmas.Grind.{common_steps}
use Rattle.std.proofs.Common.{◌≡◌, ℕ, ◌+◌, ◌≤◌, ◌<◌, ℤ, pos, ◌-ℤ◌, ◌≤ℤ◌, ◌<ℤ◌, neg_ℤ, ◌⊎◌, inl, inr, sym, subst, List}
use Rattle.std.proofs.Common.{length, refl, ap, ap₂, arith}
use Rattle.std.specs.Bool.{IsTrue}
use Rattle.std.specs.List.{Contains}
use Rattle.std.specs.Prelude.{◌↔◌, Bool, true, false}
use Rattle.std.proofs.lemmas.Bool.{cases_lt}
use Rattle.std.proofs.lemmas.Int.{ints}
use Rattle.std.proofs.lemmas.List.Elements.{All-contains}
use Rattle.lattice.specs.Plane.{Pair, orient, product, IsZero}
use Rattle.lattice.specs.Covers.{Covers, IsPointSet}
use Rattle.lattice.specs.Integers.{linear, ring_laws}
use Rattle.lattice.specs.Signs.{le_or_lt}
use Rattle.lattice.proofs.Vectors.{minus, opp, cross}
use Rattle.lattice.proofs.Numbers.{nn_by_le, np_by, np_opposite, le_trans}
use Rattle.lattice.proofs.Sides.{side_after, side_more}
use Rattle.hull_geometry.proofs.Decided.{covers_or_separated}
use Rattle.hull_geometry.specs.Tangents.{IsFirstFarthest}
use Rattle.hull_polygon.specs.Nearest.{previous}
use Rattle.hull_polygon.specs.Polygons.{IsPolygonOf}
use Rattle.hull_polygon.specs.Boxes.{Holds}
use Rattle.hull_polygon.specs.Meetings.{AreDisjoint, Intersects, Reaches, IsReached, Crosses, ReturnsMeeting}
use Rattle.hull_polygon.specs.Relations.{AreDivided, IsLeftOfEach, ReturnsEdge}
use Rattle.hull_polygon.specs.Rounds.{vertex, IsSeparated}
use Rattle.hull_polygon.specs.Steps.{left_of}
use Rattle.hull_polygon.proofs.Axes.{IsWedge}
use Rattle.hull_polygon.proofs.Vertices.{vertex_extreme, next_apart, next_left}
use Rattle.hull_polygon.proofs.DividingAxes.{HasAxis, IsLeftAxis, IsRightAxis, axis_of_wedges, axis_of_vector, axis_of_wedge, axis_of_vectors}
use Rattle.hull_polygon.proofs.Distances.{covered_near}
use Rattle.hull_polygon.proofs.Ends.{alone}
use Rattle.hull_polygon.proofs.EdgeAxes.{bend_at, bend_at_most, both_back, product_minus, product_minus_back, side_off, side_off_more, top_of, wedge_from, wedge_to}
use Rattle.hull_polygon.proofs.NearestOf.{previous_at, same_beside}
use Rattle.hull_polygon.proofs.Shields.{product_left}
use Rattle.hull_polygon.proofs.Switches.{holds_by_vertices}
use Rattle.hull_geometry.proofs.Slopes.{product-opp}
use Rattle.lattice.proofs.LineCrossings.{orient_other}

-- a point has no side of a line through one point twice
orient_cycled : (c u : Pair) → orient c c u ≡ pos 0
unfolding orient
orient_cycled c u = simp ring_laws (omega (arith, linear))

-- ---- a vertex that bounds a set

-- if two points lie no farther to the left of a line than v, no point of T does
abbrev pub IsCap : List Pair → Pair → Pair → Pair → Type 0
IsCap T p v n =
    (a b : Pair) → (orient a b p -ℤ orient a b v) ≤ℤ pos 0 → (orient a b n -ℤ orient a b v) ≤ℤ pos 0
    → (t : Pair) → Contains T t → orient a b t ≤ℤ orient a b v

-- how far a point lies to the left of a line, by how far it lies along its normal
along : (x y z u w : ℤ) → x -ℤ z ≡ u → y -ℤ z ≡ w → x ≤ℤ y → u ≤ℤ w
along x y z u w e f h = omega (arith, ints)

-- of two vertices each is one or the other
one_or_next : (W : List Pair) (i j : ℕ) → i < length W → j < length W → length W ≤ 2
    → (vertex W i ≡ vertex W j) ⊎ (vertex W i ≡ vertex W (j + 1))
one_or_next W i j li lj few = grind (arith, common_steps, cases_lt, previous_at, vertex, same_beside)

-- each vertex of two bounds the set
cap_of_two : (T W : List Pair) (end j : ℕ) → IsPolygonOf T W → IsSeparated W end → j < length W → length W ≤ 2
    → IsCap T (previous W j) (vertex W j) (vertex W (j + 1))
cap_of_two T W end j o p l few a b hp hn t m =
    let r = top_of T W end (left_of a b) o p (omega (arith, l)) in
    le_trans _ _ _ (along _ _ _ _ _ (product_left a b t) (product_left a b (vertex W r.0))
    (All-contains (λ u. product (left_of a b) u ≤ℤ product (left_of a b) (vertex W r.0)) T t r.2.1 m))
    (elim (one_or_next W r.0 j r.1 l few) [
      | inl e ↦ subst (λ (z : Pair). orient a b z ≤ℤ orient a b (vertex W j)) (sym e) (itself _)
      | inr e ↦ subst (λ (z : Pair). orient a b z ≤ℤ orient a b (vertex W j)) (sym e) (no_more _ _ hn)
    ])
  where
    itself : (x : ℤ) → x ≤ℤ x
    itself x = omega (arith, ints)

    no_more : (x y : ℤ) → (x -ℤ y) ≤ℤ pos 0 → x ≤ℤ y
    no_more x y h = omega (arith, ints)

-- ---- the vertices that a line touches

-- the steps to or from a vertex do not go down, and bend, or are one step
pub record IsTip (d left right : Pair) : Type 0 where
  pub left_up : pos 0 ≤ℤ product d left
  pub right_up : pos 0 ≤ℤ product d right
  pub shape : (pos 0 <ℤ cross right left) ⊎ (left ≡ right)

-- of two tips one has an axis
axis_of_tips : (d w l r m s : Pair) → ¬ IsZero d → IsTip d l r → IsTip d m s → pos 0 ≤ℤ product d w
    → HasAxis l r m s w
axis_of_tips d w l r m s n e f up = elim e.shape [
  | inl te ↦
      let we : IsWedge d l r = record { left_up = e.left_up; right_up = e.right_up; bends = te } in
      elim f.shape [
        | inl tf ↦ axis_of_wedges d w l r m s n we record { left_up = f.left_up; right_up = f.right_up; bends = tf } up
        | inr ef ↦ subst (λ (z : Pair). HasAxis l r m z w) ef (axis_of_wedge d w l r m n we f.left_up up)
      ]
  | inr ee ↦ elim f.shape [
    | inl tf ↦ subst (λ (z : Pair). HasAxis l z m s w) ee
        (axis_of_vector d w l m s n e.left_up record { left_up = f.left_up; right_up = f.right_up; bends = tf } up)
    | inr ef ↦ subst (λ (z : Pair). HasAxis l z m s w) ee
        (subst (λ (z : Pair). HasAxis l l m z w) ef (axis_of_vectors d w l m n e.left_up f.left_up up))
  ]
]

-- the vertex before is a point of the set
previous_there : (S V : List Pair) (last j : ℕ) → IsPolygonOf S V → j < length V → Contains S (previous V j)
previous_there S V last j o l =
    let b = previous_at V j l in
    subst (Contains S) (sym b.3) (vertex_extreme S V b.0 o.1 (omega (arith, l))).0

-- at least two vertices bound the set at each
cap_at : (S V : List Pair) (last j : ℕ) → IsPolygonOf S V → IsSeparated V last → j < length V
    → IsCap S (previous V j) (vertex V j) (vertex V (j + 1))
cap_at S V last j o p l = elim (cases_lt 2 (length V)) [
  | inl many ↦
      λ a b hp hn t m. bend_at_most S a b (previous V j) (vertex V j) (vertex V (j + 1)) (bend_at S V last j o p many l) hp
      hn t m
  | inr few ↦ cap_of_two S V last j o p l few
]

-- a step to the farthest point does not go down
up_to : (S : List Pair) (d v p : Pair) → IsFirstFarthest S d v → Contains S p → pos 0 ≤ℤ product d (minus v p)
up_to S d v p f m =
    nn_by_le _ _ _ (product_minus d v p) (All-contains (λ t. product d t ≤ℤ product d v) S p f.1 m)

-- a step from the point that is farthest backwards does not go down
up_from : (S : List Pair) (d v p : Pair) → IsFirstFarthest S (opp d) v → Contains S p → pos 0 ≤ℤ product d (minus p v)
up_from S d v p f m =
    nn_by_le _ _ _ (product_minus_back d p v) (All-contains (λ t. product (opp d) t ≤ℤ product (opp d) v) S p f.1 m)

-- the steps to a farthest vertex are a tip
tip_to : (S V : List Pair) (last j : ℕ) (d : Pair) → IsPolygonOf S V → IsSeparated V last → j < length V
    → IsFirstFarthest S d (vertex V j)
    → IsTip d (minus (vertex V j) (previous V j)) (minus (vertex V j) (vertex V (j + 1)))
tip_to S V last j d o p l f = record {
  left_up = up_to S d (vertex V j) (previous V j) f (previous_there S V last j o l);
  right_up = up_to S d (vertex V j) (vertex V (j + 1)) f (vertex_extreme S V (j + 1) o.1 (omega (arith, l))).0;
  shape = elim (cases_lt 2 (length V)) [
    | inl many ↦ inl (wedge_to S V d j o l (bend_at S V last j o p many l) f).bends
    | inr few ↦ inr (ap (minus (vertex V j)) (same_beside V j l few))
  ];
}

-- the steps from a vertex that is farthest backwards are a tip
tip_from : (T W : List Pair) (end j : ℕ) (d : Pair) → IsPolygonOf T W → IsSeparated W end → j < length W
    → IsFirstFarthest T (opp d) (vertex W j)
    → IsTip d (minus (previous W j) (vertex W j)) (minus (vertex W (j + 1)) (vertex W j))
tip_from T W end j d o p l f = record {
  left_up = up_from T d (vertex W j) (previous W j) f (previous_there T W end j o l);
  right_up = up_from T d (vertex W j) (vertex W (j + 1)) f (vertex_extreme T W (j + 1) o.1 (omega (arith, l))).0;
  shape = elim (cases_lt 2 (length W)) [
    | inl many ↦ inl (wedge_from T W d j o l (bend_at T W end j o p many l) f).bends
    | inr few ↦ inr (ap (λ (z : Pair). minus z (vertex W j)) (same_beside W j l few))
  ];
}

-- ---- an edge that divides

-- the edge to c has T on its right or its line, if the axis has the cap there
right_of_edge_to : (T : List Pair) (b c p v n : Pair) → IsCap T p v n
    → IsLeftAxis (minus c b) (minus p v) (minus n v) (minus v c) → (t : Pair) → Contains T t → orient b c t ≤ℤ pos 0
right_of_edge_to T b c p v n h a t m =
    le_trans _ _ _
    (h b c (np_by _ _ (side_more b c v p) a.left_beside) (np_by _ _ (side_more b c v n) a.right_beside) t m)
    (np_by _ _ (side_after b c v) a.beside)

-- the edge from c has T on its right or its line, if the axis has the cap there
right_of_edge_from : (T : List Pair) (c d p v n : Pair) → IsCap T p v n
    → IsRightAxis (minus c d) (minus p v) (minus n v) (minus v c) → (t : Pair) → Contains T t → orient c d t ≤ℤ pos 0
right_of_edge_from T c d p v n h a t m =
    le_trans _ _ _
    (h c d (np_opposite _ _ (side_off_more c d v p) a.left_beside)
    (np_opposite _ _ (side_off_more c d v n) a.right_beside) t m)
    (np_opposite _ _ (side_off c d v) a.beside)

-- the axis seen from the other set: all steps reversed
left_axis_back : (p v b d c : Pair) → IsLeftAxis (minus p v) (minus c b) (minus c d) (minus v c)
    → IsLeftAxis (minus v p) (minus b c) (minus d c) (minus c v)
left_axis_back p v b d c a = grind (arith, common_steps, both_back, c, d)

-- the same on the right
right_axis_back : (n v b d c : Pair) → IsRightAxis (minus n v) (minus c b) (minus c d) (minus v c)
    → IsRightAxis (minus v n) (minus b c) (minus d c) (minus c v)
right_axis_back n v b d c a = grind (arith, common_steps, both_back, n, c, d)

-- some edge of V has all of T on its right or its line
abbrev pub HasOnRight : List Pair → List Pair → Type 0
HasOnRight V T = (i : ℕ) × (i < length V)
    × ((t : Pair) → Contains T t → orient (vertex V i) (vertex V (i + 1)) t ≤ℤ pos 0)

-- the edge to a vertex is one of the list
edge_to : (V T : List Pair) (j : ℕ) → j < length V
    → ((t : Pair) → Contains T t → orient (previous V j) (vertex V j) t ≤ℤ pos 0) → HasOnRight V T
edge_to V T j l h =
    let b = previous_at V j l in (
      b.0,
      b.1,
      λ t m. subst (λ (z : Pair). orient (vertex V b.0) z t ≤ℤ pos 0) (sym b.4)
          (subst (λ (z : Pair). orient z (vertex V j) t ≤ℤ pos 0) b.3 (h t m)),
    )

-- if a line divides two sets with at least two vertices each, an edge of one of them does
edge_divides : (S V T W : List Pair) (last end : ℕ) → IsPolygonOf S V → IsSeparated V last → IsPolygonOf T W
    → IsSeparated W end → 1 < length V → 1 < length W → AreDivided S T → HasOnRight V T ⊎ HasOnRight W S
edge_divides S V T W last end o p q r many more (d, n, h) =
    let a = top_of S V last d o p (omega (arith, many)) in
    let b = top_of T W end (opp d) q r (omega (arith, more)) in
    let p0 : Pair = previous V a.0 in
    let v : Pair = vertex V a.0 in
    let n0 : Pair = vertex V (a.0 + 1) in
    let p1 : Pair = previous W b.0 in
    let w : Pair = vertex W b.0 in
    let n1 : Pair = vertex W (b.0 + 1) in
    elim (axis_of_tips d (minus w v) (minus v p0) (minus v n0) (minus p1 w) (minus n1 w) n
    (tip_to S V last a.0 d o p a.1 a.2) (tip_from T W end b.0 d q r b.1 b.2)
    (nn_by_le _ _ _ (product_minus d w v) (h v w a.2.0 b.2.0))) [
      | inl (inl x) ↦ inl (edge_to V T a.0 a.1 (right_of_edge_to T p0 v p1 w n1 (cap_at T W end b.0 q r b.1) x))
      | inl (inr x) ↦ inl (a.0, a.1, right_of_edge_from T v n0 p1 w n1 (cap_at T W end b.0 q r b.1) x)
      | inr (inl x) ↦ inr (edge_to W S b.0 b.1
          (right_of_edge_to S p1 w p0 v n0 (cap_at S V last a.0 o p a.1) (left_axis_back p1 w p0 n0 v x)))
      | inr (inr x) ↦
          inr (b.0, b.1, right_of_edge_from S w n1 p0 v n0 (cap_at S V last a.0 o p a.1) (right_axis_back n1 w p0 n0 v x))
    ]

-- if each edge of both has a point of the other on its left, no line divides them
pub not_divided : (S V T W : List Pair) (last end : ℕ) → IsPolygonOf S V → IsSeparated V last → IsPolygonOf T W
    → IsSeparated W end → 1 < length V → 1 < length W → IsLeftOfEach V T → IsLeftOfEach W S → ¬ AreDivided S T
not_divided S V T W last end o p q r many more left right h =
    elim (edge_divides S V T W last end o p q r many more h) [ inl k ↦ clash V T left k | inr k ↦ clash W S right k ]
  where
    over : (x : ℤ) → pos 0 <ℤ x → x ≤ℤ pos 0 → ⊥
    over x h k = omega (arith, ints)

    clash : (V T : List Pair) → IsLeftOfEach V T → HasOnRight V T → ⊥
    clash V T h (i, l, b) = let t = h i l in over _ t.2 (b t.0 t.1)

-- with the direction reversed, S and T are exchanged
pub divided_turned : (S T : List Pair) → AreDivided S T → AreDivided T S
divided_turned S T (d, n, h) = (
  opp d,
  λ z. n (none d.x z.0, none d.y z.1),
  λ t s mt ms. back _ _ _ _ (product-opp d t) (product-opp d s) (h s t ms mt),
)
  where
    none : (x : ℤ) → neg_ℤ x ≡ pos 0 → x ≡ pos 0
    none x e = omega (arith, ints)

    back : (x y u v : ℤ) → x ≡ neg_ℤ u → y ≡ neg_ℤ v → v ≤ℤ u → x ≤ℤ y
    back x y u v e f h = omega (arith, ints)

-- an edge that has on its right or its line the leftmost point of T divides T from S
pub divided_by_edge : (S V T : List Pair) (i : ℕ) (d p : Pair) → IsPolygonOf S V → i < length V → 1 < length V
    → d ≡ left_of (vertex V i) (vertex V (i + 1)) → IsFirstFarthest T d p
    → ¬ (pos 0 <ℤ orient (vertex V i) (vertex V (i + 1)) p) → AreDivided T S
divided_by_edge S V T i d p o l many e f h =
    let a : Pair = vertex V i in
    let b : Pair = vertex V (i + 1) in (
      left_of a b,
      λ z. next_apart S V i (i + 1) o.1 refl l many (same a b z),
      λ t s mt ms. across _ _ _ _ _ _ (product_left a b t) (product_left a b p) (product_left a b s)
          (All-contains (λ u. product (left_of a b) u ≤ℤ product (left_of a b) p) T t
          (subst (λ (z : Pair). IsFirstFarthest T z p) e f).1 mt) h
          (All-contains (λ u. pos 0 ≤ℤ orient a b u) S s (next_left S V i (i + 1) o.1 refl l) ms),
    )
  where
    even : (x y : ℤ) → x -ℤ y ≡ pos 0 → x ≡ y
    even x y e = omega (arith, ints)

    same : (a b : Pair) → IsZero (left_of a b) → a ≡ b
    same a b z = ap₂ (λ (x y : ℤ). record { x = x; y = y }) (sym (even b.x a.x z.1)) (even a.y b.y z.0)

    across : (x y z m u v : ℤ) {w : ℤ} → x -ℤ z ≡ m → y -ℤ z ≡ u → w -ℤ z ≡ v → x ≤ℤ y → ¬ (pos 0 <ℤ u) → pos 0 ≤ℤ v → x ≤ℤ w
    across x y z m u v e f g h k l = elim (le_or_lt u (pos 0)) [ inl i ↦ omega (arith, ints) | inr i ↦ absurd (k i) ]

-- if the test of all edges found one, its line divides the sets
pub edge_reports : (r : Bool) (S V T : List Pair) → r ≡ true → ReturnsEdge r S V T → AreDivided T S
edge_reports true S V T e h = h
edge_reports false S V T e h = absurd (cc)

-- if the test found none, each edge has a point of the other set on its left
pub each_left : (r : Bool) (S V T : List Pair) → r ≡ false → ReturnsEdge r S V T → IsLeftOfEach V T
each_left true S V T e h = absurd (cc)
each_left false S V T e h = h

-- if no edge of S divides the sets, the edges of T decide
pub others_report : (r : Bool) (S V T W : List Pair) (last end : ℕ) → IsPolygonOf S V → IsSeparated V last → IsPolygonOf T W
    → IsSeparated W end → 1 < length V → 1 < length W → IsLeftOfEach V T → ReturnsEdge r T W S → IsTrue r ↔ AreDivided S T
others_report true S V T W last end o p q t many more left h = (λ _. h, λ _. refl)
others_report false S V T W last end o p q t many more left h =
    (λ e. absurd (cc), λ d. absurd (not_divided S V T W last end o p q t many more left h d))

-- ---- one vertex

-- a set of one vertex is contained in each set that intersects it
pub meeting_held : (S V T : List Pair) (last : ℕ) → IsPolygonOf S V → IsSeparated V last → IsPointSet T → 0 < length V
    → length V ≤ 1 → Intersects S T → Holds T S
meeting_held S V T last o p t n one h =
    holds_by_vertices T S V last t o p
    (λ i l. subst (λ (k : ℕ). Covers T (vertex V k)) (omega (arith, l, one)) (held h))
  where
    only : (s : Pair) → Contains S s → s ≡ vertex V 0
    only s m = alone S V last 0 s o p n one m

    at_least : (x y u v : ℤ) → x ≡ neg_ℤ u → y ≡ neg_ℤ v → x ≤ℤ y → u <ℤ v → ⊥
    at_least x y u v e f h k = omega (arith, ints)

    itself : (x : ℤ) → x ≤ℤ x
    itself x = omega (arith, ints)

    -- a point that the only vertex covers is no nearer in any direction
    reached : (u : Pair) → Contains T u → Covers S u → Covers T (vertex V 0)
    reached u m c = elim (covers_or_separated T (vertex V 0) t) [
      | inl k ↦ k
      | inr a ↦ absurd (at_least _ _ _ _ (product-opp a.0 u) (product-opp a.0 (vertex V 0))
          (covered_near S (opp a.0) u (product (opp a.0) (vertex V 0))
          (λ s ms. subst (λ (z : Pair). product (opp a.0) z ≤ℤ product (opp a.0) (vertex V 0)) (sym (only s ms)) (itself _)) c)
          (All-contains (λ z. product a.0 z <ℤ product a.0 (vertex V 0)) T u a.1 m))
    ]

    below_zero : (x : ℤ) → x ≡ pos 0 → x <ℤ pos 0 → ⊥
    below_zero x e h = omega (arith, ints)

    -- no line goes through one point
    no_line : (c u : Pair) → orient c c u <ℤ pos 0 → ⊥
    no_line c u h = below_zero _ (orient_cycled c u) h

    held : Intersects S T → Covers T (vertex V 0)
    held (Reaches u m c) = reached u m c
    held (IsReached s m c) = subst (Covers T) (only s m) c
    held (Crosses a b c d ma mb mc md x) =
        absurd (no_line (vertex V 0) c (subst (λ (z : Pair). orient (vertex V 0) z c <ℤ pos 0) (only b mb)
        (subst (λ (z : Pair). orient z b c <ℤ pos 0) (only a ma) x.0)))

-- a set that intersects one that does not contain it has at least two vertices
pub many_of_met : (S V T : List Pair) (last : ℕ) → IsPolygonOf S V → IsSeparated V last → IsPointSet T → ¬ Holds T S
    → Intersects S T → 1 < length V
many_of_met S V T last o p t n h = elim (cases_lt 1 (length V)) [
  | inl k ↦ k
  | inr one ↦ elim (cases_lt 0 (length V)) [
    | inl k ↦ absurd (n (meeting_held S V T last o p t k one h))
    | inr k ↦ absurd (n (holds_by_vertices T S V last t o p (λ i l. absurd (omega (arith, k, l)))))
  ]
]

-- if S intersects T, T intersects S
pub intersects_turned : (S T : List Pair) → Intersects S T → Intersects T S
intersects_turned S T (Reaches u m c) = IsReached u m c
intersects_turned S T (IsReached s m c) = Reaches s m c
intersects_turned S T (Crosses a b c d ma mb mc md x) =
    Crosses c d b a mc md mb ma (x.3, x.2, above _ _ (orient_other a b c) x.0, below _ _ (orient_other a b d) x.1)
  where
    above : (x y : ℤ) → x ≡ neg_ℤ y → y <ℤ pos 0 → pos 0 <ℤ x
    above x y e h = omega (arith, ints)

    below : (x y : ℤ) → x ≡ neg_ℤ y → pos 0 <ℤ y → x <ℤ pos 0
    below x y e h = omega (arith, ints)

-- if the test of intersection is true, the sets intersect
pub intersects_reports : (r : Bool) (S T : List Pair) → r ≡ true → ReturnsMeeting r S T → Intersects S T
intersects_reports true S T e h = h
intersects_reports false S T e h = absurd (cc)

-- if the test of intersection is false, the sets are disjoint
pub apart_reports : (r : Bool) (S T : List Pair) → r ≡ false → ReturnsMeeting r S T → AreDisjoint S T
apart_reports true S T e h = absurd (cc)
apart_reports false S T e h = h
