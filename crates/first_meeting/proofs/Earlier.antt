-- If two sets that are disjoint at first intersect after a part of the motion of one of them, then by that time, and
-- perhaps before, a vertex of one of them came into the other.
use Rattle.std.proofs.Common.{◌≡◌, ℕ, ◌<◌, ℤ, pos, ◌+ℤ◌, ◌-ℤ◌, ◌*ℤ◌, ◌<ℤ◌, neg_ℤ, ◌⊎◌, inl, inr, sym, ap, ◌∙◌, subst}
use Rattle.std.proofs.Common.{List, [], length, map, get_or, arith}
use Rattle.std.specs.List.{Contains}
use Rattle.std.proofs.lemmas.Bool.{cases_lt}
use Rattle.std.proofs.lemmas.Int.{ints}
use Rattle.std.proofs.lemmas.List.{get_or-map, length-map}
use Rattle.std.proofs.lemmas.List.Elements.{Contains-get_or}
use Rattle.lattice.specs.Plane.{Pair, product}
use Rattle.lattice.specs.Polynomials.{difference-eq, as_difference, difference_rules}
use Rattle.lattice.proofs.Vectors.{opp}
use Rattle.hull_geometry.proofs.CandidateListHulls.{covers_more}
use Rattle.hull_geometry.proofs.Slopes.{product-opp}
use Rattle.hull_polygon.specs.Closest.{magnified}
use Rattle.hull_polygon.specs.Meetings.{AreDisjoint, Parts}
use Rattle.hull_polygon.specs.Polygons.{IsPolygonOf}
use Rattle.hull_polygon.specs.Rounds.{vertex, IsSeparated}
use Rattle.hull_polygon.specs.Steps.{backward}
use Rattle.hull_polygon.proofs.Differences.{separated_or_shared}
use Rattle.hull_polygon.proofs.Ends.{no_vertices}
use Rattle.hull_polygon.proofs.SeparatedLists.{farther_back, never_both}
use Rattle.hull_polygon.proofs.Shields.{apart_empty}
use Rattle.hull_polygon.proofs.Together.{apart_from_none}
use Rattle.hull_polygon.proofs.Switches.{all_nearer}
use Rattle.first_meeting.specs.FirstMeetings.{carried, MeetAfter}
use Rattle.first_meeting.proofs.Reached.{Arrives, Passing, carried_point, times, magnified_there, product_carried, product_times, arrives}
use Rattle.first_meeting.proofs.Passed.{HasPassed, IsPassed, SomePassed, passed}
use Rattle.first_meeting.proofs.Passings.{has_passed, is_passed}

-- ---- members

-- a member of a mapped list is the image of a member
pub image_of : (g : Pair → Pair) (V : List Pair) (x : Pair) → Contains (map g V) x → (a : Pair) × Contains V a × (x ≡ g a)
image_of g V x (i, l, e) =
    let m : i < length V = rw length-map at l in
    (get_or V i x, Contains-get_or V i x m, sym e ∙ get_or-map g V i x x m)

-- a carried member is a member of the carried set
pub carried_there : (V : List Pair) (p : Pair) (j m : ℕ) (w : Pair) → Contains V p
    → Contains (carried j m w V) (carried_point j m w p)
carried_there V p j m w (i, l, e) = (
  i,
  rw length-map l,
  get_or-map (carried_point j m w) V i p _ l ∙ ap (λ (t : Pair). carried_point j m w t) e,
)

-- a magnified part of a set is in the magnified set
magnified_more : (k : ℕ) (W T : List Pair) → ((t : Pair) → Contains W t → Contains T t) → (t : Pair)
    → Contains (magnified k W) t → Contains (magnified k T) t
magnified_more k W T h t m =
    let r = image_of (times k) W t m in
    subst (Contains (magnified k T)) (sym r.2) (magnified_there T r.0 k (h r.0 r.1))

-- a point that comes into a part of a set comes into the set
arrives_more : (W T : List Pair) (w a : Pair) (m j : ℕ) → ((t : Pair) → Contains W t → Contains T t) → Arrives W w m j a
    → Arrives T w m j a
arrives_more W T w a m j h r = record {
  k = r.k;
  n = r.n;
  whole = r.whole;
  early = r.early;
  covered = covers_more (magnified r.k W) (magnified r.k T) _ (magnified_more r.k W T h) r.covered;
}

-- ---- disjoint by the vertices

-- a direction, magnified, lies as far as that
times_along : (j : ℕ) (d p : Pair) → product (times j d) p ≡ pos j *ℤ product d p
unfolding product
times_along j d p = parts (pos j) d.x d.y p.x p.y
  where
    parts : (j u v x y : ℤ) → (j *ℤ u) *ℤ x +ℤ (j *ℤ v) *ℤ y ≡ j *ℤ (u *ℤ x +ℤ v *ℤ y)
    parts j u v x y = rw (as_difference j, as_difference u, as_difference v, as_difference x, as_difference y)
        (simp difference_rules (difference-eq _ _ _ _ (omega arith)))

-- if all vertices lie farther than m, so does the set
all_beyond : (T W : List Pair) (last : ℕ) (d : Pair) (m : ℤ) → IsPolygonOf T W → IsSeparated W last → 0 < length W
    → ((i : ℕ) → i < length W → m <ℤ product d (vertex W i)) → (t : Pair) → Contains T t → m <ℤ product d t
all_beyond T W last d m o p n h t mt =
    over _ _ (product-opp d t)
    (all_nearer T W last (opp d) (neg_ℤ m) o p n (λ i l. under _ _ (product-opp d (vertex W i)) (h i l)) t mt)
  where
    over : (x y : ℤ) → x ≡ neg_ℤ y → x <ℤ neg_ℤ m → m <ℤ y
    over x y e h = omega (arith, ints)

    under : (x y : ℤ) → x ≡ neg_ℤ y → m <ℤ y → x <ℤ neg_ℤ m
    under x y e h = omega (arith, ints)

-- the vertex at an index is a member of the list
vertex_there : (V : List Pair) (i : ℕ) → i < length V → Contains V (vertex V i)
vertex_there V i l = Contains-get_or V i _ l

-- if the carried vertices of S are disjoint from the magnified ones of T, so are the sets
apart_whole : (S T V W : List Pair) (last end : ℕ) (w : Pair) (m j : ℕ) → IsPolygonOf S V → IsSeparated V last
    → IsPolygonOf T W → IsSeparated W end → 0 < length V → 0 < length W
    → AreDisjoint (carried j m w V) (magnified j W) → AreDisjoint (carried j m w S) (magnified j T)
apart_whole S T V W last end w m j o p q r n k (d, h) = (d, λ s t ms mt. parted s t ms mt)
  where
    before : (x y z b c : ℤ) → b ≡ x +ℤ z → c ≡ y → b <ℤ c → x <ℤ (y -ℤ z)
    before x y z b c e f h = omega (arith, ints)

    -- two vertices
    vertices : (u v : Pair) → Contains V u → Contains W v
        → product (times j d) u <ℤ (product (times j d) v -ℤ pos m *ℤ product d w)
    vertices u v mu mv = before _ _ _ _ _
        (product_carried j m d w u ∙ ap (λ (z : ℤ). z +ℤ pos m *ℤ product d w) (sym (times_along j d u)))
        (product_times j d v ∙ sym (times_along j d v))
        (h (carried_point j m w u) (times j v) (carried_there V u j m w mu) (magnified_there W v j mv))

    over : (x y z : ℤ) → x <ℤ (y -ℤ z) → (x +ℤ z) <ℤ y
    over x y z h = omega (arith, ints)

    -- a point of S and a vertex of T, and two points
    first : (s v : Pair) → Contains S s → Contains W v
        → product (times j d) s <ℤ (product (times j d) v -ℤ pos m *ℤ product d w)
    first s v ms mv = all_nearer S V last (times j d) (product (times j d) v -ℤ pos m *ℤ product d w) o p n
        (λ i l. vertices (vertex V i) v (vertex_there V i l) mv) s ms

    both : (s t : Pair) → Contains S s → Contains T t
        → (product (times j d) s +ℤ pos m *ℤ product d w) <ℤ product (times j d) t
    both s t ms mt = all_beyond T W end (times j d) (product (times j d) s +ℤ pos m *ℤ product d w) q r k
        (λ i l. over _ _ _ (first s (vertex W i) ms (vertex_there W i l))) t mt

    parted : (s t : Pair) → Contains (carried j m w S) s → Contains (magnified j T) t → product d s <ℤ product d t
    parted s t ms mt =
        let a = image_of (carried_point j m w) S s ms in
        let b = image_of (times j) T t mt in
        subst (λ (z : Pair). product d z <ℤ product d t) (sym a.2)
        (subst (λ (z : Pair). product d (carried_point j m w a.0) <ℤ product d z) (sym b.2)
        (within _ _ _ _ _ (product_carried j m d w a.0) (times_along j d a.0)
        (product_times j d b.0 ∙ sym (times_along j d b.0)) (both a.0 b.0 a.1 b.1)))
      where
        within : (x y z b c : ℤ) → b ≡ x +ℤ z → y ≡ x → c ≡ product (times j d) (image_of (times j) T t mt).0
            → (y +ℤ z) <ℤ product (times j d) (image_of (times j) T t mt).0 → b <ℤ c
        within x y z b c e f g h = omega (arith, ints)

-- ---- the vertex that came first

-- by m / j of the motion a vertex of one of two sets has come into the other
abbrev pub SomeArrives : List Pair → List Pair → List Pair → List Pair → Pair → ℕ → ℕ → Type 0
SomeArrives S T V W w m j =
    ((a : Pair) × Contains V a × Arrives T w m j a) ⊎ ((d : Pair) × Contains W d × Arrives S (backward w) m j d)

-- a vertex is a point of its set
vertex_of : (S V : List Pair) (p : Pair) → IsPolygonOf S V → Contains V p → Contains S p
vertex_of S V p o m = ((o.1.members p).0 m).0

-- a vertex of S has passed a segment of T
passed_there : (w f a d e x y z : Pair) (m j : ℕ) → 0 < j → x ≡ carried_point j m w a → y ≡ times j d → z ≡ times j e
    → HasPassed w f x y z → Passing w f a d e m j
passed_there w f a d e x y z m j hj ex ey ez t =
    has_passed w f a d e m j hj
    (subst (λ (v : Pair). HasPassed w f v (times j d) (times j e)) ex
    (subst (λ (v : Pair). HasPassed w f x v (times j e)) ey (subst (λ (v : Pair). HasPassed w f x y v) ez t)))

-- a segment of S has passed a vertex of T
passed_by : (w f d a b x y z : Pair) (m j : ℕ) → 0 < j → x ≡ times j d → y ≡ carried_point j m w a
    → z ≡ carried_point j m w b → IsPassed w f x y z → Passing (opp w) (opp f) d a b m j
passed_by w f d a b x y z m j hj ex ey ez t =
    is_passed w f d a b m j hj
    (subst (λ (v : Pair). IsPassed w f v (carried_point j m w a) (carried_point j m w b)) ex
    (subst (λ (v : Pair). IsPassed w f x v (carried_point j m w b)) ey (subst (λ (v : Pair). IsPassed w f x y v) ez t)))

-- some vertex arrives if vertices have passed one another
some_arrives : (S T V W : List Pair) (w f : Pair) (m j : ℕ) → IsPolygonOf S V → IsPolygonOf T W → 0 < j → Parts f S T
    → SomePassed w f (carried j m w V) (magnified j W) → SomeArrives S T V W w m j
some_arrives S T V W w f m j o q hj h (inl (x, y, z, mx, my, mz, t)) =
    let a = image_of (carried_point j m w) V x mx in
    let d = image_of (times j) W y my in
    let e = image_of (times j) W z mz in
    inl (
      a.0,
      a.1,
      arrives_more W T w a.0 m j (λ t k. vertex_of T W t q k)
          (arrives W w f a.0 d.0 e.0 m j d.1 e.1 hj (h a.0 d.0 (vertex_of S V a.0 o a.1) (vertex_of T W d.0 q d.1))
          (h a.0 e.0 (vertex_of S V a.0 o a.1) (vertex_of T W e.0 q e.1))
          (passed_there w f a.0 d.0 e.0 x y z m j hj a.2 d.2 e.2 t)),
    )
some_arrives S T V W w f m j o q hj h (inr (x, y, z, mx, my, mz, t)) =
    let d = image_of (times j) W x mx in
    let a = image_of (carried_point j m w) V y my in
    let b = image_of (carried_point j m w) V z mz in
    inr (
      d.0,
      d.1,
      arrives_more V S (backward w) d.0 m j (λ t k. vertex_of S V t o k)
          (arrives V (opp w) (opp f) d.0 a.0 b.0 m j a.1 b.1 hj
          (farther_back f a.0 d.0 (h a.0 d.0 (vertex_of S V a.0 o a.1) (vertex_of T W d.0 q d.1)))
          (farther_back f b.0 d.0 (h b.0 d.0 (vertex_of S V b.0 o b.1) (vertex_of T W d.0 q d.1)))
          (passed_by w f d.0 a.0 b.0 x y z m j hj d.2 a.2 b.2 t)),
    )

-- the image of the empty set
carried_none : (j m : ℕ) (w : Pair) (S : List Pair) → S ≡ [] → carried j m w S ≡ []
carried_none j m w S e = ap (carried j m w) e

-- if the sets are disjoint at first and intersect at m / j of the motion, some vertex arrives by then
pub arrives_before : (S T V W : List Pair) (last end : ℕ) (w : Pair) (m j : ℕ) → IsPolygonOf S V → IsSeparated V last
    → IsPolygonOf T W → IsSeparated W end → 0 < j → AreDisjoint S T → MeetAfter S T w m j → SomeArrives S T V W w m j
arrives_before S T V W last end w m j o p q r hj a meet = elim (cases_lt 0 (length V)) [
  | inr n ↦ absurd (never_both _ _ meet (apart_empty _ _ (carried_none j m w S (no_vertices S V o (omega (arith, n))))))
  | inl n ↦ elim (cases_lt 0 (length W)) [
    | inr k ↦ absurd (never_both _ _ meet (apart_from_none _ _ (ap (magnified j) (no_vertices T W q (omega (arith, k))))))
    | inl k ↦ elim (separated_or_shared (carried j m w V) (magnified j W)) [
      | inl b ↦ absurd (never_both _ _ meet (apart_whole S T V W last end w m j o p q r n k b))
      | inr b ↦ some_arrives S T V W w a.0 m j o q hj a.1 (passed (carried j m w V) (magnified j W) w a.0 b)
    ]
  ]
]
