-- A ring of a convex polygon, rotated to its first point, is that convex polygon.
use Rattle.std.proofs.Common.{◌≡◌, ◌∙◌, ℕ, ◌+◌, ◌-◌, ◌<◌, ◌⊎◌, List, length, ap, arith, inl, inr, subst, sym}
use Rattle.std.specs.Prelude.{slice_index_or}
use Rattle.std.specs.List.{ReversedBelow, RotatedLeft}
use Rattle.std.proofs.lemmas.Bool.{cases_lt}
use Rattle.std.proofs.lemmas.List.{same_lists}
use Rattle.lattice.specs.Plane.{Pair, IsBefore}
use Rattle.hull_geometry.specs.Positions.{origin, point_at}
use Rattle.hull_geometry.proofs.PointLists.{get_or_free}
use Rattle.hull_polygon.specs.Polygons.{IsShortPolygon}
use Rattle.hull_polygon.specs.Rounds.{vertex}
use Rattle.hull_polygon.proofs.Vertices.{first_before}
use Rattle.hull_c.specs.VerticesOf.{GoesBackFrom, GoesRoundFrom}

-- no point is before the point at f
abbrev pub IsLeastAt : List Pair → ℕ → Type 0
IsLeastAt P f = (i : ℕ) → i < length P → ¬ IsBefore (point_at P i) (point_at P f)

-- the first vertex is before each other one
first_vertex : (V : List Pair) (m : ℕ) → IsShortPolygon V → 0 < m → m < length V → IsBefore (point_at V 0) (point_at V m)
first_vertex V m o p l =
    subst (λ (z : Pair). IsBefore z (point_at V m)) (get_or_free V 0 (point_at V 0) origin (omega (arith, p, l)))
    (subst (λ (z : Pair). IsBefore (vertex V 0) z) (get_or_free V m (point_at V 0) origin l)
    (first_before o.0.0 V m o.0.1.1 p l))

-- if no point is before the point at f, and that point is a vertex, it is the first vertex
is_first : (V P : List Pair) (f m j : ℕ) → IsShortPolygon V → IsLeastAt P f → m < length V → j < length P
    → point_at P f ≡ point_at V m → point_at P j ≡ point_at V 0 → m ≡ 0
is_first V P f m j o least l k at_f at_j = elim (cases_lt 0 m) [
  | inl p ↦ absurd (least j k
      (subst (λ (z : Pair). IsBefore z (point_at P f)) (sym at_j)
      (subst (λ (z : Pair). IsBefore (point_at V 0) z) (sym at_f) (first_vertex V m o p l))))
  | inr p ↦ omega (arith, p)
]

-- ---- round

-- the index of the first vertex, and that it is the least point
round_first : (V P : List Pair) (k f : ℕ) → IsShortPolygon V → length P ≡ length V → k < length V → f < length P
    → GoesRoundFrom V P k → IsLeastAt P f → (f + k ≡ length V) ⊎ ((f ≡ 0) × (k ≡ 0))
round_first V P k f o n kn fn r least = elim (cases_lt (f + k) (length V)) [
  | inl l ↦ let e : f + k ≡ 0 = by (f + k) l (r.0 f origin l) in inr (omega (arith, e), omega (arith, e))
  | inr l ↦ let e : f + k - length V ≡ 0 = by (f + k - length V) (omega (arith, n, kn, fn)) (r.1 f origin l (omega (arith, n, fn))) in
      inl (omega (arith, e, l))
]
  where
    by : (m : ℕ) → m < length V → point_at P f ≡ point_at V m → m ≡ 0
    by m l at = elim (cases_lt 0 k) [
      | inl p ↦ is_first V P f m (length V - k) o least l (omega (arith, n, kn, p)) at
          (r.1 (length V - k) origin (omega (arith, kn)) (omega (arith, kn, p)) ∙ ap (point_at V) (omega (arith, kn)))
      | inr p ↦ is_first V P f m 0 o least l (omega (arith, n, kn)) at
          (r.0 0 origin (omega (arith, kn)) ∙ ap (point_at V) (omega (arith, p)))
    ]

-- a ring in the order of the vertices, rotated to its least point, is the vertices
pub turned_round : (V P R : List Pair) (k f : ℕ) → IsShortPolygon V → length P ≡ length V → k < length V → f < length P
    → GoesRoundFrom V P k → IsLeastAt P f → length R ≡ length P → RotatedLeft P R (length P) f → R ≡ V
turned_round V P R k f o n kn fn r least m t = same_lists R V (m ∙ n) (λ i d l. at i d (omega (arith, l, m, n)))
  where
    at : (i : ℕ) (d : Pair) → i < length V → slice_index_or R i d ≡ slice_index_or V i d
    at i d l = elim (round_first V P k f o n kn fn r least) [
      | inl e ↦ elim (cases_lt (i + f) (length P)) [
        | inl s ↦ t.0 i d s ∙ r.1 (i + f) d (omega (arith, e)) (omega (arith, s, n))
            ∙ ap (λ (z : ℕ). slice_index_or V z d) (omega (arith, e))
        | inr s ↦ t.1 i d s (omega (arith, l, n)) ∙ r.0 (i + f - length P) d (omega (arith, e, s, l, n))
            ∙ ap (λ (z : ℕ). slice_index_or V z d) (omega (arith, e, s, n))
      ]
      | inr e ↦ t.0 i d (omega (arith, l, n, e.0)) ∙ r.0 (i + f) d (omega (arith, l, e.0, e.1))
          ∙ ap (λ (z : ℕ). slice_index_or V z d) (omega (arith, e.0, e.1))
    ]

-- ---- back

-- the index of the first vertex, and that it is the least point
back_first : (V P : List Pair) (k f : ℕ) → IsShortPolygon V → length P ≡ length V → k < length V → f < length P
    → GoesBackFrom V P k → IsLeastAt P f → f ≡ k
back_first V P k f o n kn fn r least = elim (cases_lt k f) [
  | inl l ↦ let e : k + length V - f ≡ 0 = by (k + length V - f) (omega (arith, l, n, fn)) ((r f origin (omega (arith, n, fn))).1 l) in
      absurd (omega (arith, e, n, fn))
  | inr l ↦ let e : k - f ≡ 0 = by (k - f) (omega (arith, kn)) ((r f origin (omega (arith, n, fn))).0 (omega (arith, l))) in
      omega (arith, e, l)
]
  where
    by : (m : ℕ) → m < length V → point_at P f ≡ point_at V m → m ≡ 0
    by m l at = is_first V P f m k o least l (omega (arith, n, kn)) at
        ((r k origin kn).0 (omega arith) ∙ ap (point_at V) (omega arith))

-- a ring in the reverse order, rotated to its least point, then by one more, and reversed, is the vertices
pub turned_back : (V P R Q W : List Pair) (k f : ℕ) → IsShortPolygon V → length P ≡ length V → k < length V → f < length P
    → GoesBackFrom V P k → IsLeastAt P f → length R ≡ length P → RotatedLeft P R (length P) f
    → length Q ≡ length R → RotatedLeft R Q (length R) 1 → length W ≡ length Q → ReversedBelow Q W (length Q) → W ≡ V
turned_back V P R Q W k f o n kn fn r least m t h u g v =
    same_lists W V (g ∙ h ∙ m ∙ n) (λ i d l. at i d (omega (arith, l, g, h, m, n)))
  where
    is : f ≡ k
    is = back_first V P k f o n kn fn r least

    -- the point of R at j
    of_ring : (j : ℕ) (d : Pair) → j < length V → 0 < j → slice_index_or R j d ≡ slice_index_or V (length V - j) d
    of_ring j d l p = elim (cases_lt (j + f) (length P)) [
      | inl s ↦ t.0 j d s ∙ (r (j + f) d (omega (arith, s, n))).1 (omega (arith, is, p))
          ∙ ap (λ (z : ℕ). slice_index_or V z d) (omega (arith, is, s, n))
      | inr s ↦ t.1 j d s (omega (arith, l, n)) ∙ (r (j + f - length P) d (omega (arith, is, kn, l, n, s))).0 (omega (arith, is, l, n))
          ∙ ap (λ (z : ℕ). slice_index_or V z d) (omega (arith, is, s, l, n))
    ]

    of_first : (d : Pair) → 0 < length V → slice_index_or R 0 d ≡ slice_index_or V 0 d
    of_first d p = t.0 0 d (omega (arith, is, kn, n)) ∙ (r (0 + f) d (omega (arith, is, kn))).0 (omega (arith, is))
        ∙ ap (λ (z : ℕ). slice_index_or V z d) (omega (arith, is))

    at : (i : ℕ) (d : Pair) → i < length V → slice_index_or W i d ≡ slice_index_or V i d
    at i d l = v i d (omega (arith, l, h, m, n)) ∙ elim (cases_lt 0 i) [
      | inl p ↦ u.0 (length Q - 1 - i) d (omega (arith, p, h, l, m, n))
          ∙ of_ring (length Q - 1 - i + 1) d (omega (arith, p, h, l, m, n)) (omega (arith, p))
          ∙ ap (λ (z : ℕ). slice_index_or V z d) (omega (arith, p, h, l, m, n))
      | inr p ↦ u.1 (length Q - 1 - i) d (omega (arith, p, h, l, m, n)) (omega (arith, p, h, l, m, n))
          ∙ ap (λ (z : ℕ). slice_index_or R z d) (omega (arith, p, h, l, m, n))
          ∙ of_first d (omega (arith, l)) ∙ ap (λ (z : ℕ). slice_index_or V z d) (omega (arith, p))
    ]
