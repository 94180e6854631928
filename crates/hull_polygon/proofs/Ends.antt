-- The first vertex is the first point of the set, and the vertex at `last` the last one.
use Rattle.std.proofs.Common.{◌≡◌, ℕ, ◌+◌, ◌≤◌, ◌<◌, ◌⊎◌, List, [], ◌∷◌, length, ◌-◌, refl, inl, inr, sym, ap, ◌∙◌, subst, arith}
use Rattle.std.specs.List.{Contains}
use Rattle.std.proofs.lemmas.Bool.{cases_lt}
use Rattle.std.proofs.lemmas.List.Elements.{Contains-get_or}
use Rattle.lattice.specs.Covers.{IsExtreme}
use Rattle.lattice.specs.Plane.{Pair, IsBefore}
use Rattle.hull_geometry.specs.Edges.{IsAlong, IsEdgeOn, IsFirst, IsLast}
use Rattle.hull_geometry.specs.Positions.{origin, point_at}
use Rattle.hull_geometry.proofs.Chains.{first_extreme, last_extreme}
use Rattle.hull_geometry.proofs.Rounding.{least, greatest, first_there}
use Rattle.hull_polygon.specs.Polygons.{IsPolygonOf}
use Rattle.hull_polygon.specs.Rounds.{vertex, IsSeparated}
use Rattle.hull_polygon.proofs.Vertices.{vertex_back, vertex_extreme, vertex_of}
use Rattle.hull_polygon.specs.Touches.{starts_at, ends_at}
use Rattle.lattice.specs.declared.side.Side.{Side}
use Rattle.lattice.specs.declared.side.Side.TheVariants.{Lower, Upper}
use Rattle.lattice.proofs.Order.{equal_by}
use Rattle.hull_geometry.proofs.Along.{along_apart}
use Rattle.hull_polygon.proofs.Rings.{IsRing, ring_of}

-- each extreme point is the only vertex
only_vertex : (S V : List Pair) (t : Pair) → IsPolygonOf S V → length V ≡ 1 → IsExtreme S t → t ≡ vertex V 0
only_vertex S V t o l x =
    let c = vertex_of V t ((o.1.members t).1 x) in c.2 ∙ ap (vertex V) (omega (arith, l, c.1))

-- a list with a member is not empty
some_point : (S : List Pair) (t : Pair) → Contains S t → 0 < length S
some_point S t m = omega (arith, m.1)

-- the last point is a member
last_there : (S : List Pair) → 0 < length S → Contains S (point_at S (length S - 1))
last_there S l = Contains-get_or S (length S - 1) origin (omega (arith, l))

-- a set of no vertices has no points
pub no_vertices : (S V : List Pair) → IsPolygonOf S V → length V ≡ 0 → S ≡ []
no_vertices [] V o l = refl
no_vertices (x ∷ xs) V o l =
    let m = first_there (x ∷ xs) (omega arith) in
    let c = (o.1.members (point_at (x ∷ xs) 0)).1
    (first_extreme (x ∷ xs) (point_at (x ∷ xs) 0) o.0 m (least (x ∷ xs) o.0)) in
    absurd (omega (arith, l, c.1))

-- the first vertex and the one at `last` are the ends of the set
pub ends_of : (S V : List Pair) (last : ℕ) → IsPolygonOf S V → IsSeparated V last → 0 < length V
    → IsFirst S (vertex V 0) × IsLast S (vertex V last)
ends_of S V last o p n = elim (cases_lt 1 (length V)) [
  | inl l ↦ let r : IsRing S V last = ring_of S V last o (p.1 l) in (r.first, r.last)
  | inr l ↦
      let some : 0 < length S = some_point S (vertex V 0) (vertex_extreme S V 0 o.1 n).0 in
      let one : length V ≡ 1 = omega (arith, l, n) in
      let at : last ≡ 0 = omega (arith, p.0 n, l) in (
        subst (IsFirst S) (only_vertex S V (point_at S 0) o one
            (first_extreme S (point_at S 0) o.0 (first_there S some) (least S o.0)))
            (least S o.0),
        subst (IsLast S) (only_vertex S V (point_at S (length S - 1)) o one
            (last_extreme S (point_at S (length S - 1)) o.0 (last_there S some) (greatest S o.0))
            ∙ ap (vertex V) (sym at))
            (greatest S o.0),
      )
]

-- no point comes before the start of a chain along its side
none_before : (side : Side) (S V : List Pair) (last : ℕ) → IsPolygonOf S V → IsSeparated V last → 0 < length V → (t : Pair)
    → Contains S t → ¬ (IsAlong side t (vertex V (starts_at side last)))
none_before Lower S V last o p n = (ends_of S V last o p n).0
none_before Upper S V last o p n = (ends_of S V last o p n).1

-- no point comes after its end
none_behind : (side : Side) (S V : List Pair) (last : ℕ) → IsPolygonOf S V → IsSeparated V last → 0 < length V → (t : Pair)
    → Contains S t → ¬ (IsAlong side (vertex V (ends_at side V last)) t)
none_behind Lower S V last o p n t m = (ends_of S V last o p n).1 t m
none_behind Upper S V last o p n t m =
    λ b. (ends_of S V last o p n).0 t m (subst (IsBefore t) (vertex_back V (length V) (omega arith) n) b)

-- each point is the only vertex
pub alone : (S V : List Pair) (last at : ℕ) (t : Pair) → IsPolygonOf S V → IsSeparated V last → 0 < length V → length V ≤ 1
    → Contains S t → t ≡ vertex V at
alone S V last at t o p n one m =
    let ends : IsFirst S (vertex V 0) × IsLast S (vertex V last) = ends_of S V last o p n in
    let same : vertex V last ≡ vertex V 0 = ap (vertex V) (omega (arith, one, p.0 n)) in
    equal_by t (vertex V 0) (ends.0 t m) (λ b. ends.1 t m (subst (λ (z : Pair). IsBefore z t) (sym same) b))
    ∙ elim (cases_lt at (length V)) [
      | inl h ↦ ap (vertex V) (omega (arith, h, one))
      | inr h ↦ sym (vertex_back V at h n)
    ]

-- to a vertex of a chain leads an edge along its side, or no point comes before it
pub edge_to : (side : Side) (S V : List Pair) (last at : ℕ) → IsPolygonOf S V → IsSeparated V last → 0 < length V
    → starts_at side last ≤ at → at ≤ ends_at side V last
    → ((t : Pair) → Contains S t → ¬ (IsAlong side t (vertex V at)))
    ⊎ ((starts_at side last < at) × IsEdgeOn side S (vertex V (at - 1)) (vertex V at))
edge_to side S V last at o p n l u = elim (cases_lt (starts_at side last) at) [
  | inr k ↦ inl (subst (λ (i : ℕ). (t : Pair) → Contains S t → ¬ (IsAlong side t (vertex V i))) (omega (arith, k, l))
      (none_before side S V last o p n))
  | inl k ↦ elim (cases_lt 1 (length V)) [
    | inl two ↦ inr (
      k,
      (ring_of S V last o (p.1 two)).edge side (at - 1) at (omega (arith, k)) (omega (arith, k)) (omega (arith, k, u)),
    )
    | inr one ↦ inl (λ t m b. along_apart side t (vertex V at) b (alone S V last at t o p n one m))
  ]
]

-- from a vertex of a chain leads an edge along its side, or no point comes after it
pub edge_from : (side : Side) (S V : List Pair) (last at : ℕ) → IsPolygonOf S V → IsSeparated V last → 0 < length V
    → starts_at side last ≤ at → at ≤ ends_at side V last
    → ((t : Pair) → Contains S t → ¬ (IsAlong side (vertex V at) t))
    ⊎ ((at < ends_at side V last) × IsEdgeOn side S (vertex V at) (vertex V (at + 1)))
edge_from side S V last at o p n l u = elim (cases_lt at (ends_at side V last)) [
  | inr k ↦ inl (subst (λ (i : ℕ). (t : Pair) → Contains S t → ¬ (IsAlong side (vertex V i) t)) (omega (arith, k, u))
      (none_behind side S V last o p n))
  | inl k ↦ elim (cases_lt 1 (length V)) [
    | inl two ↦ inr (k, (ring_of S V last o (p.1 two)).edge side at (at + 1) refl l k)
    | inr one ↦ inl (λ t m b. along_apart side (vertex V at) t b (sym (alone S V last at t o p n one m)))
  ]
]
