-- The vertices that are neither the first nor the last, and the lists without one of them and with a new one.
use Rattle.std.proofs.Common.{◌≡◌, ℕ, ◌<◌, List, length, inl, inr, sym, arith}
use Rattle.std.specs.List.{remove}
use Rattle.std.proofs.lemmas.Bool.{cases_lt}
use Rattle.lattice.specs.Plane.{Pair}
use Rattle.lattice.proofs.Order.{before_total}
use Rattle.hull_geometry.specs.Positions.{point_at}
use Rattle.hull_polygon.specs.Insertions.{IsAmid}
use Rattle.hull_polygon.specs.Polygons.{IsPolygon}
use Rattle.hull_polygon.specs.Rounds.{vertex, IsSeparated}
use Rattle.hull_polygon.proofs.Ends.{ends_of}
use Rattle.hull_polygon.proofs.Made.{separated_is_polygon}
use Rattle.hull_polygon.proofs.Removed.{polygon_without}
use Rattle.hull_polygon.proofs.Vertices.{first_before, vertex_there}
use Rattle.hull_polygon.proofs.RoundChains.{renumbered}

-- two indices of one vertex are equal
pub same_index : (V : List Pair) (i j : ℕ) → IsPolygon V → i < length V → j < length V → vertex V i ≡ vertex V j → i ≡ j
same_index V i j o li lj e = elim (cases_lt i j) [
  | inl h ↦ absurd (o.1.1.distinct i j (point_at V 0) h lj e)
  | inr h ↦ elim (cases_lt j i) [
    | inl k ↦ absurd (o.1.1.distinct j i (point_at V 0) k li (sym e))
    | inr k ↦ omega (arith, h, k)
  ]
]

-- the first vertex is not between two others
pub first_not_amid : (V : List Pair) (last : ℕ) → IsSeparated V last → 0 < length V → ¬ IsAmid V (vertex V 0)
first_not_amid V last s n h =
    let some = separated_is_polygon V last s in
    (ends_of some.0 V last some.1 s n).0 h.0 ((some.1.1.members h.0).0 h.2).0 h.4

-- nor is the last
pub last_not_amid : (V : List Pair) (last : ℕ) → IsSeparated V last → 0 < length V → ¬ IsAmid V (vertex V last)
last_not_amid V last s n h =
    let some = separated_is_polygon V last s in
    (ends_of some.0 V last some.1 s n).1 h.1 ((some.1.1.members h.1).0 h.3).0 h.5

-- each other vertex is
pub others_amid : (V : List Pair) (last i : ℕ) → IsSeparated V last → i < length V → 0 < i → ¬ (i ≡ last)
    → IsAmid V (vertex V i)
others_amid V last i s l p n =
    let some = separated_is_polygon V last s in
    let within : last < length V = s.0 (omega (arith, l)) in (
      vertex V 0,
      vertex V last,
      vertex_there V 0 (omega (arith, l)),
      vertex_there V last (omega (arith, l)),
      first_before some.0 V i some.1.1 p l,
      elim (before_total (vertex V i) (vertex V last)) [
        | inl b ↦ b
        | inr (inl e) ↦ absurd (n (same_index V i last some l within e))
        | inr (inr b) ↦ absurd ((ends_of some.0 V last some.1 s (omega (arith, l))).1 (vertex V i)
            ((some.1.1.members (vertex V i)).0 (vertex_there V i (omega (arith, l)))).0 b)
      ],
    )

-- a vertex between two others is not the first
pub amid_later : (V : List Pair) (last i : ℕ) → IsSeparated V last → i < length V → IsAmid V (vertex V i) → 0 < i
amid_later V last i s l h = elim (cases_lt 0 i) [
  | inl p ↦ p
  | inr p ↦ absurd (first_not_amid V last s (omega (arith, l)) (renumbered V (IsAmid V) i 0 (omega (arith, p)) h))
]

-- nor the last
pub amid_not_last : (V : List Pair) (last i : ℕ) → IsSeparated V last → i < length V → IsAmid V (vertex V i) → ¬ (i ≡ last)
amid_not_last V last i s l h e =
    last_not_amid V last s (omega (arith, l)) (renumbered V (IsAmid V) i last e h)

-- without it the others are a polygon
pub others_polygon : (V : List Pair) (last i : ℕ) → IsSeparated V last → i < length V → IsAmid V (vertex V i)
    → IsPolygon (remove V i)
others_polygon V last i s l h =
    let p = amid_later V last i s l h in
    polygon_without V last i (s.1 (omega (arith, p, l))) p l (amid_not_last V last i s l h)
