-- The set of the vertices of a round, and its edges.
use Rattle.std.proofs.Common.{◌≡◌, ℕ, zero, suc, ◌+◌, ◌≤◌, ◌<◌, pos, ◌≤ℤ◌, ◌⊎◌, List, [], ◌∷◌, length}
use Rattle.std.proofs.Common.{inl, inr, sym, subst, arith}
use Rattle.std.specs.List.{Contains}
use Rattle.std.proofs.lemmas.Int.{ints}
use Rattle.lattice.specs.Covers.{IsPointSet, with_point}
use Rattle.lattice.specs.Plane.{Pair, orient, IsBefore}
use Rattle.lattice.specs.declared.side.Side.{Side}
use Rattle.lattice.specs.declared.side.Side.TheVariants.{Lower, Upper}
use Rattle.hull_geometry.specs.Edges.{IsAlong, IsEdgeOn}
use Rattle.hull_geometry.proofs.Along.{along_not, along_apart}
use Rattle.hull_geometry.proofs.PointLists.{AllPairs-none}
use Rattle.hull_geometry.proofs.SetLaws.{ordered_with, members_with}
use Rattle.hull_polygon.specs.Rounds.{vertex, IsRound}
use Rattle.hull_polygon.proofs.Convex.{IsLeftOrEnd, not_right}
use Rattle.hull_polygon.proofs.Vertices.{vertex_there, vertex_of}
use Rattle.hull_geometry.proofs.PointLists.{all_of}
use Rattle.hull_polygon.proofs.RoundChains.{renumbered, left_ahead, left_back}
use Rattle.hull_polygon.specs.Touches.{starts_at, ends_at}

-- ---- the set of the vertices

-- the points of a list in the order "before"
abbrev pub set_of : List Pair → List Pair
set_of [] = []
set_of (v ∷ vs) = with_point v (set_of vs)

-- the set is in that order
pub set_ordered : (V : List Pair) → IsPointSet (set_of V)
set_ordered [] = AllPairs-none
set_ordered (v ∷ vs) = ordered_with v (set_of vs) (set_ordered vs)

-- each point of the set is a member of the list
pub set_among : (V : List Pair) (t : Pair) → Contains (set_of V) t → Contains V t
set_among [] t m = m
set_among (v ∷ vs) t m = elim ((members_with v t (set_of vs)).0 m) [
  | inl e ↦ (0, omega arith, sym e)
  | inr k ↦ let n = set_among vs t k in (suc n.0, omega (arith, n.1), n.2)
]

-- each member of the list is a point of the set
pub set_all : (V : List Pair) (t : Pair) → Contains V t → Contains (set_of V) t
set_all [] t m = m
set_all (v ∷ vs) t (zero, l, e) = (members_with v t (set_of vs)).1 (inl (sym e))
set_all (v ∷ vs) t (suc k, l, e) = (members_with v t (set_of vs)).1 (inr (set_all vs t (k, omega (arith, l), e)))

-- ---- the edges of that set

-- a property of each vertex is one of each point of the set
pub of_vertices : (V : List Pair) (P : Pair → Type 0) → ((k : ℕ) → k < length V → P (vertex V k)) → (t : Pair)
    → Contains (set_of V) t → P t
of_vertices V P h t m = let c = vertex_of V t (set_among V t m) in subst P (sym c.2) (h c.0 c.1)

-- a point on the line of an edge is one of its ends
ends_alone : (u v t : Pair) → IsLeftOrEnd u v t → orient u v t ≡ pos 0 → (t ≡ u) ⊎ (t ≡ v)
ends_alone u v t (inl h) z = absurd (omega (arith, ints))
ends_alone u v t (inr e) z = e

-- the step from a vertex to the next goes along its side
made_step : (side : Side) (V : List Pair) (top i j : ℕ) → IsRound V top → j ≡ i + 1 → starts_at side top ≤ i
    → i < ends_at side V top → IsAlong side (vertex V i) (vertex V j)
made_step Lower V top i j r e k l =
    renumbered V (IsBefore (vertex V i)) (i + 1) j (sym e) ((r.steps i (omega (arith, l, r.within))).0 l)
made_step Upper V top i j r e k l = renumbered V (λ z. IsBefore z (vertex V i)) (i + 1) j (sym e) ((r.steps i l).1 k)

-- it has each vertex on its left, or at one of its ends
made_beside : (side : Side) (V : List Pair) (top i j k : ℕ) → IsRound V top → j ≡ i + 1 → starts_at side top ≤ i
    → i < ends_at side V top → k < length V → IsLeftOrEnd (vertex V i) (vertex V j) (vertex V k)
made_beside Lower V top i j k r e f l n = left_ahead V top i j k r e l n
made_beside Upper V top i j k r e f l n = left_back V top i j k r e f l n

-- the step from a vertex to the next is an edge
pub made_edge : (side : Side) (V : List Pair) (top i j : ℕ) → IsRound V top → j ≡ i + 1 → starts_at side top ≤ i
    → i < ends_at side V top → IsEdgeOn side (set_of V) (vertex V i) (vertex V j)
made_edge side V top i j r e f l =
    let b : IsAlong side (vertex V i) (vertex V j) = made_step side V top i j r e f l in
    let beside : (t : Pair) → Contains (set_of V) t → IsLeftOrEnd (vertex V i) (vertex V j) t =
    of_vertices V (IsLeftOrEnd (vertex V i) (vertex V j)) (λ k n. made_beside side V top i j k r e f l n) in
    record {
      from = set_all V (vertex V i) (vertex_there V i (omega (arith, r.within)));
      to = set_all V (vertex V j) (vertex_there V j (omega (arith, r.within)));
      along = b;
      left = all_of (λ t. pos 0 ≤ℤ orient (vertex V i) (vertex V j) t) (set_of V)
          (λ t m. not_right (vertex V i) (vertex V j) t (beside t m));
      last = all_of (λ t. orient (vertex V i) (vertex V j) t ≡ pos 0 → ¬ (IsAlong side (vertex V j) t)) (set_of V)
          (λ t m z. elim (ends_alone (vertex V i) (vertex V j) t (beside t m) z) [
            | inl q ↦ λ k. along_not side (vertex V i) (vertex V j) b (subst (IsAlong side (vertex V j)) q k)
            | inr q ↦ λ k. along_apart side (vertex V j) t k (sym q)
          ]);
    }
