-- The vertices of a set by their indices: the lower edges from the first to the last, and the upper edges back.
use Rattle.std.proofs.Common.{◌≡◌, ℕ, zero, suc, ◌+◌, ◌-◌, ◌≤◌, ◌<◌, ◌⊎◌, List, length, inl, inr, refl, sym, subst}
use Rattle.std.proofs.Common.{arith}
use Rattle.std.proofs.lemmas.Bool.{cases_lt}
use Rattle.lattice.specs.Plane.{Pair, IsBefore}
use Rattle.lattice.specs.Vertices.{IsVertexList}
use Rattle.lattice.proofs.Order.{before_total}
use Rattle.hull_geometry.specs.Edges.{IsAlong, IsEdgeOn, IsLowerEdge, IsUpperEdge, IsFirst, IsLast}
use Rattle.hull_geometry.proofs.Chains.{edges_convex}
use Rattle.lattice.specs.declared.side.Side.{Side}
use Rattle.lattice.specs.declared.side.Side.TheVariants.{Lower, Upper}
use Rattle.hull_polygon.specs.Polygons.{IsPolygonOf}
use Rattle.hull_polygon.specs.Rounds.{vertex, IsRound}
use Rattle.hull_polygon.proofs.Vertices.{vertex_back, vertex_extreme, next_left, first_before, next_apart}
use Rattle.hull_polygon.proofs.EdgesOf.{edge_along, first_between, last_between}
use Rattle.hull_polygon.specs.Touches.{starts_at, ends_at}

-- the edges of S are those between the vertices, and its ends are the first vertex and the one at `top`
pub record IsRing (S V : List Pair) (top : ℕ) : Type 0 where
  pub edge : (side : Side) (i j : ℕ) → j ≡ i + 1 → starts_at side top ≤ i → i < ends_at side V top
      → IsEdgeOn side S (vertex V i) (vertex V j)
  pub first : IsFirst S (vertex V 0)
  pub last : IsLast S (vertex V top)

-- the step from a vertex along a side to the next is an edge there
edge_on : (side : Side) (S V : List Pair) (i j : ℕ) → IsVertexList S V → j ≡ i + 1 → i < length V
    → IsAlong side (vertex V i) (vertex V j) → IsEdgeOn side S (vertex V i) (vertex V j)
edge_on side S V i j h e l b =
    edge_along side S (vertex V i) (vertex V j) (vertex_extreme S V i h (omega (arith, l))).0
    (vertex_extreme S V j h (omega (arith, l))) (next_left S V i j h e l) b

-- a property of the next vertex holds under another number
next_to : (V : List Pair) (P : Pair → Type 0) (i j : ℕ) → j ≡ i + 1 → P (vertex V (i + 1)) → P (vertex V j)
next_to V P i j e p = subst (λ (n : ℕ). P (vertex V n)) (sym e) p

-- a round of vertices that are those of S goes along its edges
pub ring_of : (S V : List Pair) (top : ℕ) → IsPolygonOf S V → IsRound V top → IsRing S V top
ring_of S V top o r = record {
  edge = edge;
  first = first_between S (vertex V (length V - 1)) (vertex V 0) (vertex V 1)
      (subst (λ (z : Pair). IsUpperEdge S (vertex V (length V - 1)) z)
      (vertex_back V (length V) (omega arith) (omega (arith, r.within)))
      (edge Upper (length V - 1) (length V) (omega (arith, r.within)) (omega (arith, r.within)) (omega (arith, r.within))))
      (edge Lower 0 1 (omega arith) (omega arith) r.starts);
  last = last_between S (vertex V (top - 1)) (vertex V top) (vertex V (top + 1))
      (edge Lower (top - 1) top (omega (arith, r.starts)) (omega arith) (omega (arith, r.starts)))
      (edge Upper top (top + 1) refl (omega arith) r.within);
}
  where
    edge : (side : Side) (i j : ℕ) → j ≡ i + 1 → starts_at side top ≤ i → i < ends_at side V top
        → IsEdgeOn side S (vertex V i) (vertex V j)
    edge Lower i j e k l =
        edge_on Lower S V i j o.1 e (omega (arith, l, r.within))
        (next_to V (IsBefore (vertex V i)) i j e ((r.steps i (omega (arith, l, r.within))).0 l))
    edge Upper i j e k l =
        edge_on Upper S V i j o.1 e l (next_to V (λ z. IsBefore z (vertex V i)) i j e ((r.steps i l).1 k))

-- ---- a summit of the vertices of a set splits them

-- the vertices go forward to the one at `top`, and back from it
pub record IsSummit (V : List Pair) (top : ℕ) : Type 0 where
  pub starts : 0 < top
  pub within : top < length V
  pub forward : IsBefore (vertex V (top - 1)) (vertex V top)
  pub backward : IsBefore (vertex V (top + 1)) (vertex V top)

-- from each vertex to the next leads an edge
edge_at : (S V : List Pair) (i j : ℕ) → IsVertexList S V → j ≡ i + 1 → i < length V → 1 < length V
    → IsLowerEdge S (vertex V i) (vertex V j) ⊎ IsUpperEdge S (vertex V i) (vertex V j)
edge_at S V i j h e l n = elim (before_total (vertex V i) (vertex V j)) [
  | inl b ↦ inl (edge_on Lower S V i j h e l b)
  | inr (inl q) ↦ absurd (next_apart S V i j h e l n q)
  | inr (inr b) ↦ inr (edge_on Upper S V i j h e l b)
]

-- no upper edge comes before a lower one
no_dip : (S V : List Pair) (i j k : ℕ) → IsVertexList S V → j ≡ i + 1 → j < length V
    → IsUpperEdge S (vertex V i) (vertex V j) → IsLowerEdge S (vertex V j) (vertex V k) → ⊥
no_dip S V i j k h e l up low =
    first_between S (vertex V i) (vertex V j) (vertex V k) up low (vertex V 0)
    (vertex_extreme S V 0 h (omega (arith, l))).0 (first_before S V j h (omega (arith, e)) l)

-- before the summit are lower edges
ahead_of_summit : (S V : List Pair) (top d i j : ℕ) → IsVertexList S V → IsSummit V top → top ≡ i + suc d → j ≡ i + 1
    → IsLowerEdge S (vertex V i) (vertex V j)
ahead_of_summit S V top zero i j h s f e =
    edge_on Lower S V i j h e (omega (arith, f, s.within))
    (subst (λ (n : ℕ). IsBefore (vertex V n) (vertex V j)) (omega (arith, f))
    (subst (λ (n : ℕ). IsBefore (vertex V (top - 1)) (vertex V n)) (omega (arith, f, e)) s.forward))
ahead_of_summit S V top (suc d) i j h s f e =
    elim (edge_at S V i j h e (omega (arith, f, s.within)) (omega (arith, s.starts, s.within))) [
      | inl low ↦ low
      | inr up ↦ absurd (no_dip S V i j (j + 1) h e (omega (arith, f, e, s.within)) up
          (ahead_of_summit S V top d j (j + 1) h s (omega (arith, f, e)) refl))
    ]

-- from the summit on are upper edges
back_from_summit : (S V : List Pair) (top d i j : ℕ) → IsVertexList S V → IsSummit V top → i ≡ top + d → j ≡ i + 1
    → i < length V → IsUpperEdge S (vertex V i) (vertex V j)
back_from_summit S V top zero i j h s f e l =
    edge_on Upper S V i j h e l
    (subst (λ (n : ℕ). IsBefore (vertex V j) (vertex V n)) (omega (arith, f))
    (subst (λ (n : ℕ). IsBefore (vertex V n) (vertex V top)) (omega (arith, f, e)) s.backward))
back_from_summit S V top (suc d) i j h s f e l =
    elim (edge_at S V i j h e l (omega (arith, s.starts, s.within))) [
      | inr up ↦ up
      | inl low ↦ absurd (no_dip S V (i - 1) i j h (omega (arith, f)) l
          (back_from_summit S V top d (i - 1) i h s (omega (arith, f)) (omega (arith, f)) (omega (arith, l))) low)
    ]

-- the vertices of a set are a round, split at any summit
pub round_of : (S V : List Pair) (top : ℕ) → IsPolygonOf S V → IsSummit V top → IsRound V top
round_of S V top o s = record {
  starts = s.starts;
  within = s.within;
  steps = λ i l. (λ k. (ahead i (i + 1) refl k).along, λ k. (back i (i + 1) refl k l).along);
  bends = λ i l apart n. elim (cases_lt i top) [
    | inl k ↦ edges_convex Lower S (vertex V i) (vertex V (i + 1)) (vertex V (i + 2)) (ahead i (i + 1) refl k)
        (ahead (i + 1) (i + 2) (omega arith) (omega (arith, k, apart)))
    | inr k ↦ edges_convex Upper S (vertex V i) (vertex V (i + 1)) (vertex V (i + 2)) (back i (i + 1) refl k l)
        (back (i + 1) (i + 2) (omega arith) (omega (arith, k)) n)
  ];
}
  where
    ahead : (i j : ℕ) → j ≡ i + 1 → i < top → IsLowerEdge S (vertex V i) (vertex V j)
    ahead i j e l = ahead_of_summit S V top (top - i - 1) i j o.1 s (omega (arith, l)) e

    back : (i j : ℕ) → j ≡ i + 1 → top ≤ i → i < length V → IsUpperEdge S (vertex V i) (vertex V j)
    back i j e k l = back_from_summit S V top (i - top) i j o.1 s (omega (arith, k)) e l

-- if the vertices go forward up to an index and not from it, the vertex there is a summit
pub summit_of : (S V : List Pair) (top : ℕ) → IsPolygonOf S V → 1 < length V → top ≤ length V - 1
    → (0 < top → IsBefore (vertex V (top - 1)) (vertex V (top - 1 + 1)))
    → (top < length V - 1 → ¬ (IsBefore (vertex V top) (vertex V (top + 1)))) → IsSummit V top
summit_of S V top o n l held fails = record {
  starts = starts;
  within = omega (arith, n, l);
  forward = subst (λ (k : ℕ). IsBefore (vertex V (top - 1)) (vertex V k)) (omega (arith, starts)) (held starts);
  backward = elim (cases_lt top (length V - 1)) [
    | inl h ↦ elim (before_total (vertex V top) (vertex V (top + 1))) [
      | inl b ↦ absurd (fails h b)
      | inr (inl e) ↦ absurd (next_apart S V top (top + 1) o.1 refl (omega (arith, h)) n e)
      | inr (inr b) ↦ b
    ]
    | inr h ↦ subst (λ (z : Pair). IsBefore z (vertex V top))
        (sym (vertex_back V (top + 1) (omega (arith, h, l, n)) (omega (arith, n))))
        (first_before S V top o.1 starts (omega (arith, n, l)))
  ];
}
  where
    starts : 0 < top
    starts = elim (cases_lt 0 top) [
      | inl h ↦ h
      | inr h ↦ absurd (fails (omega (arith, h, n))
          (subst (λ (k : ℕ). IsBefore (vertex V k) (vertex V (top + 1))) (omega (arith, h))
          (subst (λ (k : ℕ). IsBefore (vertex V 0) (vertex V k)) (omega (arith, h))
          (first_before S V 1 o.1 (omega arith) n))))
    ]
