-- The points of a chain of hull edges are extreme, and every extreme point is on one of the two chains.
use Rattle.std.proofs.Common.{◌≡◌, ℤ, pos, ◌≤ℤ◌, ◌<ℤ◌, neg_ℤ, ◌⊎◌, inl, inr, sym, ◌∙◌, subst, List, arith, [], ◌∷◌}
use Rattle.std.specs.List.{All, Contains}
use Rattle.std.proofs.lemmas.Int.{ints}
use Rattle.std.proofs.lemmas.List.Elements.{All-contains, All-cons}
use Rattle.lattice.specs.Covers.{IsPointSet, Covers, without_point, IsExtreme}
use Rattle.lattice.specs.Plane.{Pair, orient, product, IsBefore}
use Rattle.lattice.specs.Signs.{le_or_lt}
use Rattle.lattice.specs.Vertices.{IsLeftOf}
use Rattle.hull_geometry.specs.Edges.{IsAlong, IsEdgeOn, IsLowerEdge, IsUpperEdge, IsChain, end_of, IsFirst, IsLast}
use Rattle.hull_geometry.proofs.ChangedSets.{all_without, in_without}
use Rattle.hull_geometry.proofs.CoveredByEdges.{covered_by_edges}
use Rattle.hull_geometry.proofs.NotCovered.{not_covered}
use Rattle.hull_geometry.proofs.OneSided.{past_separated}
use Rattle.lattice.proofs.Numbers.{zero_between}
use Rattle.lattice.proofs.Order.{before_apart, after_apart}
use Rattle.lattice.specs.declared.side.Side.{Side}
use Rattle.lattice.specs.declared.side.Side.TheVariants.{Lower, Upper}
use Rattle.hull_geometry.proofs.Along.{along_total, along_not, along_equal}
use Rattle.hull_geometry.proofs.Orientation.{orient_swap, at_least, orient-cycle}
use Rattle.hull_geometry.proofs.PointLists.{later}
use Rattle.hull_geometry.proofs.Separators.{across, vertex_apart}

-- the last point of S along the chain on a side is extreme
end_extreme : (side : Side) (S : List Pair) (v : Pair) → IsPointSet S → Contains S v
    → ((t : Pair) → Contains S t → ¬ (IsAlong side v t)) → IsExtreme S v
end_extreme side S v s m h = (
  m,
  not_covered (without_point v S) v (past_separated side (without_point v S) v (all_without (λ t. IsAlong side t v) v S s
      (λ t i n. elim (along_total side t v)
      [ inl b ↦ b | inr (inl e) ↦ absurd (n e) | inr (inr b) ↦ absurd (h t i b) ]))),
)

-- the first point of S is extreme
pub first_extreme : (S : List Pair) (v : Pair) → IsPointSet S → Contains S v → IsFirst S v → IsExtreme S v
first_extreme = end_extreme Upper

-- the last point of S is extreme
pub last_extreme : (S : List Pair) (v : Pair) → IsPointSet S → Contains S v → IsLast S v → IsExtreme S v
last_extreme = end_extreme Lower

-- two edges on one side bend left
pub edges_convex : (side : Side) (S : List Pair) (u v w : Pair) → IsEdgeOn side S u v → IsEdgeOn side S v w
    → pos 0 <ℤ orient u v w
edges_convex side S u v w e f =
    elim (le_or_lt (orient u v w) (pos 0)) [
      | inr h ↦ h
      | inl h ↦ absurd (All-contains (λ t. orient u v t ≡ pos 0 → ¬ (IsAlong side v t)) S w e.last f.to
          (zero_between _ (All-contains (λ t. pos 0 ≤ℤ orient u v t) S w e.left f.to) h) f.along)
    ]

-- a vertex that bends left, with S on the left of both its edges, is extreme
vertex_extreme : (S : List Pair) (u v w : Pair) → IsPointSet S → Contains S v → pos 0 <ℤ orient u v w → IsLeftOf S u v
    → IsLeftOf S v w → IsExtreme S v
vertex_extreme S u v w s m h a b =
    let d : Pair = (across u w) in (
      m,
      not_covered (without_point v S) v (
        d,
        all_without (λ t. product d t <ℤ product d v) v S s
            (λ t i n. vertex_apart u v w t h (All-contains (λ t. pos 0 ≤ℤ orient u v t) S t a i)
            (All-contains (λ t. pos 0 ≤ℤ orient v w t) S t b i) n),
      ),
    )

-- the point between two edges on one side is extreme
pub edge_vertex : (side : Side) (S : List Pair) (u v w : Pair) → IsPointSet S → IsEdgeOn side S u v → IsEdgeOn side S v w
    → IsExtreme S v
edge_vertex side S u v w s e f =
    vertex_extreme S u v w s e.to (edges_convex side S u v w e f) e.left f.left

-- t is strictly between the ends of an edge on this side
abbrev BesideEdge : Side → List Pair → Pair → Type 0
BesideEdge side S t = (a : Pair) × (b : Pair) × IsEdgeOn side S a b × IsAlong side a t × IsAlong side t b

-- a point between the ends of a chain is on it or strictly between the ends of one of its edges
located : (side : Side) (S : List Pair) (u : Pair) (vs : List Pair) (t : Pair) → IsChain (IsEdgeOn side S) u vs
    → ¬ (IsAlong side t u) → ¬ (IsAlong side (end_of u vs) t) → Contains (u ∷ vs) t ⊎ BesideEdge side S t
located side S u [] t c h k = inl (0, omega arith, sym (along_equal side t u h k))
located side S u (v ∷ vs) t c h k =
    elim (along_total side t v) [
      | inl b ↦ elim (along_total side u t) [
        | inl a ↦ inr (u, v, c.0, a, b)
        | inr (inl e) ↦ inl (0, omega arith, e)
        | inr (inr a) ↦ absurd (h a)
      ]
      | inr (inl e) ↦ inl (1, omega arith, sym e)
      | inr (inr b) ↦ elim (located side S v vs t c.1 (along_not side v t b) k)
          [ inl m ↦ inl (later u t (v ∷ vs) m) | inr m ↦ inr m ]
    ]

-- a point strictly between the ends of a lower edge and of an upper edge is not extreme
pub between_edges : (S : List Pair) (t : Pair) → Contains S t → BesideEdge Lower S t → BesideEdge Upper S t
    → Covers (without_point t S) t
between_edges S t m (a, b, e, at, tb) (c, d, f, tc, dt) =
    covered_by_edges (without_point t S) t a b c d (in_without t a S (before_apart a t at) e.from)
    (in_without t b S (after_apart b t tb) e.to) (in_without t c S (after_apart c t tc) f.from)
    (in_without t d S (before_apart d t dt) f.to)
    at tb tc dt (at_least _ _ (orient-cycle a b t) (All-contains (λ z. pos 0 ≤ℤ orient a b z) S t e.left m))
    (at_least _ _ (orient-cycle c d t) (All-contains (λ z. pos 0 ≤ℤ orient c d z) S t f.left m))

-- every extreme point is on one of the two chains between the first point of S and the last
pub extreme_on_chain : (S : List Pair) (first last : Pair) (ls us : List Pair) (t : Pair)
    → IsChain (IsLowerEdge S) first ls → end_of first ls ≡ last → IsChain (IsUpperEdge S) last us
    → end_of last us ≡ first
    → IsFirst S first → IsLast S last → IsExtreme S t → Contains (first ∷ ls) t ⊎ Contains (last ∷ us) t
extreme_on_chain S first last ls us t lc le uc ue hf hl x =
    elim (located Lower S first ls t lc (hf t x.0) (λ b. hl t x.0 (subst (λ (z : Pair). IsBefore z t) le b))) [
      | inl m ↦ inl m
      | inr under ↦ elim (located Upper S last us t uc (hl t x.0) (λ b. hf t x.0 (subst (IsBefore t) ue b))) [
        | inl m ↦ inr m
        | inr over ↦ absurd (x.1 (between_edges S t x.0 under over))
      ]
    ]

-- the points of a chain after its start are extreme, if it goes on to the last point along its side
chain_rest : (side : Side) (S : List Pair) (p u : Pair) (vs : List Pair) → IsPointSet S → IsEdgeOn side S p u
    → IsChain (IsEdgeOn side S) u vs → ((t : Pair) → Contains S t → ¬ (IsAlong side (end_of u vs) t))
    → All (IsExtreme S) (u ∷ vs)
chain_rest side S p u [] s e c h =
    All-cons (IsExtreme S) u [] (end_extreme side S u s e.to h) (λ k d l. absurd (omega arith))
chain_rest side S p u (v ∷ vs) s e c h =
    All-cons (IsExtreme S) u (v ∷ vs) (edge_vertex side S p u v s e c.0) (chain_rest side S u v vs s c.0 c.1 h)

-- the points of a lower chain from the first point to the last are extreme
pub lower_extreme : (S : List Pair) (first v : Pair) (vs : List Pair) → IsPointSet S
    → IsChain (IsLowerEdge S) first (v ∷ vs) → IsFirst S first → IsLast S (end_of v vs)
    → All (IsExtreme S) (first ∷ v ∷ vs)
lower_extreme S first v vs s c hf hl =
    All-cons (IsExtreme S) first (v ∷ vs) (first_extreme S first s c.0.from hf) (chain_rest Lower S first v vs s c.0 c.1 hl)

-- the points of an upper chain after its start are extreme, if it goes back to the first point
pub upper_rest_extreme : (S : List Pair) (last v : Pair) (vs : List Pair) → IsPointSet S
    → IsChain (IsUpperEdge S) last (v ∷ vs) → IsFirst S (end_of v vs) → All (IsExtreme S) (v ∷ vs)
upper_rest_extreme S last v vs s c h = chain_rest Upper S last v vs s c.0 c.1 h

-- no lower edge and upper edge end at the same point
pub no_common_vertex : (S : List Pair) (u t c : Pair) → IsLowerEdge S u t → IsUpperEdge S c t → ⊥
no_common_vertex S u t c e f =
    let a : pos 0 ≤ℤ orient u t c = All-contains (λ z. pos 0 ≤ℤ orient u t z) S c e.left f.from in
    let b : pos 0 ≤ℤ orient c t u = All-contains (λ z. pos 0 ≤ℤ orient c t z) S u f.left e.from in
    let k : orient u t c ≡ neg_ℤ (orient c t u) = orient-cycle u t c ∙ swap in
    All-contains (λ z. orient u t z ≡ pos 0 → ¬ (IsBefore t z)) S c e.last f.from (squeeze _ _ k a b) f.along
  where
    swap : orient c u t ≡ neg_ℤ (orient c t u)
    swap = orient_swap c u t

    squeeze : (x y : ℤ) → x ≡ neg_ℤ y → pos 0 ≤ℤ x → pos 0 ≤ℤ y → x ≡ pos 0
    squeeze x y e h k = omega (arith, ints)
