-- A round of vertices is the vertex list of the set of its own points.
use Rattle.std.proofs.Common.{◌≡◌, ℕ, suc, ◌+◌, ◌-◌, ◌<◌, List, [], ◌∷◌, length}
use Rattle.std.proofs.Common.{get_or, inl, inr, refl, sym, ap, ◌∙◌, subst, arith}
use Rattle.std.proofs.lemmas.Bool.{cases_lt}
use Rattle.lattice.specs.Covers.{IsExtreme, IsPointSet}
use Rattle.lattice.specs.Plane.{Pair, IsBefore, turned_point}
use Rattle.lattice.specs.Vertices.{IsLeftOf, GoesRound, IsInOrder, IsVertexList}
use Rattle.lattice.proofs.Order.{before_irrefl, before_not, before_apart}
use Rattle.lattice.proofs.TurnedBridges.{turned_twice}
use Rattle.hull_geometry.specs.Edges.{IsUpperEdge, IsFirst}
use Rattle.hull_geometry.proofs.Chains.{first_extreme, last_extreme, edge_vertex, no_common_vertex}
use Rattle.lattice.specs.declared.side.Side.TheVariants.{Lower, Upper}
use Rattle.hull_geometry.proofs.PointLists.{get_or_free}
use Rattle.hull_geometry.proofs.PointSets.{same_set}
use Rattle.hull_geometry.proofs.Rounding.{small_list}
use Rattle.hull_polygon.specs.Polygons.{IsPolygon, IsOwnPolygon}
use Rattle.hull_polygon.specs.Rounds.{vertex, IsRound, IsSeparated}
use Rattle.hull_polygon.proofs.Convex.{later_after}
use Rattle.hull_polygon.proofs.Vertices.{vertex_there, vertex_of}
use Rattle.hull_polygon.proofs.EdgesOf.{last_between}
use Rattle.hull_polygon.proofs.TwoChains.{after_start}
use Rattle.hull_polygon.proofs.RoundChains.{behind, renumbered, front_convex, behind_convex, behind_front}
use Rattle.hull_polygon.proofs.MadeEdges.{set_of, set_ordered, set_among, set_all, of_vertices, made_edge}

-- each later vertex is after the first
after_first : (V : List Pair) (top k : ℕ) → IsRound V top → 0 < k → k < length V → IsBefore (vertex V 0) (vertex V k)
after_first V top k r p n = elim (cases_lt top k) [
  | inr h ↦ later_after (vertex V) top 0 k (front_convex V top r) p h
  | inl h ↦ subst (IsBefore (vertex V 0)) (turned_twice (vertex V (top + (k - top))) ∙ ap (vertex V) (omega (arith, h)))
      (after_start (vertex V) top (behind V top) (length V - top) (k - top) (behind_front V top r)
      (omega (arith, h, n)))
]

-- the first vertex is the first point
made_first : (V : List Pair) (top : ℕ) → IsRound V top → IsFirst (set_of V) (vertex V 0)
made_first V top r = of_vertices V (λ t. ¬ (IsBefore t (vertex V 0)))
    (λ k n. elim (cases_lt 0 k) [
      | inl p ↦ before_not (vertex V 0) (vertex V k) (after_first V top k r p n)
      | inr p ↦ λ b. before_irrefl (vertex V 0)
          (renumbered V (λ z. IsBefore z (vertex V 0)) k 0 (omega (arith, p)) b)
    ])

-- each vertex is extreme
made_extreme : (V : List Pair) (top k : ℕ) → IsRound V top → k < length V → IsExtreme (set_of V) (vertex V k)
made_extreme V top k r n = elim (cases_lt 0 k) [
  | inr p ↦ renumbered V (IsExtreme (set_of V)) 0 k (omega (arith, p))
      (first_extreme (set_of V) (vertex V 0) (set_ordered V)
      (set_all V (vertex V 0) (vertex_there V 0 (omega (arith, n)))) (made_first V top r))
  | inl p ↦ elim (cases_lt k top) [
    | inl h ↦ edge_vertex Lower (set_of V) (vertex V (k - 1)) (vertex V k) (vertex V (k + 1)) (set_ordered V)
        (made_edge Lower V top (k - 1) k r (omega (arith, p)) (omega arith) (omega (arith, h)))
        (made_edge Lower V top k (k + 1) r refl (omega arith) h)
    | inr h ↦ elim (cases_lt top k) [
      | inl q ↦ edge_vertex Upper (set_of V) (vertex V (k - 1)) (vertex V k) (vertex V (k + 1)) (set_ordered V)
          (made_edge Upper V top (k - 1) k r (omega (arith, p)) (omega (arith, q)) (omega (arith, n)))
          (made_edge Upper V top k (k + 1) r refl h n)
      | inr q ↦ last_extreme (set_of V) (vertex V k) (set_ordered V)
          (set_all V (vertex V k) (vertex_there V k (omega (arith, n))))
          (last_between (set_of V) (vertex V (k - 1)) (vertex V k) (vertex V (k + 1))
          (made_edge Lower V top (k - 1) k r (omega (arith, p)) (omega arith) (omega (arith, p, h, q)))
          (made_edge Upper V top k (k + 1) r refl h n))
    ]
  ]
]

-- two vertices at different indices are different
made_apart : (V : List Pair) (top i j : ℕ) → IsRound V top → i < j → j < length V → ¬ (vertex V i ≡ vertex V j)
made_apart V top i j r h n e = elim (cases_lt top j) [
  | inr k ↦ before_apart (vertex V i) (vertex V j) (later_after (vertex V) top i j (front_convex V top r) h k) e
  | inl k ↦ elim (cases_lt 0 i) [
    | inr p ↦ before_apart (vertex V 0) (vertex V j) (after_first V top j r (omega (arith, h)) n)
        (renumbered V (λ z. z ≡ vertex V j) i 0 (omega (arith, p)) e)
    | inl p ↦ elim (cases_lt top i) [
      | inr q ↦ no_common_vertex (set_of V) (vertex V (i - 1)) (vertex V i) (vertex V (j - 1))
          (made_edge Lower V top (i - 1) i r (omega (arith, p)) (omega arith) (omega (arith, p, q)))
          (subst (IsUpperEdge (set_of V) (vertex V (j - 1))) (sym e)
          (made_edge Upper V top (j - 1) j r (omega (arith, h)) (omega (arith, k)) (omega (arith, n))))
      | inl q ↦ before_apart (behind V top (i - top)) (behind V top (j - top))
          (later_after (behind V top) (length V - top) (i - top) (j - top) (behind_convex V top r)
          (omega (arith, h, q)) (omega (arith, n)))
          (ap turned_point (ap (vertex V) (omega (arith, q)) ∙ e ∙ ap (vertex V) (omega (arith, k))))
    ]
  ]
]

-- if no point of S lies right of the line from a member to the next, the list goes round S
round_from : (S : List Pair) (first u : Pair) (rest : List Pair)
    → ((i j : ℕ) → j ≡ i + 1 → i < length (u ∷ rest)
    → IsLeftOf S (get_or (u ∷ rest) i first) (get_or (u ∷ rest) j first))
    → GoesRound S first u rest
round_from S first u [] h = h 0 1 (omega arith) (omega arith)
round_from S first u (v ∷ rest) h = (
  h 0 1 (omega arith) (omega arith),
  round_from S first v rest (λ i j e l. h (suc i) (suc j) (omega (arith, e)) (omega (arith, l))),
)

-- the vertices go round their set
made_left : (V : List Pair) (top i j : ℕ) → IsRound V top → j ≡ i + 1 → i < length V
    → IsLeftOf (set_of V) (vertex V i) (vertex V j)
made_left V top i j r e l = elim (cases_lt i top)
    [ inl h ↦ (made_edge Lower V top i j r e (omega arith) h).left | inr h ↦ (made_edge Upper V top i j r e h l).left ]

-- from the first on, the vertices are in order
made_order : (V W : List Pair) (top : ℕ) → V ≡ W → IsRound V top → IsInOrder (set_of V) W
made_order V [] top q r = absurd (no_vertices r.within q)
  where
    no_vertices : top < length V → V ≡ [] → ⊥
    no_vertices l e = let k : length V ≡ 0 = ap length e in omega (arith, l, k)
made_order V (v ∷ rest) top q r =
    let along : IsRound (v ∷ rest) top = subst (λ (z : List Pair). IsRound z top) q r in (
      subst (λ (z : List Pair). GoesRound (set_of z) v v rest) (sym q)
          (round_from (set_of (v ∷ rest)) v v rest (λ i j e l. made_left (v ∷ rest) top i j along e l)),
      λ k d l. subst (IsBefore v) (get_or_free rest k v d l)
          (after_first (v ∷ rest) top (suc k) along (omega arith) (omega (arith, l))),
    )

-- a round of vertices is the vertex list of its set
made_list : (V : List Pair) (top : ℕ) → IsRound V top → IsVertexList (set_of V) V
made_list V top r = record {
  distinct = λ i j d h n e. made_apart V top i j r h n
      (get_or_free V i _ d (omega (arith, h, n)) ∙ e ∙ get_or_free V j d _ n);
  members = λ p. (
    λ m. let c = vertex_of V p m in subst (IsExtreme (set_of V)) (sym c.2) (made_extreme V top c.0 r c.1),
    λ x. set_among V p x.0,
  );
  order = made_order V V top refl r;
}

-- a round of vertices is a polygon
pub round_is_polygon : (V : List Pair) (top : ℕ) → IsRound V top → IsPolygon V
round_is_polygon V top r = (set_of V, (set_ordered V, made_list V top r))

-- a list of fewer than two points is a set
small_set : (V : List Pair) → length V < 2 → IsPointSet V
small_set V l = λ i j d h n. absurd (omega (arith, h, n, l))

-- a list of fewer than two points is its own vertex list
pub small_polygon : (V : List Pair) → length V < 2 → IsPolygon V
small_polygon V l = (V, (small_set V l, small_list V l))

-- a list that is split at an index is a polygon
pub separated_is_polygon : (V : List Pair) (last : ℕ) → IsSeparated V last → IsPolygon V
separated_is_polygon V last p = elim (cases_lt (length V) 2)
    [ inl l ↦ small_polygon V l | inr l ↦ round_is_polygon V last (p.1 (omega (arith, l))) ]

-- a list that is split at an index is the polygon of the set that has only its points
pub own_polygon : (V : List Pair) (last : ℕ) → IsSeparated V last → IsOwnPolygon V
own_polygon V last p S s m = elim (cases_lt (length V) 2) [
  | inl l ↦ subst (λ (z : List Pair). IsVertexList z V)
      (same_set V S (small_set V l) s (λ t k. (m t).1 k) (λ t k. (m t).0 k)) (small_list V l)
  | inr l ↦ subst (λ (z : List Pair). IsVertexList z V)
      (same_set (set_of V) S (set_ordered V) s (λ t k. (m t).1 (set_among V t k)) (λ t k. set_all V t ((m t).0 k)))
      (made_list V last (p.1 (omega (arith, l))))
]
