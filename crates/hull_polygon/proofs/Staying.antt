-- The vertices stay when a covered point is added, and when a point is removed that is not one of them.
use Rattle.std.proofs.Common.{◌≡◌, ℕ, zero, suc, ◌+◌, ◌-◌, ◌≤◌, ◌<◌, pos, ◌≤ℤ◌, ◌⊎◌, List, length, inl, inr, sym, ap, ◌∙◌, subst}
use Rattle.std.proofs.Common.{arith}
use Rattle.std.specs.List.{Contains}
use Rattle.std.proofs.lemmas.Bool.{cases_lt}
use Rattle.lattice.specs.Covers.{Covers, IsPointSet, Member, with_point, without_point}
use Rattle.lattice.specs.Plane.{Pair, orient, IsBefore}
use Rattle.lattice.specs.Signs.{le_or_lt}
use Rattle.lattice.specs.Vertices.{IsVertexList}
use Rattle.lattice.specs.declared.side.Side.{Side}
use Rattle.lattice.specs.declared.side.Side.TheVariants.{Lower, Upper}
use Rattle.hull_geometry.specs.Edges.{IsAlong, IsEdgeOn}
use Rattle.hull_geometry.specs.Monotone.{IsInwards}
use Rattle.hull_geometry.specs.Locations.{IsEdgeOnAt}
use Rattle.hull_geometry.proofs.Along.{along_total, along_trans, along_not, along_apart}
use Rattle.hull_geometry.proofs.ChangedSets.{in_without}
use Rattle.hull_geometry.proofs.EdgesAt.{outside_before, outside_after, outside_nothing, outside_right}
use Rattle.hull_geometry.proofs.CandidateListHulls.{candidate_lists_answer}
use Rattle.hull_geometry.proofs.SetLaws.{ordered_with, ordered_without, members_with, members_without}
use Rattle.hull_polygon.specs.Polygons.{IsPolygonOf}
use Rattle.hull_polygon.specs.Rounds.{vertex, IsSeparated, IsRound}
use Rattle.hull_polygon.specs.Touches.{starts_at, ends_at, StandsOn}
use Rattle.hull_polygon.proofs.Vertices.{vertex_back, vertex_there, vertex_of}
use Rattle.hull_polygon.proofs.EdgesAt.{start_within, edge_found}
use Rattle.hull_polygon.proofs.Ends.{ends_of, no_vertices}
use Rattle.hull_polygon.proofs.Made.{own_polygon}
use Rattle.hull_polygon.proofs.MadeEdges.{set_of, set_ordered, set_among, set_all}
use Rattle.hull_polygon.proofs.RoundChains.{renumbered}
use Rattle.hull_polygon.proofs.Switches.{switch_of}

-- ---- a covered point is under a segment between two vertices

-- along a side, a covered point comes neither before the start of a chain nor after its end
within_ends : (side : Side) (S V : List Pair) (last : ℕ) (t : Pair) → IsPolygonOf S V → IsSeparated V last → 0 < length V
    → Covers S t
    → ¬ IsAlong side t (vertex V (starts_at side last)) × ¬ IsAlong side (vertex V (ends_at side V last)) t
within_ends Lower S V last t o p n c =
    let ends = ends_of S V last o p n in
    (λ b. outside_before S (vertex V 0) t ends.0 b c, λ b. outside_after S (vertex V last) t ends.1 b c)
within_ends Upper S V last t o p n c =
    let ends = ends_of S V last o p n in (
      λ b. outside_after S (vertex V last) t ends.1 b c,
      λ b. outside_before S (vertex V 0) t ends.0 (subst (IsBefore t) (vertex_back V (length V) (omega arith) n) b) c,
    )

-- whether one point comes before another along a side can be decided
along_returned : (side : Side) (u v : Pair) → IsAlong side u v ⊎ ¬ (IsAlong side u v)
along_returned side u v = elim (along_total side u v) [
  | inl b ↦ inl b
  | inr (inl e) ↦ inr (λ b. along_apart side u v b e)
  | inr (inr b) ↦ inr (along_not side v u b)
]

-- t is a vertex, or lies inwards of a segment between two vertices
abbrev IsUnder : Side → List Pair → Pair → Type 0
IsUnder side V t = Contains V t ⊎ ((a b : Pair) × Contains V a × Contains V b × IsInwards side a b t)

-- a covered point between the ends of an edge lies inwards of it
under_edge : (side : Side) (S V : List Pair) (u v t : Pair) → IsEdgeOn side S u v → Contains V u → Contains V v
    → IsAlong side u t → IsAlong side t v → Covers S t → IsUnder side V t
under_edge side S V u v t e mu mv b k c = inr (by_side side e b k)
  where
    left : (side : Side) → IsEdgeOn side S u v → pos 0 ≤ℤ orient u v t
    left side e = elim (le_or_lt (pos 0) (orient u v t)) [
      | inl h ↦ h
      | inr h ↦ absurd (outside_right side S t (u, v, e, h) c)
    ]

    by_side : (side : Side) → IsEdgeOn side S u v → IsAlong side u t → IsAlong side t v
        → (a b : Pair) × Contains V a × Contains V b × IsInwards side a b t
    by_side Lower e b k = (u, v, mu, mv, (b, k, left Lower e))
    by_side Upper e b k = (v, u, mv, mu, (k, b, left Upper e))

-- at a covered point that comes before the end of a chain there is an edge of it
under_chain : (side : Side) (S V : List Pair) (last : ℕ) (t : Pair) → IsPolygonOf S V → IsSeparated V last → 0 < length V
    → Covers S t → IsAlong side t (vertex V (ends_at side V last)) → IsUnder side V t
under_chain side S V last t o p n c to =
    let from = (within_ends side S V last t o p n c).0 in
    let r = switch_of (λ i. ¬ (IsAlong side t (vertex V (i + 1)))) returned (ends_at side V last - starts_at side last)
    (starts_at side last) (ends_at side V last) (span side) in
    let high = start_within side V last r.0 t from to r.1.from r.1.to r.1.held in
    let e : IsEdgeOnAt side S t (vertex V r.0, vertex V (r.0 + 1)) =
    edge_found side S V last r.0 t o p n from to r.1.from high r.1.held (λ l. onward r.0 (r.1.fails l)) in
    elim (along_total side (vertex V r.0) t) [
      | inl b ↦ under_edge side S V (vertex V r.0) (vertex V (r.0 + 1)) t e.edge (vertex_there V r.0 n)
          (vertex_there V (r.0 + 1) n) b e.onward c
      | inr (inl q) ↦ inl (subst (Contains V) q (vertex_there V r.0 n))
      | inr (inr b) ↦ absurd (e.starts b)
    ]
  where
    returned : (i : ℕ) → ¬ (IsAlong side t (vertex V (i + 1))) ⊎ ¬ (¬ (IsAlong side t (vertex V (i + 1))))
    returned i = elim (along_returned side t (vertex V (i + 1))) [ inl h ↦ inr (λ k. k h) | inr h ↦ inl h ]

    onward : (i : ℕ) → ¬ (¬ (IsAlong side t (vertex V (i + 1)))) → IsAlong side t (vertex V (i + 1))
    onward i h = elim (along_returned side t (vertex V (i + 1))) [ inl k ↦ k | inr k ↦ absurd (h k) ]

    span : (side : Side) → ends_at side V last ≡ starts_at side last + (ends_at side V last - starts_at side last)
    span Lower = omega arith
    span Upper = omega (arith, p.0 n)

-- each covered point is a vertex or lies inwards of a segment between two
under : (side : Side) (S V : List Pair) (last : ℕ) (t : Pair) → IsPolygonOf S V → IsSeparated V last → Covers S t
    → IsUnder side V t
under side S V last t o p c = elim (cases_lt 0 (length V)) [
  | inr h ↦ absurd (outside_nothing S t (ap length (no_vertices S V o (omega (arith, h)))) c)
  | inl n ↦ elim (along_total side t (vertex V (ends_at side V last))) [
    | inl b ↦ under_chain side S V last t o p n c b
    | inr (inl e) ↦ inl (subst (Contains V) (sym e) (vertex_there V (ends_at side V last) n))
    | inr (inr b) ↦ absurd ((within_ends side S V last t o p n c).1 b)
  ]
]

-- ---- other sets with the same vertices

-- if a set has the vertices of S among its points, and no point that S does not cover, it has the same vertices
same_vertices : (S T V : List Pair) (last : ℕ) → IsPolygonOf S V → IsSeparated V last → IsPointSet T
    → ((t : Pair) → Contains V t → Contains T t) → ((t : Pair) → Contains T t → Covers S t) → IsVertexList T V
same_vertices S T V last o p s sub cov =
    (candidate_lists_answer (set_of V) T (set_ordered V) s (λ side. record {
      among = λ t m. sub t (set_among V t m);
      under = λ t m. elim (under side S V last t o p (cov t m)) [
        | inl k ↦ inl (set_all V t k)
        | inr k ↦ inr (k.0, k.1, set_all V k.0 k.2, set_all V k.1 k.3, k.4)
      ];
    })).vertices V (own_polygon V last p (set_of V) (set_ordered V) (λ t. (set_among V t, set_all V t)))

-- the vertices stay when a covered point is added
pub stay_with : (S V : List Pair) (last : ℕ) (p : Pair) → IsPolygonOf S V → IsSeparated V last → Covers S p
    → IsVertexList (with_point p S) V
stay_with S V last p o separated c =
    same_vertices S (with_point p S) V last o separated (ordered_with p S o.0)
    (λ t m. (members_with p t S).1 (inr ((o.1.members t).0 m).0))
    (λ t m. elim ((members_with p t S).0 m) [ inl e ↦ subst (Covers S) (sym e) c | inr k ↦ Member k ])

-- the vertices stay when a point is removed that is not one of them
pub stay_without : (S V : List Pair) (last : ℕ) (p : Pair) → IsPolygonOf S V → IsSeparated V last → ¬ (Contains V p)
    → IsVertexList (without_point p S) V
stay_without S V last p o separated n =
    same_vertices S (without_point p S) V last o separated (ordered_without p S o.0)
    (λ t m. in_without p t S (λ e. n (subst (Contains V) e m)) ((o.1.members t).0 m).0)
    (λ t m. Member ((members_without p t S o.0).0 m).0)

-- ---- the position of a point on a chain of a round

-- the vertices after a vertex come after it along its chain
pub later_along : (side : Side) (V : List Pair) (last i n : ℕ) → IsRound V last → starts_at side last ≤ i
    → i + suc n ≤ ends_at side V last → IsAlong side (vertex V i) (vertex V (i + suc n))
later_along side V last i n r l u = go side n l u
  where
    step : (side : Side) (k : ℕ) → starts_at side last ≤ k → k + 1 ≤ ends_at side V last
        → IsAlong side (vertex V k) (vertex V (k + 1))
    step Lower k l u = (r.steps k (omega (arith, u, r.within))).0 (omega (arith, u))
    step Upper k l u = (r.steps k (omega (arith, u))).1 l

    go : (side : Side) (n : ℕ) → starts_at side last ≤ i → i + suc n ≤ ends_at side V last
        → IsAlong side (vertex V i) (vertex V (i + suc n))
    go side zero l u = renumbered V (IsAlong side (vertex V i)) (i + 1) (i + suc zero) (omega arith)
        (step side i l (omega (arith, u)))
    go side (suc n) l u = along_trans side (vertex V i) (vertex V (i + suc n)) (vertex V (i + suc (suc n)))
        (go side n l (omega (arith, u)))
        (renumbered V (IsAlong side (vertex V (i + suc n))) (i + suc n + 1) (i + suc (suc n)) (omega arith)
        (step side (i + suc n) (omega (arith, l)) (omega (arith, u))))

-- a single vertex is at every index
single : (V : List Pair) (i j : ℕ) → 0 < length V → length V ≤ 1 → vertex V i ≡ vertex V j
single V i j n one = only i ∙ sym (only j)
  where
    only : (k : ℕ) → vertex V k ≡ vertex V 0
    only k = elim (cases_lt k (length V)) [
      | inl h ↦ ap (vertex V) (omega (arith, h, one))
      | inr h ↦ vertex_back V k h n
    ]

-- if the vertices come before p up to an index, and not from it, p is the vertex there if it is one of the chain
pub found_on : (side : Side) (V : List Pair) (last at : ℕ) (p : Pair) → 0 < length V → IsSeparated V last
    → starts_at side last ≤ at → at ≤ ends_at side V last
    → (starts_at side last < at → IsAlong side (vertex V (at - 1)) p)
    → (at < ends_at side V last → ¬ (IsAlong side (vertex V at) p)) → StandsOn side V last p → vertex V at ≡ p
found_on side V last at p n separated from to held fails (i, l, u, e) = elim (cases_lt 1 (length V)) [
  | inr one ↦ single V at i n one ∙ e
  | inl two ↦ elim (cases_lt i at) [
    | inl h ↦ absurd (elim (cases_lt i (at - 1)) [
      | inr k ↦ along_apart side (vertex V (at - 1)) p (held (omega (arith, h, l)))
          (renumbered V (λ z. z ≡ p) i (at - 1) (omega (arith, h, k)) e)
      | inl k ↦ along_not side (vertex V (at - 1)) p (held (omega (arith, h, l)))
          (subst (λ (z : Pair). IsAlong side z (vertex V (at - 1))) e
          (renumbered V (IsAlong side (vertex V i)) (i + suc (at - i - 2)) (at - 1) (omega (arith, k))
          (later_along side V last i (at - i - 2) (separated.1 two) l (omega (arith, k, to)))))
    ])
    | inr h ↦ elim (cases_lt at i) [
      | inr k ↦ renumbered V (λ z. z ≡ p) i at (omega (arith, h, k)) e
      | inl k ↦ absurd (fails (omega (arith, k, u)) (subst (IsAlong side (vertex V at)) e
          (renumbered V (IsAlong side (vertex V at)) (at + suc (i - at - 1)) i (omega (arith, k))
          (later_along side V last at (i - at - 1) (separated.1 two) from (omega (arith, k, u))))))
    ]
  ]
]

-- a vertex is on one of the chains
pub on_either : (V : List Pair) (last : ℕ) (p : Pair) → Contains V p → StandsOn Lower V last p ⊎ StandsOn Upper V last p
on_either V last p m = let c = vertex_of V p m in elim (cases_lt last c.0) [
  | inr h ↦ inl (c.0, omega arith, h, sym c.2)
  | inl h ↦ inr (c.0, omega (arith, h), omega (arith, c.1), sym c.2)
]

-- a point that is on a chain is a vertex
pub on_one : (side : Side) (V : List Pair) (last : ℕ) (p : Pair) → 0 < length V → StandsOn side V last p → Contains V p
on_one side V last p n (i, l, u, e) = subst (Contains V) e (vertex_there V i n)
