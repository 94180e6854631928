-- A round of points of a set that encloses all of its points is its vertex list.
use Rattle.std.proofs.Common.{◌≡◌, ℕ, zero, suc, ◌+◌, ◌-◌, ◌≤◌, ◌<◌, pos, ◌≤ℤ◌, ◌⊎◌, List, length, inl, inr, sym, subst, arith}
use Rattle.std.specs.List.{Contains}
use Rattle.std.proofs.lemmas.List.Elements.{All-contains}
use Rattle.lattice.specs.Covers.{IsPointSet}
use Rattle.lattice.specs.Plane.{Pair, orient, IsBefore}
use Rattle.lattice.specs.Vertices.{IsVertexList}
use Rattle.lattice.specs.declared.side.Side.{Side}
use Rattle.lattice.specs.declared.side.Side.TheVariants.{Lower, Upper}
use Rattle.hull_geometry.specs.Edges.{IsAlong}
use Rattle.hull_geometry.specs.Monotone.{IsInwards}
use Rattle.hull_geometry.proofs.Along.{along_total, along_equal, along_not}
use Rattle.hull_geometry.proofs.CandidateListHulls.{candidate_lists_answer}
use Rattle.hull_polygon.specs.Polygons.{IsPolygonOf}
use Rattle.hull_polygon.specs.Rounds.{vertex, IsRound}
use Rattle.hull_polygon.specs.Touches.{ends_at}
use Rattle.hull_polygon.proofs.Vertices.{vertex_back, vertex_there, next_left}
use Rattle.hull_polygon.proofs.Made.{own_polygon}
use Rattle.hull_polygon.proofs.MadeEdges.{set_of, set_ordered, set_among, set_all}

-- t is neither before the first vertex nor after the last, nor right of an edge
pub record IsEnclosed (V : List Pair) (last : ℕ) (t : Pair) : Type 0 where
  pub from : ¬ (IsBefore t (vertex V 0))
  pub to : ¬ (IsBefore (vertex V last) t)
  pub left : (i : ℕ) → i < length V → pos 0 ≤ℤ orient (vertex V i) (vertex V (i + 1)) t

-- no point of the set lies right of an edge between its vertices
pub left_of_edge : (S V : List Pair) (i j : ℕ) (t : Pair) → IsPolygonOf S V → j ≡ i + 1 → i < length V → Contains S t
    → pos 0 ≤ℤ orient (vertex V i) (vertex V j) t
left_of_edge S V i j t o e l m =
    All-contains (λ z. pos 0 ≤ℤ orient (vertex V i) (vertex V j) z) S t (next_left S V i j o.1 e l) m

-- t is a vertex, or lies inwards of a segment between two vertices
abbrev IsUnder : Side → List Pair → Pair → Type 0
IsUnder side V t = Contains V t ⊎ ((a b : Pair) × Contains V a × Contains V b × IsInwards side a b t)

-- a point between the ends of an edge, and not right of it, lies inwards of it
inwards : (side : Side) (u v t : Pair) (V : List Pair) → Contains V u → Contains V v → IsAlong side u t → IsAlong side t v
    → pos 0 ≤ℤ orient u v t → IsUnder side V t
inwards Lower u v t V mu mv b k l = inr (u, v, mu, mv, (b, k, l))
inwards Upper u v t V mu mv b k l = inr (v, u, mv, mu, (k, b, l))

-- from a vertex that t is not before along to the end of the chain, t is a vertex or lies inwards of an edge
under_from : (side : Side) (V : List Pair) (last n i : ℕ) (t : Pair) → 0 < length V → i + n ≡ ends_at side V last
    → ¬ (IsAlong side t (vertex V i)) → ¬ (IsAlong side (vertex V (ends_at side V last)) t)
    → ((j : ℕ) → i ≤ j → j < ends_at side V last → pos 0 ≤ℤ orient (vertex V j) (vertex V (j + 1)) t) → IsUnder side V t
under_from side V last zero i t n e from to left =
    inl (subst (Contains V) (sym (along_equal side t (vertex V i) from
    (subst (λ (k : ℕ). ¬ (IsAlong side (vertex V k) t)) (omega (arith, e)) to))) (vertex_there V i n))
under_from side V last (suc k) i t n e from to left = elim (along_total side t (vertex V (i + 1))) [
  | inl b ↦ elim (along_total side (vertex V i) t) [
    | inl a ↦ inwards side (vertex V i) (vertex V (i + 1)) t V (vertex_there V i n) (vertex_there V (i + 1) n) a b
        (left i (omega arith) (omega (arith, e)))
    | inr (inl q) ↦ inl (subst (Contains V) q (vertex_there V i n))
    | inr (inr a) ↦ absurd (from a)
  ]
  | inr (inl q) ↦ inl (subst (Contains V) (sym q) (vertex_there V (i + 1) n))
  | inr (inr b) ↦ under_from side V last k (i + 1) t n (omega (arith, e)) (λ a. along_not side t (vertex V (i + 1)) a b) to
      (λ j l h. left j (omega (arith, l)) h)
]

-- an enclosed point is a vertex or lies inwards of a segment between two, on both sides
under : (side : Side) (V : List Pair) (last : ℕ) (t : Pair) → IsRound V last → IsEnclosed V last t → IsUnder side V t
under Lower V last t r h =
    under_from Lower V last last 0 t (omega (arith, r.within)) (omega arith) h.from h.to
    (λ j l k. h.left j (omega (arith, k, r.within)))
under Upper V last t r h =
    under_from Upper V last (length V - last) last t (omega (arith, r.within)) (omega (arith, r.within)) h.to
    (subst (λ (z : Pair). ¬ (IsBefore t z)) (sym (vertex_back V (length V) (omega arith) (omega (arith, r.within)))) h.from)
    (λ j l k. h.left j k)

-- a round of points of a set, each point of which is one of them or enclosed by them, is its vertex list
pub list_of_round : (T V : List Pair) (last : ℕ) → IsPointSet T → IsRound V last
    → ((t : Pair) → Contains V t → Contains T t) → ((t : Pair) → Contains T t → Contains V t ⊎ IsEnclosed V last t)
    → IsVertexList T V
list_of_round T V last s r sub enclosed =
    (candidate_lists_answer (set_of V) T (set_ordered V) s (λ side. record {
      among = λ t m. sub t (set_among V t m);
      under = λ t m. elim (enclosed t m) [
        | inl k ↦ inl (set_all V t k)
        | inr h ↦ elim (under side V last t r h) [
          | inl k ↦ inl (set_all V t k)
          | inr k ↦ inr (k.0, k.1, set_all V k.0 k.2, set_all V k.1 k.3, k.4)
        ]
      ];
    })).vertices V (own_polygon V last (λ n. r.within, λ n. r) (set_of V) (set_ordered V) (λ t. (set_among V t, set_all V t)))
