-- The vertices of a list by their indices, with the first one again after the last index.
use Rattle.std.proofs.Common.{◌≡◌, ℕ, zero, suc, ◌+◌, ◌≤◌, ◌<◌, List, [], ◌∷◌, length, get_or, refl, sym, ◌∙◌, subst}
use Rattle.std.proofs.Common.{arith, inl, inr}
use Rattle.std.specs.List.{Contains}
use Rattle.std.proofs.lemmas.Bool.{cases_lt}
use Rattle.std.proofs.lemmas.List.Elements.{Contains-get_or}
use Rattle.lattice.specs.Covers.{IsExtreme}
use Rattle.lattice.specs.Plane.{Pair, IsBefore}
use Rattle.lattice.specs.Vertices.{IsLeftOf, GoesRound, IsVertexList}
use Rattle.hull_geometry.specs.Positions.{origin, point_at}
use Rattle.hull_geometry.proofs.PointLists.{get_or_free}
use Rattle.hull_polygon.specs.Rounds.{vertex}

-- after the end of a list is the default for a missing member
missing : (V : List Pair) (i : ℕ) (d : Pair) → length V ≤ i → get_or V i d ≡ d
missing [] i d l = refl
missing (x ∷ xs) zero d l = absurd (omega (arith, l))
missing (x ∷ xs) (suc i) d l = missing xs i d (omega (arith, l))

-- after the last index is the first vertex
pub vertex_back : (V : List Pair) (i : ℕ) → length V ≤ i → 0 < length V → vertex V i ≡ vertex V 0
vertex_back V i l n = missing V i (point_at V 0) l ∙ get_or_free V 0 origin (point_at V 0) n

-- a vertex is a member
pub vertex_there : (V : List Pair) (i : ℕ) → 0 < length V → Contains V (vertex V i)
vertex_there V i n = elim (cases_lt i (length V)) [
  | inl l ↦ Contains-get_or V i (point_at V 0) l
  | inr l ↦
      subst (Contains V) (sym (vertex_back V i l n)) (Contains-get_or V 0 (point_at V 0) n)
]

-- each member is a vertex
pub vertex_of : (V : List Pair) (t : Pair) → Contains V t → (i : ℕ) × (i < length V) × (t ≡ vertex V i)
vertex_of V t (i, l, e) = (i, l, sym e ∙ get_or_free V i t (point_at V 0) l)

-- the vertices of a vertex list are extreme
pub vertex_extreme : (S V : List Pair) (i : ℕ) → IsVertexList S V → 0 < length V → IsExtreme S (vertex V i)
vertex_extreme S V i h n = (h.members (vertex V i)).0 (vertex_there V i n)

-- for a list that goes round S, no point of S lies right of the line from a member to the next, by recursion
round_at : (S : List Pair) (first u : Pair) (rest : List Pair) (i j : ℕ) → GoesRound S first u rest → j ≡ i + 1
    → i < length (u ∷ rest) → IsLeftOf S (get_or (u ∷ rest) i first) (get_or (u ∷ rest) j first)
round_at S first u rest i zero g e l = absurd (omega (arith, e))
round_at S first u [] (suc i) (suc j) g e l = absurd (omega (arith, l))
round_at S first u [] zero (suc zero) g e l = g
round_at S first u (v ∷ rest) zero (suc zero) g e l = g.0
round_at S first u [] zero (suc (suc j)) g e l = absurd (omega (arith, e))
round_at S first u (v ∷ rest) zero (suc (suc j)) g e l = absurd (omega (arith, e))
round_at S first u (v ∷ rest) (suc i) (suc j) g e l =
    round_at S first v rest i j g.1 (omega (arith, e)) (omega (arith, l))

-- no point of S lies right of the line from a vertex to the next
pub next_left : (S V : List Pair) (i j : ℕ) → IsVertexList S V → j ≡ i + 1 → i < length V
    → IsLeftOf S (vertex V i) (vertex V j)
next_left S [] i j h e l = absurd (omega (arith, l))
next_left S (v ∷ rest) i j h e l = round_at S v v rest i j h.order.0 e l

-- the first vertex is before the others
pub first_before : (S V : List Pair) (i : ℕ) → IsVertexList S V → 0 < i → i < length V
    → IsBefore (vertex V 0) (vertex V i)
first_before S [] i h k l = absurd (omega (arith, l))
first_before S (v ∷ rest) zero h k l = absurd (omega (arith, k))
first_before S (v ∷ rest) (suc i) h k l = h.order.1 i v (omega (arith, l))

-- a vertex and the next one are different
pub next_apart : (S V : List Pair) (i j : ℕ) → IsVertexList S V → j ≡ i + 1 → i < length V → 1 < length V
    → ¬ (vertex V i ≡ vertex V j)
next_apart S V i j h e l n = elim (cases_lt j (length V)) [
  | inl k ↦ h.distinct i j (point_at V 0) (omega (arith, e)) k
  | inr k ↦ λ q. h.distinct 0 i (point_at V 0) (omega (arith, k, e, n)) l
      (sym (q ∙ vertex_back V j k (omega (arith, n))))
]

-- a member that was read at an index is the vertex there
pub read_vertex : (V : List Pair) (i : ℕ) (x : Pair) → i < length V → x ≡ get_or V i x → x ≡ vertex V i
read_vertex V i x l e = e ∙ get_or_free V i x (point_at V 0) l
