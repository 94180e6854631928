-- The two chains of a polygon by their indices.
use Rattle.std.proofs.Common.{◌≡◌, ◌≢◌, ℕ, zero, suc, ◌+◌, ◌-◌, ◌<◌, ◌≤◌, List, length, inl, inr, sym, subst, arith}
use Rattle.std.proofs.lemmas.Bool.{cases_lt}
use Rattle.lattice.specs.Plane.{Pair, IsBefore}
use Rattle.lattice.proofs.Order.{before_irrefl, before_trans}
use Rattle.lattice.specs.declared.side.Side.{Side}
use Rattle.lattice.specs.declared.side.Side.TheVariants.{Lower, Upper}
use Rattle.hull_geometry.specs.Edges.{IsAlong}
use Rattle.hull_geometry.specs.Positions.{origin, point_at}
use Rattle.hull_geometry.proofs.PointLists.{get_or_free}
use Rattle.hull_polygon.specs.Rounds.{vertex, IsRound, IsSeparated}
use Rattle.polygon_arrays.specs.Indices.{GoesAlong}

-- the order along a chain is transitive
pub along_trans : (side : Side) (p q r : Pair) → IsAlong side p q → IsAlong side q r → IsAlong side p r
along_trans Lower p q r a b = before_trans p q r a b
along_trans Upper p q r a b = before_trans r q p b a

-- the vertex at an index of the list is its point there
at_vertex : (V : List Pair) (i : ℕ) → i < length V → vertex V i ≡ point_at V i
at_vertex V i l = get_or_free V i (point_at V 0) origin l

-- a vertex of a round and the next one of the list follow one another along a chain
abbrev IsStepOn : Side → List Pair → ℕ → ℕ → Type 0
IsStepOn Lower V last i = i < last
IsStepOn Upper V last i = last ≤ i

next_along : (side : Side) (V : List Pair) (last i j : ℕ) → IsRound V last → IsStepOn side V last i → j ≡ i + 1 → j < length V
    → IsAlong side (vertex V i) (vertex V j)
next_along Lower V last i j r k e l =
    subst (λ (n : ℕ). IsBefore (vertex V i) (vertex V n)) (sym e) ((r.steps i (omega (arith, e, l))).0 k)
next_along Upper V last i j r k e l =
    subst (λ (n : ℕ). IsBefore (vertex V n) (vertex V i)) (sym e) ((r.steps i (omega (arith, e, l))).1 k)

-- so do any two vertices of it
far_along : (side : Side) (V : List Pair) (last i d j : ℕ) → IsRound V last → ((k : ℕ) → i ≤ k → k < j → IsStepOn side V last k)
    → j ≡ i + suc d → j < length V → IsAlong side (vertex V i) (vertex V j)
far_along side V last i zero j r on e l =
    next_along side V last i j r (on i (omega arith) (omega (arith, e))) (omega (arith, e)) l
far_along side V last i (suc d) j r on e l =
    along_trans side (vertex V i) (vertex V (j - 1)) (vertex V j)
    (far_along side V last i d (j - 1) r (λ k a b. on k a (omega (arith, b))) (omega (arith, e)) (omega (arith, l)))
    (next_along side V last (j - 1) j r (on (j - 1) (omega (arith, e)) (omega (arith, e))) (omega (arith, e)) l)

along_points : (side : Side) (V : List Pair) (last i j : ℕ) → IsRound V last → ((k : ℕ) → i ≤ k → k < j → IsStepOn side V last k)
    → i < j → j < length V → IsAlong side (point_at V i) (point_at V j)
along_points side V last i j r on a l =
    subst (λ (z : Pair). IsAlong side z (point_at V j)) (at_vertex V i (omega (arith, a, l)))
    (subst (IsAlong side (vertex V i)) (at_vertex V j l)
    (far_along side V last i (j - i - 1) j r on (omega (arith, a)) l))

-- the vertices up to the last one by x and then y are the lower chain
pub lower_along : (V : List Pair) (last : ℕ) → IsSeparated V last → 0 < length V → GoesAlong Lower V 0 (last + 1)
lower_along V last s some i j a b l =
    along_points Lower V last i j (s.1 (omega (arith, b, l, s.0 some))) (λ k x y. omega (arith, y, l)) b
    (omega (arith, l, s.0 some))

-- those from it on are the upper chain
pub upper_along : (V : List Pair) (last : ℕ) → IsSeparated V last → GoesAlong Upper V last (length V)
upper_along V last s i j a b l =
    along_points Upper V last i j (s.1 (omega (arith, b, l))) (λ k x y. omega (arith, a, x)) b l

-- no point comes before itself along a chain
along_irrefl : (side : Side) (p : Pair) → ¬ IsAlong side p p
along_irrefl Lower p h = before_irrefl p h
along_irrefl Upper p h = before_irrefl p h

-- a point that is not at the first index whose vertex does not come before it is nowhere in this part of the list
pub not_there : (side : Side) (V : List Pair) (start end k : ℕ) (p : Pair) → GoesAlong side V start end → start ≤ k
    → ((i : ℕ) → start ≤ i → i < k → IsAlong side (point_at V i) p) → (k < end → ¬ IsAlong side (point_at V k) p)
    → (k < end → point_at V k ≢ p) → (i : ℕ) → start ≤ i → i < end → point_at V i ≢ p
not_there side V start end k p chain from before rest other i a b e = elim (cases_lt i k) [
  | inl l ↦ along_irrefl side p (subst (λ (z : Pair). IsAlong side z p) e (before i a l))
  | inr l ↦ elim (cases_lt k i) [
    | inl m ↦ rest (omega (arith, m, b)) (subst (IsAlong side (point_at V k)) e (chain k i from m b))
    | inr m ↦ other (omega (arith, m, b)) (subst (λ (n : ℕ). point_at V n ≡ p) (omega (arith, l, m)) e)
  ]
]
