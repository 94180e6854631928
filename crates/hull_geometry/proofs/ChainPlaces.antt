-- The edges of a chain by their indices, and the location of a point along them.
use Rattle.std.proofs.Common.{◌≡◌, ℕ, ◌⊎◌, inl, inr, refl, sym, ap, ◌∙◌, subst, List, arith, zero}
use Rattle.std.proofs.Common.{suc, [], ◌∷◌, ◌<◌, ◌-◌, ◌+◌, length, get_or, take, drop, Err}
use Rattle.std.proofs.lemmas.Bool.{cases_lt}
use Rattle.std.proofs.lemmas.Grind.{common_steps}
use Rattle.std.proofs.lemmas.List.{drop_more}
use Rattle.std.proofs.lemmas.List.Elements.{All-contains}
use Rattle.std.specs.List.{All, Contains}
use Rattle.lattice.specs.Plane.{Pair, IsBefore}
use Rattle.hull_geometry.specs.ChainEdges.{IsEdge, IsEdgeAt}
use Rattle.hull_geometry.specs.Edges.{IsChain, end_of, IsFirst, IsLast}
use Rattle.hull_geometry.specs.Monotone.{IsInner, EndsWith, IsChainOf}
use Rattle.hull_geometry.specs.Positions.{IsPositionOf, point_at, origin}
use Rattle.lattice.specs.declared.side.Side.{Side}
use Rattle.hull_geometry.proofs.Between.{end_in, first_in}
use Rattle.hull_geometry.proofs.ChainEdges.{chain_edges, chain_first, chain_last}
use Rattle.hull_geometry.specs.Locations.{AreEnds}
use Rattle.hull_geometry.proofs.EdgesAt.{up_to, on_from}
use Rattle.hull_geometry.proofs.Passes.{ends_take}
use Rattle.hull_geometry.proofs.PointLists.{get_or_free}

-- ---- edges by their indices

-- a relation along a list holds at each index of it
along_at : (E : Pair → Pair → Type 0) (x : Pair) (rest : List Pair) (i : ℕ) → IsChain E x rest → i < length rest
    → E (point_at (x ∷ rest) i) (point_at rest i)
along_at E x [] i c l = absurd (omega (arith, l))
along_at E x (y ∷ ys) zero c l = c.0
along_at E x (y ∷ ys) (suc i) c l = along_at E y ys i c.1 (omega (arith, l))

-- the points of a chain at an index and the next one are the ends of an edge
pub chain_edge : (side : Side) (S chain : List Pair) (i : ℕ) → IsChainOf side S chain → i + 1 < length chain
    → IsEdge side S (point_at chain i) (point_at chain (i + 1))
chain_edge side S [] i c l = absurd (omega (arith, l))
chain_edge side S (x ∷ rest) i c l =
    let n : suc i ≡ i + 1 = omega arith in
    subst (λ (k : ℕ). IsEdge side S (point_at (x ∷ rest) i) (point_at (x ∷ rest) k)) n
    (along_at (IsEdge side S) x rest i (chain_edges side S x rest c) (omega (arith, l)))

-- a point of the chain of S at an index is a point of S
pub chain_in : (side : Side) (S chain : List Pair) (i : ℕ) → IsChainOf side S chain → i < length chain
    → Contains S (point_at chain i)
chain_in side S chain i c l = c.among (point_at chain i) (i, l, get_or_free chain i _ _ l)

-- no point of S is before the first of its chain
pub first_of : (side : Side) (S chain : List Pair) → IsChainOf side S chain → IsFirst S (point_at chain 0)
first_of side S [] c t m = absurd (none (c.inner t m))
  where
    none : IsInner side [] t → ⊥
    none k = elim k [ ]
first_of side S (x ∷ rest) c t m = chain_first side S x rest c t m

-- the end of a list is at its last index
pub end_at : (x : Pair) (rest : List Pair) → end_of x rest ≡ point_at (x ∷ rest) (length rest)
end_at x [] = refl
end_at x (y ∷ ys) = end_at y ys

-- no point of S is after the last of its chain
pub last_of : (side : Side) (S chain : List Pair) → IsChainOf side S chain
    → IsLast S (point_at chain (length chain - 1))
last_of side S [] c t m b = absurd (none (c.inner t m))
  where
    none : IsInner side [] t → ⊥
    none k = elim k [ ]
last_of side S (x ∷ rest) c t m b =
    let n : length rest ≡ length (x ∷ rest) - 1 = omega arith in
    chain_last side S x rest c t m
    (subst (λ (z : Pair). IsBefore z t) (sym (end_at x rest ∙ ap (λ (k : ℕ). point_at (x ∷ rest) k) n)) b)

-- an edge ends at each point of a chain but the first
pub edge_to : (side : Side) (S chain : List Pair) (i : ℕ) → IsChainOf side S chain → i < length chain
    → IsFirst S (point_at chain i) ⊎ ((0 < i) × IsEdge side S (point_at chain (i - 1)) (point_at chain i))
edge_to side S chain i c l = elim (cases_lt 0 i) [
  | inr h ↦ inl (subst (λ (k : ℕ). IsFirst S (point_at chain k)) (omega (arith, h)) (first_of side S chain c))
  | inl h ↦ inr (
    h,
    subst (λ (k : ℕ). IsEdge side S (point_at chain (i - 1)) (point_at chain k)) (omega (arith, h))
        (chain_edge side S chain (i - 1) c (omega (arith, h, l))),
  )
]

-- an edge begins at each point of a chain but the last
pub edge_from : (side : Side) (S chain : List Pair) (i : ℕ) → IsChainOf side S chain → i < length chain
    → IsLast S (point_at chain i) ⊎ ((i + 1 < length chain) × IsEdge side S (point_at chain i) (point_at chain (i + 1)))
edge_from side S chain i c l = elim (cases_lt (i + 1) (length chain)) [
  | inl h ↦ inr (h, chain_edge side S chain i c h)
  | inr h ↦ inl (subst (λ (k : ℕ). IsLast S (point_at chain k)) (omega (arith, h, l)) (last_of side S chain c))
]

-- ---- from before all and from after all

-- a set with an empty chain has no points
pub no_chain : (side : Side) (S chain : List Pair) → IsChainOf side S chain → length chain ≡ 0 → (t : Pair)
    → ¬ (Contains S t)
no_chain side S [] c e t m = absurd (none (c.inner t m))
  where
    none : IsInner side [] t → ⊥
    none k = elim k [ ]
no_chain side S (x ∷ rest) c e t m = absurd (omega (arith, e))

-- a point with the first position that is not on the chain is before all points
pub seen_first : (side : Side) (S chain : List Pair) (q : Pair) → IsPositionOf chain q (Err 0) → IsChainOf side S chain
    → (t : Pair) → Contains S t → IsBefore q t
seen_first side S [] q at c t m = absurd (no_chain side S [] c refl t m)
seen_first side S (x ∷ rest) q at c t m =
    on_from q x t (at.2 0 origin (omega arith)) (first_of side S (x ∷ rest) c t m)

-- a point with the position after the last is after all points
pub seen_last : (side : Side) (S chain : List Pair) (q : Pair) → IsPositionOf chain q (Err (length chain))
    → IsChainOf side S chain → (t : Pair) → Contains S t → IsBefore t q
seen_last side S chain q at c t m =
    elim (cases_lt 0 (length chain)) [
      | inr h ↦ absurd (no_chain side S chain c (omega (arith, h)) t m)
      | inl h ↦ let l : length chain - 1 < length chain = omega (arith, h) in
          let whole : take (length chain) chain ≡ chain = grind (arith, common_steps) in
          up_to t (point_at chain (length chain - 1)) q (last_of side S chain c t m)
          (All-contains (λ t. IsBefore t q) chain (point_at chain (length chain - 1))
          (subst (All (λ t. IsBefore t q)) whole at.1) (length chain - 1, l, get_or_free chain (length chain - 1) _ _ l))
    ]

-- a point with another position is between the ends of an edge
pub edge_at : (side : Side) (S chain : List Pair) (q a b : Pair) (i : ℕ) → IsPositionOf chain q (Err i) → 0 < i
    → i < length chain → a ≡ get_or chain (i - 1) a → b ≡ get_or chain i b → IsChainOf side S chain
    → IsEdgeAt side S q a b
edge_at side S chain q a b i at some l ea eb c = record {
  edge = subst (λ (z : Pair). IsEdge side S z b) (sym a-is) (subst (IsEdge side S (point_at chain (i - 1))) (sym b-is)
      (subst (λ (k : ℕ). IsEdge side S (point_at chain (i - 1)) (point_at chain k)) n
      (chain_edge side S chain (i - 1) c l')));
  after = subst (λ (z : Pair). IsBefore z q) (sym a-is)
      (All-contains (λ t. IsBefore t q) (take i chain) (point_at chain (i - 1)) at.1
      (end_in (point_at chain (i - 1)) (take i chain)
      (subst (λ (k : ℕ). EndsWith (point_at chain (i - 1)) (take k chain)) n (ends_take chain (i - 1) l''))));
  before = subst (IsBefore q) (sym b-is)
      (All-contains (IsBefore q) (drop i chain) (point_at chain i) at.2
      (first_in (point_at chain i) (drop i chain) (drop (i + 1) chain) (drop_more chain i origin l)));
}
  where
    n : i - 1 + 1 ≡ i
    n = omega (arith, some)

    l' : i - 1 + 1 < length chain
    l' = omega (arith, some, l)

    l'' : i - 1 < length chain
    l'' = omega (arith, l)

    a-is : a ≡ point_at chain (i - 1)
    a-is = ea ∙ get_or_free chain (i - 1) a origin l''

    b-is : b ≡ point_at chain i
    b-is = eb ∙ get_or_free chain i b origin l

-- ---- one chain, and the other

-- if S has a point, its chain has one
pub some_chain : (side : Side) (S chain : List Pair) (t : Pair) → IsChainOf side S chain → Contains S t
    → 0 < length chain
some_chain side S chain t c m = elim (cases_lt 0 (length chain))
    [ inl h ↦ h | inr h ↦ absurd (no_chain side S chain c (omega (arith, h)) t m) ]

-- if its chain is empty, S is empty
pub none_of : (side : Side) (S chain : List Pair) → IsChainOf side S chain → length chain ≡ 0 → S ≡ []
none_of side [] chain c e = refl
none_of side (x ∷ xs) chain c e = absurd (no_chain side (x ∷ xs) chain c e x (0, omega arith, refl))

-- if one chain has a point, so has the other
pub other_chain : (side other : Side) (S chain others : List Pair) → IsChainOf side S chain → IsChainOf other S others
    → 0 < length chain → 0 < length others
other_chain side other S chain others c o h = some_chain other S others (point_at chain 0) o (chain_in side S chain 0 c h)

-- the first point of a chain and its last are the ends of the set
pub are_ends : (side : Side) (S chain : List Pair) → IsChainOf side S chain → 0 < length chain
    → AreEnds S (point_at chain 0) (point_at chain (length chain - 1))
are_ends side S chain c some = (
  (chain_in side S chain 0 c some, first_of side S chain c),
  (chain_in side S chain (length chain - 1) c (omega (arith, some)), last_of side S chain c),
)
