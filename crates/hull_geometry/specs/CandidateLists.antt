-- Points that do not matter to a bridge or to a hull: those that lie inwards of a segment between two other points of
-- their set.
use Rattle.std.specs.List.{Contains}
use Rattle.std.specs.Prelude.{◌≡◌, ◌⊎◌, ◌↔◌, ℤ, List}
use Rattle.lattice.specs.Bridges.{IsAllBefore, IsBridge}
use Rattle.lattice.specs.Covers.{IsPointSet, Covers}
use Rattle.lattice.specs.Places.{IsOuter}
use Rattle.lattice.specs.Plane.{Pair, IsBefore}
use Rattle.lattice.specs.Standing.{WithPoint, IsInnerToEdge}
use Rattle.lattice.specs.Vertices.{IsVertexList, IsDoubledArea}
use Rattle.lattice.specs.declared.side.Side.{Side}
use Rattle.hull_geometry.specs.Monotone.{IsInwards, IsChainOf}
use Rattle.hull_geometry.specs.Tangents.{IsFirstFarthest, IsTangent}
use Rattle.hull_geometry.specs.declared.hand.Hand.{Hand}

-- a point inwards of a segment is inner to each edge to which the segment's two ends are inner
abbrev pub UnderAnEdgeIsInner : Side → Type 0
UnderAnEdgeIsInner side =
    (u v a b t : Pair) → IsBefore u v → IsInwards side a b t → IsInnerToEdge side u v a → IsInnerToEdge side u v b
    → IsInnerToEdge side u v t

-- l is a candidate list of m: some of its points, and each other point of m lies inwards of a segment between two of
-- them
pub record IsCandidateList (side : Side) (l m : Pair → Type 0) : Type 0 where
  pub among : (t : Pair) → l t → m t
  pub under : (t : Pair) → m t → l t ⊎ ((a b : Pair) × l a × l b × IsInwards side a b t)

-- two sets, all of the one before all of the other, have the bridge of their candidate lists, and only that
abbrev pub BridgeIsOfCandidateLists : Side → (Pair → Type 0) → (Pair → Type 0) → (Pair → Type 0) → (Pair → Type 0) → Type 0
BridgeIsOfCandidateLists side l m r s =
    (u v : Pair) → IsCandidateList side l m → IsCandidateList side r s → IsAllBefore m s
    → (IsBridge side l r u v ↔ IsBridge side m s u v)

-- the chain of a set is a candidate list of it
abbrev pub ChainIsACandidateList : Side → Type 0
ChainIsACandidateList side =
    (S chain : List Pair) → IsChainOf side S chain → IsCandidateList side (Contains chain) (Contains S)

-- if a point that is not inner to the bridge of two sets is added to one of them, their new bridge ends at that point
abbrev pub BridgeEndsAtWhatCame : Side → (Pair → Type 0) → (Pair → Type 0) → Type 0
BridgeEndsAtWhatCame side l r =
    (u v p a b : Pair) → IsAllBefore l r → IsBridge side l r u v → ¬ IsInnerToEdge side u v p
    → (IsBridge side (WithPoint p l) r a b → a ≡ p) × (IsBridge side l (WithPoint p r) a b → b ≡ p)

-- each answer to a question about the hull of the points F is one about the hull of the points S
pub record AnswersFor (F S : List Pair) : Type 0 where
  pub covers : (q : Pair) → Covers F q ↔ Covers S q
  pub outer : (q : Pair) → IsOuter F q ↔ IsOuter S q
  pub farthest : (d t : Pair) → IsFirstFarthest F d t → IsFirstFarthest S d t
  pub vertices : (list : List Pair) → IsVertexList F list → IsVertexList S list
  pub area : (n : ℤ) → IsDoubledArea F n → IsDoubledArea S n
  pub tangents : (hand : Hand) (q p : Pair) → ¬ Covers F q → IsTangent hand F q p → IsTangent hand S q p

-- a candidate list of a set on both sides answers for it
abbrev pub CandidateListsAnswer : Type 0
CandidateListsAnswer =
    (F S : List Pair) → IsPointSet F → IsPointSet S → ((side : Side) → IsCandidateList side (Contains F) (Contains S))
    → AnswersFor F S
