-- The two chains of the hull of a set, their capacity, and the invariant of a plain set.
use Rattle.std.specs.Prelude.{◌≡◌, ℕ, ◌+◌, ◌≤◌, List, length}
use Rattle.std.specs.List.{All, Contains}
use Rattle.std.specs.Map.{keys_of, values_of}
use Rattle.lattice.specs.Plane.{Pair}
use Rattle.lattice.specs.Covers.{IsPointSet, with_point, without_point}
use Rattle.hull_plain.specs.Drafts.{ScratchChainHasSpace}
use Rattle.hull_geometry.specs.Monotone.{AreChainsOf, AreCandidateListsOf}
use Rattle.hull_set.specs.declared.TheConstants.{POINT_LIMIT}
use Rattle.hull_plain.specs.declared.candidate_lists.CandidateLists.{CandidateLists}
use Rattle.hull_plain.specs.declared.hull_chains.HullChains.{HullChains}

-- the chains are those of S, and the candidate lists are candidate lists of S
pub record IsHullChainsOf (S : List Pair) (o : HullChains) : Type 0 where
  pub chains : AreChainsOf S o.lower.items o.upper.items
  pub candidate_lists : AreCandidateListsOf S o.candidate_lists.below.items o.candidate_lists.above.items

-- they are those of some set
abbrev pub IsHullChains : HullChains → Type 0
IsHullChains o = (S : List Pair) × IsHullChainsOf S o

-- they are those of a set that is S after p was removed
abbrev pub WasHullChainsOf : Pair → List Pair → HullChains → Type 0
WasHullChainsOf p S o = (whole : List Pair) × IsPointSet whole × IsHullChainsOf whole o × (S ≡ without_point p whole)

-- both have the same chains and the same candidate lists
pub record AreAlike (o new : HullChains) : Type 0 where
  pub lower : new.lower.items ≡ o.lower.items
  pub upper : new.upper.items ≡ o.upper.items
  pub below : new.candidate_lists.below.items ≡ o.candidate_lists.below.items
  pub above : new.candidate_lists.above.items ≡ o.candidate_lists.above.items

-- the capacity for the candidate lists of a set of n points
pub record CandidateListsHaveSpace (f : CandidateLists) (n : ℕ) : Type 0 where
  pub below : n ≤ f.below.space
  pub above : n ≤ f.above.space

-- the storage for the hull chains of a set of n points, and for their repair
pub record HasSpace (o : HullChains) (n : ℕ) : Type 0 where
  pub lower : n ≤ o.lower.space
  pub upper : n ≤ o.upper.space
  pub candidate_lists : CandidateListsHaveSpace o.candidate_lists n
  pub scratch_chain : ScratchChainHasSpace o.scratch_chain n

-- they are those of a set that does not contain p and is S after p is added, and they have the storage for p
abbrev pub AwaitsPoint : Pair → List Pair → HullChains → Type 0
AwaitsPoint p S o = (before : List Pair) × IsHullChainsOf before o × (S ≡ with_point p before) × (¬ Contains before p)
    × HasSpace o (length before + 1)

-- a limit that a set may have, no more points than that, in order, each with a multiplicity of at least 1, and their
-- hull chains with the storage for them
pub record IsPlainSet (limit : ℕ) (entries : List (Pair × ℕ)) (o : HullChains) : Type 0 where
  pub low : 1 ≤ limit
  pub high : limit ≤ POINT_LIMIT
  pub few : length (keys_of entries) ≤ limit
  pub in_order : IsPointSet (keys_of entries)
  pub each_held : All (λ multiplicity. 1 ≤ multiplicity) (values_of entries)
  pub hull_chains : IsHullChainsOf (keys_of entries) o
  pub space : HasSpace o (length (keys_of entries))
