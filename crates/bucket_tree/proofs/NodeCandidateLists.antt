-- The vertices below a node are a candidate list of its points on both sides: what they answer, all points answer.
use Rattle.std.proofs.Common.{arith}
use Rattle.std.proofs.lemmas.Grind.{common_steps}
use Rattle.std.proofs.Common.{◌⊎◌, inl, inr, ◌++◌}
use Rattle.std.specs.List.{Contains}
use Rattle.std.proofs.lemmas.List.Elements.{Contains-append_left, Contains-append_right, Contains-append_cases}
use Rattle.lattice.specs.Plane.{Pair}
use Rattle.lattice.specs.declared.side.Side.{Side}
use Rattle.bridge_search.specs.Trees.{On}
use Rattle.bridge_search.specs.Leaves.{points_of}
use Rattle.bridge_search.proofs.Leaves.{on_of_contains, contains_of_on, points_in_order}
use Rattle.hull_geometry.specs.CandidateLists.{IsCandidateList, AnswersFor}
use Rattle.hull_geometry.proofs.Fringed.{both_candidate_lists}
use Rattle.hull_geometry.proofs.CandidateListHulls.{candidate_lists_answer}
use Rattle.hull_buckets.proofs.SliceBridges.{vertices_candidates}
use Rattle.bucket_tree.specs.declared.node.Node.{Node, Leaf, Fork', Taken}
use Rattle.bucket_tree.specs.Nodes.{tree_of, points_below, HasBuckets, IsWellBuilt}

-- a candidate list of what is meant by the same sets
same_candidates : (side : Side) (l k m n : Pair → Type 0) → IsCandidateList side l m → ((t : Pair) → l t → k t)
    → ((t : Pair) → k t → l t) → ((t : Pair) → m t → n t) → ((t : Pair) → n t → m t) → IsCandidateList side k n
same_candidates side l k m n f lk kl mn nm = grind (arith, common_steps)

-- the vertices below a node are a candidate list of its points
pub node_candidates : (side : Side) (n : Node) → HasBuckets n → IsCandidateList side (On (tree_of n)) (Contains (points_below n))
node_candidates side (Leaf b) h = vertices_candidates side b.value h
node_candidates side (Fork' height i left right right_ends upper left_ends lower) h =
    same_candidates side (λ t. On (tree_of left) t ⊎ On (tree_of right) t) (λ t. On (tree_of left) t ⊎ On (tree_of right) t)
    (λ t. Contains (points_below left) t ⊎ Contains (points_below right) t)
    (Contains (points_below left ++ points_below right))
    (both_candidate_lists side (On (tree_of left)) (Contains (points_below left)) (On (tree_of right))
    (Contains (points_below right)) (node_candidates side left h.0) (node_candidates side right h.1))
    (λ t i. i) (λ t i. i)
    (λ t i. elim i [
      | inl k ↦ Contains-append_left (points_below left) (points_below right) t k
      | inr k ↦ Contains-append_right (points_below left) (points_below right) t k
    ])
    (λ t i. Contains-append_cases (points_below left) (points_below right) t i)
node_candidates side Taken h = absurd h

-- so they answer for them
pub node_answers : (n : Node) → IsWellBuilt n → AnswersFor (points_of (tree_of n)) (points_below n)
node_answers n w = candidate_lists_answer (points_of (tree_of n)) (points_below n) (points_in_order (tree_of n) w.bridged)
    w.ordered
    (λ side. same_candidates side (On (tree_of n)) (Contains (points_of (tree_of n))) (Contains (points_below n))
    (Contains (points_below n)) (node_candidates side n w.buckets) (contains_of_on (tree_of n)) (on_of_contains (tree_of n))
    (λ t i. i) (λ t i. i))
