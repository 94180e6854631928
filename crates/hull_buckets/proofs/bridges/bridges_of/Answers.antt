-- the bridges of the vertices are those of all points, since the vertices are a candidate list
use Rattle.std.proofs.Common.{◌≡◌, subst}
use Rattle.std.specs.List.{Contains}
use Rattle.lattice.specs.Bridges.{IsAllBefore, IsBridge}
use Rattle.lattice.specs.Plane.{Pair}
use Rattle.lattice.specs.declared.side.Side.{Side}
use Rattle.lattice.specs.declared.side.Side.TheVariants.{Lower, Upper}
use Rattle.bridge_search.specs.Trees.{Tree, On}
use Rattle.hull_geometry.proofs.Fringed.{of_candidate_lists}
use Rattle.hull_buckets.specs.Buckets.{BucketValue, IsBucket}
use Rattle.hull_buckets.specs.Slices.{tree_of_slice, all_of}
use Rattle.hull_buckets.proofs.SliceBridges.{vertices_among, vertices_candidates}
use Rattle.hull_buckets.proofs.bridges.bridges_of.Goals as goal

-- the vertices of two buckets are in their order
in_order : (a b : BucketValue) (u w : Tree) → IsBucket a → IsBucket b → u ≡ tree_of_slice a (all_of a)
    → w ≡ tree_of_slice b (all_of b) → IsAllBefore (Contains a.points) (Contains b.points) → IsAllBefore (On u) (On w)
in_order a b u w k h e f o p q i j =
    o p q (vertices_among a k p (subst (λ (z : Tree). On z p) e i)) (vertices_among b h q (subst (λ (z : Tree). On z q) f
    j))

-- their bridge is that of all points
of_vertices : (side : Side) (a b : BucketValue) (u w : Tree) (p q : Pair) → IsBucket a → IsBucket b
    → u ≡ tree_of_slice a (all_of a) → w ≡ tree_of_slice b (all_of b) → IsAllBefore (Contains a.points) (Contains b.points)
    → IsBridge side (On u) (On w) p q → IsBridge side (Contains a.points) (Contains b.points) p q
of_vertices side a b u w p q k h e f o i =
    (of_candidate_lists side (On (tree_of_slice a (all_of a))) (Contains a.points) (On (tree_of_slice b (all_of b)))
    (Contains b.points) p q (vertices_candidates side a k) (vertices_candidates side b h) o).0
    (subst (λ (z : Tree). IsBridge side (On z) (On (tree_of_slice b (all_of b))) p q) e
    (subst (λ (z : Tree). IsBridge side (On u) (On z) p q) f i))

pub both_bridges-upper-requires : goal.both_bridges-upper-requires
both_bridges-upper-requires c =
    in_order c.args.first.now c.args.second.now _ _ c.buckets_are_sound.ensures c.buckets_are_sound-2.ensures
    c.new.ensures c.new-2.ensures c.requires

pub returns-clause-upper : goal.returns-clause-upper
returns-clause-upper c =
    of_vertices Upper c.args.first.now c.args.second.now _ _ _ _ c.buckets_are_sound.ensures
    c.buckets_are_sound-2.ensures c.new.ensures c.new-2.ensures c.requires c.both_bridges-upper.ensures.upper

pub returns-clause-lower : goal.returns-clause-lower
returns-clause-lower c =
    of_vertices Lower c.args.first.now c.args.second.now _ _ _ _ c.buckets_are_sound.ensures
    c.buckets_are_sound-2.ensures c.new.ensures c.new-2.ensures c.requires c.both_bridges-upper.ensures.lower
