-- A bucket is well built.
use Rattle.std.proofs.Common.{◌≡◌, Box, subst, sym, arith}
use Rattle.bridge_search.specs.Trees.{IsBridged}
use Rattle.hull_buckets.specs.Buckets.{BucketValue, IsBucket}
use Rattle.hull_buckets.specs.Slices.{width_of, all_of}
use Rattle.hull_buckets.proofs.SliceTrees.{mask_fits}
use Rattle.hull_buckets.proofs.SliceBridges.{slice_bridged, some_vertex, all_within, all_vertices}
use Rattle.bucket_tree.specs.declared.node.Node.{Leaf}
use Rattle.bucket_tree.specs.Nodes.{tree_of_bucket, IsWellBuilt}

-- the vertices of a bucket are a half that keeps its law
bucket_bridged : (b : BucketValue) → IsBucket b → IsBridged (tree_of_bucket b)
bucket_bridged b k = slice_bridged (width_of (all_of b)) b (all_of b) k (some_vertex b k)
    (mask_fits (all_of b) _ (all_within b k) k.few) (all_within b k) (all_vertices b) (omega arith)

-- so a bucket is well built
pub leaf_built : (b : Box BucketValue _) (v : BucketValue) → b.value ≡ v → IsBucket v → IsWellBuilt (Leaf b)
leaf_built b v e h =
    let k : IsBucket b.value = subst IsBucket (sym e) h in
    record { ordered = k.ordered; bridged = bucket_bridged b.value k; balanced = tt; labelled = tt; buckets = k }
