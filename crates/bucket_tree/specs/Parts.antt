-- The half of a hull that a borrowed subtree is.
use Rattle.std.specs.Prelude.{◌≤◌}
use Rattle.bridge_search.specs.Trees.{Tree, IsBridged, height_of, highest}
use Rattle.hull_buckets.specs.Slices.{tree_of_slice}
use Rattle.bucket_tree.specs.declared.part.Part.{Part}
use Rattle.bucket_tree.specs.declared.part.Part.TheVariants as part
use Rattle.bucket_tree.specs.Nodes.{tree_at}

-- the half that a borrowed subtree is
abbrev pub part_tree : Part → Tree
part_tree (part.Fork f) = tree_at f.fork.now
part_tree (part.Slice r) = tree_of_slice r.bucket.now r.mask

-- its edges are bridges
pub part_bridged : (p : Part) → IsBridged (part_tree p)
part_bridged (part.Fork f) = f.bridged
part_bridged (part.Slice r) = r.bridged

-- and it is not too high
pub part_low : (p : Part) → height_of (part_tree p) ≤ highest
part_low (part.Fork f) = f.low
part_low (part.Slice r) = r.low
