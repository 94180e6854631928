-- A bucket as a half of a hull: a balanced tree over the vertices of both its chains, which is never stored.
use Rattle.std.specs.Prelude.{ℕ, zero, suc, ◌+◌, ◌-◌, ◌/◌, ◌%◌, ◌^◌, ◌*◌, Option}
use Rattle.std.specs.Int.RustNames.{bit_and, bit_or}
use Rattle.lattice.specs.Plane.{Pair}
use Rattle.lattice.specs.declared.side.Side.{Side}
use Rattle.lattice.specs.declared.side.Side.TheVariants.{Lower, Upper}
use Rattle.bridge_search.specs.Trees.{Tree, Leaf, Fork, edge_of, lower_of}
use Rattle.hull_geometry.specs.Positions.{point_at}
use Rattle.hull_buckets.specs.Buckets.{BucketValue, mask_on}
use Rattle.hull_buckets.specs.Masks.{lowest_of, highest_of}

-- the difference between them
abbrev pub width_of : ℕ → ℕ
width_of mask = highest_of mask - lowest_of mask

-- a slice splits after the middle of its indices
abbrev pub split_of : ℕ → ℕ
split_of mask = (lowest_of mask + highest_of mask) / 2 + 1

-- those before the split, and those after it
abbrev pub left_slice : ℕ → ℕ
left_slice mask = mask % 2 ^ split_of mask

abbrev pub right_slice : ℕ → ℕ
right_slice mask = mask / 2 ^ split_of mask * 2 ^ split_of mask

-- one of two indices, depending on whether a mask is empty
abbrev pub either_place : ℕ → ℕ → ℕ → ℕ
either_place zero none some = none
either_place (suc n) none some = some

-- the last index of a mask's chain in a slice that has more after it, or the slice's first if the chain has none there
abbrev pub end_of_slice : ℕ → ℕ → ℕ
end_of_slice chain slice = either_place (bit_and slice chain) (lowest_of slice) (highest_of (bit_and slice chain))

-- the first index of the chain in a slice that has more before it, or the slice's last if the chain has none there
abbrev pub start_of_slice : ℕ → ℕ → ℕ
start_of_slice chain slice = either_place (bit_and slice chain) (highest_of slice) (lowest_of (bit_and slice chain))

-- the edge on a side between the two halves of a slice
abbrev pub edge_of_slice : Side → BucketValue → ℕ → Pair × Pair
edge_of_slice side b slice = (
  point_at b.points (end_of_slice (mask_on side b) (left_slice slice)),
  point_at b.points (start_of_slice (mask_on side b) (right_slice slice)),
)

-- one of two trees, depending on the width of a slice
abbrev pub tree_by : ℕ → Tree → Tree → Tree
tree_by zero one several = one
tree_by (suc w) one several = several

-- the tree of a slice, to a depth that is enough: one index is a point, and more are a fork
abbrev pub tree_to : ℕ → BucketValue → ℕ → Tree
tree_to zero b slice = Leaf (point_at b.points (lowest_of slice))
tree_to (suc n) b slice = tree_by (width_of slice) (Leaf (point_at b.points (lowest_of slice)))
    (Fork (edge_of_slice Upper b slice) (edge_of_slice Lower b slice) (tree_to n b (left_slice slice)) (tree_to n b (right_slice
    slice)))

-- the tree of a slice
abbrev pub tree_of_slice : BucketValue → ℕ → Tree
tree_of_slice b slice = tree_to (width_of slice) b slice

-- all vertices of a bucket, of either chain
abbrev pub all_of : BucketValue → ℕ
all_of b = bit_or b.lower b.upper

-- the stored edge of a tree on a side
abbrev pub edge_at : Side → Tree → Option (Pair × Pair)
edge_at Lower t = lower_of t
edge_at Upper t = edge_of t
