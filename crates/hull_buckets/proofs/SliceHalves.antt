-- A slice of several indices, by what is known of it, and each of its halves: the left one, or else the right one.
use Rattle.std.proofs.lemmas.Grind.{common_steps}
use Rattle.std.proofs.Common.{◌≡◌, ℕ, ◌<◌, ◌≤◌, ◌^◌, Bool, true, false, List, length, get_or, sym, ap, ◌∙◌, subst}
use Rattle.std.proofs.Common.{arith}
use Rattle.std.proofs.lemmas.Nat.{shr_split}
use Rattle.lattice.specs.Plane.{Pair}
use Rattle.lattice.specs.declared.side.Side.{Side}
use Rattle.bridge_search.specs.Trees.{IsBridged, IsFork, height_of}
use Rattle.hull_geometry.specs.Positions.{point_at}
use Rattle.hull_buckets.specs.Buckets.{BucketValue, mask_on}
use Rattle.hull_buckets.specs.Masks.{lowest_of, highest_of}
use Rattle.hull_buckets.specs.Slices.{split_of, left_slice, right_slice, end_of_slice, start_of_slice, tree_of_slice}
use Rattle.hull_buckets.proofs.Halvings.{left_some, left_fits, right_some, right_fits}
use Rattle.hull_buckets.proofs.Places.{read_at}
use Rattle.hull_buckets.proofs.SliceBridges.{end_within, start_within}
use Rattle.hull_buckets.proofs.SliceTrees.{fork_is, low_enough, mask_fits, several_of, several_of_fork}

-- a slice of several indices of a bucket
pub record IsSeveral (b : BucketValue) (slice : ℕ) : Type 0 where
  pub some : 0 < slice
  pub within : slice < 2 ^ length b.points
  pub fits : slice < 2 ^ 64
  pub wide : lowest_of slice < highest_of slice

-- its lowest index is not its highest
pub several_returned : (b : BucketValue) (slice low high : ℕ) → 0 < slice → slice < 2 ^ length b.points → length b.points ≤ 64
    → low ≡ lowest_of slice → high ≡ highest_of slice → ¬ (low ≡ high) → IsSeveral b slice
several_returned b slice low high s w few e g n =
    let f = mask_fits slice (length b.points) w few in
    record { some = s; within = w; fits = f; wide = several_of slice low high s f e g n }

-- its tree is a fork
pub several_below : (b : BucketValue) (slice : ℕ) → 0 < slice → slice < 2 ^ length b.points → length b.points ≤ 64
    → IsFork (tree_of_slice b slice) → IsSeveral b slice
several_below b slice s w few h =
    let f = mask_fits slice (length b.points) w few in
    record { some = s; within = w; fits = f; wide = several_of_fork b slice s f h }

-- a half of it
abbrev pub half_slice : Bool → ℕ → ℕ
half_slice true = left_slice
half_slice false = right_slice

-- the index in a half at which the edge of a chain ends
abbrev pub end_in : Bool → ℕ → ℕ → ℕ
end_in true = end_of_slice
end_in false = start_of_slice

-- a half has an index
pub half_some : (left : Bool) (b : BucketValue) (slice : ℕ) → IsSeveral b slice → 0 < half_slice left slice
half_some true b slice s = left_some slice s.some s.fits s.wide
half_some false b slice s = right_some slice s.some s.fits s.wide

-- and is a slice whose stored edges are bridges
pub half_is : (left : Bool) (b : BucketValue) (slice m : ℕ) → IsSeveral b slice → IsBridged (tree_of_slice b slice)
    → m ≡ half_slice left slice
    → (0 < m) × (m < 2 ^ length b.points) × (height_of (tree_of_slice b m) ≤ 63) × IsBridged (tree_of_slice b m)
half_is left b slice m s d e = subst (λ (z : ℕ). (0 < z) × (z < 2 ^ length b.points)
    × (height_of (tree_of_slice b z) ≤ 63) × IsBridged (tree_of_slice b z)) (sym e) (half left)
  where
    half : (left : Bool) → (0 < half_slice left slice) × (half_slice left slice < 2 ^ length b.points)
        × (height_of (tree_of_slice b (half_slice left slice)) ≤ 63) × IsBridged (tree_of_slice b (half_slice left slice))
    half true = (
      half_some true b slice s,
      (let p = shr_split slice (split_of slice) in omega (arith, p, s.within)),
      low_enough b (left_slice slice) (half_some true b slice s) (left_fits slice s.some s.fits s.wide),
      (subst IsBridged (fork_is b slice s.some s.fits s.wide) d).3,
    )
    half false = (
      half_some false b slice s,
      (let p = shr_split slice (split_of slice) in omega (arith, p, s.within)),
      low_enough b (right_slice slice) (half_some false b slice s) (right_fits slice s.some s.fits s.wide),
      (subst IsBridged (fork_is b slice s.some s.fits s.wide) d).4,
    )

-- an index that was returned for a list that was read, and its point
pub record IsReadAt (points read : List Pair) (place returned : ℕ) : Type 0 where
  pub within : returned < length read
  pub point : (p : Pair) → p ≡ get_or read returned p → p ≡ point_at points place

pub read_there : (points read : List Pair) (place returned : ℕ) → read ≡ points → returned ≡ place → place < length points
    → IsReadAt points read place returned
read_there points read place returned e f l = grind (arith, common_steps, read_at)

-- the end of the edge of a chain in a half
pub end_read : (left : Bool) (b : BucketValue) (side : Side) (slice chain half returned : ℕ) (read : List Pair)
    → IsSeveral b slice → chain ≡ mask_on side b → half ≡ half_slice left slice → returned ≡ end_in left chain half
    → read ≡ b.points → IsReadAt b.points read (end_in left (mask_on side b) (half_slice left slice)) returned
end_read left b side slice chain half returned read s c h t r =
    read_there b.points read (end_in left (mask_on side b) (half_slice left slice)) returned r
    (t ∙ ap (λ (m : ℕ). end_in left m half) c ∙ ap (end_in left (mask_on side b)) h) (within left)
  where
    within : (left : Bool) → end_in left (mask_on side b) (half_slice left slice) < length b.points
    within true = end_within (mask_on side b) slice (length b.points) s.some s.fits s.wide s.within
    within false = start_within (mask_on side b) slice (length b.points) s.some s.fits s.wide s.within
