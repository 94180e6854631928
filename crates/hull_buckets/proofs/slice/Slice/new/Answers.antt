-- all indices of a bucket's masks are indices of vertices
use Rattle.std.proofs.Common.{◌≡◌, ◌<◌, ◌≤◌, ◌^◌, ℕ, length, sym, ap, subst, ◌∙◌, arith}
use Rattle.std.specs.Int.RustNames.{bit_or}
use Rattle.bridge_search.specs.Trees.{IsBridged, height_of}
use Rattle.hull_buckets.specs.Buckets.{BucketValue, IsBucket}
use Rattle.hull_buckets.specs.Slices.{all_of, tree_of_slice, width_of}
use Rattle.hull_buckets.proofs.SliceBridges.{slice_bridged, all_vertices, some_vertex, all_within}
use Rattle.hull_buckets.proofs.SliceTrees.{mask_fits, low_enough}
use Rattle.hull_buckets.proofs.slice.Slice.new.Goals as goal

-- what a slice keeps
record Kept (b : BucketValue) (mask : ℕ) : Type 0 where
  some : 0 < mask
  within : mask < 2 ^ length b.points
  low : height_of (tree_of_slice b mask) ≤ 63
  bridged : IsBridged (tree_of_slice b mask)

kept : (b : BucketValue) (mask : ℕ) → IsBucket b → mask ≡ all_of b → Kept b mask
kept b mask k e = subst (Kept b) (sym e) (record {
  some = some_vertex b k;
  within = all_within b k;
  low = low_enough b (all_of b) (some_vertex b k) fits;
  bridged = slice_bridged (width_of (all_of b)) b (all_of b) k (some_vertex b k) fits (all_within b k) (all_vertices b)
      (omega arith);
})
  where
    fits : all_of b < 2 ^ 64
    fits = mask_fits (all_of b) (length b.points) (all_within b k) k.few

pub invariant_of-result : goal.invariant_of-result
invariant_of-result c =
    let e : bit_or c.vertices.result c.vertices-2.result ≡ all_of c.args.bucket.now =
    ap (λ (m : ℕ). bit_or m c.vertices-2.result) c.vertices.ensures.mask
    ∙ ap (bit_or c.args.bucket.now.lower) c.vertices-2.ensures.mask in
    let k = kept c.args.bucket.now (bit_or c.vertices.result c.vertices-2.result) c.buckets_are_sound.ensures e in
    record {
      some = k.some;
      within = k.within;
      few = c.buckets_are_sound.ensures.few;
      low = (let l = k.low in omega (arith, l));
      bridged = k.bridged;
    }
