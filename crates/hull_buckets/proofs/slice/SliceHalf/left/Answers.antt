-- the tree of a slice of several indices is a fork over the trees of its halves
use Rattle.std.proofs.Common.{true, sym, ap, ◌∙◌, arith}
use Rattle.bridge_search.specs.Trees.{left_of}
use Rattle.hull_buckets.specs.Slices.{tree_of_slice}
use Rattle.hull_buckets.proofs.SliceHalves.{half_is, several_below}
use Rattle.hull_buckets.proofs.SliceTrees.{fork_is}
use Rattle.hull_buckets.proofs.slice.SliceHalf.left.Goals as goal

pub halves_of-mask-requires-clause-several : goal.halves_of-mask-requires-clause-several
halves_of-mask-requires-clause-several c = let r = c.args.self in
    (several_below r.bucket.now r.mask r.some r.within r.few c.requires).wide

pub invariant_of-result : goal.invariant_of-result
invariant_of-result c =
    let r = c.args.self in
    let h = half_is true r.bucket.now r.mask c.halves_of-mask.result.0
    (several_below r.bucket.now r.mask r.some r.within r.few c.requires) r.bridged c.halves_of-mask.ensures.left in
    record { some = h.0; within = h.1; few = r.few; low = omega (arith, h.2); bridged = h.3 }

pub returns : goal.returns
returns c =
    let r = c.args.self in
    let s = several_below r.bucket.now r.mask r.some r.within r.few c.requires in
    ap (tree_of_slice r.bucket.now) c.halves_of-mask.ensures.left
    ∙ sym (ap left_of (fork_is r.bucket.now r.mask s.some s.fits s.wide))
