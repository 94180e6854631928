-- the lowest index of a slice is one of its bucket
use Rattle.std.proofs.Common.{length, sym, ◌∙◌, arith}
use Rattle.hull_buckets.specs.Masks.{lowest_of}
use Rattle.hull_buckets.specs.Slices.{width_of}
use Rattle.hull_buckets.proofs.Halvings.{lowest_set}
use Rattle.hull_buckets.proofs.SliceHalves.{read_there}
use Rattle.hull_buckets.proofs.SliceTrees.{mask_fits, place_within, first_is}
use Rattle.hull_buckets.proofs.slice.SliceHalf.first.Goals as goal

pub bounds-points-lowest : goal.bounds-points-lowest
bounds-points-lowest c =
    let r = c.args.self in
    let f = mask_fits r.mask (length r.bucket.now.points) r.within r.few in
    let t = read_there r.bucket.now.points c.points.result.now
    (lowest_of r.mask) c.lowest.result c.points.ensures.points
    c.lowest.ensures.value
    (place_within r.mask (length r.bucket.now.points) (lowest_of r.mask) r.within (lowest_set r.mask r.some f)) in
    t.within

pub returns : goal.returns
returns c =
    let r = c.args.self in
    let f = mask_fits r.mask (length r.bucket.now.points) r.within r.few in
    let t = read_there r.bucket.now.points c.points.result.now
    (lowest_of r.mask) c.lowest.result c.points.ensures.points
    c.lowest.ensures.value
    (place_within r.mask (length r.bucket.now.points) (lowest_of r.mask) r.within (lowest_set r.mask r.some f)) in
    t.point c.index-points-lowest.result c.index-points-lowest.is
    ∙ sym (first_is (width_of r.mask) r.bucket.now r.mask r.some f (omega arith))
