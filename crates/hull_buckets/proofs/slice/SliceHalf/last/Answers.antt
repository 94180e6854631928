-- the highest index of a slice is one of its bucket
use Rattle.std.proofs.Common.{length, sym, ◌∙◌, arith}
use Rattle.hull_buckets.specs.Masks.{highest_of}
use Rattle.hull_buckets.specs.Slices.{width_of}
use Rattle.hull_buckets.proofs.Halvings.{highest_set}
use Rattle.hull_buckets.proofs.SliceHalves.{read_there}
use Rattle.hull_buckets.proofs.SliceTrees.{mask_fits, place_within, last_is}
use Rattle.hull_buckets.proofs.slice.SliceHalf.last.Goals as goal

pub bounds-points-highest : goal.bounds-points-highest
bounds-points-highest c =
    let r = c.args.self in
    let f = mask_fits r.mask (length r.bucket.now.points) r.within r.few in
    let t = read_there r.bucket.now.points c.points.result.now
    (highest_of r.mask) c.highest.result c.points.ensures.points
    c.highest.ensures.value
    (place_within r.mask (length r.bucket.now.points) (highest_of r.mask) r.within (highest_set r.mask r.some f)) in
    t.within

pub returns : goal.returns
returns c =
    let r = c.args.self in
    let f = mask_fits r.mask (length r.bucket.now.points) r.within r.few in
    let t = read_there r.bucket.now.points c.points.result.now
    (highest_of r.mask) c.highest.result c.points.ensures.points
    c.highest.ensures.value
    (place_within r.mask (length r.bucket.now.points) (highest_of r.mask) r.within (highest_set r.mask r.some f)) in
    t.point c.index-points-highest.result c.index-points-highest.is
    ∙ sym (last_is (width_of r.mask) r.bucket.now r.mask r.some f (omega arith))
