-- a slice of several indices is a fork, whose edge on a side goes between two of its indices
use Rattle.std.proofs.Common.{◌<◌, ℕ, true, false, sym, ap, subst, ◌∙◌, Some}
use Rattle.lattice.specs.Plane.{Pair}
use Rattle.hull_geometry.specs.Positions.{point_at}
use Rattle.hull_buckets.specs.Buckets.{mask_on}
use Rattle.hull_buckets.specs.Slices.{left_slice, end_of_slice}
use Rattle.hull_buckets.proofs.SliceBridges.{no_edge, some_edge}
use Rattle.hull_buckets.proofs.SliceHalves.{end_read, half_some, several_returned}
use Rattle.hull_buckets.proofs.slice.Slice.edge_on.Goals as goal

pub returns-then-lowest-highest : goal.returns-then-lowest-highest
returns-then-lowest-highest c =
    sym (no_edge c.args.side c.args.self.bucket.now c.args.self.mask
    (sym c.lowest.ensures.value ∙ c.if-lowest-highest.true ∙ c.highest.ensures.value))

pub halves_of-left-requires-clause-several : goal.halves_of-left-requires-clause-several
halves_of-left-requires-clause-several c =
    let r = c.args.self in
    let s = several_returned r.bucket.now r.mask c.lowest.result c.highest.result r.some r.within r.few
    c.lowest.ensures.value c.highest.ensures.value c.if-lowest-highest.false in
    s.wide

pub end_of-requires : goal.end_of-requires
end_of-requires c =
    let r = c.args.self in
    let s = several_returned r.bucket.now r.mask c.lowest.result c.highest.result r.some r.within r.few
    c.lowest.ensures.value c.highest.ensures.value c.if-lowest-highest.false in
    subst (λ (m : ℕ). 0 < m) (sym c.halves_of-left.ensures.left) (half_some true r.bucket.now r.mask s)

pub start_of-requires : goal.start_of-requires
start_of-requires c =
    let r = c.args.self in
    let s = several_returned r.bucket.now r.mask c.lowest.result c.highest.result r.some r.within r.few
    c.lowest.ensures.value c.highest.ensures.value c.if-lowest-highest.false in
    subst (λ (m : ℕ). 0 < m) (sym c.halves_of-left.ensures.right) (half_some false r.bucket.now r.mask s)

pub bounds-points-end_of : goal.bounds-points-end_of
bounds-points-end_of c =
    let r = c.args.self in
    let s = several_returned r.bucket.now r.mask c.lowest.result c.highest.result r.some r.within r.few
    c.lowest.ensures.value c.highest.ensures.value c.if-lowest-highest.false in
    (end_read true r.bucket.now c.args.side r.mask c.vertices-chain.result c.halves_of-left.result.0 c.end_of.result
    c.points-points.result.now s c.vertices-chain.ensures.mask c.halves_of-left.ensures.left c.end_of.ensures
    c.points-points.ensures.points).within

pub bounds-points-start_of : goal.bounds-points-start_of
bounds-points-start_of c =
    let r = c.args.self in
    let s = several_returned r.bucket.now r.mask c.lowest.result c.highest.result r.some r.within r.few
    c.lowest.ensures.value c.highest.ensures.value c.if-lowest-highest.false in
    (end_read false r.bucket.now c.args.side r.mask c.vertices-chain.result c.halves_of-left.result.1 c.start_of.result
    c.points-points.result.now s c.vertices-chain.ensures.mask c.halves_of-left.ensures.right c.start_of.ensures
    c.points-points.ensures.points).within

pub returns : goal.returns
returns c =
    let r = c.args.self in
    let s = several_returned r.bucket.now r.mask c.lowest.result c.highest.result r.some r.within r.few
    c.lowest.ensures.value c.highest.ensures.value c.if-lowest-highest.false in
    let a = (end_read true r.bucket.now c.args.side r.mask c.vertices-chain.result c.halves_of-left.result.0
    c.end_of.result
    c.points-points.result.now s c.vertices-chain.ensures.mask c.halves_of-left.ensures.left c.end_of.ensures
    c.points-points.ensures.points).point c.index-points-end_of.result c.index-points-end_of.is in
    let b = (end_read false r.bucket.now c.args.side r.mask c.vertices-chain.result c.halves_of-left.result.1
    c.start_of.result
    c.points-points.result.now s c.vertices-chain.ensures.mask c.halves_of-left.ensures.right c.start_of.ensures
    c.points-points.ensures.points).point c.index-points-start_of.result c.index-points-start_of.is in
    ap (λ (z : Pair). Some (z, c.index-points-start_of.result)) a
    ∙ ap (λ (z : Pair). Some (
      point_at r.bucket.now.points (end_of_slice (mask_on c.args.side r.bucket.now) (left_slice r.mask)),
      z,
    )) b
    ∙ sym (some_edge c.args.side r.bucket.now r.mask s.some s.fits s.wide)
