-- the count at the index of the point is another
use Rattle.std.proofs.Common.{subst, arith}
use Rattle.hull_geometry.specs.Positions.{IsPositionOf}
use Rattle.bucket_tree.proofs.Lost.{count_none}
use Rattle.bucket_tree.proofs.Recounted.{counted_over}
use Rattle.bucket_tree.proofs.recounting.recount_leaf.Goals as goal

pub unreachable-requires : goal.unreachable-requires
unreachable-requires c = let z = count_none c.args.bucket.now.points c.args.bucket.now.multiplicities c.in_default.field-0
    c.args.p
    (subst (IsPositionOf c.args.bucket.now.points c.args.p) c.in_default.is c.place_of.ensures) in
    omega (arith, z, c.requires.live)

pub returns-clause-held : goal.returns-clause-held
returns-clause-held c q =
    counted_over c.args.bucket.now.points c.set_multiplicity.new.self.points c.args.bucket.now.multiplicities
    c.set_multiplicity.new.self.multiplicities
    c.in-Ok.place c.args.multiplicity c.args.p q c.buckets_are_sound.ensures.ordered c.buckets_are_sound.ensures.counted
    (subst (IsPositionOf c.args.bucket.now.points c.args.p) c.in-Ok.is c.place_of.ensures) c.set_multiplicity.ensures.points
    c.set_multiplicity.ensures.multiplicities
