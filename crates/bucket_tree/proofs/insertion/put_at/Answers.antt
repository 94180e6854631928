-- a new point counts once
use Rattle.std.proofs.Common.{sym, ap, ◌∙◌, arith, List, length}
use Rattle.lattice.specs.Plane.{Pair}
use Rattle.hull_geometry.specs.Positions.{point_at}
use Rattle.bucket_tree.proofs.Lost.{no_place}
use Rattle.bucket_tree.proofs.Rows.{counted_put, inserted_there}
use Rattle.hull_buckets.proofs.Changed.{insert_is}
use Rattle.leaf_trees.proofs.Rows.{with_length}
use Rattle.bucket_tree.proofs.insertion.put_at.Goals as goal

pub returns-clause-multiplicities : goal.returns-clause-multiplicities
returns-clause-multiplicities c q =
    counted_put c.args.bucket.now.points c.insert.new.self.points c.args.bucket.now.multiplicities c.insert.new.self.multiplicities
    c.args.place c.args.p q c.buckets_are_sound.ensures.ordered c.buckets_are_sound.ensures.counted
    c.requires.position c.insert.ensures.points c.insert.ensures.multiplicities

pub affected_at-requires-clause-within : goal.affected_at-requires-clause-within
affected_at-requires-clause-within c = omega (
  arith,
  c.requires.position.0,
  ap (λ (z : List Pair). length z) c.insert.ensures.points,
  with_length c.args.p c.args.bucket.now.points
      (no_place c.args.bucket.now.points c.args.place c.args.p c.requires.position),
)

pub affected_at-requires-clause-there : goal.affected_at-requires-clause-there
affected_at-requires-clause-there c =
    ap (λ z. point_at z c.args.place) (c.insert.ensures.points
    ∙ sym (insert_is c.args.bucket.now.points c.args.p c.args.place c.buckets_are_sound.ensures.ordered c.requires.position))
    ∙ inserted_there c.args.bucket.now.points c.args.p c.args.place c.requires.position.0
