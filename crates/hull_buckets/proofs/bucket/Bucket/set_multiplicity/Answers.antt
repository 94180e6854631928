-- nothing else changes
use Rattle.hull_buckets.specs.Buckets.{seen}
use Rattle.hull_buckets.proofs.Changed.{held_anew}
use Rattle.hull_buckets.proofs.bucket.Bucket.set_multiplicity.Goals as goal

pub invariant_of-self : goal.invariant_of-self
invariant_of-self c = (
  c.self.invariant.0,
  held_anew (seen c.self.inside.len c.self.inside.points c.self.inside.multiplicities c.self.inside.lower c.self.inside.upper) _
      c.args.place c.args.multiplicity c.self.invariant.1 c.requires.held c.set.ensures.first,
  c.set.ensures.len,
)
