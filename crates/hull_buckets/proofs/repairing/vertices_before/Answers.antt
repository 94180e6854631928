-- if a list is cut, its vertices stay
use Rattle.std.proofs.Common.{ℕ, subst, sym, take}
use Rattle.hull_buckets.specs.Buckets.{AreEnds}
use Rattle.hull_buckets.proofs.Joined.{ends_before}
use Rattle.hull_buckets.proofs.repairing.vertices_before.Goals as goal

pub joined-requires-clause-ends : goal.joined-requires-clause-ends
joined-requires-clause-ends c =
    subst (λ (m : ℕ). AreEnds c.args.side (take c.args.count c.args.points.now) m 0) (sym c.below.ensures)
    (ends_before c.args.side c.args.points.now c.args.old c.args.count c.requires.ordered c.requires.within c.requires.mask)
