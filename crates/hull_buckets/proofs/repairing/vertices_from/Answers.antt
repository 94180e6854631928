-- if a list is cut, its vertices stay
use Rattle.std.proofs.Common.{◌/◌, ◌^◌, List, subst, sym}
use Rattle.std.proofs.lemmas.List.{take_rest}
use Rattle.lattice.specs.Plane.{Pair}
use Rattle.hull_buckets.specs.Buckets.{AreEnds}
use Rattle.hull_buckets.proofs.Joined.{ends_from}
use Rattle.hull_buckets.proofs.repairing.vertices_from.Goals as goal

pub joined-requires-clause-ends : goal.joined-requires-clause-ends
joined-requires-clause-ends c =
    subst (λ (z : List Pair). AreEnds c.args.side z 0 (c.args.old / 2 ^ c.args.place))
    (sym (take_rest c.args.points.now c.args.place))
    (ends_from c.args.side c.args.points.now c.args.old c.args.place c.requires.ordered c.requires.within c.requires.mask)
