-- the place of a point is that of the hull chains
use Rattle.std.proofs.Common.{◌≡◌, ap, subst, List}
use Rattle.std.specs.Map.{keys_of}
use Rattle.lattice.specs.Plane.{Pair}
use Rattle.hull_set.specs.Replies.{LiesAt}
use Rattle.hull_plain.specs.Sets.{LimitedSet}
use Rattle.hull_plain.proofs.plain_set.PlainSetHullSet.place.Goals as goal

pub returns : goal.returns
returns c =
    let v : keys_of c.self.inside.points.entries ≡ keys_of c.args.self.now.entries =
    ap (λ (z : LimitedSet). keys_of z.entries) c.self.view_is in
    subst (λ (z : List Pair). LiesAt z c.args.q c.place.result) v
    (c.place.ensures (keys_of c.self.inside.points.entries) c.self.invariant.hull_chains)
