-- the first of the farthest points is that of the hull chains
use Rattle.std.proofs.Common.{◌≡◌, ap, subst, List}
use Rattle.std.specs.Map.{keys_of}
use Rattle.lattice.specs.Plane.{Pair}
use Rattle.hull_set.specs.Replies.{AnswersExtreme, reply_to_extreme}
use Rattle.hull_plain.specs.Sets.{LimitedSet}
use Rattle.hull_plain.proofs.plain_set.PlainSetHullSet.extreme.Goals as goal

pub returns : goal.returns
returns c =
    let v : keys_of c.self.inside.points.entries ≡ keys_of c.args.self.now.entries =
    ap (λ (z : LimitedSet). keys_of z.entries) c.self.view_is in
    subst (λ (z : List Pair). AnswersExtreme z c.args.d (reply_to_extreme c.extreme.result)) v
    (c.extreme.ensures (keys_of c.self.inside.points.entries) c.self.invariant.hull_chains)
