-- the tangents are those of the hull chains
use Rattle.std.proofs.Common.{◌≡◌, ap, subst, List}
use Rattle.std.specs.Map.{keys_of}
use Rattle.lattice.specs.Plane.{Pair}
use Rattle.hull_set.specs.Replies.{AnswersTangents, reply_to_tangents}
use Rattle.hull_plain.specs.Sets.{LimitedSet}
use Rattle.hull_plain.proofs.plain_set.PlainSetHullSet.tangents.Goals as goal

pub returns : goal.returns
returns c =
    let v : keys_of c.self.inside.points.entries ≡ keys_of c.args.self.now.entries =
    ap (λ (z : LimitedSet). keys_of z.entries) c.self.view_is in
    subst (λ (z : List Pair). AnswersTangents z c.args.q (reply_to_tangents c.tangents.result)) v
    (c.tangents.ensures (keys_of c.self.inside.points.entries) c.self.invariant.hull_chains)
