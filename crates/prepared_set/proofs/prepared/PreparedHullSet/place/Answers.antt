-- the vertices are those of the set
use Rattle.std.proofs.Common.{subst}
use Rattle.hull_set.specs.Replies.{LiesAt}
use Rattle.prepared_set.proofs.Knowing.{by_vertices}
use Rattle.prepared_set.proofs.prepared.PreparedHullSet.place.Goals as goal

pub returns-in-Known : goal.returns-in-Known
returns-in-Known g c =
    subst (λ w. LiesAt (g.S.HullSet.held w.set).points c.args.q c.place.result) c.self.view_is
    (by_vertices _ _ _ _ _ (λ S. LiesAt S c.args.q c.place.result) c.self.invariant c.in-Known.is c.polygon.ensures.vertices
    c.place.ensures)

pub returns-in-Unknown : goal.returns-in-Unknown
returns-in-Unknown g c =
    subst (λ w. LiesAt (g.S.HullSet.held w.set).points c.args.q c.place-in-Unknown.result) c.self.view_is
    c.place-in-Unknown.ensures
