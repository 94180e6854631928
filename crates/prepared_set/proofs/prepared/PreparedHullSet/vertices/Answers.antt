-- there are no more vertices than points, and no more points than the limit
use Rattle.std.proofs.Common.{◌≤◌, ap, arith, length, subst}
use Rattle.std.specs.Vec.{vec_len}
use Rattle.prepared_set.proofs.Knowing.{few_vertices}
use Rattle.prepared_set.proofs.prepared.PreparedHullSet.vertices.Goals as goal

pub returns-in-Ok-clause-few : goal.returns-in-Ok-clause-few
returns-in-Ok-clause-few g c = subst (λ w. vec_len c.in-Ok.copy ≤ g.S.HullSet.bound w.set) c.self.view_is
    (omega (
      arith,
      few_vertices (g.S.HullSet.held c.self.inside.set).points c.self.inside.vertices c.in-Known.kept _
          c.self.invariant c.in-Known.is,
      ap length c.in-Ok.ensures,
      c.count-count.ensures.reply,
      c.count-count.ensures.room,
    ))
