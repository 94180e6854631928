-- the vertices are those of the set's points, and no more than these
use Rattle.std.proofs.Common.{arith}
use Rattle.prepared_set.proofs.Knowing.{some_weaker}
use Rattle.hull_geometry.proofs.FewVertices.{vertices_few}
use Rattle.prepared_set.proofs.vertices.gathered.Goals as goal

pub known_by-requires : goal.known_by-requires
known_by-requires g c =
    let S = (g.S.HullSet.held c.args.set.now).points in
    some_weaker c.in-Ok.found _ _ (λ v returned. (
      (S, (c.count-count.ensures.in_order, returned)),
      omega (
        arith,
        vertices_few S v.items returned,
        c.count-count.ensures.reply,
        c.count-count.ensures.room,
        c.limit-limit.ensures.value,
        c.limit-limit.ensures.high,
      ),
    )) c.in-Ok.ensures.vertices
