-- the others are the vertices of the set without it
use Rattle.std.proofs.Common.{◌+◌, ◌-◌, List, subst, sym}
use Rattle.lattice.specs.Plane.{Pair}
use Rattle.lattice.specs.Vertices.{IsLeftOf, IsVertexList}
use Rattle.hull_polygon.specs.Rounds.{vertex}
use Rattle.prepared_set.proofs.patches.take_out.Goals as goal

pub returns-clause-vertices : goal.returns-clause-vertices
returns-clause-vertices g c = λ t P o e.
    let T = (g.S.HullSet.held c.args.set.now).points in
    let V = c.args.vertices.now in
    let ab = (c.is_left_of.ensures.0 c.if-not-is_left_of.false).0 in
    let left = subst (λ (z : Pair). IsLeftOf T z (vertex V (c.args.i + 1))) c.in-Some.ensures.1
    (subst (IsLeftOf T _) c.in-Some.ensures.2 ab) in
    subst (λ (Z : List Pair). IsVertexList Z c.remove.new.self) (sym e)
    (c.remove.ensures.vertices P o
    (subst (λ (Z : List Pair). IsLeftOf Z (vertex V (c.args.i - 1)) (vertex V (c.args.i + 1))) e left))
