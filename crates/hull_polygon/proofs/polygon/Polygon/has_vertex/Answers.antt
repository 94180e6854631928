-- a vertex is on one of the chains
use Rattle.std.proofs.Common.{◌<◌, length, arith, inl, inr}
use Rattle.lattice.specs.declared.side.Side.TheVariants.{Lower, Upper}
use Rattle.hull_polygon.proofs.Staying.{on_either, on_one}
use Rattle.lattice.proofs.Tests.{failed}
use Rattle.hull_polygon.proofs.polygon.Polygon.has_vertex.Goals as goal

pub returns-then-stands_on : goal.returns-then-stands_on
returns-then-stands_on c =
    let V = c.args.self.now.vertices.now in
    let some : 0 < length V = grind (arith, c.is_empty.ensures, c.if-is_empty.false) in
    (λ t. on_one Lower V c.args.self.now.last c.args.p some (c.stands_on.ensures.0 c.if-stands_on.true), λ m. c.if-stands_on.true)

pub returns-else-stands_on : goal.returns-else-stands_on
returns-else-stands_on c =
    let V = c.args.self.now.vertices.now in
    let some : 0 < length V = grind (arith, c.is_empty.ensures, c.if-is_empty.false) in (
      λ t. on_one Upper V c.args.self.now.last c.args.p some (c.stands_on-else-stands_on.ensures.0 t),
      λ m. elim (on_either V c.args.self.now.last c.args.p m) [
        | inl k ↦ absurd (failed c.stands_on.result _ c.if-stands_on.false c.stands_on.ensures k)
        | inr k ↦ c.stands_on-else-stands_on.ensures.1 k
      ],
    )
