-- the tangents touch the chains that the location determines; no vertices cover nothing
use Rattle.std.proofs.Common.{arith, inl, inr}
use Rattle.hull_polygon.proofs.EdgesAt.{are_ends}
use Rattle.hull_polygon.proofs.Ends.{no_vertices}
use Rattle.hull_polygon.proofs.polygon.Polygon.tangents.Goals as goal

pub returns-then-is_empty : goal.returns-then-is_empty
returns-then-is_empty c = λ S o.
    inl (no_vertices S c.args.self.now.vertices.now o (grind (arith, c.is_empty.ensures, c.if-is_empty.true)))

pub returns-in_default : goal.returns-in_default
returns-in_default c = λ S o. inr (c.in_default.ensures _ _ S c.args.q
    (are_ends S c.args.self.now.vertices.now c.args.self.now.last o c.args.self.now.separated
    (grind (arith, c.is_empty.ensures, c.if-is_empty.false))) (c.look.ensures S o))

pub tangent_on-requires-clause-seen : goal.tangent_on-requires-clause-seen
tangent_on-requires-clause-seen c = λ S o. (c.in-Some.ensures _ _ S c.args.q
    (are_ends S c.args.self.now.vertices.now c.args.self.now.last o c.args.self.now.separated
    (grind (arith, c.is_empty.ensures, c.if-is_empty.false))) (c.look.ensures S o)).1

pub tangent_on-requires-2-clause-seen : goal.tangent_on-requires-2-clause-seen
tangent_on-requires-2-clause-seen c = λ S o. (c.in-Some.ensures _ _ S c.args.q
    (are_ends S c.args.self.now.vertices.now c.args.self.now.last o c.args.self.now.separated
    (grind (arith, c.is_empty.ensures, c.if-is_empty.false))) (c.look.ensures S o)).2

pub returns : goal.returns
returns c = λ S o.
    let touched = c.in-Some.ensures _ _ S c.args.q
    (are_ends S c.args.self.now.vertices.now c.args.self.now.last o c.args.self.now.separated
    (grind (arith, c.is_empty.ensures, c.if-is_empty.false))) (c.look.ensures S o) in
    (touched.0, c.tangent_on.ensures S o, c.tangent_on-2.ensures S o)
