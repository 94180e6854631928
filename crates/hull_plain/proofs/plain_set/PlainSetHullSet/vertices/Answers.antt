-- the vertices are those of the hull chains; memory is refused only if there are points
use Rattle.std.proofs.Common.{◌≡◌, ◌≢◌, ap, subst, List, arith, rules, ◌≤◌, length, []}
use Rattle.std.specs.Map.{keys_of}
use Rattle.lattice.specs.Plane.{Pair}
use Rattle.lattice.specs.Vertices.{IsVertexList}
use Rattle.hull_plain.specs.Sets.{LimitedSet}
use Rattle.hull_geometry.proofs.FewVertices.{vertices_few}
use Rattle.hull_plain.proofs.plain_set.PlainSetHullSet.vertices.Goals as goal

pub returns-in_err-vertices-clause-reply : goal.returns-in_err-vertices-clause-reply
returns-in_err-vertices-clause-reply c =
    let v : keys_of c.self.inside.points.entries ≡ keys_of c.args.self.now.entries =
    ap (λ (z : LimitedSet). keys_of z.entries) c.self.view_is in
    let some : keys_of c.args.self.now.entries ≢ [] = subst (λ (z : List Pair). z ≢ []) v
    (c.in_err-vertices.ensures.refused (keys_of c.self.inside.points.entries) c.self.invariant.hull_chains) in
    search (rules, some)

pub returns-clause-reply : goal.returns-clause-reply
returns-clause-reply c =
    let v : keys_of c.self.inside.points.entries ≡ keys_of c.args.self.now.entries =
    ap (λ (z : LimitedSet). keys_of z.entries) c.self.view_is in
    subst (λ (z : List Pair). IsVertexList z c.in_ok-vertices.field-0.items) v
    (c.in_ok-vertices.ensures.vertices (keys_of c.self.inside.points.entries) c.self.invariant.in_order
    c.self.invariant.hull_chains)

pub returns-clause-few : goal.returns-clause-few
returns-clause-few c =
    let n : c.self.inside.limit ≡ c.args.self.now.limit = ap (λ (z : LimitedSet). z.limit) c.self.view_is in
    let few : length c.in_ok-vertices.field-0.items ≤ length (keys_of c.self.inside.points.entries) =
    vertices_few (keys_of c.self.inside.points.entries) c.in_ok-vertices.field-0.items
    (c.in_ok-vertices.ensures.vertices (keys_of c.self.inside.points.entries) c.self.invariant.in_order
    c.self.invariant.hull_chains) in
    omega (arith, c.self.invariant.few)
