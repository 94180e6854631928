-- a vertex is a point that no other point of its hull is farther from, unless it is passed by
use Rattle.std.proofs.Common.{Option, None, Some, sym, subst}
use Rattle.std.specs.Prelude.{IfSome, MatchOption}
use Rattle.lattice.specs.Covers.{IsExtreme}
use Rattle.hull_polygon.proofs.Vertices.{vertex_extreme}
use Rattle.std.proofs.Common.{arith}
use Rattle.hull_polygon.proofs.polygon.Polygon.closest_at.Goals as goal

-- what holds of the value in `Some` holds if there is one
if_some : {A : Type 0} (P : Type 0) (Q : A → Type 0) (r : Option A) → MatchOption r P Q → IfSome r Q
if_some P Q None h = tt
if_some P Q (Some x) h = h

pub returns-in-Some : goal.returns-in-Some
returns-in-Some c = λ S o T t.
    if_some _ _ c.if_closest.result
    (c.if_closest.ensures S o T
    (subst (IsExtreme S) (sym c.vertex_at-c.ensures)
    (vertex_extreme S c.args.self.now.vertices.now c.args.i o.1 (omega (arith, c.requires.within))))
    (c.in-Some.ensures T t))
