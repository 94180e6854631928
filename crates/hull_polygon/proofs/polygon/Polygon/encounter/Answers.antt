-- a covered end is a common point; else the farthest points on both sides decide
use Rattle.std.proofs.Common.{subst}
use Rattle.lattice.specs.Plane.{Pair}
use Rattle.lattice.specs.Places.{IsFarthest}
use Rattle.hull_polygon.proofs.Shields.{start_there, end_there}
use Rattle.lattice.proofs.Tests.{passed, failed}
use Rattle.hull_polygon.proofs.polygon.Polygon.encounter.Goals as goal

pub returns-then-covers : goal.returns-then-covers
returns-then-covers c = λ S o.
    (start_there c.args.a c.args.b, passed _ _ c.if-covers.true (c.covers.ensures S o))

pub returns-then-covers-2 : goal.returns-then-covers-2
returns-then-covers-2 c = λ S o.
    (end_there c.args.a c.args.b, passed _ _ c.if-covers-2.true (c.covers-2.ensures S o))

pub returns : goal.returns
returns c = λ S o.
    let l = c.farthest-left.ensures S o in
    let r = c.farthest-right.ensures S o in
    c.encounter_between.ensures S record {
      leftmost = (l.0, subst (λ (d : Pair). IsFarthest S d c.farthest-left.result) c.left_of.ensures l.1);
      rightmost = (r.0, subst (λ (d : Pair). IsFarthest S d c.farthest-right.result) c.left_of-2.ensures r.1);
      start = failed _ _ c.if-covers.false (c.covers.ensures S o);
      end = failed _ _ c.if-covers-2.false (c.covers-2.ensures S o);
    }
