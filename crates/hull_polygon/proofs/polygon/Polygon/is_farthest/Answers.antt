-- if a farthest point is no farther than c, none is
use Rattle.std.proofs.Common.{arith}
use Rattle.std.proofs.lemmas.Grind.{common_steps}
use Rattle.hull_polygon.proofs.Closest.{none_farther, some_farther}
use Rattle.hull_polygon.proofs.polygon.Polygon.is_farthest.Goals as goal

pub returns : goal.returns
returns c = λ S o.
    let f = c.farthest.ensures S o in (
      λ t. none_farther S c.args.d c.farthest.result c.args.c f.1 (λ h. let e = c.is_nearer.ensures.1 h in grind (arith, common_steps, e, t)),
      λ k. let n = some_farther S c.args.d c.farthest.result c.args.c f.0 k in grind (arith, common_steps, n, c.is_nearer.ensures),
    )
