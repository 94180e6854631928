-- one vertex or none
use Rattle.std.proofs.Common.{arith}
use Rattle.hull_polygon.proofs.LeastWidths.{one_point}
use Rattle.hull_polygon.proofs.polygon.Polygon.least_width.Goals as goal

pub returns-then-self-lt2 : goal.returns-then-self-lt2
returns-then-self-lt2 c = λ S o.
    one_point S c.args.self.now.vertices.now c.args.self.now.last o c.args.self.now.separated
    (omega (arith, c.if-self-lt2.true))
