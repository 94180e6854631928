-- how far the step from the other to the one goes is the difference of the distances
use Rattle.std.proofs.Common.{◌∙◌, ◌+ℤ◌, ◌*ℤ◌, ap}
use Rattle.lattice.specs.Plane.{Pair}
use Rattle.hull_geometry.proofs.Comparisons.{fits_side}
use Rattle.hull_polygon.proofs.Nearer.{nearer_test}
use Rattle.hull_polygon.proofs.extreme.is_nearer.Goals as goal

pub returns : goal.returns
returns c =
    nearer_test c.args.d c.args.p c.args.q c.along_step.result
    (c.along_step.ensures.value
    ∙ ap (λ (s : Pair). c.args.d.x *ℤ s.x +ℤ c.args.d.y *ℤ s.y) c.step.ensures)
    (fits_side _ c.along_step.ensures.size)
