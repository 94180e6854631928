-- a squared distance is not below 0
use Rattle.std.proofs.Common.{◌∙◌, ℤ, pos, ◌≤ℤ◌, subst, sym}
use Rattle.lattice.proofs.Casts.{cast_side}
use Rattle.hull_polygon.proofs.Distances.{distance_nn}
use Rattle.hull_polygon.proofs.strips.length_of.Goals as goal

pub natural-requires-clause-above : goal.natural-requires-clause-above
natural-requires-clause-above c =
    subst (λ (z : ℤ). pos 0 ≤ℤ z)
    (sym (cast_side _ c.distance_squared.ensures.size ∙ c.distance_squared.ensures.value))
    (distance_nn c.args.a c.args.b)
