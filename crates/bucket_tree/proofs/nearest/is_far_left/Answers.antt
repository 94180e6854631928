-- the gap along x is no more than the distance
use Rattle.std.proofs.Common.{ℤ, pos, ◌-ℤ◌, ◌*ℤ◌, ◌<ℤ◌, to_z, of_z, ap, ◌∙◌, subst}
use mir.Syntax.{w64}
use Rattle.lattice.proofs.Casts.{cast_returned, cast_step}
use Rattle.bucket_tree.proofs.NearestPoints.{farther_left}
use Rattle.bucket_tree.proofs.nearest.is_far_left.Goals as goal

pub returns : goal.returns
returns c = λ far t le.
    let (some, wide) = c.is_wider.ensures far in
    let e = cast_step c.difference.result c.difference.ensures.size ∙ c.difference.ensures.value
    ∙ ap (λ (z : ℤ). z -ℤ to_z w64 (of_z w64 c.x-2.result)) (cast_returned c.x.result c.args.q.x c.x.ensures.range c.x.ensures.value)
    ∙ ap (λ (z : ℤ). c.args.q.x -ℤ z) (cast_returned c.x-2.result c.args.last.x c.x-2.ensures.range c.x-2.ensures.value) in
    farther_left c.args.q t c.args.last.x c.args.best.now.squared
    (subst (λ (z : ℤ). pos 0 <ℤ z) e some)
    (subst (λ (z : ℤ). c.args.best.now.squared <ℤ (z *ℤ z)) e wide) le
