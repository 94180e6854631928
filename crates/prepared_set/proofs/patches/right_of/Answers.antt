-- a direction in range and not zero is accepted
use Rattle.std.proofs.Common.{◌≡◌, ℤ, ◌-ℤ◌, to_z, of_z, sym, ap, ◌∙◌, subst}
use mir.Syntax.{w64}
use Rattle.lattice.specs.Plane.{IsCoordinate}
use Rattle.lattice.proofs.Casts.{cast_returned, cast_step}
use Rattle.prepared_set.proofs.Patching.{no_fault}
use Rattle.prepared_set.proofs.patches.right_of.Goals as goal
use Rattle.prepared_set.proofs.patches.right_of.Goals.{After-new}

-- the first component is the difference of the second coordinates
first : (c : After-new) → to_z w64 (of_z w64 c.difference.result) ≡ c.args.b.y -ℤ c.args.a.y
first c =
    cast_step c.difference.result c.difference.ensures.size ∙ c.difference.ensures.value
    ∙ ap (λ (z : ℤ). z -ℤ to_z w64 (of_z w64 c.y-2.result)) (cast_returned c.y.result c.args.b.y c.y.ensures.range c.y.ensures.value)
    ∙ ap (λ (z : ℤ). c.args.b.y -ℤ z) (cast_returned c.y-2.result c.args.a.y c.y-2.ensures.range c.y-2.ensures.value)

-- the second is that of the first ones
second : (c : After-new) → to_z w64 (of_z w64 c.difference-2.result) ≡ c.args.a.x -ℤ c.args.b.x
second c =
    cast_step c.difference-2.result c.difference-2.ensures.size ∙ c.difference-2.ensures.value
    ∙ ap (λ (z : ℤ). z -ℤ to_z w64 (of_z w64 c.x-2.result)) (cast_returned c.x.result c.args.a.x c.x.ensures.range c.x.ensures.value)
    ∙ ap (λ (z : ℤ). c.args.a.x -ℤ z) (cast_returned c.x-2.result c.args.b.x c.x-2.ensures.range c.x-2.ensures.value)

pub returns-in-Ok-clause-measured : goal.returns-in-Ok-clause-measured
returns-in-Ok-clause-measured c = (
  (subst IsCoordinate (first c.before) c.in-Ok.ensures.in_range.0, subst IsCoordinate (second c.before) c.in-Ok.ensures.in_range.1),
  λ z. c.in-Ok.ensures.nonzero (first c.before ∙ z.0, second c.before ∙ z.1),
)

pub returns-in-Err-clause-refused : goal.returns-in-Err-clause-refused
returns-in-Err-clause-refused c = λ h.
    no_fault c.new.result c.in-Err.field-0 _ _ c.in-Err.is c.new.ensures.out_of_range c.new.ensures.zero
    (subst IsCoordinate (sym (first c.before)) h.0.0, subst IsCoordinate (sym (second c.before)) h.0.1)
    (λ z. h.1 (sym (first c.before) ∙ z.0, sym (second c.before) ∙ z.1))
