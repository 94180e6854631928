-- the step between the two goes farther than the motion
use Rattle.std.proofs.Common.{ℤ, ◌≡◌, ◌+ℤ◌, ◌-ℤ◌, ◌<ℤ◌, subst, arith}
use Rattle.std.proofs.lemmas.Int.{ints}
use Rattle.lattice.specs.Plane.{Pair, product}
use Rattle.lattice.proofs.Tests.{passed}
use Rattle.hull_polygon.proofs.Neighbours.{along_step}
use Rattle.hull_polygon.proofs.partings.stays_nearer.Goals as goal

-- what is less than a difference keeps a number below another
below : (x y m s : ℤ) → s ≡ y -ℤ x → m <ℤ s → (x +ℤ m) <ℤ y
below x y m s e h = omega (arith, ints)

pub returns : goal.returns
returns c = λ t. (
  passed _ _ c.if-not-is_nearer.false c.is_nearer.ensures,
  below _ _ _ _ (along_step c.args.d c.args.p c.args.q)
      (subst (λ (z : Pair). product c.args.d c.args.motion <ℤ product c.args.d z) c.step.ensures (c.goes_less_far.ensures.0 t)),
)
