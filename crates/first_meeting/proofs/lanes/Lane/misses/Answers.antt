-- a point to the left of the lane, or to its right
use Rattle.std.proofs.Common.{◌<ℤ◌, ℤ, subst}
use Rattle.lattice.specs.Plane.{product}
use Rattle.lattice.proofs.Casts.{cast_side}
use Rattle.first_meeting.proofs.PassedBy.{passes_left, passes_right}
use Rattle.first_meeting.proofs.lanes.Lane.misses.Goals as goal

pub returns-then-lies_farther : goal.returns-then-lies_farther
returns-then-lies_farther c = λ t T d h.
    passes_left T d c.args.point c.args.self h
    (subst (λ (z : ℤ). z <ℤ product c.args.self.left c.args.point) (cast_side _ h.most_fits)
    (c.lies_farther.ensures.0 c.if-lies_farther.true))

pub returns : goal.returns
returns c = λ t T d h.
    passes_right T d c.args.point c.args.self h
    (subst (λ (z : ℤ). product c.args.self.left c.args.point <ℤ z) (cast_side _ h.least_fits) (c.lies_less_far.ensures.0 t))
