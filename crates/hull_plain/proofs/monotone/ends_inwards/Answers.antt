-- a last point that lies outwards makes the longer chain turn there
use Rattle.hull_geometry.proofs.Comparisons.{fits_side, above_zero, below_test}
use Rattle.hull_geometry.proofs.Passes.{convex_push, ends_inwards_of}
use Rattle.hull_plain.proofs.monotone.ends_inwards.Goals as goal

pub returns-in-Some-clause-inwards : goal.returns-in-Some-clause-inwards
returns-in-Some-clause-inwards c = λ t.
    let last = c.in-Some.ensures in
    ends_inwards_of c.args.side _ _ _ c.args.c last.0 last.1 last.2
    ((below_test _ _ c.orient_on.ensures.value (fits_side _ c.orient_on.ensures.size)).0 t)

pub returns-in-Some-clause-convex : goal.returns-in-Some-clause-convex
returns-in-Some-clause-convex c = λ f t.
    let last = c.in-Some.ensures in
    convex_push c.args.side _ _ _ c.args.c last.0 last.1 last.2 t
    (above_zero _ _ c.orient_on.ensures.value (fits_side _ c.orient_on.ensures.size) f)
