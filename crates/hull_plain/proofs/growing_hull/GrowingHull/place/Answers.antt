-- a point in the octagon is inside; else the two chains determine the place
use Rattle.std.proofs.Common.{sym, subst}
use Rattle.hull_geometry.specs.Monotone.{AreChainsOf}
use Rattle.hull_plain.specs.Growth.{Chains}
use Rattle.hull_plain.proofs.growing_hull.GrowingHull.place.Goals as goal

pub returns-then-has_point : goal.returns-then-has_point
returns-then-has_point c = λ S k.
    c.self.invariant.inside S k.0 (subst (λ (h : Chains). AreChainsOf S h.lower h.upper) (sym c.self.view_is) k.1) c.args.q
    (c.has_point.ensures.0 c.if-has_point.true)

pub returns : goal.returns
returns c = λ S k. c.place_of.ensures S (subst (λ (h : Chains). AreChainsOf S h.lower h.upper) (sym c.self.view_is) k.1)
