-- the two chains determine the area
use Rattle.std.proofs.Common.{sym, subst}
use Rattle.hull_geometry.specs.Monotone.{AreChainsOf}
use Rattle.hull_plain.specs.Growth.{Chains}
use Rattle.hull_plain.proofs.growing_hull.GrowingHull.area2.Goals as goal

pub returns : goal.returns
returns c = λ S k.
    c.doubled_area_of.ensures S k.0 (subst (λ (h : Chains). AreChainsOf S h.lower h.upper) (sym c.self.view_is) k.1)
