-- the two chains determine the vertices
use Rattle.std.proofs.Common.{sym, subst}
use Rattle.hull_geometry.specs.Monotone.{AreChainsOf}
use Rattle.hull_plain.specs.Growth.{Chains}
use Rattle.hull_plain.proofs.growing_hull.GrowingHull.vertices.Goals as goal

pub returns : goal.returns
returns c = record {
  vertices = λ S k.
      c.in_ok-vertices_of.ensures.vertices S k.0
      (subst (λ (h : Chains). AreChainsOf S h.lower h.upper) (sym c.self.view_is) k.1);
}
