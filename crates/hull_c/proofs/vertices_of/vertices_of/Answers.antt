-- the answer of the hull for the points that were read again holds for those of the array, which has not changed
use Rattle.std.proofs.Common.{◌∙◌, ◌⊎◌, inr, List, subst}
use Rattle.lattice.specs.Plane.{Pair}
use Rattle.hull_c.specs.VerticesOf.{AreTooManyOrRefused, WritesVerticesOf}
use Rattle.hull_c.proofs.vertices_of.vertices_of.Goals as goal

pub returns-in-Ok-points_of : goal.returns-in-Ok-points_of
returns-in-Ok-points_of c =
    let Encoded : List Pair → List Pair → Type 0 = λ points before.
    WritesVerticesOf points before c.by_a_hull.new.out c.by_a_hull.result
    ⊎ AreTooManyOrRefused points before c.by_a_hull.new.out c.by_a_hull.result in
    inr (
      c.in-Ok-points_of.ensures.all.1,
      subst (λ (z : List Pair). Encoded z c.args.out.now) (c.deref-in-Ok-points_of.ensures.value ∙ c.in-Ok-points_of.ensures.all.0)
          (subst (λ (z : List Pair). Encoded c.deref-in-Ok-points_of.result.now z) c.in_default.ensures.encoded c.by_a_hull.ensures),
    )
