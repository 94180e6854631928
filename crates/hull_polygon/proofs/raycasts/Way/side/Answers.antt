-- how far a point lies to the left of the path is its side
use Rattle.std.proofs.Common.{◌≡◌, ◌∙◌, ◌-ℤ◌, sym, subst}
use Rattle.lattice.specs.Plane.{Pair, orient, product}
use Rattle.hull_polygon.specs.Raycasts.{moved}
use Rattle.hull_polygon.proofs.Courses.{side_of}
use Rattle.hull_polygon.proofs.DifferencesReturned.{difference_returned}
use Rattle.hull_polygon.proofs.raycasts.Way.side.Goals as goal

pub returns-clause-value : goal.returns-clause-value
returns-clause-value c =
    let a = c.args.self.now.start in
    let w = c.args.self.now.along in
    difference_returned _ _ _ _ c.product.ensures.size c.product-2.ensures.size c.product.ensures.value
    c.product-2.ensures.value
    ∙ subst (λ (d : Pair). product d c.args.t -ℤ product d a ≡ orient a (moved a w) c.args.t)
    (sym c.turned_left-left.ensures) (side_of a w c.args.t)
