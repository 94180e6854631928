-- the comparison decides
use Rattle.std.proofs.Common.{◌∷◌, [], sym, subst, ◌∙◌, ap}
use Rattle.lattice.specs.Plane.{Pair, distance_squared}
use Rattle.bucket_tree.specs.NearestPoints.{IsNearestPoint}
use Rattle.bucket_tree.proofs.NearestPoints.{nearer_wins}
use Rattle.bucket_tree.proofs.nearest.nearer_of.Goals as goal

pub returns-then-is_nearer-clause-nearest : goal.returns-then-is_nearer-clause-nearest
returns-then-is_nearer-clause-nearest c =
    let p : Pair = c.candidate_of-other.result.point in
    let at = c.candidate_of-other.ensures.point in
    subst (λ (z : Pair). IsNearestPoint c.args.q (c.args.best.now.point ∷ z ∷ []) p) at
    (nearer_wins c.args.q c.args.best.now.point p c.args.best.now.squared c.candidate_of-other.result.squared c.requires
    (c.candidate_of-other.ensures.squared ∙ ap (distance_squared c.args.q) (sym at)) (c.is_nearer.ensures.0 c.if-is_nearer.true))
