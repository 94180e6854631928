-- the first point is among them
use Rattle.std.proofs.Common.{List, ◌∷◌, subst, ap, ◌∙◌}
use Rattle.lattice.specs.Plane.{Pair}
use Rattle.hull_geometry.specs.Positions.{first_of}
use Rattle.bucket_tree.specs.NearestPoints.{IsNearestPoint}
use Rattle.bucket_tree.specs.Nodes.{points_below}
use Rattle.bucket_tree.specs.declared.node.Ends.{Ends}
use Rattle.bucket_tree.proofs.NearestPoints.{among_them}
use Rattle.bucket_tree.proofs.NodePoints.{some_below}
use Rattle.bucket_tree.proofs.SetEnds.{first_among}
use Rattle.bucket_tree.proofs.nearest.nearest_in.Goals as goal

pub returns-clause-nearest : goal.returns-clause-nearest
returns-clause-nearest c =
    let S : List Pair = points_below c.args.node.now in
    among_them c.args.q (first_of S) c.nearest_below.result.point S (first_among S (some_below c.args.node.now c.requires.buckets))
    (subst (λ (z : Pair). IsNearestPoint c.args.q (z ∷ S) c.nearest_below.result.point)
    (c.candidate_of.ensures.point ∙ ap (λ (z : Ends). z.first) c.ends_of-ends.ensures) c.nearest_below.ensures.nearest)
