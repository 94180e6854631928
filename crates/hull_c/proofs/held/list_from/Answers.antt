-- memory was refused, so the set has a point
use Rattle.std.proofs.Common.{◌≢◌, [], refl, inr, subst}
use Rattle.bucket_tree.specs.Roots.{points_of_root}
use Rattle.bucket_tree.specs.Sets.{LimitedTree}
use Rattle.hull_c.proofs.held.list_from.Goals as goal

pub returns-in_default : goal.returns-in_default
returns-in_default c =
    inr (
      subst (λ (t : LimitedTree). points_of_root t.root ≢ []) c.tree.ensures c.in_default.ensures.refused,
      refl,
      c.bare.ensures,
    )
