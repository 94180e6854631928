-- memory was refused, so the set has a point
use Rattle.std.proofs.Common.{◌≢◌, [], refl, inr, subst}
use Rattle.bucket_tree.specs.Roots.{points_of_root}
use Rattle.bucket_tree.specs.Sets.{LimitedTree}
use Rattle.bucket_tree.proofs.Rooted.{some_held}
use Rattle.hull_c.proofs.bridges.bridges.Goals as goal

pub returns-in_default : goal.returns-in_default
returns-in_default c = (
  refl,
  inr (
    subst (λ (t : LimitedTree). points_of_root t.root ≢ []) c.tree-tree.ensures
        (some_held c.tree-tree.result.now.root c.bucket_trees_are_sound.ensures.built c.in_default.ensures.refused),
    refl,
    c.bare.ensures,
  ),
)
