-- entries are what a tree may be built of
use Rattle.std.proofs.Common.{◌∙◌, sym, subst}
use Rattle.leaf_trees.specs.Entries.{points_listed}
use Rattle.bucket_tree.specs.Loads.{AreParts}
use Rattle.bucket_tree.proofs.Rooted.{parts_of}
use Rattle.bucket_tree.proofs.load.from_entries.Goals as goal

pub from_parts-requires : goal.from_parts-requires
from_parts-requires c =
    subst (λ z. AreParts z c.deref-2.result.now) (sym (c.deref.ensures.value ∙ c.in_ok-points.ensures.points))
    (subst (λ z. AreParts (points_listed c.args.entries.now) z)
    (sym (c.deref-2.ensures.value ∙ c.in_ok-points.ensures.multiplicities))
    (parts_of c.args.entries.now c.requires.entries c.requires.some c.requires.few))
