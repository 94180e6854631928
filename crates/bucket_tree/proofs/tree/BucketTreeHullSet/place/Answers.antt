-- the points below the root are those of the set
use Rattle.std.proofs.Common.{◌≡◌, ◌∙◌, ap, sym, Some}
use Rattle.bucket_tree.specs.Sets.{LimitedTree}
use Rattle.bucket_tree.proofs.tree.BucketTreeHullSet.place.Goals as goal

pub returns-in-Some : goal.returns-in-Some
returns-in-Some c =
    let r : c.args.self.now.root ≡ Some c.in-Some.root =
    sym (ap (λ (z : LimitedTree). z.root) c.self.view_is) ∙ c.in-Some.is in
    rw r c.place.ensures
