-- the leaf at the end of the way down has the number, and a point has one exactly if it is in the set
use Rattle.std.proofs.Common.{◌≡◌, ap, sym, ◌∙◌, Some, arith}
use Rattle.hull_tree.specs.Sets.{LimitedTree}
use Rattle.hull_tree.proofs.LimitedTrees.{built_root}
use Rattle.hull_tree.proofs.Multiplicities.{live_iff, multiplicity_few}
use Rattle.hull_tree.proofs.tree.HullTreeHullSet.multiplicity.Goals as goal

pub returns-in-Some-clause-few : goal.returns-in-Some-clause-few
returns-in-Some-clause-few c =
    let b = built_root _ _ _ _ c.self.invariant c.in-Some.is in
    omega (arith, c.find_multiplicity.ensures, multiplicity_few c.in-Some.root c.args.p b.bridged b.labelled)

pub returns-in-Some-clause-live : goal.returns-in-Some-clause-live
returns-in-Some-clause-live c =
    let r : c.args.self.now.root ≡ Some c.in-Some.root =
    sym (ap (λ (z : LimitedTree). z.root) c.self.view_is) ∙ c.in-Some.is in
    rw (r, c.find_multiplicity.ensures) (live_iff _ _ (built_root _ _ _ _ c.self.invariant c.in-Some.is))
