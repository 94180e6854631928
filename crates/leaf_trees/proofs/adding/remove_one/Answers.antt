-- removing a point of the set lowers its multiplicity by one
use Rattle.std.proofs.Common.{subst, sym}
use Rattle.leaf_trees.specs.Entries.{IsTrueHeld}
use Rattle.leaf_trees.proofs.AddedSets.{removed_multiplicity, kept_by_remove}
use Rattle.leaf_trees.proofs.adding.remove_one.Goals as goal

pub returns-clause-multiplicities : goal.returns-clause-multiplicities
returns-clause-multiplicities g c = λ q.
    removed_multiplicity (g.S.HullSet.held c.args.set.now) (g.S.HullSet.held c.remove.new.self) (g.S.HullSet.bound c.args.set.now) c.args.p q c.remove.result
    c.requires.kept c.requires.held c.remove.ensures.reply c.remove.ensures.effect

pub returns-clause-kept : goal.returns-clause-kept
returns-clause-kept g c =
    subst IsTrueHeld (sym c.remove.ensures.effect)
    (kept_by_remove (g.S.HullSet.held c.args.set.now) (g.S.HullSet.bound c.args.set.now) c.args.p c.remove.result
    c.requires.kept c.remove.ensures.reply)
