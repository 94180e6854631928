-- a point that is refused is one too many, and each reply keeps the points those with a multiplicity
use Rattle.std.proofs.Common.{subst, sym}
use Rattle.hull_set.specs.declared.set.AddReply.TheVariants as add
use Rattle.leaf_trees.specs.Entries.{IsTrueHeld}
use Rattle.leaf_trees.proofs.AddedSets.{one_too_many, kept_by_add}
use Rattle.leaf_trees.proofs.adding.add_one.Goals as goal

pub returns-in-TooMany-clause-too_many : goal.returns-in-TooMany-clause-too_many
returns-in-TooMany-clause-too_many g c = λ _.
    one_too_many (g.S.HullSet.held c.args.set.now) (g.S.HullSet.bound c.args.set.now) c.args.p
    (rw c.in-TooMany.is at c.add.ensures.reply)

pub returns-in-Added-clause-kept : goal.returns-in-Added-clause-kept
returns-in-Added-clause-kept g c =
    subst IsTrueHeld (sym c.in-Added.ensures.effect)
    (kept_by_add (g.S.HullSet.held c.args.set.now) (g.S.HullSet.bound c.args.set.now) c.args.p add.Added c.requires
    c.in-Added.ensures.reply)

pub returns-in-Again-clause-kept : goal.returns-in-Again-clause-kept
returns-in-Again-clause-kept g c =
    subst IsTrueHeld (sym c.in-Again.ensures.effect)
    (kept_by_add (g.S.HullSet.held c.args.set.now) (g.S.HullSet.bound c.args.set.now) c.args.p
    (add.Again c.in-Again.field-0) c.requires c.in-Again.ensures.reply)
