-- the last entry is popped, and pushed again with a greater number or with the point after it
use Rattle.std.proofs.Common.{inl, arith}
use Rattle.std.proofs.lemmas.Grind.{common_steps}
use Rattle.leaf_trees.specs.Entries.{IsMultiplicity}
use Rattle.leaf_trees.proofs.Multiplicities.{same_point}
use Rattle.leaf_trees.proofs.Counting.{last_held, last_among, recounted, followed, multiplicity_recounted, other_point}
use Rattle.leaf_trees.proofs.Counting.{points_recounted}
use Rattle.leaf_trees.proofs.entries.count_in.Goals as goal

pub returns-then-ne-clause-entries : goal.returns-then-ne-clause-entries
returns-then-ne-clause-entries c =
    let h = rw c.in-Some.ensures.items at c.requires.entries in
    let n = rw c.in-Some.ensures.items at c.requires.last in
    rw (c.push_reserved-then-ne-2.ensures.items, c.push_reserved-then-ne.ensures.items)
    (followed _ _ _ h (n _ (last_among _ _)) (other_point _ _ c.ne.ensures c.if-ne.true) c.requires.multiplicities)

pub returns-clause-among : goal.returns-clause-among
returns-clause-among c = λ t m.
    inl (rw c.in-Some.ensures.items
    (points_recounted _ _ _ _ t (same_point _ _ c.ne.ensures c.if-ne.false) (rw c.push_reserved-2.ensures.items at m)))

pub returns-clause-multiplicities : goal.returns-clause-multiplicities
returns-clause-multiplicities c = λ _ q. rw (c.push_reserved-2.ensures.items, c.in-Some.ensures.items)
    (multiplicity_recounted c.pop.new.self.items c.in-Some.last c.args.entry.0 q c.args.entry.1 (same_point _ _ c.ne.ensures c.if-ne.false))

pub returns-clause-entries : goal.returns-clause-entries
returns-clause-entries c =
    let h = rw c.in-Some.ensures.items at c.requires.entries in
    let m : IsMultiplicity c.in-Some.last.1 = last_held _ _ h in
    rw c.push_reserved-2.ensures.items
    (recounted _ _ _ _ h (same_point _ _ c.ne.ensures c.if-ne.false)
    (omega (arith, m.0), omega (arith, c.requires.multiplicities.1, c.if-last-entry.false)))

-- grind closes these at once; the tactics that are tried first take long
pub returns-then-ne-clause-multiplicities : goal.returns-then-ne-clause-multiplicities
returns-then-ne-clause-multiplicities c = grind (arith, common_steps)

pub returns-then-last-entry-clause-entries : goal.returns-then-last-entry-clause-entries
returns-then-last-entry-clause-entries c = grind (arith, common_steps)

pub returns-then-ne-clause-among : goal.returns-then-ne-clause-among
returns-then-ne-clause-among c = grind (arith, common_steps)

pub returns-then-last-entry-clause-too_often : goal.returns-then-last-entry-clause-too_often
returns-then-last-entry-clause-too_often c = grind (arith, common_steps)
