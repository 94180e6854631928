-- the added points are removed again, so the multiplicity of each is the old one; and if all were added, the set is the one after adding them
use Rattle.std.proofs.Common.{◌+◌, ◌∙◌, ap, arith, [], take}
use Rattle.std.proofs.lemmas.List.{take_all}
use Rattle.hull_set.specs.Held.{Held, multiplicity_among}
use Rattle.leaf_trees.proofs.AddedSets.{same_as_added, all_too_many}
use Rattle.leaf_trees.proofs.adding.add_each.Goals as goal

pub returns-in-Err-clause-fault : goal.returns-in-Err-clause-fault
returns-in-Err-clause-fault g c =
    same_as_added (g.S.HullSet.held c.args.set.now) (g.S.HullSet.held c.remove_each.new.set) []
    c.requires.kept c.remove_each.ensures.kept
    (λ q. omega (
      arith,
      c.remove_each.ensures.multiplicities q,
      ap (λ z. multiplicity_among z q) c.split_at.ensures.front,
      ap (λ (z : Held). z.multiplicities q) c.in-Err.ensures.fault,
      c.loop-i.invariant.multiplicities q,
    ))

pub returns-in-Err-clause-too_many : goal.returns-in-Err-clause-too_many
returns-in-Err-clause-too_many g c = λ e.
    all_too_many (g.S.HullSet.held c.args.set.now) (g.S.HullSet.held c.loop-i.set) c.args.points.now c.loop-i.i c.index-points-i.result
    (g.S.HullSet.bound c.args.set.now)
    (same_as_added (g.S.HullSet.held c.args.set.now) (g.S.HullSet.held c.loop-i.set) (take c.loop-i.i c.args.points.now)
    c.requires.kept c.loop-i.invariant.kept c.loop-i.invariant.multiplicities) c.index-points-i.is
    (omega (arith, c.loop-i-test.true))
    (rw c.loop-i.invariant.limit at (c.in-Err.ensures.too_many e))

pub returns-clause-held : goal.returns-clause-held
returns-clause-held g c =
    same_as_added (g.S.HullSet.held c.args.set.now) (g.S.HullSet.held c.loop-i.set) c.args.points.now
    c.requires.kept c.loop-i.invariant.kept
    (λ q. c.loop-i.invariant.multiplicities q
    ∙ ap (λ z. (g.S.HullSet.held c.args.set.now).multiplicities q + multiplicity_among z q)
    (take_all c.loop-i.i c.args.points.now c.loop-i-test.false))
