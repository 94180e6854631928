-- what the way down found and left makes one record, from which each answer follows
use Rattle.std.proofs.Common.{arith, ◌≡◌, ◌≤◌, ◌-◌, ap, subst, sym, ◌∙◌, Some}
use Rattle.std.proofs.lemmas.Grind.{common_steps}
use Rattle.std.specs.Prelude.{length}
use Rattle.hull_set.specs.Replies.{AnswersRemove}
use Rattle.hull_set.specs.declared.reply.Reply.TheVariants.{Removed, Left, Absent}
use Rattle.hull_set.specs.declared.rules.Rules.TheVariants.{Counted}
use Rattle.leaf_trees.specs.Heights.{greatest_height}
use Rattle.hull_tree.specs.Changes.{points_below, height_at}
use Rattle.hull_tree.specs.Roots.{held_by}
use Rattle.hull_tree.specs.Sets.{LimitedTree}
use Rattle.hull_tree.proofs.LimitedTrees.{sound, limited_without}
use Rattle.hull_tree.proofs.CountedTrees.{counted, limited_after, sound_after, live_after, some_points, answers_left}
use Rattle.hull_tree.proofs.CountedTrees.{answers_removed, dead, held_none}
use Rattle.hull_tree.proofs.SplitPoints.{fork_of}
use Rattle.bridge_search.proofs.Leaves.{on_of_contains}
use Rattle.lattice.proofs.Tests.{failed}
use Rattle.hull_tree.proofs.tree.HullTree.remove_counted.Goals as goal

pub returns-then-multiplicity-eq0-clause-reply : goal.returns-then-multiplicity-eq0-clause-reply
returns-then-multiplicity-eq0-clause-reply c =
    let w = c.lower-multiplicity.ensures in let k = counted c.self.invariant c.in-Some.is w.was w.built w.same_tree in
    subst (λ (z : LimitedTree). AnswersRemove Counted (held_by z.root) c.args.p Absent) c.self.view_is
    (dead k c.if-multiplicity-eq0.true)

pub returns-then-multiplicity-eq0-clause-sound : goal.returns-then-multiplicity-eq0-clause-sound
returns-then-multiplicity-eq0-clause-sound c =
    let w = c.lower-multiplicity.ensures in sound_after (counted c.self.invariant c.in-Some.is w.was w.built w.same_tree)

pub returns-then-multiplicity-gt1-clause-reply : goal.returns-then-multiplicity-gt1-clause-reply
returns-then-multiplicity-gt1-clause-reply c =
    let w = c.lower-multiplicity.ensures in let k = counted c.self.invariant c.in-Some.is w.was w.built w.same_tree in
    subst (λ (z : LimitedTree). AnswersRemove Counted (held_by z.root) c.args.p
    (Left (c.lower-multiplicity.result - 1))) c.self.view_is
    (answers_left k c.if-multiplicity-gt1.true)

pub returns-then-multiplicity-gt1-clause-sound : goal.returns-then-multiplicity-gt1-clause-sound
returns-then-multiplicity-gt1-clause-sound c =
    let w = c.lower-multiplicity.ensures in sound_after (counted c.self.invariant c.in-Some.is w.was w.built w.same_tree)

pub overflow_sub-self : goal.overflow_sub-self
overflow_sub-self c =
    let w = c.lower-multiplicity.ensures in let k = counted c.self.invariant c.in-Some.is w.was w.built w.same_tree in
    let m = live_after k (omega (arith, c.if-multiplicity-eq0.false)) in
    let l : 1 ≤ length (points_below c.lower-multiplicity.new.node) = some_points _ _ m in
    omega (arith, l, (limited_after k).counted)

pub remove-requires-clause-fork : goal.remove-requires-clause-fork
remove-requires-clause-fork c =
    let w = c.lower-multiplicity.ensures in let k = counted c.self.invariant c.in-Some.is w.was w.built w.same_tree in
    let m = live_after k (omega (arith, c.if-multiplicity-eq0.false)) in
    fork_of _ _ (on_of_contains _ _ m) (failed _ _ c.if-is_leaf.false c.is_leaf.ensures)

pub remove-requires-clause-low : goal.remove-requires-clause-low
remove-requires-clause-low c =
    let w = c.lower-multiplicity.ensures in let k = counted c.self.invariant c.in-Some.is w.was w.built w.same_tree in
    let h : height_at c.lower-multiplicity.new.node ≤ greatest_height = (sound_after k).low in
    omega (arith, h)

pub invariant_of-self-2 : goal.invariant_of-self-2
invariant_of-self-2 c =
    let w = c.lower-multiplicity.ensures in let k = counted c.self.invariant c.in-Some.is w.was w.built w.same_tree in
    let m = live_after k (omega (arith, c.if-multiplicity-eq0.false)) in
    limited_without _ _ _ _ _ (limited_after k) c.remove.ensures.built c.remove.ensures.points m

pub returns-clause-reply : goal.returns-clause-reply
returns-clause-reply c =
    let w = c.lower-multiplicity.ensures in let k = counted c.self.invariant c.in-Some.is w.was w.built w.same_tree in
    let o : c.lower-multiplicity.result ≡ 1 = omega (arith, c.if-multiplicity-eq0.false, c.if-multiplicity-gt1.false) in
    subst (λ (z : LimitedTree). AnswersRemove Counted (held_by z.root) c.args.p Removed) c.self.view_is
    (answers_removed k o)

pub returns-clause-effect : goal.returns-clause-effect
returns-clause-effect c =
    let e = c.lower-multiplicity.ensures.few c.if-multiplicity-gt1.false in
    held_none _ (Some c.remove.new.node) _ _
    (sym (ap (λ (z : LimitedTree). z.root) c.self.view_is) ∙ c.in-Some.is
    ∙ ap Some (sym e)) c.remove.ensures.points c.remove.ensures.multiplicities

pub returns-clause-sound : goal.returns-clause-sound
returns-clause-sound c =
    let w = c.lower-multiplicity.ensures in let k = counted c.self.invariant c.in-Some.is w.was w.built w.same_tree in
    let m = live_after k (omega (arith, c.if-multiplicity-eq0.false)) in
    sound _ _ _ (limited_without _ _ _ _ _ (limited_after k) c.remove.ensures.built c.remove.ensures.points m)

pub returns-clause-few : goal.returns-clause-few
returns-clause-few c =
    let w = c.lower-multiplicity.ensures in let k = counted c.self.invariant c.in-Some.is w.was w.built w.same_tree in
    let h : height_at c.lower-multiplicity.new.node ≤ greatest_height = (sound_after k).low in
    omega (arith, h, c.remove.ensures.few)

-- grind closes these at once; the tactics that are tried first take long
pub returns-then-is_leaf-clause-effect : goal.returns-then-is_leaf-clause-effect
returns-then-is_leaf-clause-effect c = grind (arith, common_steps)
