-- what the way down found and left makes one record, from which each answer follows
use Rattle.std.proofs.Common.{arith, ◌≡◌, ◌≤◌, ◌+◌, ap, subst, sym, ◌∙◌, Some}
use Rattle.hull_set.specs.Replies.{AnswersAdd}
use Rattle.hull_set.specs.declared.reply.Reply.TheVariants.{Added, Again, TooMany}
use Rattle.hull_set.specs.declared.rules.Rules.TheVariants.{Counted}
use Rattle.leaf_trees.specs.Heights.{greatest_height}
use Rattle.hull_tree.specs.Changes.{height_at}
use Rattle.hull_tree.specs.Roots.{held_by}
use Rattle.hull_tree.specs.Sets.{LimitedTree}
use Rattle.hull_tree.proofs.LimitedTrees.{sound, limited_with}
use Rattle.hull_tree.proofs.CountedTrees.{counted, limited_after, sound_after, few_multiplicity, answers_full, answers_again}
use Rattle.hull_tree.proofs.CountedTrees.{answers_many, answers_new, dead_after, held_again, held_new}
use Rattle.hull_tree.proofs.tree.HullTree.add_counted.Goals as goal

pub returns-then-multiplicity-eq-MULTIPLICITY_LIMIT-clause-reply : goal.returns-then-multiplicity-eq-MULTIPLICITY_LIMIT-clause-reply
returns-then-multiplicity-eq-MULTIPLICITY_LIMIT-clause-reply c =
    let w = c.raise-multiplicity.ensures in let k = counted c.self.invariant c.in-Some.is w.was w.built w.same_tree in
    subst (λ (z : LimitedTree). AnswersAdd Counted (held_by z.root) z.limit c.args.p TooMany) c.self.view_is
    (answers_full k c.if-multiplicity-eq-MULTIPLICITY_LIMIT.true)

pub returns-then-multiplicity-eq-MULTIPLICITY_LIMIT-clause-sound : goal.returns-then-multiplicity-eq-MULTIPLICITY_LIMIT-clause-sound
returns-then-multiplicity-eq-MULTIPLICITY_LIMIT-clause-sound c =
    let w = c.raise-multiplicity.ensures in sound_after (counted c.self.invariant c.in-Some.is w.was w.built w.same_tree)

pub overflow_add-result : goal.overflow_add-result
overflow_add-result c =
    let w = c.raise-multiplicity.ensures in let k = counted c.self.invariant c.in-Some.is w.was w.built w.same_tree in
    omega (arith, few_multiplicity k)

pub returns-then-multiplicity-gt0-clause-reply : goal.returns-then-multiplicity-gt0-clause-reply
returns-then-multiplicity-gt0-clause-reply c =
    let w = c.raise-multiplicity.ensures in let k = counted c.self.invariant c.in-Some.is w.was w.built w.same_tree in
    subst (λ (z : LimitedTree). AnswersAdd Counted (held_by z.root) z.limit c.args.p
    (Again (c.raise-multiplicity.result + 1))) c.self.view_is
    (answers_again k c.if-multiplicity-gt0.true c.if-multiplicity-eq-MULTIPLICITY_LIMIT.false)

pub returns-then-multiplicity-gt0-clause-effect : goal.returns-then-multiplicity-gt0-clause-effect
returns-then-multiplicity-gt0-clause-effect c =
    let w = c.raise-multiplicity.ensures in let k = counted c.self.invariant c.in-Some.is w.was w.built w.same_tree in
    let l : c.raise-multiplicity.result ≤ 65534 = omega (arith, c.if-multiplicity-eq-MULTIPLICITY_LIMIT.false, few_multiplicity k) in
    held_again _ _ _ _ (sym (ap (λ (z : LimitedTree). z.root) c.self.view_is)
    ∙ c.in-Some.is) c.raise-multiplicity.ensures.same_tree
    (c.raise-multiplicity.ensures.raised c.if-multiplicity-gt0.true (omega (arith, l)))

pub returns-then-multiplicity-gt0-clause-sound : goal.returns-then-multiplicity-gt0-clause-sound
returns-then-multiplicity-gt0-clause-sound c =
    let w = c.raise-multiplicity.ensures in sound_after (counted c.self.invariant c.in-Some.is w.was w.built w.same_tree)

pub returns-then-self-clause-reply : goal.returns-then-self-clause-reply
returns-then-self-clause-reply c =
    let w = c.raise-multiplicity.ensures in let k = counted c.self.invariant c.in-Some.is w.was w.built w.same_tree in
    let z : c.raise-multiplicity.result ≡ 0 = omega (arith, c.if-multiplicity-gt0.false) in
    subst (λ (z : LimitedTree). AnswersAdd Counted (held_by z.root) z.limit c.args.p TooMany) c.self.view_is
    (answers_many k z c.if-self.true)

pub returns-then-self-clause-sound : goal.returns-then-self-clause-sound
returns-then-self-clause-sound c =
    let w = c.raise-multiplicity.ensures in sound_after (counted c.self.invariant c.in-Some.is w.was w.built w.same_tree)

pub returns-in_default-new-clause-reply : goal.returns-in_default-new-clause-reply
returns-in_default-new-clause-reply c =
    let w = c.raise-multiplicity.ensures in let k = counted c.self.invariant c.in-Some.is w.was w.built w.same_tree in
    let z : c.raise-multiplicity.result ≡ 0 = omega (arith, c.if-multiplicity-gt0.false) in
    subst (λ (z : LimitedTree). AnswersAdd Counted (held_by z.root) z.limit c.args.p Added) c.self.view_is
    (answers_new k z c.if-self.false)

pub returns-in_default-new-clause-sound : goal.returns-in_default-new-clause-sound
returns-in_default-new-clause-sound c =
    let w = c.raise-multiplicity.ensures in sound_after (counted c.self.invariant c.in-Some.is w.was w.built w.same_tree)

pub insert-turns-requires-clause-absent : goal.insert-turns-requires-clause-absent
insert-turns-requires-clause-absent c =
    let w = c.raise-multiplicity.ensures in let k = counted c.self.invariant c.in-Some.is w.was w.built w.same_tree in
    let z : c.raise-multiplicity.result ≡ 0 = omega (arith, c.if-multiplicity-gt0.false) in
    dead_after k z

pub insert-turns-requires-clause-low : goal.insert-turns-requires-clause-low
insert-turns-requires-clause-low c =
    let w = c.raise-multiplicity.ensures in let k = counted c.self.invariant c.in-Some.is w.was w.built w.same_tree in
    let h : height_at c.raise-multiplicity.new.node ≤ greatest_height = (sound_after k).low in
    omega (arith, h)

pub invariant_of-self-2 : goal.invariant_of-self-2
invariant_of-self-2 c =
    let w = c.raise-multiplicity.ensures in let k = counted c.self.invariant c.in-Some.is w.was w.built w.same_tree in
    let z : c.raise-multiplicity.result ≡ 0 = omega (arith, c.if-multiplicity-gt0.false) in
    limited_with _ _ _ _ _ (limited_after k) c.insert-turns.ensures.built c.insert-turns.ensures.points
    (dead_after k z) c.if-self.false

pub returns-clause-reply : goal.returns-clause-reply
returns-clause-reply c =
    let w = c.raise-multiplicity.ensures in let k = counted c.self.invariant c.in-Some.is w.was w.built w.same_tree in
    let z : c.raise-multiplicity.result ≡ 0 = omega (arith, c.if-multiplicity-gt0.false) in
    subst (λ (z : LimitedTree). AnswersAdd Counted (held_by z.root) z.limit c.args.p Added) c.self.view_is
    (answers_new k z c.if-self.false)

pub returns-clause-effect : goal.returns-clause-effect
returns-clause-effect c =
    let z : c.raise-multiplicity.result ≡ 0 = omega (arith, c.if-multiplicity-gt0.false) in
    let e = c.raise-multiplicity.ensures.absent z in
    held_new _ _ _ _ (sym (ap (λ (z : LimitedTree). z.root) c.self.view_is) ∙ c.in-Some.is
    ∙ ap Some (sym e)) c.insert-turns.ensures.points c.insert-turns.ensures.multiplicities

pub returns-clause-sound : goal.returns-clause-sound
returns-clause-sound c =
    let w = c.raise-multiplicity.ensures in let k = counted c.self.invariant c.in-Some.is w.was w.built w.same_tree in
    let z : c.raise-multiplicity.result ≡ 0 = omega (arith, c.if-multiplicity-gt0.false) in
    sound _ _ _ (limited_with _ _ _ _ _ (limited_after k) c.insert-turns.ensures.built c.insert-turns.ensures.points
    (dead_after k z) c.if-self.false)

pub returns-clause-few : goal.returns-clause-few
returns-clause-few c =
    let w = c.raise-multiplicity.ensures in let k = counted c.self.invariant c.in-Some.is w.was w.built w.same_tree in
    let h : height_at c.raise-multiplicity.new.node ≤ greatest_height = (sound_after k).low in
    omega (arith, h, c.insert-turns.ensures.few)
