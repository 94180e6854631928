-- the multiplicity of the point and the number of points determine each reply
use Rattle.std.proofs.Common.{arith}
use Rattle.bucket_tree.specs.Roots.{held_by}
use Rattle.leaf_trees.proofs.Returned.{answers_full, answers_again, answers_many}
use Rattle.bucket_tree.proofs.Rooted.{root_held}
use Rattle.bucket_tree.proofs.tree.BucketTree.count_up.Goals as goal
use Rattle.bucket_tree.proofs.tree.BucketTree.count_up.Goals.{then-multiplicity-eq0-via-then-multiplicity-eq0}
use Rattle.bucket_tree.proofs.tree.BucketTree.count_up.Goals.{then-multiplicity-eq0-via-else-multiplicity-eq0+then-multiplicity-eq-MULTIPLICITY_LIMIT}

pub returns-then-multiplicity-eq0-clause-reply : goal.returns-then-multiplicity-eq0-clause-reply
returns-then-multiplicity-eq0-clause-reply c = elim c.then-multiplicity-eq0.branch [
  | then-multiplicity-eq0-via-then-multiplicity-eq0 w ↦
      answers_many (held_by c.args.self.now.root) c.args.self.now.limit c.args.p c.args.multiplicity
      (root_held c.args.self.now.root c.bucket_trees_are_sound.ensures.built) c.requires.returned w.if-multiplicity-eq0.true
      (omega (arith, c.requires.space w.if-multiplicity-eq0.true)) (omega (arith, c.requires.space w.if-multiplicity-eq0.true))
  | then-multiplicity-eq0-via-else-multiplicity-eq0+then-multiplicity-eq-MULTIPLICITY_LIMIT w ↦
      answers_full (held_by c.args.self.now.root) c.args.self.now.limit c.args.p c.args.multiplicity
      (root_held c.args.self.now.root c.bucket_trees_are_sound.ensures.built) c.requires.returned
      w.if-multiplicity-eq-MULTIPLICITY_LIMIT.true
]

pub returns-clause-reply : goal.returns-clause-reply
returns-clause-reply c =
    answers_again (held_by c.args.self.now.root) c.args.self.now.limit c.args.p c.args.multiplicity
    (root_held c.args.self.now.root c.bucket_trees_are_sound.ensures.built) c.requires.returned
    (omega (arith, c.if-multiplicity-eq0.false)) (omega (arith, c.if-multiplicity-eq-MULTIPLICITY_LIMIT.false, c.requires.few))
