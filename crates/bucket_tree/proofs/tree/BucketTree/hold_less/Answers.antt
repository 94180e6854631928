-- the multiplicity of the point determines each reply
use Rattle.std.proofs.Common.{refl, sym, arith}
use Rattle.bucket_tree.specs.Roots.{held_by}
use Rattle.leaf_trees.proofs.Returned.{answers_absent, answers_left, answers_removed}
use Rattle.bucket_tree.proofs.Rooted.{root_held}
use Rattle.bucket_tree.proofs.tree.BucketTree.hold_less.Goals as goal

pub returns-in-Ok-clause-reply : goal.returns-in-Ok-clause-reply
returns-in-Ok-clause-reply c =
    answers_removed (held_by c.args.self.now.root) c.args.self.now.limit c.args.p 1
    (root_held c.args.self.now.root c.bucket_trees_are_sound.ensures.built) (sym c.in-Ok.ensures.once) refl

pub returns-then-multiplicity-eq0-clause-reply : goal.returns-then-multiplicity-eq0-clause-reply
returns-then-multiplicity-eq0-clause-reply c =
    answers_absent (held_by c.args.self.now.root) c.args.self.now.limit c.args.p c.in-Err.multiplicity
    (root_held c.args.self.now.root c.bucket_trees_are_sound.ensures.built) c.in-Err.ensures.returned
    c.if-multiplicity-eq0.true

pub returns-then-multiplicity-gt1-clause-reply : goal.returns-then-multiplicity-gt1-clause-reply
returns-then-multiplicity-gt1-clause-reply c =
    answers_left (held_by c.args.self.now.root) c.args.self.now.limit c.args.p c.in-Err.multiplicity
    (root_held c.args.self.now.root c.bucket_trees_are_sound.ensures.built) c.in-Err.ensures.returned
    c.if-multiplicity-gt1.true

pub returns-clause-reply : goal.returns-clause-reply
returns-clause-reply c =
    answers_removed (held_by c.args.self.now.root) c.args.self.now.limit c.args.p c.in-Err.multiplicity
    (root_held c.args.self.now.root c.bucket_trees_are_sound.ensures.built) c.in-Err.ensures.returned
    (omega (arith, c.if-multiplicity-eq0.false, c.if-multiplicity-gt1.false))
