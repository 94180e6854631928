-- the multiplicity of the point and the number of points determine each reply
use Rattle.std.proofs.Common.{◌≤◌, refl, sym, arith, length}
use Rattle.bucket_tree.specs.Roots.{held_by, points_of_root}
use Rattle.leaf_trees.proofs.Returned.{answers_new, answers_refused}
use Rattle.bucket_tree.proofs.Gained.{failed}
use Rattle.bucket_tree.proofs.Rooted.{root_held}
use Rattle.bucket_tree.proofs.tree.BucketTree.hold_more.Goals as goal

pub returns-in-Ok-clause-reply : goal.returns-in-Ok-clause-reply
returns-in-Ok-clause-reply c =
    let n : ¬ (c.args.self.now.limit ≤ length (points_of_root c.args.self.now.root)) =
    failed c.is_full.result c.is_full.ensures.full.1 c.if-is_full.false in
    answers_new (held_by c.args.self.now.root) c.args.self.now.limit c.args.p 0
    (root_held c.args.self.now.root c.bucket_trees_are_sound.ensures.built) (sym c.in-Ok.ensures.absent) refl
    (omega (arith, n))

pub returns-in-Err-put_in-clause-reply : goal.returns-in-Err-put_in-clause-reply
returns-in-Err-put_in-clause-reply c =
    let n : ¬ (c.args.self.now.limit ≤ length (points_of_root c.args.self.now.root)) =
    failed c.is_full.result c.is_full.ensures.full.1 c.if-is_full.false in
    answers_refused (held_by c.args.self.now.root) c.args.self.now.limit c.args.p c.in-Err.multiplicity
    (root_held c.args.self.now.root c.bucket_trees_are_sound.ensures.built) c.in-Err.ensures.returned
    (omega (arith, c.if-multiplicity-gt0.false)) (omega (arith, n))

pub returns-in-Ok-put_in-clause-reply : goal.returns-in-Ok-put_in-clause-reply
returns-in-Ok-put_in-clause-reply c =
    let n : ¬ (c.args.self.now.limit ≤ length (points_of_root c.args.self.now.root)) =
    failed c.is_full.result c.is_full.ensures.full.1 c.if-is_full.false in
    answers_new (held_by c.args.self.now.root) c.args.self.now.limit c.args.p c.in-Err.multiplicity
    (root_held c.args.self.now.root c.bucket_trees_are_sound.ensures.built) c.in-Err.ensures.returned
    (omega (arith, c.if-multiplicity-gt0.false)) (omega (arith, n))
