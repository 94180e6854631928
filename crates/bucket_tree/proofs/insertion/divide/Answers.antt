-- the point is before or after all others, or goes to one of the bucket's parts
use Rattle.std.proofs.Common.{◌≡◌, ◌-◌, ◌++◌, ◌∙◌, List, length, ap, subst, get_or}
use Rattle.lattice.specs.Plane.{Pair}
use Rattle.hull_buckets.specs.Buckets.{BucketValue}
use Rattle.bucket_tree.specs.Counts.{counted}
use Rattle.bucket_tree.proofs.Gained.{comes_first, comes_last, held_first, held_last, passed}
use Rattle.bucket_tree.proofs.insertion.divide.Goals as goal

pub returns-then-before-clause-points : goal.returns-then-before-clause-points
returns-then-before-clause-points c =
    comes_last c.args.first.now.points c.args.second.now.points c.args.p c.index-points-points.result
    c.buckets_are_sound.ensures.ordered c.buckets_are_sound.ensures.some c.requires.alone
    (subst (λ (z : List Pair). c.index-points-points.result ≡ get_or z (length z - 1) c.index-points-points.result)
    c.points-points.ensures.points c.index-points-points.is)
    (passed c.before-2.result c.before-2.ensures.0 c.if-before.true)

pub returns-then-before-clause-multiplicities : goal.returns-then-before-clause-multiplicities
returns-then-before-clause-multiplicities c q =
    held_last c.args.first.now.points c.args.second.now.points c.args.first.now.multiplicities
    c.args.second.now.multiplicities c.args.p q c.buckets_are_sound.ensures.counted c.requires.alone c.requires.once

pub returns-then-before-2-clause-points : goal.returns-then-before-2-clause-points
returns-then-before-2-clause-points c =
    ap (λ (b : BucketValue). b.points ++ c.swap.new.y.points) c.swap.ensures.x_after
    ∙ ap (λ (b : BucketValue). c.args.second.now.points ++ b.points) c.swap.ensures.y_after
    ∙ comes_first c.args.first.now.points c.args.second.now.points c.args.p c.index-points-0.result
    c.buckets_are_sound.ensures.ordered c.buckets_are_sound.ensures.some c.requires.alone
    (subst (λ (z : List Pair). c.index-points-0.result ≡ get_or z 0 c.index-points-0.result)
    c.points-points.ensures.points c.index-points-0.is)
    (passed c.before-3.result c.before-3.ensures.0 c.if-before-2.true)

pub returns-then-before-2-clause-multiplicities : goal.returns-then-before-2-clause-multiplicities
returns-then-before-2-clause-multiplicities c q =
    ap (λ (b : BucketValue). counted (b.points ++ c.swap.new.y.points) (b.multiplicities ++ c.swap.new.y.multiplicities) q)
    c.swap.ensures.x_after
    ∙ ap (λ (b : BucketValue). counted (c.args.second.now.points ++ b.points)
    (c.args.second.now.multiplicities ++ b.multiplicities) q) c.swap.ensures.y_after
    ∙ held_first c.args.first.now.points c.args.second.now.points c.args.first.now.multiplicities
    c.args.second.now.multiplicities c.args.p q c.requires.alone c.requires.once
