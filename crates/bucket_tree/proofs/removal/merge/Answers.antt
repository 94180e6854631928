-- all points of the one bucket are before those of the other, and the fork's edges are compared before they are merged
use Rattle.std.proofs.Common.{◌≡◌, ◌⊎◌, ◌∙◌, ap, false, refl, subst, sym}
use Rattle.std.specs.List.{Contains}
use Rattle.hull_geometry.specs.Monotone.{IsInwards}
use Rattle.hull_geometry.proofs.PointSets.{set_apart}
use Rattle.hull_buckets.specs.Buckets.{BucketValue, IsBucket}
use Rattle.lattice.specs.declared.side.Side.TheVariants.{Lower, Upper}
use Rattle.bucket_tree.specs.Nodes.{points_below}
use Rattle.bucket_tree.specs.declared.node.Fork.{Fork}
use Rattle.bucket_tree.proofs.BuiltLeaves.{leaf_built}
use Rattle.bucket_tree.proofs.Kept.{closes_by, covered_at}
use Rattle.bucket_tree.proofs.removal.merge.Goals as goal

pub merge-requires-clause-order : goal.merge-requires-clause-order
merge-requires-clause-order c = λ p q i j.
    set_apart (points_below c.args.place.value.left) (points_below c.args.place.value.right) p q c.requires.row.in_order
    (subst (λ z. Contains z p) (ap (λ (z : BucketValue). z.points) c.deref_mut-3.ensures.value
    ∙ sym (ap points_below c.bucket_of-first.ensures) ∙ ap points_below c.replace.ensures.value
    ∙ ap (λ (z : Fork). points_below z.left) c.deref_mut.ensures.value) i)
    (subst (λ z. Contains z q) (ap (λ (z : BucketValue). z.points) c.deref-3.ensures
    ∙ sym (ap points_below c.bucket_of-second.ensures) ∙ ap points_below c.replace-2.ensures.value
    ∙ ap (λ (z : Fork). points_below z.right) (c.deref_mut-2.ensures.value) ∙ ap (λ (z : Fork). points_below z.right) c.deref_mut.ensures.value) j)

pub returns-clause-built : goal.returns-clause-built
returns-clause-built c =
    leaf_built _ c.merge.new.self refl (subst IsBucket c.deref-4.ensures c.buckets_are_sound.ensures)

pub returns-clause-closes : goal.returns-clause-closes
returns-clause-closes c =
    closes_by c.args.p c.args.sides record { lower = c.stays_affected.result; upper = c.stays_affected-2.result } _
    (λ e. covered_at Lower c.args.p c.args.sides c.args.place.value c.requires.edges c.args.sides.lower
    (subst (λ (f : Fork). (c.args.sides.lower ≡ false) ⊎ IsInwards Lower f.lower.0 f.lower.1 c.args.p) c.deref.ensures
    (c.stays_affected.ensures e)))
    (λ e. covered_at Upper c.args.p c.args.sides c.args.place.value c.requires.edges c.args.sides.upper
    (subst (λ (f : Fork). (c.args.sides.upper ≡ false) ⊎ IsInwards Upper f.upper.0 f.upper.1 c.args.p) c.deref-2.ensures
    (c.stays_affected-2.ensures e)))
