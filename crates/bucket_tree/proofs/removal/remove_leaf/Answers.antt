-- a point of multiplicity one counts once
use Rattle.std.proofs.Common.{◌+◌, ◌∙◌, length, ap, refl, subst, sym, arith, Ok, Err}
use Rattle.lattice.specs.Covers.{without_point}
use Rattle.hull_geometry.specs.Positions.{IsPositionOf, origin, point_at}
use Rattle.hull_buckets.specs.Buckets.{BucketValue, IsBucket}
use Rattle.hull_set.specs.Held.{once}
use Rattle.std.specs.List.{remove}
use Rattle.bucket_tree.specs.Counts.{counted}
use Rattle.bucket_tree.proofs.BuiltLeaves.{leaf_built}
use Rattle.bucket_tree.proofs.Lost.{not_held, held_without, only_point, held_alone}
use Rattle.bucket_tree.specs.Changes.{IsUnaffectedOver}
use Rattle.bucket_tree.proofs.Kept.{unaffected_without}
use Rattle.bucket_tree.proofs.removal.remove_leaf.Goals as goal

pub unreachable-requires : goal.unreachable-requires
unreachable-requires c =
    not_held c.args.bucket.value.points c.args.bucket.value.multiplicities c.in_default.field-0 c.args.p
    (subst (λ (z : BucketValue). IsPositionOf z.points c.args.p (Err c.in_default.field-0)) c.deref.ensures
    (subst (IsPositionOf c.deref.result.now.points c.args.p) c.in_default.is c.place_of.ensures)) c.requires.held

pub returns-then-points-eq1-clause-lost : goal.returns-then-points-eq1-clause-lost
returns-then-points-eq1-clause-lost c =
    let at = subst (λ (z : BucketValue). IsPositionOf z.points c.args.p (Ok c.in-Ok.place)) c.deref.ensures
    (subst (IsPositionOf c.deref.result.now.points c.args.p) c.in-Ok.is c.place_of.ensures) in
    let l = ap (λ z. length z) (sym (c.points.ensures.points ∙ ap (λ (z : BucketValue). z.points) c.deref-3.ensures))
    ∙ c.if-points-eq1.true in (
      only_point c.args.bucket.value.points c.args.bucket.value.multiplicities c.in-Ok.place c.args.p
          c.requires.built.buckets.ordered c.requires.built.buckets.counted at c.requires.held l,
      held_alone c.args.bucket.value.points c.args.bucket.value.multiplicities c.in-Ok.place c.args.p
          c.requires.built.buckets.ordered c.requires.built.buckets.counted at c.requires.held l,
      refl,
    )

pub returns-clause-lost : goal.returns-clause-lost
returns-clause-lost c =
    let at = subst (λ (z : BucketValue). IsPositionOf z.points c.args.p (Ok c.in-Ok.place)) c.deref.ensures
    (subst (IsPositionOf c.deref.result.now.points c.args.p) c.in-Ok.is c.place_of.ensures) in
    let points = c.remove.ensures.points
    ∙ ap (λ (z : BucketValue). without_point (point_at z.points c.in-Ok.place) z.points) c.deref_mut.ensures.value
    ∙ ap (λ z. without_point z c.args.bucket.value.points) (at.1 origin) in
    let multiplicity = c.remove.ensures.multiplicities
    ∙ ap (λ (z : BucketValue). remove z.multiplicities c.in-Ok.place) c.deref_mut.ensures.value in (
      leaf_built _ c.remove.new.self refl (subst IsBucket c.deref-4.ensures c.buckets_are_sound.ensures),
      points,
      λ q. held_without c.args.bucket.value.points c.args.bucket.value.multiplicities c.in-Ok.place c.args.p
          c.requires.built.buckets.ordered c.requires.built.buckets.counted at c.requires.held q
          ∙ ap (λ z. counted z (remove c.args.bucket.value.multiplicities c.in-Ok.place) q + once c.args.p q) (sym points)
          ∙ ap (λ z. counted c.remove.new.self.points z q + once c.args.p q) (sym multiplicity),
      (omega arith, omega arith),
    )

pub returns-clause-unaffected : goal.returns-clause-unaffected
returns-clause-unaffected c =
    let at = subst (λ (z : BucketValue). IsPositionOf z.points c.args.p (Ok c.in-Ok.place)) c.deref.ensures
    (subst (IsPositionOf c.deref.result.now.points c.args.p) c.in-Ok.is c.place_of.ensures) in
    let points = c.remove.ensures.points
    ∙ ap (λ (z : BucketValue). without_point (point_at z.points c.in-Ok.place) z.points) c.deref_mut.ensures.value
    ∙ ap (λ z. without_point z c.args.bucket.value.points) (at.1 origin) in
    subst (IsUnaffectedOver c.args.p c.affected_at-sides.result) (sym points)
    (unaffected_without c.args.p c.args.bucket.value.points c.affected_at-sides.result c.requires.built.buckets.ordered
    (subst (λ (z : BucketValue). IsUnaffectedOver c.args.p c.affected_at-sides.result z.points) c.deref-2.ensures
    c.affected_at-sides.ensures))
