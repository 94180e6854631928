-- a point of multiplicity one counts once
use Rattle.std.proofs.Common.{◌+◌, ◌-◌, ◌∙◌, ◌<◌, List, ap, arith, get_or, length, refl, subst, sym}
use Rattle.lattice.specs.Plane.{Pair}
use Rattle.lattice.specs.Covers.{without_point}
use Rattle.hull_geometry.specs.Positions.{IsPositionOf, origin}
use Rattle.hull_set.specs.Held.{once}
use Rattle.std.specs.List.{remove}
use Rattle.bucket_tree.specs.Counts.{counted}
use Rattle.bucket_tree.specs.Changes.{IsUnaffectedOver}
use Rattle.bucket_tree.proofs.InPlace.{taken_between}
use Rattle.bucket_tree.proofs.Lost.{count_at, count_none, held_without}
use Rattle.bucket_tree.proofs.Kept.{unaffected_without}
use Rattle.bucket_tree.proofs.in_place.GoingInPlace.change.Goals as goal

pub returns-in_default-clause-returned : goal.returns-in_default-clause-returned
returns-in_default-clause-returned c =
    sym (count_none c.args.bucket.now.points c.args.bucket.now.multiplicities c.in_default.field-0 c.args.p
    (subst (IsPositionOf c.args.bucket.now.points c.args.p) c.in_default.is c.place_of.ensures))

pub returns-then-multiplicity-ne1-clause-returned : goal.returns-then-multiplicity-ne1-clause-returned
returns-then-multiplicity-ne1-clause-returned c =
    ap (λ z. get_or z c.in-Ok.place 0) c.multiplicities.ensures.multiplicities
    ∙ sym (count_at c.args.bucket.now.points c.args.bucket.now.multiplicities c.in-Ok.place c.args.p
    c.buckets_are_sound.ensures.ordered c.buckets_are_sound.ensures.counted
    (subst (IsPositionOf c.args.bucket.now.points c.args.p) c.in-Ok.is c.place_of.ensures))

pub returns-clause-change : goal.returns-clause-change
returns-clause-change c =
    let at = subst (IsPositionOf c.args.bucket.now.points c.args.p) c.in-Ok.is c.place_of.ensures in
    let held =
    count_at c.args.bucket.now.points c.args.bucket.now.multiplicities c.in-Ok.place c.args.p
    c.buckets_are_sound.ensures.ordered c.buckets_are_sound.ensures.counted at
    ∙ sym (ap (λ z. get_or z c.in-Ok.place 0) c.multiplicities.ensures.multiplicities) ∙ c.if-multiplicity-ne1.false in
    let points = c.remove.ensures.points ∙ ap (λ z. without_point z c.args.bucket.now.points) (at.1 origin) in
    record {
      held = held;
      points = points;
      multiplicities = λ q.
          held_without c.args.bucket.now.points c.args.bucket.now.multiplicities c.in-Ok.place c.args.p
          c.buckets_are_sound.ensures.ordered c.buckets_are_sound.ensures.counted at held q
          ∙ ap (λ z. counted z (remove c.args.bucket.now.multiplicities c.in-Ok.place) q + once c.args.p q) (sym points)
          ∙ ap (λ z. counted c.remove.new.self.points z q + once c.args.p q) (sym c.remove.ensures.multiplicities);
      unsearched = record {
        unaffected = subst (IsUnaffectedOver c.args.p c.affected_at-sides.result) (sym points)
            (unaffected_without c.args.p c.args.bucket.now.points c.affected_at-sides.result c.buckets_are_sound.ensures.ordered
            c.affected_at-sides.ensures);
        turns = refl;
        between = λ t.
            let inside = c.is_inside-is_between.ensures.0 t in
            let end = subst (λ (z : List Pair). c.in-Ok.place < length z - 1) c.points-2.ensures.points inside.1 in
            taken_between c.args.p c.args.bucket.now.points c.remove.new.self.points c.in-Ok.place
            c.buckets_are_sound.ensures.ordered at inside.0 (omega (arith, end)) points;
      };
    }
