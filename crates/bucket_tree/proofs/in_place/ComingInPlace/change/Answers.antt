-- the multiplicity of a point that has an index, and 0 for one that has none
use Rattle.std.proofs.Common.{◌∙◌, ◌<◌, List, ap, get_or, length, refl, rules, subst, sym}
use Rattle.lattice.specs.Plane.{Pair}
use Rattle.hull_geometry.specs.Positions.{IsPositionOf}
use Rattle.bucket_tree.proofs.InPlace.{put_between}
use Rattle.bucket_tree.proofs.Lost.{count_at, count_none}
use Rattle.bucket_tree.proofs.in_place.ComingInPlace.change.Goals as goal

pub returns-in-Ok-clause-returned : goal.returns-in-Ok-clause-returned
returns-in-Ok-clause-returned c =
    ap (λ z. get_or z c.in-Ok.place 0) c.multiplicities.ensures.multiplicities
    ∙ sym (count_at c.args.bucket.now.points c.args.bucket.now.multiplicities c.in-Ok.place c.args.p
    c.buckets_are_sound.ensures.ordered c.buckets_are_sound.ensures.counted
    (subst (IsPositionOf c.args.bucket.now.points c.args.p) c.in-Ok.is c.place_of.ensures))

pub returns-then-is_full-clause-returned : goal.returns-then-is_full-clause-returned
returns-then-is_full-clause-returned c =
    sym (count_none c.args.bucket.now.points c.args.bucket.now.multiplicities c.in-Err.place c.args.p
    (subst (IsPositionOf c.args.bucket.now.points c.args.p) c.in-Err.is c.place_of.ensures))

pub returns-else-is_full-clause-change : goal.returns-else-is_full-clause-change
returns-else-is_full-clause-change c = record {
  absent = count_none c.args.bucket.now.points c.args.bucket.now.multiplicities c.in-Err.place c.args.p
      (subst (IsPositionOf c.args.bucket.now.points c.args.p) c.in-Err.is c.place_of.ensures);
  points = search rules;
  multiplicities = search rules;
  unsearched = record {
    unaffected = search rules;
    turns = refl;
    between = λ t.
        let inside = c.is_inside-is_between.ensures.0 t in
        put_between c.args.p c.args.bucket.now.points c.put_at-sides.new.bucket.points c.in-Err.place
        c.buckets_are_sound.ensures.ordered
        (subst (IsPositionOf c.args.bucket.now.points c.args.p) c.in-Err.is c.place_of.ensures) inside.0
        (subst (λ (z : List Pair). c.in-Err.place < length z) c.points.ensures.points inside.1) c.put_at-sides.ensures.points;
  };
}
