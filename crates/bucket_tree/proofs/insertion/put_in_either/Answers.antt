-- the point is added to one of two buckets in a row
use Rattle.std.proofs.Common.{◌∙◌, ◌++◌, ap, subst, sym, arith, true, false}
use Rattle.std.proofs.lemmas.List.Elements.{Contains-append_right}
use Rattle.lattice.specs.Plane.{IsBefore}
use Rattle.bucket_tree.proofs.Gained.{passed, failed, read_first}
use Rattle.bucket_tree.proofs.Parts.{altered_in}
use Rattle.bucket_tree.specs.Counts.{Comes}
use Rattle.bucket_tree.proofs.Rows.{counted_row}
use Rattle.bucket_tree.proofs.insertion.put_in_either.Goals as goal

pub put-requires-2-clause-absent : goal.put-requires-2-clause-absent
put-requires-2-clause-absent c i =
    c.requires.absent (Contains-append_right c.args.first.now.points c.args.second.now.points c.args.p i)

pub returns-then-before-clause-points : goal.returns-then-before-clause-points
returns-then-before-clause-points c =
    ap (λ z. z ++ c.args.second.now.points) c.put.ensures.points
    ∙ altered_in true (Comes false) c.args.p c.args.first.now.points c.args.second.now.points c.requires.ordered
    c.buckets_are_sound-2.ensures.some
    (subst (IsBefore c.args.p)
    (sym (read_first c.points.result.now c.args.second.now.points c.index-points-0.result c.points.ensures.points
    c.buckets_are_sound-2.ensures.some c.index-points-0.is))
    (passed c.before-2.result c.before-2.ensures.0 c.if-before.true))

pub returns-then-before-clause-multiplicities : goal.returns-then-before-clause-multiplicities
returns-then-before-clause-multiplicities c q = omega (
  arith,
  counted_row c.put.new.bucket.points c.args.second.now.points c.put.new.bucket.multiplicities c.args.second.now.multiplicities q
      c.buckets_are_sound-then-before.ensures.counted,
  counted_row c.args.first.now.points c.args.second.now.points c.args.first.now.multiplicities c.args.second.now.multiplicities q
      c.buckets_are_sound.ensures.counted,
  c.put.ensures.multiplicities q,
)

pub returns-clause-points : goal.returns-clause-points
returns-clause-points c =
    ap (λ z. c.args.first.now.points ++ z) c.put-2.ensures.points
    ∙ altered_in false (Comes false) c.args.p c.args.first.now.points c.args.second.now.points c.requires.ordered
    c.buckets_are_sound-2.ensures.some
    (subst (λ z. ¬ IsBefore c.args.p z)
    (sym (read_first c.points.result.now c.args.second.now.points c.index-points-0.result c.points.ensures.points
    c.buckets_are_sound-2.ensures.some c.index-points-0.is))
    (failed c.before-2.result c.before-2.ensures.1 c.if-before.false))

pub returns-clause-multiplicities : goal.returns-clause-multiplicities
returns-clause-multiplicities c q = omega (
  arith,
  counted_row c.args.first.now.points c.put-2.new.bucket.points c.args.first.now.multiplicities c.put-2.new.bucket.multiplicities q
      c.buckets_are_sound.ensures.counted,
  counted_row c.args.first.now.points c.args.second.now.points c.args.first.now.multiplicities c.args.second.now.multiplicities q
      c.buckets_are_sound.ensures.counted,
  c.put-2.ensures.multiplicities q,
)
