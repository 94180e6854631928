-- one more segment was answered
use Rattle.std.proofs.Common.{◌∙◌, ℕ, ◌+◌, List, Some, subst, arith}
use Rattle.std.proofs.lemmas.Grind.{drop_more_same}
use Rattle.std.proofs.lemmas.List.{drop-set-lt, length-set}
use Rattle.hull_c.proofs.Written.{one_more}
use Rattle.hull_c.specs.Many.{EncodesSegment}
use Rattle.hull_c.proofs.many.intersects_segments.Goals as goal

pub loop-i-preserved : goal.loop-i-preserved
loop-i-preserved c =
    let i = c.loop-i.i in
    let out : List ℕ = c.loop-i.out in
    let v = c.in-Some.intersects in
    record {
      answered = one_more (λ s n. EncodesSegment c.args.vertices.now s (Some n)) c.args.segments.now out i v
          c.index-segments-i.result c.loop-i-test.true c.loop-i.invariant.long c.loop-i.invariant.answered c.index-segments-i.is
          (subst (EncodesSegment c.args.vertices.now c.index-segments-i.result) c.in-Some.is c.answer.ensures);
      rest = drop-set-lt (i + 1) out i v (omega arith) ∙ drop_more_same out c.args.out.now i c.loop-i.invariant.rest;
      long = length-set out i v ∙ c.loop-i.invariant.long;
    }
