-- if the start does not lie right of the edge the path exits there, else it misses
use Rattle.std.proofs.Common.{◌≡◌, ◌∙◌, pos, neg_ℤ, ℤ, arith}
use Rattle.std.proofs.lemmas.Int.{ints}
use Rattle.lattice.proofs.Numbers.{le_less, not_less}
use Rattle.hull_polygon.proofs.DifferencesReturned.{excess_returned, le_returned, none_returned, twice, whole_returned}
use Rattle.hull_polygon.proofs.Leaving.{missed_out, on_back}
use Rattle.lattice.proofs.Tests.{passed, failed}
use Rattle.hull_polygon.proofs.raycasts.Way.out_across.Goals as goal

-- a number negated twice is the number
turned_twice : (x y : ℤ) → x ≡ y → x ≡ neg_ℤ (neg_ℤ y)
turned_twice x y e = omega (arith, ints, e)

pub returns-then-is_right : goal.returns-then-is_right
returns-then-is_right c = λ S x.
    missed_out S c.args.self.now.start c.args.self.now.along c.args.p c.args.q x.left x.across
    (passed _ _ c.if-is_right.true c.is_right.ensures)

pub excess-requires-clause-order : goal.excess-requires-clause-order
excess-requires-clause-order c =
    none_returned _ _ (twice _ c.orient.ensures.size) c.orient.ensures.value
    (not_less _ (pos 0) (failed _ _ c.if-is_right.false c.is_right.ensures))

pub excess-requires-2-clause-order : goal.excess-requires-2-clause-order
excess-requires-2-clause-order c =
    let a = c.args.self.now.start in
    let w = c.args.self.now.along in
    le_returned _ _ _ _ c.side-2.ensures.size c.side.ensures.size
    (c.side-2.ensures.value ∙ on_back _ _ a w c.args.q c.back-back.ensures.start c.back-back.ensures.along)
    (c.side.ensures.value ∙ on_back _ _ a w c.args.p c.back-back.ensures.start c.back-back.ensures.along)
    (le_less _ _ c.requires)

pub returns : goal.returns
returns c = λ S x.
    let a = c.args.self.now.start in
    let w = c.args.self.now.along in record {
      exit = (x, not_less _ (pos 0) (failed _ _ c.if-is_right.false c.is_right.ensures));
      part = turned_twice _ _
          (whole_returned _ _ _ (twice _ c.orient.ensures.size) c.orient.ensures.value c.excess.ensures.value);
      whole = excess_returned _ _ _ _ _ c.side.ensures.size c.side-2.ensures.size
          (c.side.ensures.value ∙ on_back _ _ a w c.args.p c.back-back.ensures.start c.back-back.ensures.along)
          (c.side-2.ensures.value ∙ on_back _ _ a w c.args.q c.back-back.ensures.start c.back-back.ensures.along)
          c.excess-2.ensures.value;
    }
