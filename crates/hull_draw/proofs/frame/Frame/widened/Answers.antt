-- No edge moves inwards, and each is as far out as the point.
use Rattle.lattice.proofs.Numbers.{le_trans}
use Rattle.hull_draw.proofs.frame.Frame.widened.Goals as goal

pub returns : goal.returns
returns c = record {
  holds = λ q h. record {
    right_of = le_trans _ _ _ c.leftmost.ensures.first h.right_of;
    left_of = le_trans _ _ _ h.left_of c.rightmost.ensures.first;
    above = le_trans _ _ _ c.lowest.ensures.first h.above;
    below = le_trans _ _ _ h.below c.uppermost.ensures.first;
  };
  own = record {
    right_of = c.leftmost.ensures.second;
    left_of = c.rightmost.ensures.second;
    above = c.lowest.ensures.second;
    below = c.uppermost.ensures.second;
  };
  left = c.leftmost.ensures.either;
  right = c.rightmost.ensures.either;
  top = c.uppermost.ensures.either;
  bottom = c.lowest.ensures.either;
}
