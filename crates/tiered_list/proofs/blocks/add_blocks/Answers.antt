-- one more empty block has no point
use Rattle.std.proofs.Common.{◌∷◌, [], ◌∙◌, subst, sym, List, ap, length, length-append, arith}
use Rattle.tiered_list.specs.Blocks.{Block, IsFilled, points_of}
use Rattle.tiered_list.proofs.Filled.{filled_and, points_and}
use Rattle.tiered_list.proofs.blocks.add_blocks.Goals as goal

pub loop-blocks-preserved : goal.loop-blocks-preserved
loop-blocks-preserved c =
    let new = c.in_ok-push.ensures.items in
    let n = ap length new in
    let m = length-append c.loop-blocks.blocks.items (c.in_ok-block.block ∷ []) in
    record {
      filled = λ n f. subst (λ (z : List Block). IsFilled n z) (sym new)
          (filled_and n c.loop-blocks.blocks.items c.in_ok-block.block (c.loop-blocks.invariant.filled n f)
          c.in_ok-block.ensures.len c.in_ok-block.ensures.capacity);
      points = ap points_of new ∙ points_and c.loop-blocks.blocks.items c.in_ok-block.block c.in_ok-block.ensures.items
          ∙ c.loop-blocks.invariant.points;
      few = λ l. omega (
        arith,
        n,
        m,
        c.loop-blocks-test.true,
        c.if-count-gt-MOST_BLOCKS.false,
        c.len.ensures,
        c.loop-blocks.blocks.ok,
      );
      more = omega (arith, n, m, c.loop-blocks.invariant.more);
    }
