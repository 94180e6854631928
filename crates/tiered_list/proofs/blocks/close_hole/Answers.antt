-- the hole moves up by one point that moves to the block before, until it is after the last point
use Rattle.std.proofs.Common.{◌+◌, ◌-◌, ℕ, subst, ◌∙◌, arith}
use Rattle.std.proofs.Math.ListN.{length-set}
use Rattle.tiered_list.specs.Blocks.{IsFilledBut}
use Rattle.tiered_list.proofs.Filled.{HoleMoved, hole_few, hole_within, after_hole, still_hole, moved_on, hole_filled_at_the_end}
use Rattle.tiered_list.proofs.blocks.close_hole.Goals as goal

pub index_mut-requires : goal.index_mut-requires
index_mut-requires c =
    let w = hole_few c.loop-hole.hole c.args.len c.loop-hole.blocks.items c.loop-hole.invariant.filled in
    omega (arith, w, c.loop-hole.blocks.ok, c.loop-hole-test.true, c.requires.some)

pub unreachable-requires : goal.unreachable-requires
unreachable-requires c =
    let w = hole_few c.loop-hole.hole c.args.len c.loop-hole.blocks.items c.loop-hole.invariant.filled in
    let b = after_hole c.loop-hole.hole (c.loop-hole.hole + 1) c.args.len c.loop-hole.blocks.items
    c.index_mut.result.now (omega arith) c.loop-hole.invariant.filled
    (omega (arith, w, c.loop-hole-test.true, c.requires.some)) c.index_mut.ensures.value in
    omega (arith, b.count, c.in_default.ensures.cases.0, c.loop-hole-test.true, c.requires.some)

pub index_mut-requires-in-loop-hole : goal.index_mut-requires-in-loop-hole
index_mut-requires-in-loop-hole c =
    let w = hole_within c.loop-hole.hole c.args.len c.loop-hole.blocks.items c.loop-hole.invariant.filled in
    omega (arith, w, c.loop-hole.blocks.ok)

pub push_back_reserved-requires : goal.push_back_reserved-requires
push_back_reserved-requires c =
    let b = still_hole c.loop-hole.hole (c.loop-hole.hole + 1) c.args.len c.loop-hole.blocks.items c.pop_front.new.self
    c.index_mut-in-loop-hole.result.now (omega arith) c.loop-hole.invariant.filled
    c.index_mut-in-loop-hole.ensures.value in
    omega (arith, b.count, b.space)

pub loop-hole-preserved : goal.loop-hole-preserved
loop-hole-preserved c =
    let w = hole_few c.loop-hole.hole c.args.len c.loop-hole.blocks.items c.loop-hole.invariant.filled in
    let moved : HoleMoved (c.loop-hole.hole + 1) c.args.len c.loop-hole.blocks.items _ =
    moved_on c.loop-hole.hole (c.loop-hole.hole + 1) c.args.len c.loop-hole.blocks.items c.index_mut.result.now
    c.pop_front.new.self c.index_mut-in-loop-hole.result.now c.push_back_reserved.new.self c.in-Some.point (omega arith)
    c.loop-hole.invariant.filled (omega (arith, w, c.loop-hole-test.true, c.requires.some)) c.index_mut.ensures.value
    c.index_mut-in-loop-hole.ensures.value c.in-Some.ensures.items c.pop_front.ensures.capacity
    c.push_back_reserved.ensures.items c.push_back_reserved.ensures.capacity in
    record {
      filled = moved.filled;
      points = moved.points ∙ c.loop-hole.invariant.points;
      count = length-set _ _ _ ∙ length-set _ _ _ ∙ c.loop-hole.invariant.count;
    }

pub returns-clause-filled : goal.returns-clause-filled
returns-clause-filled c =
    hole_filled_at_the_end c.loop-hole.hole (c.args.len - 1) c.loop-hole.blocks.items
    (omega (arith, c.loop-hole.auto.hole-end, c.requires.at)) (omega (arith, c.loop-hole-test.false))
    (subst (λ (k : ℕ). IsFilledBut c.loop-hole.hole k c.loop-hole.blocks.items) (omega (arith, c.requires.some))
    c.loop-hole.invariant.filled)
