-- the last block that has a point gets a hole, which moves down by one point that moves to the next block
use Rattle.std.proofs.Common.{◌+◌, ◌-◌, ◌/◌, ℕ, refl, subst, ◌∙◌, arith}
use Rattle.std.proofs.Math.ListN.{length-set}
use Rattle.tiered_list.specs.Blocks.{IsFilledBut}
use Rattle.tiered_list.proofs.Filled.{HoleMoved, hole_at_the_end, hole_within, before_hole, at_hole, moved_back}
use Rattle.tiered_list.proofs.blocks.open_hole.Goals as goal

pub loop-hole-init : goal.loop-hole-init
loop-hole-init c = record {
  filled = hole_at_the_end (c.args.len / 1024) c.args.len c.args.blocks.now.items (omega arith) (omega arith)
      c.requires.within c.requires.filled;
  points = refl;
  count = refl;
  above = c.requires.at;
  below = omega arith;
}

pub index_mut-requires : goal.index_mut-requires
index_mut-requires c =
    let w = hole_within c.loop-hole.hole (c.args.len + 1) c.loop-hole.blocks.items c.loop-hole.invariant.filled in
    omega (arith, w, c.loop-hole.blocks.ok)

pub unreachable-requires : goal.unreachable-requires
unreachable-requires c =
    let b = before_hole (c.loop-hole.hole - 1) c.loop-hole.hole (c.args.len + 1) c.loop-hole.blocks.items
    c.index_mut.result.now (omega arith) c.loop-hole.invariant.filled c.index_mut.ensures.value in
    omega (arith, b.count, c.in_default.ensures.cases.0, c.loop-hole.invariant.below)

pub index_mut-requires-in-loop-hole : goal.index_mut-requires-in-loop-hole
index_mut-requires-in-loop-hole c =
    let w = hole_within c.loop-hole.hole (c.args.len + 1) c.loop-hole.blocks.items c.loop-hole.invariant.filled in
    omega (arith, w, c.loop-hole.blocks.ok)

pub push_front_reserved-requires : goal.push_front_reserved-requires
push_front_reserved-requires c =
    let b = at_hole (c.loop-hole.hole - 1) c.loop-hole.hole (c.args.len + 1) c.loop-hole.blocks.items c.pop_back.new.self
    c.index_mut-in-loop-hole.result.now (omega arith) c.loop-hole.invariant.filled
    c.index_mut-in-loop-hole.ensures.value in
    omega (arith, b.count, b.space)

pub loop-hole-preserved : goal.loop-hole-preserved
loop-hole-preserved c =
    let moved : HoleMoved (c.loop-hole.hole - 1) (c.args.len + 1) c.loop-hole.blocks.items _ =
    moved_back (c.loop-hole.hole - 1) c.loop-hole.hole (c.args.len + 1) c.loop-hole.blocks.items c.index_mut.result.now
    c.pop_back.new.self c.index_mut-in-loop-hole.result.now c.push_front_reserved.new.self c.in-Some.point (omega arith)
    c.loop-hole.invariant.filled c.index_mut.ensures.value c.index_mut-in-loop-hole.ensures.value c.in-Some.ensures.items
    c.pop_back.ensures.capacity c.push_front_reserved.ensures.items c.push_front_reserved.ensures.capacity in
    record {
      filled = moved.filled;
      points = moved.points ∙ c.loop-hole.invariant.points;
      count = length-set _ _ _ ∙ length-set _ _ _ ∙ c.loop-hole.invariant.count;
      above = omega arith;
      below = omega (arith, c.loop-hole.invariant.below);
    }

pub returns-clause-filled : goal.returns-clause-filled
returns-clause-filled c =
    subst (λ (h : ℕ). IsFilledBut h (c.args.len + 1) c.loop-hole.blocks.items)
    (omega (arith, c.loop-hole.invariant.above)) c.loop-hole.invariant.filled

pub returns-clause-points : goal.returns-clause-points
returns-clause-points c = c.loop-hole.invariant.points

pub returns-clause-count : goal.returns-clause-count
returns-clause-count c = c.loop-hole.invariant.count
