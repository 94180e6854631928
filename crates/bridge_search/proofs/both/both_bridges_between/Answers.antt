-- each round makes a turn of each search that is not done, and each turn keeps its bridge
use Rattle.std.proofs.lemmas.Bool.{or_parts}
use Rattle.std.proofs.Common.{◌≤◌, arith}
use Rattle.bridge_search.specs.Trees.{height_of, highest}
use Rattle.std.proofs.Common.{sym}
use Rattle.bridge_search.specs.TurnedTrees.{first_turned, halves_turned, lower_from_turned, height_turned}
use Rattle.bridge_search.proofs.Turns as turns
use Rattle.bridge_search.proofs.Depths.{sum_within, sum_turned}
use Rattle.bridge_search.proofs.both.both_bridges_between.Goals as goal

pub new-lower-requires-clause-in_order : goal.new-lower-requires-clause-in_order
new-lower-requires-clause-in_order g c =
    rw (c.new.ensures, c.new-2.ensures)
    (halves_turned (g.H.Half.tree c.args.u) (g.H.Half.tree c.args.w) c.requires.in_order)

pub new-lower-requires-clause-split : goal.new-lower-requires-clause-split
new-lower-requires-clause-split g c =
    rw (c.new-2.ensures, c.turned.ensures, c.requires.last) (sym (first_turned (g.H.Half.tree c.args.u)))

pub loop-preserved : goal.loop-preserved
loop-preserved g c = (
  turns.under_way_on _ _ _ _ _ _ _ _ _ _ _ c.loop.invariant.0 c.advance.ensures.advance c.advance.ensures.split,
  turns.under_way_on _ _ _ _ _ _ _ _ _ _ _ c.loop.invariant.1 c.advance-in-loop.ensures.advance
      c.advance-in-loop.ensures.split,
)

pub returns-clause-upper : goal.returns-clause-upper
returns-clause-upper g c =
    let still = or_parts c.advance.result c.advance-in-loop.result c.loop-test.false in
    turns.under_way_bridge _ _ _ _ _ _ _ _ _ _ _ c.loop.invariant.0
    (rw still.0 at c.advance.ensures.advance) c.ends.ensures.left c.ends.ensures.right

pub returns-clause-lower : goal.returns-clause-lower
returns-clause-lower g c =
    let still = or_parts c.advance.result c.advance-in-loop.result c.loop-test.false in
    rw (c.turned-2.ensures, c.turned-3.ensures)
    (lower_from_turned (g.H.Half.tree c.args.u)
    (g.H.Half.tree c.args.w) c.ends-first_end.result.0 c.ends-first_end.result.1
    (turns.under_way_bridge _ _ _ _ _ _ _ _ _ _ _ c.loop.invariant.1
    (rw still.1 at c.advance-in-loop.ensures.advance) c.ends-first_end.ensures.left c.ends-first_end.ensures.right))

-- the rotated halves are as high as the halves, which are not too high
pub advance-requires-in-loop-clause-room : goal.advance-requires-in-loop-clause-room
advance-requires-in-loop-clause-room g c =
    let u : height_of (g.H.Half.tree c.args.u) ≤ highest = g.met.H.Half.low c.args.u in
    let w : height_of (g.H.Half.tree c.args.w) ≤ highest = g.met.H.Half.low c.args.w in
    omega (
      arith,
      c.loop.invariant.1.within,
      height_turned (g.H.Half.tree c.args.u),
      height_turned (g.H.Half.tree c.args.w),
    )

pub returns-clause-upper_depths : goal.returns-clause-upper_depths
returns-clause-upper_depths g c =
    let still = or_parts c.advance.result c.advance-in-loop.result c.loop-test.false in
    turns.under_way_depth _ _ _ _ _ _ _ _ _ _ _ c.loop.invariant.0
    (rw still.0 at c.advance.ensures.advance) c.ends.ensures.left c.ends.ensures.right

pub returns-clause-lower_depths : goal.returns-clause-lower_depths
returns-clause-lower_depths g c =
    let still = or_parts c.advance.result c.advance-in-loop.result c.loop-test.false in
    rw (c.turned-2.ensures, c.turned-3.ensures)
    (sum_turned (g.H.Half.tree c.args.u) (g.H.Half.tree c.args.w) c.ends-first_end.result.0 c.ends-first_end.result.1 _
    (turns.under_way_depth _ _ _ _ _ _ _ _ _ _ _ c.loop.invariant.1
    (rw still.1 at c.advance-in-loop.ensures.advance) c.ends-first_end.ensures.left c.ends-first_end.ensures.right))

pub returns-clause-lower_few : goal.returns-clause-lower_few
returns-clause-lower_few g c =
    let still = or_parts c.advance.result c.advance-in-loop.result c.loop-test.false in
    let sum = turns.under_way_depth _ _ _ _ _ _ _ _ _ _ _ c.loop.invariant.1
    (rw still.1 at c.advance-in-loop.ensures.advance) c.ends-first_end.ensures.left c.ends-first_end.ensures.right in
    sum_within (g.H.Half.tree c.args.u) (g.H.Half.tree c.args.w) _ _ _
    (sum_turned (g.H.Half.tree c.args.u)
    (g.H.Half.tree c.args.w) c.ends-first_end.result.0 c.ends-first_end.result.1 _ sum)
