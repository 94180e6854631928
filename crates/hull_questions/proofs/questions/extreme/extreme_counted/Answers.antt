-- each step of the loop goes into a half that has the answer; if a half is one point, that is the answer
use Rattle.std.proofs.Common.{◌≤◌, ◌+◌, arith}
use Rattle.bridge_search.specs.Trees.{height_of, highest}
use Rattle.hull_questions.proofs.Extremes.{farthest_alone, depth_alone, deeper_on}
use Rattle.hull_questions.proofs.questions.extreme.extreme_counted.Goals as goal

pub loop-next-init : goal.loop-next-init
loop-next-init g c = record {
  lifts = λ p a. a;
  deeper = λ p n a. deeper_on (g.H.Half.tree c.args.half) p n (n + 0) (omega arith) a;
  within = omega arith;
}

pub loop-next-preserved : goal.loop-next-preserved
loop-next-preserved g c = record {
  lifts = λ p a. c.loop-next.invariant.lifts p (c.in-Some.ensures.part.lifts p a);
  deeper = λ p n a. deeper_on (g.H.Half.tree c.args.half) p ((n + 1) + c.loop-next.depth) (n + (c.loop-next.depth + 1))
      (omega arith) (c.loop-next.invariant.deeper p (n + 1) (c.in-Some.ensures.down p n a));
  within = omega (arith, c.loop-next.invariant.within, c.in-Some.ensures.part.lower);
}

pub overflow_add-depth : goal.overflow_add-depth
overflow_add-depth g c =
    let low : height_of (g.H.Half.tree c.args.half) ≤ highest = g.met.H.Half.low c.args.half in
    omega (arith, low, c.loop-next.invariant.within, c.in-Some.ensures.part.lower)

pub returns-clause-farthest : goal.returns-clause-farthest
returns-clause-farthest g c =
    c.loop-next.invariant.lifts c.first.result
    (farthest_alone (g.H.Half.tree c.loop-next.part) c.args.d c.first.result c.in_default.ensures.part c.first.ensures)

pub returns-clause-depth : goal.returns-clause-depth
returns-clause-depth g c =
    deeper_on (g.H.Half.tree c.args.half) c.first.result (0 + c.loop-next.depth) c.loop-next.depth (omega arith)
    (c.loop-next.invariant.deeper c.first.result 0
    (depth_alone (g.H.Half.tree c.loop-next.part) c.first.result c.in_default.ensures.part c.first.ensures))
