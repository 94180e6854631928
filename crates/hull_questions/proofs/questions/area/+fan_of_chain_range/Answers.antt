-- each half has less height and fewer points; the fans of both and the triangle between them are the fan of the whole
use Rattle.std.proofs.Common.{ap, arith}
use Rattle.std.proofs.lemmas.Int.{ints}
use Rattle.bridge_search.specs.Trees.{Tree, left_of, right_of, size_of, height_of}
use Rattle.bridge_search.proofs.Turns.{size_positive}
use Rattle.hull_questions.proofs.Fans.{fan_over}
use Rattle.hull_questions.proofs.FanSizes.{lower_halves, both_sizes, fan_small, side_small, fan_more, within_over}
use Rattle.hull_questions.proofs.FanSizes.{cast_one, cast_three}
use Rattle.hull_questions.proofs.questions.area.+fan_of_chain_range.Goals as goal

pub fan_of_chain_range-requires-in-Across : goal.fan_of_chain_range-requires-in-Across
fan_of_chain_range-requires-in-Across g t c κs within =
    let u : Tree = g.H.Half.tree c.args.half in
    let e = c.left-in-Across.ensures in
    let l = lower_halves u c.in-Across.ensures.0 in
    let s = both_sizes u c.in-Across.ensures.0 in (
      omega (arith, c.decreases, ap height_of e),
      (within, (rw e c.in-Across.ensures.1.left, omega (arith, c.requires.few, ap size_of e))),
    )

pub fan_of_chain_range-requires-in-Across-2 : goal.fan_of_chain_range-requires-in-Across-2
fan_of_chain_range-requires-in-Across-2 g t c κs within =
    let u : Tree = g.H.Half.tree c.args.half in
    let e = c.right-in-Across.ensures in
    let l = lower_halves u c.in-Across.ensures.0 in
    let s = both_sizes u c.in-Across.ensures.0 in (
      omega (arith, c.decreases, ap height_of e),
      (within, (rw e c.in-Across.ensures.1.right, omega (arith, c.requires.few, ap size_of e))),
    )

pub overflow_add-result : goal.overflow_add-result
overflow_add-result g t c =
    let u : Tree = g.H.Half.tree c.args.half in
    let s = both_sizes u c.in-Across.ensures.0 in
    let a = fan_small _ _
    (omega (arith, c.requires.few, ap size_of c.left-in-Across.ensures)) c.fan_of_chain_range-in-Across.ensures.size in
    let b = side_small _ c.orient.ensures.size in
    omega (arith, ints)

pub overflow_add-result-in-Across : goal.overflow_add-result-in-Across
overflow_add-result-in-Across g t c =
    let u : Tree = g.H.Half.tree c.args.half in
    let s = both_sizes u c.in-Across.ensures.0 in
    let a = fan_small _ _
    (omega (arith, c.requires.few, ap size_of c.left-in-Across.ensures)) c.fan_of_chain_range-in-Across.ensures.size in
    let b = side_small _ c.orient.ensures.size in
    let d = fan_small _ _
    (omega (arith, c.requires.few, ap size_of c.right-in-Across.ensures)) c.fan_of_chain_range-in-Across-2.ensures.size in
    omega (arith, ints)

pub returns-in-Left-clause-size : goal.returns-in-Left-clause-size
returns-in-Left-clause-size g t c =
    let u : Tree = g.H.Half.tree c.args.half in
    let s = both_sizes u c.in-Left.ensures.0 in
    rw (cast_one c.fan_of_chain_range.result
    (fan_small _ _ (omega (arith, c.requires.few, ap size_of c.left.ensures)) c.fan_of_chain_range.ensures.size))
    (fan_more _ _ _ (omega (arith, ap size_of c.left.ensures)) c.fan_of_chain_range.ensures.size)

pub returns-in-Right-clause-size : goal.returns-in-Right-clause-size
returns-in-Right-clause-size g t c =
    let u : Tree = g.H.Half.tree c.args.half in
    let s = both_sizes u c.in-Right.ensures.0 in
    rw (cast_one c.fan_of_chain_range-in-Right.result
    (fan_small _ _ (omega (arith, c.requires.few, ap size_of c.right.ensures))
    c.fan_of_chain_range-in-Right.ensures.size))
    (fan_more _ _ _ (omega (arith, ap size_of c.right.ensures)) c.fan_of_chain_range-in-Right.ensures.size)

pub returns-in-Across-clause-fan : goal.returns-in-Across-clause-fan
returns-in-Across-clause-fan g t c =
    let u : Tree = g.H.Half.tree c.args.half in
    let s = both_sizes u c.in-Across.ensures.0 in
    let a = fan_small _ _
    (omega (arith, c.requires.few, ap size_of c.left-in-Across.ensures)) c.fan_of_chain_range-in-Across.ensures.size in
    let d = fan_small _ _
    (omega (arith, c.requires.few, ap size_of c.right-in-Across.ensures)) c.fan_of_chain_range-in-Across-2.ensures.size in
    rw (cast_three _ _ _ a (side_small _ c.orient.ensures.size) d)
    (fan_over u (left_of u) (right_of u) c.args.apex c.args.from _ _ c.args.to
    _ _ _ c.in-Across.ensures.1.walks (rw c.left-in-Across.ensures at c.fan_of_chain_range-in-Across.ensures.fan)
    c.orient.ensures.value (rw c.right-in-Across.ensures at c.fan_of_chain_range-in-Across-2.ensures.fan))

pub returns-in-Across-clause-size : goal.returns-in-Across-clause-size
returns-in-Across-clause-size g t c =
    let u : Tree = g.H.Half.tree c.args.half in
    let s = both_sizes u c.in-Across.ensures.0 in
    let a = fan_small _ _
    (omega (arith, c.requires.few, ap size_of c.left-in-Across.ensures)) c.fan_of_chain_range-in-Across.ensures.size in
    let d = fan_small _ _
    (omega (arith, c.requires.few, ap size_of c.right-in-Across.ensures)) c.fan_of_chain_range-in-Across-2.ensures.size in
    rw (cast_three _ _ _ a (side_small _ c.orient.ensures.size) d, s)
    (within_over (size_of (left_of u)) (size_of (right_of u)) _ _ _ (size_positive (left_of u))
    (size_positive (right_of u))
    (rw c.left-in-Across.ensures at c.fan_of_chain_range-in-Across.ensures.size) c.orient.ensures.size
    (rw c.right-in-Across.ensures at c.fan_of_chain_range-in-Across-2.ensures.size))
