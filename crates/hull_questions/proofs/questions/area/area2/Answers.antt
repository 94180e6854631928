-- both fans are at least 0 and small, and their sum is the doubled area
use Rattle.std.proofs.Common.{arith}
use Rattle.std.proofs.lemmas.Int.{ints}
use Rattle.bridge_search.specs.Trees.{Tree}
use Rattle.hull_questions.proofs.Fans.{lower_above, upper_above, fans_sum}
use Rattle.hull_questions.proofs.FanSizes.{few_turned, fan_small, cast_two, sum_in, sum_is}
use Rattle.hull_questions.proofs.questions.area.area2.Goals as goal

pub fan_of_chain-requires-2 : goal.fan_of_chain-requires-2
fan_of_chain-requires-2 g c = few_turned (g.H.Half.tree c.args.half) _ c.new.ensures c.requires

pub overflow_add-doubled : goal.overflow_add-doubled
overflow_add-doubled g c =
    let t : Tree = g.H.Half.tree c.args.half in
    let m = fan_small _ _ c.requires c.fan_of_chain.ensures.size in
    let n = fan_small _ _ (few_turned t _ c.new.ensures c.requires) c.fan_of_chain-2.ensures.size in
    omega (arith, ints)

pub overflow_cast-result : goal.overflow_cast-result
overflow_cast-result g c =
    let t : Tree = g.H.Half.tree c.args.half in
    let m = fan_small _ _ c.requires c.fan_of_chain.ensures.size in
    let n = fan_small _ _ (few_turned t _ c.new.ensures c.requires) c.fan_of_chain-2.ensures.size in
    let p = lower_above t c.fan_of_chain.result (rw c.first-first.ensures at c.fan_of_chain.ensures.fan) in
    let q = upper_above t c.fan_of_chain-2.result
    (rw (c.new.ensures, c.turned.ensures, c.first-first.ensures) at c.fan_of_chain-2.ensures.fan) in
    rw (cast_two _ _ m n) (sum_in _ _ m n p q)

pub returns : goal.returns
returns g c =
    let t : Tree = g.H.Half.tree c.args.half in
    let m = fan_small _ _ c.requires c.fan_of_chain.ensures.size in
    let n = fan_small _ _ (few_turned t _ c.new.ensures c.requires) c.fan_of_chain-2.ensures.size in
    let low = rw c.first-first.ensures at c.fan_of_chain.ensures.fan in
    let high = rw (c.new.ensures, c.turned.ensures, c.first-first.ensures) at c.fan_of_chain-2.ensures.fan in
    rw (
      cast_two _ _ m n,
      sum_is _ _ (lower_above t c.fan_of_chain.result low) (upper_above t c.fan_of_chain-2.result high),
    )
    (fans_sum t _ _ (g.met.H.Half.bridged c.args.half) low high)
