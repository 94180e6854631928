-- a range of a fork is one of a half, or goes over the bridge
use Rattle.std.proofs.Common.{arith, subst, List}
use Rattle.std.proofs.lemmas.Result.{IfOk-weaker}
use Rattle.lattice.specs.Plane.{Pair}
use Rattle.lattice.proofs.Tests.{passed, failed}
use Rattle.bucket_tree.specs.Runs.{IsListedOn}
use Rattle.bucket_tree.specs.Nodes.{tree_of}
use Rattle.bucket_tree.proofs.ChainWalks.{across, first_range, last_range, part_first, part_last}
use Rattle.bucket_tree.proofs.chains.+ranges.Goals as goal

pub push_through-push_long_range-requires : goal.push_through-push_long_range-requires
push_through-push_long_range-requires t c =
    let r = first_range c.args.side c.args.fork.now c.passage_on-passage.result c.args.from.now c.args.to.now
    c.passage_on-passage.ensures c.requires.whole c.requires.bridged
    ((part_first c.args.side c.args.fork.now c.passage_on-passage.result c.args.from.now c.args.to.now
    c.passage_on-passage.ensures c.requires.bridged c.requires.between
    (failed c.is_along.result _ c.if-not-is_along.true c.is_along.ensures)).between) in
    (omega (arith, c.decreases, r.0), r.1)

pub push_through-returns-then-not-is_along : goal.push_through-returns-then-not-is_along
push_through-returns-then-not-is_along t c =
    IfOk-weaker c.push_long_range.result _ _
    (λ x l. (part_first c.args.side c.args.fork.now c.passage_on-passage.result c.args.from.now c.args.to.now c.passage_on-passage.ensures
    c.requires.bridged c.requires.between (failed c.is_along.result _ c.if-not-is_along.true c.is_along.ensures)).listed _ _ l)
    c.push_long_range.ensures

pub push_through-push_long_range-requires-then-not-is_along-2 : goal.push_through-push_long_range-requires-then-not-is_along-2
push_through-push_long_range-requires-then-not-is_along-2 t c =
    let r = last_range c.args.side c.args.fork.now c.passage_on-passage.result c.args.from.now c.args.to.now
    c.passage_on-passage.ensures c.requires.whole c.requires.bridged
    ((part_last c.args.side c.args.fork.now c.passage_on-passage.result c.args.from.now c.args.to.now
    c.passage_on-passage.ensures c.requires.bridged c.requires.between
    (failed c.is_along-2.result _ c.if-not-is_along-2.true c.is_along-2.ensures)).between) in
    (omega (arith, c.decreases, r.0), r.1)

pub push_through-returns-then-not-is_along-2 : goal.push_through-returns-then-not-is_along-2
push_through-returns-then-not-is_along-2 t c =
    IfOk-weaker c.push_long_range-then-not-is_along-2.result _ _
    (λ x l. (part_last c.args.side c.args.fork.now c.passage_on-passage.result c.args.from.now c.args.to.now c.passage_on-passage.ensures
    c.requires.bridged c.requires.between (failed c.is_along-2.result _ c.if-not-is_along-2.true c.is_along-2.ensures)).listed _ _ l)
    c.push_long_range-then-not-is_along-2.ensures

pub push_through-push_range-requires : goal.push_through-push_range-requires
push_through-push_range-requires t c =
    let r = first_range c.args.side c.args.fork.now c.passage_on-passage.result c.args.from.now _ c.passage_on-passage.ensures
    c.requires.whole c.requires.bridged
    ((across c.args.side c.args.fork.now c.passage_on-passage.result c.args.from.now c.args.to.now c.passage_on-passage.ensures
    c.requires.bridged c.requires.between
    (passed c.is_along.result _ c.if-not-is_along.false c.is_along.ensures)
    (passed c.is_along-2.result _ c.if-not-is_along-2.false c.is_along-2.ensures)).first) in
    (omega (arith, c.decreases, r.0), r.1)

pub push_through-push_range-requires-2 : goal.push_through-push_range-requires-2
push_through-push_range-requires-2 t c =
    let r = last_range c.args.side c.args.fork.now c.passage_on-passage.result _ c.args.to.now c.passage_on-passage.ensures
    c.requires.whole c.requires.bridged
    ((across c.args.side c.args.fork.now c.passage_on-passage.result c.args.from.now c.args.to.now c.passage_on-passage.ensures
    c.requires.bridged c.requires.between
    (passed c.is_along.result _ c.if-not-is_along.false c.is_along.ensures)
    (passed c.is_along-2.result _ c.if-not-is_along-2.false c.is_along-2.ensures)).last) in
    (omega (arith, c.decreases, r.0), r.1)

pub push_through-returns : goal.push_through-returns
push_through-returns t c =
    IfOk-weaker c.push_range-2.result _ _
    (λ x l. (across c.args.side c.args.fork.now c.passage_on-passage.result c.args.from.now c.args.to.now c.passage_on-passage.ensures
    c.requires.bridged c.requires.between (passed c.is_along.result _ c.if-not-is_along.false c.is_along.ensures)
    (passed c.is_along-2.result _ c.if-not-is_along-2.false c.is_along-2.ensures)).listed _ _ _ c.in_ok-push_range.ensures
    (subst (λ (z : List Pair). IsListedOn c.args.side (tree_of c.passage_on-passage.result.last.now) c.passage_on-passage.result.end.now
    c.args.to.now z c.push_range-2.new.out.items) c.in_ok-push.ensures.items l))
    c.push_range-2.ensures
