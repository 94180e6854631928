-- the searches take no more turns than a change may
use Rattle.std.proofs.Common.{ℕ, ◌≤◌, arith, subst, true}
use Rattle.bucket_tree.specs.Nodes.{node_height}
use Rattle.bucket_tree.specs.Turns.{most_turns}
use Rattle.bucket_tree.proofs.MostTurns.{few_turns}
use Rattle.bucket_tree.proofs.TopDown.{height_below, with_turns}
use Rattle.bucket_tree.proofs.in_place.ComingInPlace.renew.Goals as goal

pub renew_top_down-requires-clause-few : goal.renew_top_down-requires-clause-few
renew_top_down-requires-clause-few c =
    let h = height_below true c.args.p c.requires.0 c.args.node.now c.args.change.now c.requires.2 in
    let f = few_turns (node_height c.args.node.now) (omega (arith, c.requires.1.low, h)) in
    omega (arith, f)

pub returns : goal.returns
returns c = λ n w d.
    let h = height_below true c.args.p n c.args.node.now c.args.change.now d in
    let t = c.renew_top_down.ensures.turns in
    with_turns c.args.p n c.renew_top_down.new.node c.args.change.now c.renew_top_down.new.turns (c.renew_top_down.ensures.changed n w d)
    (subst (λ (z : ℕ). c.renew_top_down.new.turns ≤ most_turns z) h (omega (arith, t)))
