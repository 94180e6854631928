-- the bisection found the point from which the edges are to come
use Rattle.std.proofs.Common.{rules, of_calls, ◌∙◌}
use Rattle.hull_geometry.proofs.PointLists.{get_or_free}
use Rattle.hull_plain.proofs.Touches.{ahead_found}
use Rattle.hull_plain.proofs.tangents.tangent_ahead.Goals as goal

pub returns : goal.returns
returns c = λ S k clear.
    let at = c.first_failing.result in
    ahead_found c.args.side S c.args.chain.now.items at c.args.q c.get.result
    (c.get.ensures ∙ get_or_free c.args.chain.now.items at _ _ c.first_failing.ensures.within) k clear
    c.first_failing.ensures.within c.requires.before
    (λ h b. let k = c.first_failing.ensures.held h in search (rules, of_calls))
    (λ h. let k = c.first_failing.ensures.fails h in search (rules, of_calls))
