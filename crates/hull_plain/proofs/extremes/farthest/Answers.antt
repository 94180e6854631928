-- the bisection found a point up to which the chain rises, and from which it does not
use Rattle.std.proofs.Common.{rules, of_calls, ◌∙◌}
use Rattle.hull_plain.proofs.Farthest.{farthest_found}
use Rattle.hull_geometry.proofs.PointLists.{get_or_free}
use Rattle.hull_plain.proofs.extremes.farthest.Goals as goal

pub returns-clause-first : goal.returns-clause-first
returns-clause-first c = λ side S faces k.
    let at = c.first_failing.result in
    farthest_found side S c.args.chain.now.items at c.args.d c.get.result
    (c.get.ensures ∙ get_or_free c.args.chain.now.items at _ _ c.first_failing.ensures.within) faces k
    c.first_failing.ensures.within (λ h. let k = c.first_failing.ensures.held h in search (rules, of_calls))
    (λ h b. let k = c.first_failing.ensures.fails h in search (rules, of_calls))
