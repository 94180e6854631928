-- the bisection found a vertex up to which the lower chain rises, and from which it does not
use Rattle.std.proofs.Common.{◌≡◌, pos, ◌≤ℤ◌, rules, of_calls, subst, sym}
use Rattle.lattice.specs.Plane.{Pair}
use Rattle.hull_geometry.specs.Tangents.{IsFirstFarthest}
use Rattle.hull_polygon.specs.Rounds.{vertex}
use Rattle.hull_polygon.proofs.FarthestOf as of
use Rattle.hull_polygon.proofs.extreme.place_below.Goals as goal

pub returns-in-Some-clause-farthest : goal.returns-in-Some-clause-farthest
returns-in-Some-clause-farthest c = λ S o.
    let same : c.in-Some.short ≡ c.args.d = search rules in
    subst (λ (d : Pair). IsFirstFarthest S d (vertex c.args.vertices.now c.first_failing.result)) same
    (of.farthest_below S c.args.vertices.now c.args.last c.first_failing.result c.in-Some.short o c.requires.separated
    c.requires.some (subst (λ (d : Pair). d.y ≤ℤ pos 0) (sym same) c.requires.down) c.first_failing.ensures.to
    (λ h. let k = c.first_failing.ensures.held h in search (rules, of_calls))
    (λ h b. let k = c.first_failing.ensures.fails h in search (rules, of_calls)))

pub returns-in-None-clause-farthest : goal.returns-in-None-clause-farthest
returns-in-None-clause-farthest c = λ S o.
    of.farthest_below S c.args.vertices.now c.args.last c.first_failing-in-None.result c.args.d o c.requires.separated
    c.requires.some c.requires.down c.first_failing-in-None.ensures.to
    (λ h. let k = c.first_failing-in-None.ensures.held h in search (rules, of_calls))
    (λ h b. let k = c.first_failing-in-None.ensures.fails h in search (rules, of_calls))
