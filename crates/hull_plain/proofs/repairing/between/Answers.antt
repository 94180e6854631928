-- the points after the end of the one list and before the first of the other are between them
use Rattle.std.proofs.Common.{◌≡◌, ◌+◌, ◌-◌, ℕ, ap, subst, ◌∙◌, arith, List, take, drop}
use Rattle.std.specs.List.{Contains}
use Rattle.lattice.specs.Plane.{Pair}
use Rattle.hull_geometry.proofs.Middles.{middle_between}
use Rattle.hull_geometry.proofs.PointSets.{set_left, set_right}
use Rattle.hull_geometry.proofs.PointLists.{drop_rest}
use Rattle.hull_plain.proofs.repairing.between.Goals as goal

pub passed_by-from-requires-clause-chain_ordered : goal.passed_by-from-requires-clause-chain_ordered
passed_by-from-requires-clause-chain_ordered c = set_left _ _ c.requires.set

pub short_of-to-requires-clause-chain_ordered : goal.short_of-to-requires-clause-chain_ordered
short_of-to-requires-clause-chain_ordered c = set_right _ _ c.requires.set

pub returns-clause-between : goal.returns-clause-between
returns-clause-between c =
    let from : ℕ = c.passed_by-from.result in
    let to : ℕ = c.short_of-to.result in
    let there : from + (to - from) ≡ to = omega (arith, c.short_of-to.ensures.order) in
    let rest = drop_rest from (to - from) c.args.points.now.items
    ∙ ap (λ (n : ℕ). drop n c.args.points.now.items) there in
    middle_between c.args.points.now.items (take c.args.i c.args.chain.now.items)
    (drop (c.args.i + 1) c.args.chain.now.items) from (to - from) c.requires.ordered c.requires.set
    c.passed_by-from.ensures.passed c.passed_by-from.ensures.to_come c.short_of-to.ensures.before
    (λ t m. c.short_of-to.ensures.beyond t (subst (λ (z : List Pair). Contains z t) rest m))
