-- the direction faces the upper chain if it goes up, and else the lower one
use Rattle.std.proofs.Common.{rules, sym, subst, pos, ◌<ℤ◌, ◌≤ℤ◌}
use Rattle.lattice.specs.declared.side.Side.TheVariants.{Lower, Upper}
use Rattle.hull_geometry.specs.Monotone.{AreChainsOf}
use Rattle.hull_plain.specs.Growth.{Chains}
use Rattle.hull_plain.proofs.growing_hull.GrowingHull.extreme.Goals as goal

pub returns-then-y-gt0 : goal.returns-then-y-gt0
returns-then-y-gt0 c = λ S k.
    let up : pos 0 <ℤ c.args.d.y = search (rules, c.y.ensures.value, c.y.ensures.range, c.if-y-gt0.true) in
    c.extreme_of.ensures Upper S up (subst (λ (h : Chains). AreChainsOf S h.lower h.upper) (sym c.self.view_is) k.1).above

pub returns-else-y-gt0 : goal.returns-else-y-gt0
returns-else-y-gt0 c = λ S k.
    let down : c.args.d.y ≤ℤ pos 0 = search (rules, c.y.ensures.value, c.y.ensures.range, c.if-y-gt0.false) in
    c.extreme_of-else-y-gt0.ensures Lower S down
    (subst (λ (h : Chains). AreChainsOf S h.lower h.upper) (sym c.self.view_is) k.1).below
