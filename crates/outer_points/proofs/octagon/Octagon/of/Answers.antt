-- each vertex was read at an index of a point
use Rattle.std.proofs.Common.{List, [], ◌∷◌, zero, suc, arith, sym}
use Rattle.std.specs.List.{All, Contains}
use Rattle.lattice.specs.Plane.{Pair}
use Rattle.lattice.specs.declared.side.Side.TheVariants.{Lower, Upper}
use Rattle.outer_points.proofs.octagon.Octagon.of.Goals as goal

-- five members are members
five : (S : List Pair) (a b c d e : Pair) → Contains S a → Contains S b → Contains S c → Contains S d → Contains S e
    → All (Contains S) (a ∷ b ∷ c ∷ d ∷ e ∷ [])
five S a b c d e ma mb mc md me zero t l = ma
five S a b c d e ma mb mc md me (suc zero) t l = mb
five S a b c d e ma mb mc md me (suc (suc zero)) t l = mc
five S a b c d e ma mb mc md me (suc (suc (suc zero))) t l = md
five S a b c d e ma mb mc md me (suc (suc (suc (suc zero)))) t l = me
five S a b c d e ma mb mc md me (suc (suc (suc (suc (suc k))))) t l = absurd (omega (arith, l))

pub returns : goal.returns
returns c Lower =
    five c.args.points.now c.index-points-e.result c.index-points-e-3.result c.index-points-e-4.result
    c.index-points-e-5.result c.index-points-e-2.result
    (c.of-e.result.first, omega arith, sym c.index-points-e.is)
    (c.of-e.result.low_left.at, omega arith, sym c.index-points-e-3.is)
    (c.of-e.result.low.at, omega arith, sym c.index-points-e-4.is)
    (c.of-e.result.low_right.at, omega arith, sym c.index-points-e-5.is)
    (c.of-e.result.last, omega arith, sym c.index-points-e-2.is)
returns c Upper =
    five c.args.points.now c.index-points-e.result c.index-points-e-6.result c.index-points-e-7.result
    c.index-points-e-8.result c.index-points-e-2.result
    (c.of-e.result.first, omega arith, sym c.index-points-e.is)
    (c.of-e.result.high_left.at, omega arith, sym c.index-points-e-6.is)
    (c.of-e.result.high.at, omega arith, sym c.index-points-e-7.is)
    (c.of-e.result.high_right.at, omega arith, sym c.index-points-e-8.is)
    (c.of-e.result.last, omega arith, sym c.index-points-e-2.is)
