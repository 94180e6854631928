-- the chains have no more points than the set, so no sum is too large
use Rattle.std.proofs.Common.{◌≡◌, pos, ap, subst, List, arith}
use Rattle.std.specs.Map.{keys_of}
use Rattle.lattice.specs.Plane.{Pair}
use Rattle.lattice.specs.Vertices.{IsDoubledArea}
use Rattle.hull_plain.specs.Sets.{LimitedSet}
use Rattle.lattice.specs.declared.side.Side.TheVariants.{Lower, Upper}
use Rattle.hull_plain.proofs.PlainSets.{chain_few}
use Rattle.hull_plain.proofs.plain_set.PlainSetHullSet.area2.Goals as goal

pub area2-requires-clause-few_below : goal.area2-requires-clause-few_below
area2-requires-clause-few_below c =
    let few = chain_few Lower (keys_of c.self.inside.points.entries) c.self.inside.hull_chains.lower.items
    c.self.invariant.hull_chains.chains.below in
    omega (arith, few, c.self.invariant.high, c.self.invariant.few)

pub area2-requires-clause-few_above : goal.area2-requires-clause-few_above
area2-requires-clause-few_above c =
    let few = chain_few Upper (keys_of c.self.inside.points.entries) c.self.inside.hull_chains.upper.items
    c.self.invariant.hull_chains.chains.above in
    omega (arith, few, c.self.invariant.high, c.self.invariant.few)

pub returns : goal.returns
returns c =
    let v : keys_of c.self.inside.points.entries ≡ keys_of c.args.self.now.entries =
    ap (λ (z : LimitedSet). keys_of z.entries) c.self.view_is in
    subst (λ (z : List Pair). IsDoubledArea z (pos c.area2.result)) v
    (c.area2.ensures (keys_of c.self.inside.points.entries) c.self.invariant.in_order c.self.invariant.hull_chains)
