-- each tangent touches its chain at a point before q or after it
use Rattle.lattice.specs.declared.side.Side.TheVariants.{Lower, Upper}
use Rattle.hull_geometry.proofs.EdgesAt.{up_to, on_from}
use Rattle.hull_geometry.proofs.ChainPlaces.{are_ends, other_chain}
use Rattle.hull_plain.proofs.tangents.tangent_on.Goals as goal

pub tangent_ahead-requires-clause-some : goal.tangent_ahead-requires-clause-some
tangent_ahead-requires-clause-some c =
    let (S, k) = c.requires.chains in
    other_chain Lower Upper S c.args.lower.now.items c.args.upper.now.items k.below k.above c.requires.some

pub tangent_ahead-requires-clause-before : goal.tangent_ahead-requires-clause-before
tangent_ahead-requires-clause-before c =
    let (S, k) = c.requires.chains in
    let some = other_chain Lower Upper S c.args.lower.now.items c.args.upper.now.items k.below k.above c.requires.some in
    on_from c.args.q _ _ (rw (c.in-Left-Upper.is-0, c.in-Left-Upper.is-1) at c.requires.inwards)
    ((are_ends Upper S c.args.upper.now.items k.above some).1.1 _
    (are_ends Lower S c.args.lower.now.items k.below c.requires.some).1.0)

pub tangent_behind-requires-in-Right-Upper-clause-some : goal.tangent_behind-requires-in-Right-Upper-clause-some
tangent_behind-requires-in-Right-Upper-clause-some c =
    let (S, k) = c.requires.chains in
    other_chain Lower Upper S c.args.lower.now.items c.args.upper.now.items k.below k.above c.requires.some

pub tangent_behind-requires-in-Right-Upper-clause-after : goal.tangent_behind-requires-in-Right-Upper-clause-after
tangent_behind-requires-in-Right-Upper-clause-after c =
    let (S, k) = c.requires.chains in
    let some = other_chain Lower Upper S c.args.lower.now.items c.args.upper.now.items k.below k.above c.requires.some in
    up_to _ _ c.args.q ((are_ends Upper S c.args.upper.now.items k.above some).0.1 _
    (are_ends Lower S c.args.lower.now.items k.below c.requires.some).0.0)
    (rw (c.in-Right-Upper.is-0, c.in-Right-Upper.is-1) at c.requires.inwards)

pub returns-in-Left-Lower : goal.returns-in-Left-Lower
returns-in-Left-Lower c = λ S k clear.
    rw c.in-Left-Lower.is-0 (c.tangent_behind.ensures S k.below (rw c.in-Left-Lower.is-1 at clear))

pub returns-in-Left-Upper : goal.returns-in-Left-Upper
returns-in-Left-Upper c = λ S k clear.
    rw c.in-Left-Upper.is-0 (c.tangent_ahead.ensures S k.above (rw c.in-Left-Upper.is-1 at clear))

pub returns-in-Right-Lower : goal.returns-in-Right-Lower
returns-in-Right-Lower c = λ S k clear.
    rw c.in-Right-Lower.is-0 (c.tangent_ahead-in-Right-Lower.ensures S k.below (rw c.in-Right-Lower.is-1 at clear))

pub returns-in-Right-Upper : goal.returns-in-Right-Upper
returns-in-Right-Upper c = λ S k clear.
    rw c.in-Right-Upper.is-0 (c.tangent_behind-in-Right-Upper.ensures S k.above (rw c.in-Right-Upper.is-1 at clear))
