-- the chain has the point, or the point is put in
use Rattle.std.proofs.Common.{subst}
use Rattle.hull_geometry.specs.Positions.{IsPositionOf}
use Rattle.hull_geometry.proofs.Passes.{member_inner}
use Rattle.hull_plain.proofs.Growth.{found_member, chain_with_inner, grown_few}
use Rattle.hull_plain.proofs.growing_hull.grow.Goals as goal

pub returns-in_default-clause-chain : goal.returns-in_default-clause-chain
returns-in_default-clause-chain c = λ S k.
    chain_with_inner c.args.side S c.args.chain.now.items c.args.p
    (member_inner c.args.side c.args.chain.now.items c.args.p
    (found_member c.args.chain.now.items c.args.p c.in_default.field-0
    (subst (IsPositionOf c.args.chain.now.items c.args.p) c.in_default.is c.requires.position))) k

pub returns-clause-few : goal.returns-clause-few
returns-clause-few c =
    grown_few c.args.side c.args.chain.now.items c.put_in_at.new.chain.items c.args.p c.requires.strict c.put_in_at.ensures.chain
