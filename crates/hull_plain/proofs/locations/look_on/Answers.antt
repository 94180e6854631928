-- a point of the chain is on the boundary
use Rattle.std.proofs.Common.{subst}
use Rattle.hull_geometry.specs.Positions.{IsPositionOf}
use Rattle.hull_plain.proofs.Looks.{on_chain}
use Rattle.hull_plain.proofs.locations.look_on.Goals as goal

pub returns-in-Ok : goal.returns-in-Ok
returns-in-Ok c = λ S k.
    on_chain c.args.side S c.args.chain.now.items c.args.q c.in-Ok.field-0
    (subst (IsPositionOf c.args.chain.now.items c.args.q) c.in-Ok.is c.requires) k
