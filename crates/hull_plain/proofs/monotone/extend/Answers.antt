-- if the chain bends and none of its points has to stay, the result is that of a pass
use Rattle.std.proofs.Common.{refl}
use Rattle.hull_geometry.proofs.Passes.{passed_of}
use Rattle.hull_plain.proofs.monotone.extend.Goals as goal

pub returns-clause-passed : goal.returns-clause-passed
returns-clause-passed c =
    passed_of c.args.side _ _ c.extend_behind.ensures.thinned (c.extend_behind.ensures.convex refl c.requires.convex)
