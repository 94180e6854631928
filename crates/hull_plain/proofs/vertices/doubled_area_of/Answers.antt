-- the two fans are all triangles between the first point and the edges
use Rattle.hull_geometry.proofs.TwoChains.{fans_area}
use Rattle.hull_plain.proofs.vertices.doubled_area_of.Goals as goal

pub doubled_fan-requires-clause-chain : goal.doubled_fan-requires-clause-chain
doubled_fan-requires-clause-chain c = (c.requires.chains.0, c.requires.chains.1.below)

pub doubled_fan-requires-2-clause-chain : goal.doubled_fan-requires-2-clause-chain
doubled_fan-requires-2-clause-chain c = (c.requires.chains.0, c.requires.chains.1.above)

pub returns : goal.returns
returns c = λ S s k.
    fans_area S c.args.lower.now.items c.args.upper.now.items c.doubled_fan.result c.doubled_fan-2.result s k
    c.doubled_fan.ensures.fan c.doubled_fan-2.ensures.fan
