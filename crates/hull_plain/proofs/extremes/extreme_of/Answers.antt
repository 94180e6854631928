-- an empty chain has no points
use Rattle.std.proofs.Common.{rules, ◌≡◌, length}
use Rattle.hull_geometry.proofs.ChainPlaces.{none_of}
use Rattle.hull_plain.proofs.extremes.extreme_of.Goals as goal

pub returns-then-is_empty : goal.returns-then-is_empty
returns-then-is_empty c = λ side S faces k.
    let none : length c.args.chain.now.items ≡ 0 = search (rules, c.is_empty.ensures, c.if-is_empty.true) in
    none_of side S c.args.chain.now.items k none
