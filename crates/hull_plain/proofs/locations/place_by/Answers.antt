-- the location determines the place; empty chains cover nothing
use Rattle.std.proofs.Common.{rules, ap, ◌≡◌, ◌<◌, List, length}
use Rattle.lattice.specs.Plane.{Pair}
use Rattle.lattice.specs.declared.side.Side.TheVariants.{Lower}
use Rattle.hull_geometry.proofs.EdgesAt.{outside_nothing}
use Rattle.hull_geometry.proofs.ChainPlaces.{none_of, are_ends}
use Rattle.hull_plain.proofs.locations.place_by.Goals as goal

pub returns-then-is_empty : goal.returns-then-is_empty
returns-then-is_empty c = λ S k.
    let none : length c.args.lower.now.items ≡ 0 = search (rules, c.is_empty.ensures, c.if-is_empty.true) in
    outside_nothing S c.args.q (ap (λ (z : List Pair). length z) (none_of Lower S c.args.lower.now.items k.below none))

pub returns : goal.returns
returns c = λ S k.
    let some : 0 < length c.args.lower.now.items = search (rules, c.is_empty.ensures, c.if-is_empty.false) in
    c.of_location.ensures _ _ S c.args.q (are_ends Lower S c.args.lower.now.items k.below some) (c.look_from_lower.ensures S k)
