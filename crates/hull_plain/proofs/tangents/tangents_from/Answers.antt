-- the tangents touch the chains that the location determines; empty chains cover nothing
use Rattle.std.proofs.Common.{inl, inr, rules, ◌≡◌, ◌<◌, length}
use Rattle.lattice.specs.declared.side.Side.TheVariants.{Lower}
use Rattle.hull_geometry.proofs.ChainPlaces.{none_of, are_ends}
use Rattle.hull_plain.proofs.tangents.tangents_from.Goals as goal

pub returns-then-is_empty : goal.returns-then-is_empty
returns-then-is_empty c = λ S k.
    let none : length c.args.lower.now.items ≡ 0 = search (rules, c.is_empty.ensures, c.if-is_empty.true) in
    inl (none_of Lower S c.args.lower.now.items k.below none)

pub returns-in_default : goal.returns-in_default
returns-in_default c = λ S k.
    let some : 0 < length c.args.lower.now.items = search (rules, c.is_empty.ensures, c.if-is_empty.false) in
    inr (c.in_default.ensures _ _ S c.args.q (are_ends Lower S c.args.lower.now.items k.below some) (c.look.ensures S k))

pub tangent_on-requires-clause-inwards : goal.tangent_on-requires-clause-inwards
tangent_on-requires-clause-inwards c =
    let (S, k) = c.requires in
    let some : 0 < length c.args.lower.now.items = search (rules, c.is_empty.ensures, c.if-is_empty.false) in
    (c.in-Some.ensures _ _ S c.args.q (are_ends Lower S c.args.lower.now.items k.below some) (c.look.ensures S k)).1.1

pub tangent_on-requires-2-clause-inwards : goal.tangent_on-requires-2-clause-inwards
tangent_on-requires-2-clause-inwards c =
    let (S, k) = c.requires in
    let some : 0 < length c.args.lower.now.items = search (rules, c.is_empty.ensures, c.if-is_empty.false) in
    (c.in-Some.ensures _ _ S c.args.q (are_ends Lower S c.args.lower.now.items k.below some) (c.look.ensures S k)).2.1

pub returns : goal.returns
returns c = λ S k.
    let some : 0 < length c.args.lower.now.items = search (rules, c.is_empty.ensures, c.if-is_empty.false) in
    let touched = c.in-Some.ensures _ _ S c.args.q (are_ends Lower S c.args.lower.now.items k.below some)
    (c.look.ensures S k) in
    (touched.0, c.tangent_on.ensures S k touched.1.0, c.tangent_on-2.ensures S k touched.2.0)
