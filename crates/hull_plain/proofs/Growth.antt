-- A hull that grows by a point.
use Rattle.std.proofs.Common.{◌≤◌, ◌+◌, sym, subst, List, ℕ, arith, length, inl, inr, Ok}
use Rattle.std.specs.List.{Contains}
use Rattle.lattice.specs.Covers.{with_point}
use Rattle.lattice.specs.Plane.{Pair}
use Rattle.lattice.specs.declared.side.Side.{Side}
use Rattle.hull_geometry.specs.Monotone.{IsChainOf, IsStrict, IsInner}
use Rattle.hull_geometry.specs.Positions.{IsPositionOf}
use Rattle.hull_geometry.proofs.Passes.{member_inner}
use Rattle.hull_geometry.proofs.SetLaws.{members_with}
use Rattle.hull_plain.proofs.PlainSets.{chain_few, length_with}

-- a point that is found in a list is in it
pub found_member : (S : List Pair) (p : Pair) (i : ℕ) → IsPositionOf S p (Ok i) → Contains S p
found_member S p i at = (i, at.0, at.1 p)

-- the chain of a set is that of the set with a point that is inner to it
pub chain_with_inner : (side : Side) (S chain : List Pair) (p : Pair) → IsInner side chain p → IsChainOf side S chain
    → IsChainOf side (with_point p S) chain
chain_with_inner side S chain p inner c = record {
  strict = c.strict;
  among = λ t m. (members_with p t S).1 (inr (c.among t m));
  inner = λ u m. elim ((members_with p u S).0 m) [
    | inl e ↦ subst (IsInner side chain) (sym e) inner
    | inr here ↦ c.inner u here
  ];
}

-- a strict chain is its own
pub own_chain : (side : Side) (chain : List Pair) → IsStrict side chain → IsChainOf side chain chain
own_chain side chain strict = record { strict = strict; among = λ t m. m; inner = λ u m. member_inner side chain u m }

-- a chain that has grown by a point, whatever its set, has at most one vertex more
pub grown_few : (side : Side) (old new : List Pair) (p : Pair) → IsStrict side old
    → ((S : List Pair) → IsChainOf side S old → IsChainOf side (with_point p S) new) → length new ≤ length old + 1
grown_few side old new p strict grows =
    omega (arith, chain_few side (with_point p old) new (grows old (own_chain side old strict)), length_with p old)
