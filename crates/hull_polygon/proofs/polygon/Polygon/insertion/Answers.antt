-- the location of the point says whether the hull covers it, and which chain it changes
use Rattle.std.proofs.Common.{◌<◌, length, arith, ap, inl, inr}
use Rattle.lattice.specs.Covers.{Covers}
use Rattle.hull_geometry.proofs.EdgesAt.{outside_nothing}
use Rattle.hull_polygon.proofs.Ends.{no_vertices}
use Rattle.hull_polygon.proofs.Made.{separated_is_polygon}
use Rattle.hull_polygon.proofs.PutBetween.{amid_none, before_all_vertices, after_all_vertices}
use Rattle.hull_polygon.proofs.Staying.{stay_with}
use Rattle.hull_polygon.proofs.polygon.Polygon.insertion.Goals as goal

pub returns-then-is_empty-clause-insertion : goal.returns-then-is_empty-clause-insertion
returns-then-is_empty-clause-insertion c = λ S o. (
  outside_nothing S c.args.p (ap length (no_vertices S c.args.self.now.vertices.now o
      (grind (arith, c.is_empty.ensures, c.if-is_empty.true)))),
  amid_none c.args.self.now.vertices.now c.args.p (grind (arith, c.is_empty.ensures, c.if-is_empty.true)),
)

pub gap_on-requires-clause-amid : goal.gap_on-requires-clause-amid
gap_on-requires-clause-amid c =
    let some = separated_is_polygon c.args.self.now.vertices.now c.args.self.now.last c.args.self.now.separated in
    (rw c.in-Below.is at (c.look.ensures some.0 some.1)).0

pub gap_on-requires-clause-outwards : goal.gap_on-requires-clause-outwards
gap_on-requires-clause-outwards c = λ S o. (rw c.in-Below.is at (c.look.ensures S o)).1

pub gap_on-requires-in-Above-clause-amid : goal.gap_on-requires-in-Above-clause-amid
gap_on-requires-in-Above-clause-amid c =
    let some = separated_is_polygon c.args.self.now.vertices.now c.args.self.now.last c.args.self.now.separated in
    (rw c.in-Above.is at (c.look.ensures some.0 some.1)).0

pub gap_on-requires-in-Above-clause-outwards : goal.gap_on-requires-in-Above-clause-outwards
gap_on-requires-in-Above-clause-outwards c = λ S o. (rw c.in-Above.is at (c.look.ensures S o)).1

pub returns-in-Touching-clause-insertion : goal.returns-in-Touching-clause-insertion
returns-in-Touching-clause-insertion c = λ S o.
    let k : Covers S c.args.p = elim c.in-Touching.is [
      | inl e ↦ (rw e at (c.look.ensures S o)).0
      | inr e ↦ (rw e at (c.look.ensures S o)).0
    ] in
    (k, stay_with S c.args.self.now.vertices.now c.args.self.now.last c.args.p o c.args.self.now.separated k)

pub returns-in-Before-clause-insertion : goal.returns-in-Before-clause-insertion
returns-in-Before-clause-insertion c = λ S o.
    let some : 0 < length c.args.self.now.vertices.now = grind (arith, c.is_empty.ensures, c.if-is_empty.false) in
    elim c.in-Before.is [
      | inl e ↦ before_all_vertices S c.args.self.now.vertices.now c.args.self.now.last c.args.p o
          c.args.self.now.separated some (rw e at (c.look.ensures S o))
      | inr e ↦ after_all_vertices S c.args.self.now.vertices.now c.args.self.now.last c.args.p o
          c.args.self.now.separated some (rw e at (c.look.ensures S o))
    ]
