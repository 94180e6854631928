-- the sides of the two points determine the relation of the set to the segment
use Rattle.std.proofs.Common.{◌≡◌, pos, ◌<ℤ◌, inl, inr, arith}
use Rattle.std.proofs.lemmas.Int.{ints}
use Rattle.lattice.specs.Plane.{Pair, orient}
use Rattle.lattice.specs.Signs.{le_or_lt}
use Rattle.hull_polygon.proofs.Shields.{side_back, shielded_across}
use Rattle.lattice.proofs.LineCrossings.{orient_other}
use Rattle.lattice.proofs.Tests.{passed, failed}
use Rattle.lattice.proofs.Numbers.{not_less}
use Rattle.hull_polygon.proofs.encounters.encounter_between.Goals as goal

-- a point on neither side is on the line
on_line : (a b t : Pair) → ¬ (pos 0 <ℤ orient b a t) → ¬ (pos 0 <ℤ orient a b t) → orient a b t ≡ pos 0
on_line a b t m n = elim (le_or_lt (orient a b t) (pos 0)) [
  | inr h ↦ absurd (n h)
  | inl h ↦ elim (le_or_lt (orient b a t) (pos 0))
      [ inr k ↦ absurd (m k) | inl k ↦ (omega (arith, ints, orient_other a b t)) ]
]

pub returns-then-is_left : goal.returns-then-is_left
returns-then-is_left c = λ S f.
    (f.leftmost, side_back c.args.b c.args.a c.args.left (passed _ _ c.if-is_left.true c.is_left.ensures))

pub returns-then-is_left-2 : goal.returns-then-is_left-2
returns-then-is_left-2 c = λ S f. (
  f.rightmost,
  side_back c.args.a c.args.b c.args.right
      (passed _ _ c.if-is_left-2.true c.is_left-else-is_left.ensures),
)

pub returns-then-not-is_left : goal.returns-then-not-is_left
returns-then-not-is_left c = λ S f.
    c.encounter_in_line.ensures S f.leftmost.0 f.start f.end
    (on_line c.args.a c.args.b c.args.left (failed _ _ c.if-is_left.false c.is_left.ensures)
    (failed _ _ c.if-not-is_left.true c.is_left-else-is_left-2.ensures))

pub returns-then-not-is_left-2 : goal.returns-then-not-is_left-2
returns-then-not-is_left-2 c = λ S f.
    c.encounter_in_line-then-not-is_left-2.ensures S f.rightmost.0 f.start f.end
    (on_line c.args.a c.args.b c.args.right (failed _ _ c.if-not-is_left-2.true c.is_left-else-not-is_left.ensures)
    (failed _ _ c.if-is_left-2.false c.is_left-else-is_left.ensures))

pub returns-then-is_left-3 : goal.returns-then-is_left-3
returns-then-is_left-3 c = λ S f.
    shielded_across S c.args.b c.args.a c.args.right c.args.left f.rightmost.0 f.leftmost.0 f.end
    (passed _ _ c.if-not-is_left-2.false c.is_left-else-not-is_left.ensures)
    (passed _ _ c.if-not-is_left.false c.is_left-else-is_left-2.ensures)
    (passed _ _ c.if-is_left-3.true c.is_left-else-not-is_left-2.ensures)

pub returns-then-is_left-4 : goal.returns-then-is_left-4
returns-then-is_left-4 c = λ S f.
    shielded_across S c.args.a c.args.b c.args.left c.args.right f.leftmost.0 f.rightmost.0 f.start
    (passed _ _ c.if-not-is_left.false c.is_left-else-is_left-2.ensures)
    (passed _ _ c.if-not-is_left-2.false c.is_left-else-not-is_left.ensures)
    (passed _ _ c.if-is_left-4.true c.is_left-else-is_left-3.ensures)

pub meeting_between-requires-clause-left_of_it : goal.meeting_between-requires-clause-left_of_it
meeting_between-requires-clause-left_of_it c = passed _ _ c.if-not-is_left.false c.is_left-else-is_left-2.ensures

pub meeting_between-requires-clause-right_of_it : goal.meeting_between-requires-clause-right_of_it
meeting_between-requires-clause-right_of_it c = passed _ _ c.if-not-is_left-2.false c.is_left-else-not-is_left.ensures

pub meeting_between-requires-clause-start : goal.meeting_between-requires-clause-start
meeting_between-requires-clause-start c = not_less (pos 0) _ (failed _ _ c.if-is_left-4.false c.is_left-else-is_left-3.ensures)

pub meeting_between-requires-clause-end : goal.meeting_between-requires-clause-end
meeting_between-requires-clause-end c =
    not_less (pos 0) _ (failed _ _ c.if-is_left-3.false c.is_left-else-not-is_left-2.ensures)

pub returns-else-is_left-4 : goal.returns-else-is_left-4
returns-else-is_left-4 c = λ S f. c.meeting_between.ensures S f.leftmost.0 f.rightmost.0
