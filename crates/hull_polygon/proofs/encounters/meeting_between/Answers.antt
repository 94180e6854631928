-- an end on the line of the two points is covered; if neither is, the segments cross
use Rattle.std.proofs.Common.{◌≡◌, ℤ, pos, neg_ℤ, ◌≤ℤ◌, ◌<ℤ◌, inl, inr, arith}
use Rattle.std.proofs.lemmas.Int.{ints}
use Rattle.lattice.specs.Covers.{OnSegment}
use Rattle.lattice.specs.Signs.{le_or_lt}
use Rattle.hull_polygon.proofs.Shields.{side_back, start_on, start_there, end_there}
use Rattle.lattice.proofs.LineCrossings.{orient_other}
use Rattle.lattice.proofs.Tests.{passed, failed}
use Rattle.hull_polygon.proofs.encounters.meeting_between.Goals as goal

-- a number that is not above 0, and whose opposite is not, is 0
nothing : (x y : ℤ) → y ≡ neg_ℤ x → ¬ (pos 0 <ℤ x) → y ≤ℤ pos 0 → x ≡ pos 0
nothing x y e n h = elim (le_or_lt x (pos 0)) [ inl k ↦ omega (arith, ints) | inr k ↦ absurd (n k) ]

pub returns-then-not-is_left : goal.returns-then-not-is_left
returns-then-not-is_left c = λ S ml mr.
    let a = c.args.a in
    let b = c.args.b in
    let left = c.args.left in
    let right = c.args.right in (
      start_there a b,
      OnSegment left right ml mr (start_on a b left right c.requires.left_of_it
          (side_back b a right c.requires.right_of_it)
          (nothing _ _ (orient_other right left a) (failed _ _ c.if-not-is_left.true c.is_left.ensures)
          c.requires.start)),
    )

pub returns-then-not-is_left-2 : goal.returns-then-not-is_left-2
returns-then-not-is_left-2 c = λ S ml mr.
    let a = c.args.a in
    let b = c.args.b in
    let left = c.args.left in
    let right = c.args.right in (
      end_there a b,
      OnSegment right left mr ml (start_on b a right left c.requires.right_of_it
          (side_back a b left c.requires.left_of_it)
          (nothing _ _ (orient_other left right b)
          (failed _ _ c.if-not-is_left-2.true c.is_left-else-not-is_left.ensures) c.requires.end)),
    )

pub returns-else-not-is_left-2 : goal.returns-else-not-is_left-2
returns-else-not-is_left-2 c = λ S ml mr.
    let a = c.args.a in
    let b = c.args.b in
    let left = c.args.left in
    let right = c.args.right in (
      ml,
      mr,
      start_there a b,
      end_there a b,
      (
        side_back right left a (passed _ _ c.if-not-is_left.false c.is_left.ensures),
        passed _ _ c.if-not-is_left-2.false c.is_left-else-not-is_left.ensures,
        c.requires.left_of_it,
        side_back b a right c.requires.right_of_it,
      ),
    )
