-- the points of a block that are not translated yet are in range after
use Rattle.std.proofs.Common.{◌≡◌, ℕ, ℤ, ◌*◌, ◌<◌, ◌≤◌, List, length, to_z, of_z, w64, subst, sym, arith}
use Rattle.std.proofs.lemmas.Int.{ints}
use Rattle.lattice.specs.Plane.{Pair, IsInRange}
use Rattle.hull_geometry.specs.Positions.{origin, point_at}
use Rattle.motions.specs.Motions.{translated, AllMoveInRange}
use Rattle.motions.specs.declared.motion.Motion.TheVariants.{Translation}
use Rattle.polygon_arrays.specs.Moved.{IsTranslatedUpTo}
use Rattle.polygon_arrays.proofs.Maps.{same_from}
use Rattle.polygon_arrays.proofs.translated.move_all.Goals as goal

-- a point that is as it was is in range after the translation
kept : (dx dy : ℤ) (old now : List Pair) (n : ℕ) → AllMoveInRange (Translation dx dy) old → IsTranslatedUpTo dx dy n old now
    → (i : ℕ) → n ≤ i → i < length now → IsInRange (translated dx dy (point_at now i))
kept dx dy old now n a h i l m =
    subst (λ (z : Pair). IsInRange (translated dx dy z)) (sym (same_from now old n i l h.rest))
    (a i origin (omega (arith, m, h.long)))

-- what holds of two numbers holds of equal ones
renamed : (dx dy ex ey : ℤ) (points : List Pair) → dx ≡ ex → dy ≡ ey → AllMoveInRange (Translation dx dy) points
    → AllMoveInRange (Translation ex ey) points
renamed dx dy ex ey points x y a =
    subst (λ (z : ℤ). AllMoveInRange (Translation z ey) points) x (subst (λ (z : ℤ). AllMoveInRange (Translation dx z) points) y a)

pub move_some-requires-clause-kept : goal.move_some-requires-clause-kept
move_some-requires-clause-kept c = λ i l m.
    let x : c.args.dx ≡ to_z w64 (of_z w64 c.args.dx) = omega (arith, ints) in
    let y : c.args.dy ≡ to_z w64 (of_z w64 c.args.dy) = omega (arith, ints) in
    kept _ _ c.args.points.now c.loop-i.points (c.loop-i.i * 8) (renamed _ _ _ _ c.args.points.now x y c.requires) c.loop-i.invariant i l
    (omega (arith, m, c.loop-i-test.true, c.loop-i.invariant.long))

pub move_some-requires-2-clause-kept : goal.move_some-requires-2-clause-kept
move_some-requires-2-clause-kept c = λ i l m.
    let x : c.args.dx ≡ to_z w64 (of_z w64 c.args.dx) = omega (arith, ints) in
    let y : c.args.dy ≡ to_z w64 (of_z w64 c.args.dy) = omega (arith, ints) in
    kept _ _ c.args.points.now c.loop-i.points (c.loop-i.i * 8) (renamed _ _ _ _ c.args.points.now x y c.requires) c.loop-i.invariant i
    (omega (arith, l, c.loop-i.auto.i-end)) m
