-- each vertex is translated
use Rattle.std.proofs.Common.{◌≡◌, ℤ, to_z, of_z, w64, inr, refl, subst, arith}
use Rattle.std.proofs.lemmas.Int.{ints}
use Rattle.polygon_arrays.specs.Moved.{EncodesTranslated}
use Rattle.polygon_arrays.proofs.translated.translate_in_place.Goals as goal

pub returns : goal.returns
returns c =
    let Says : ℤ → ℤ → Type 0 = λ dx dy. EncodesTranslated c.args.vertices.now dx dy c.args.vertices.now c.move_all.new.points c.written.result in
    let x : to_z w64 (of_z w64 c.args.dx) ≡ c.args.dx = omega (arith, ints) in
    let y : to_z w64 (of_z w64 c.args.dy) ≡ c.args.dy = omega (arith, ints) in
    subst (λ (z : ℤ). Says z c.args.dy) x (subst (Says (to_z w64 (of_z w64 c.args.dx))) y
    (inr (c.if-not-are_in_range_after.ensures.0 refl, c.move_all.ensures, c.written.ensures)))
