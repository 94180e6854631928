-- the point of the two numbers is the given one
use Rattle.std.proofs.Common.{◌≡◌, ℤ, to_z, of_z, inr, refl, subst}
use Rattle.std.proofs.lemmas.Int.{to_z-of_z}
use mir.Syntax.{w64}
use Rattle.lattice.specs.Plane.{Pair}
use Rattle.bucket_tree.specs.Roots.{points_of_root}
use Rattle.bucket_tree.specs.Sets.{LimitedTree}
use Rattle.hull_reply.specs.Coordinates.{AreCoordinates}
use Rattle.hull_reply.specs.declared.reply.HullReply.{HullReply}
use Rattle.hull_c.specs.NearestHeld.{EncodesNearestHeld}
use Rattle.hull_c.proofs.nearest_held.find.Goals as goal

-- the two numbers are a point, and the reply has the nearest one to it
abbrev IsFound : LimitedTree → HullReply → ℤ → ℤ → Type 0
IsFound t r x y = AreCoordinates x y × EncodesNearestHeld (points_of_root t.root) (record { x = x; y = y }) r

pub returns-in-Ok : goal.returns-in-Ok
returns-in-Ok c =
    let x : ℤ = to_z w64 (of_z w64 c.args.x) in
    let y : ℤ = to_z w64 (of_z w64 c.args.y) in
    let ex : x ≡ c.args.x = to_z-of_z w64 c.args.x c.ranges.x in
    let ey : y ≡ c.args.y = to_z-of_z w64 c.args.y c.ranges.y in
    let found : IsFound c.args.hull.now c.find_from.result x y = (
      c.in-Ok.ensures.0,
      subst (λ (z : Pair). EncodesNearestHeld (points_of_root c.args.hull.now.root) z c.find_from.result) c.in-Ok.ensures.1
          c.find_from.ensures,
    ) in (
      refl,
      inr (subst (λ (z : ℤ). IsFound c.args.hull.now c.find_from.result z c.args.y) ex
          (subst (λ (z : ℤ). IsFound c.args.hull.now c.find_from.result x z) ey found)),
    )
