-- a point that is not at that index is nowhere in the part
use Rattle.std.proofs.Common.{ℕ, ◌<◌, ◌≢◌, ◌∙◌, sym, arith}
use Rattle.std.proofs.lemmas.Bool.{false≢true}
use Rattle.hull_geometry.specs.Positions.{origin, point_at}
use Rattle.hull_geometry.proofs.PointLists.{get_or_free}
use Rattle.polygon_arrays.proofs.Chains.{not_there}
use Rattle.polygon_arrays.proofs.indices.index_on.Goals.{else-place-to-via-then-place-to+else-is_same, else-place-to-via-else-place-to}
use Rattle.polygon_arrays.proofs.indices.index_on.Goals as goal

pub returns-else-place-to : goal.returns-else-place-to
returns-else-place-to c =
    let k : ℕ = c.first_not_before-place.result in
    let other : k < c.args.to → point_at c.args.vertices.now k ≢ c.args.p = λ l e. elim c.else-place-to.branch [
      | else-place-to-via-then-place-to+else-is_same w ↦
          false≢true (sym w.if-is_same.false ∙ w.is_same.ensures.1 (w.of.ensures ∙ w.index-vertices-place.is
          ∙ get_or_free c.args.vertices.now k w.index-vertices-place.result origin (omega (arith, l, c.requires.within)) ∙ e))
      | else-place-to-via-else-place-to w ↦ omega (arith, l, w.if-place-to.false)
    ] in
    not_there c.args.side c.args.vertices.now c.args.from c.args.to k c.args.p c.requires.chain
    c.first_not_before-place.ensures.within.0 c.first_not_before-place.ensures.before c.first_not_before-place.ensures.rest other
