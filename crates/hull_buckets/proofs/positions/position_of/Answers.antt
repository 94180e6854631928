-- the point after those before p is p, or is after p; in that case p is not in the list
use Rattle.std.proofs.Common.{List, refl, sym, subst, arith}
use Rattle.std.proofs.lemmas.Bool.{false≢true}
use Rattle.std.specs.List.{All}
use Rattle.lattice.specs.Plane.{Pair, IsBefore}
use Rattle.hull_geometry.proofs.FoundPositions.{place_before, place_found}
use Rattle.hull_geometry.proofs.PointLists.{none_from}
use Rattle.hull_buckets.proofs.positions.position_of.Goals as goal

pub returns-then-i-points : goal.returns-then-i-points
returns-then-i-points c = (
  c.first_not_before-i.ensures.within,
  c.first_not_before-i.ensures.below,
  subst (λ (z : List Pair). All (IsBefore c.args.p) z)
      (sym (none_from c.first_not_before-i.result c.args.points.now (omega (arith, c.if-i-points.true))))
      (λ k d l. absurd (omega (arith, l))),
)

pub returns-then-before : goal.returns-then-before
returns-then-before c =
    place_before c.args.points.now c.args.p c.first_not_before-i.result c.index-points-i.result c.requires.ordered
    (omega (arith, c.first_not_before-i.ensures.within, c.if-i-points.false)) c.first_not_before-i.ensures.below
    c.first_not_before-i.ensures.rest c.index-points-i.is (c.if-before.ensures.0 refl)

pub returns : goal.returns
returns c =
    place_found c.args.points.now c.args.p c.first_not_before-i.result c.index-points-i.result
    (omega (arith, c.first_not_before-i.ensures.within, c.if-i-points.false)) c.first_not_before-i.ensures.below
    c.first_not_before-i.ensures.rest c.index-points-i.is (λ k. false≢true (c.if-before.ensures.1 k))
