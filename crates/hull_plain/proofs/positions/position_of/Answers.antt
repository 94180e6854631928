-- the point after those before p is p, or is after it; then p is not in the list
use Rattle.std.proofs.Common.{◌≡◌, ◌-◌, ℕ, List, take, refl, sym, subst, arith}
use Rattle.std.proofs.lemmas.Bool.{false≢true}
use Rattle.std.specs.List.{All}
use Rattle.lattice.specs.Plane.{Pair, IsBefore}
use Rattle.hull_geometry.proofs.FoundPositions.{place_before, place_found}
use Rattle.hull_geometry.proofs.PointLists.{none_from}
use Rattle.hull_plain.proofs.positions.position_of.Goals as goal

pub returns-then-i-len-clause-position : goal.returns-then-i-len-clause-position
returns-then-i-len-clause-position c =
    let whole : c.first_not_before-i.result - 0 ≡ c.first_not_before-i.result = omega arith in (
      c.first_not_before-i.ensures.within,
      subst (λ (n : ℕ). All (λ t. IsBefore t c.args.p) (take n c.args.points.now.items)) whole
          c.first_not_before-i.ensures.below,
      subst (λ (z : List Pair). All (IsBefore c.args.p) z)
          (sym (none_from c.first_not_before-i.result c.args.points.now.items
          (omega (arith, c.if-i-len.true, c.len.ensures))))
          (λ k d l. absurd (omega (arith, l))),
    )

pub returns-then-before-clause-position : goal.returns-then-before-clause-position
returns-then-before-clause-position c =
    let whole : c.first_not_before-i.result - 0 ≡ c.first_not_before-i.result = omega arith in
    place_before c.args.points.now.items c.args.p c.first_not_before-i.result c.get.result c.requires
    (omega (arith, c.first_not_before-i.ensures.within, c.if-i-len.false, c.len.ensures))
    (subst (λ (n : ℕ). All (λ t. IsBefore t c.args.p) (take n c.args.points.now.items)) whole
    c.first_not_before-i.ensures.below)
    c.first_not_before-i.ensures.rest c.get.ensures (c.if-before.ensures.0 refl)

pub returns-clause-position : goal.returns-clause-position
returns-clause-position c =
    let whole : c.first_not_before-i.result - 0 ≡ c.first_not_before-i.result = omega arith in
    place_found c.args.points.now.items c.args.p c.first_not_before-i.result c.get.result
    (omega (arith, c.first_not_before-i.ensures.within, c.if-i-len.false, c.len.ensures))
    (subst (λ (n : ℕ). All (λ t. IsBefore t c.args.p) (take n c.args.points.now.items)) whole
    c.first_not_before-i.ensures.below)
    c.first_not_before-i.ensures.rest c.get.ensures (λ k. false≢true (c.if-before.ensures.1 k))
