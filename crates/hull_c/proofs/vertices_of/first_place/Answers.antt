-- a point before the one at the index replaces it
use Rattle.std.proofs.Common.{◌≡◌, false, true, ℕ, ◌+◌, ◌<◌, ◌∙◌, List, arith, inl, inr, refl, subst, sym}
use Rattle.std.proofs.lemmas.Bool.{cases_lt}
use Rattle.lattice.specs.Plane.{Pair, IsBefore}
use Rattle.lattice.proofs.Order.{before_irrefl, before_trans}
use Rattle.hull_geometry.specs.Positions.{origin, point_at}
use Rattle.hull_geometry.proofs.PointLists.{get_or_free}
use Rattle.hull_c.proofs.vertices_of.first_place.Goals as goal
use Rattle.hull_c.proofs.vertices_of.first_place.Goals.{then-before, else-before}

-- none of the first n points is before the one at f
abbrev IsFirstOf : List Pair → ℕ → ℕ → Type 0
IsFirstOf V n f = (k : ℕ) → k < n → ¬ IsBefore (point_at V k) (point_at V f)

-- if the next point is not before it either, it stays
stays : (V : List Pair) (n f : ℕ) → IsFirstOf V n f → ¬ IsBefore (point_at V n) (point_at V f) → IsFirstOf V (n + 1) f
stays V n f h b k l = elim (cases_lt k n) [
  | inl m ↦ h k m
  | inr m ↦ subst (λ (z : ℕ). ¬ IsBefore (point_at V z) (point_at V f)) (omega (arith, l, m)) b
]

-- if the next point is before it, no point is before the next one
moves : (V : List Pair) (n f : ℕ) → IsFirstOf V n f → IsBefore (point_at V n) (point_at V f) → IsFirstOf V (n + 1) n
moves V n f h b k l = elim (cases_lt k n) [
  | inl m ↦ λ d. h k m (before_trans (point_at V k) (point_at V n) (point_at V f) d b)
  | inr m ↦ subst (λ (z : ℕ). ¬ IsBefore (point_at V z) (point_at V n)) (omega (arith, l, m)) (before_irrefl (point_at V n))
]

pub loop-i-preserved : goal.loop-i-preserved
loop-i-preserved c =
    let V : List Pair = c.args.points.now in
    let next = c.index-points-i.is ∙ get_or_free V c.loop-i.i c.index-points-i.result origin (omega (arith, c.loop-i-test.true)) in
    let place = c.index-points-first.is
    ∙ get_or_free V c.loop-i.first c.index-points-first.result origin c.loop-i.invariant.within in
    elim c.if-before.branch [
      | then-before w ↦ record {
        within = omega (arith, c.loop-i-test.true, w.first-is);
        first = subst (λ (n : ℕ). IsFirstOf V (c.loop-i.i + 1) n) (sym w.first-is)
            (moves V c.loop-i.i c.loop-i.first c.loop-i.invariant.first
            (subst (λ (z : Pair). IsBefore (point_at V c.loop-i.i) z) place
            (subst (λ (z : Pair). IsBefore z c.index-points-first.result) next (w.if-before.ensures.0 refl))));
      }
      | else-before w ↦ record {
        within = omega (arith, c.loop-i.invariant.within, w.first-is);
        first = subst (λ (n : ℕ). IsFirstOf V (c.loop-i.i + 1) n) (sym w.first-is)
            (stays V c.loop-i.i c.loop-i.first c.loop-i.invariant.first
            (λ b. let e : false ≡ true = w.if-before.ensures.1
            (subst (λ (z : Pair). IsBefore z c.index-points-first.result) (sym next)
            (subst (λ (z : Pair). IsBefore (point_at V c.loop-i.i) z) (sym place) b)) in cc));
      }
    ]
