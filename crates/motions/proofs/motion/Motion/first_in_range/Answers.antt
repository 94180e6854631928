-- one more point is in range, and replaces the first so far if it comes before it
use Rattle.std.proofs.Common.{◌≡◌, ◌∙◌, false, true, ℕ, ◌+◌, ◌<◌, get_or, arith, rules, refl, subst, sym, ap, inl, inr}
use Rattle.std.proofs.lemmas.Bool.{cases_lt}
use Rattle.lattice.specs.Plane.{Pair, IsBefore, IsInRange}
use Rattle.hull_geometry.specs.Positions.{origin, point_at}
use Rattle.hull_geometry.proofs.PointLists.{get_or_free}
use Rattle.motions.specs.Motions.{moved}
use Rattle.motions.proofs.Firsts.{IsFirstOf, moves, stays}
use Rattle.motions.proofs.motion.Motion.first_in_range.Goals as goal
use Rattle.motions.proofs.motion.Motion.first_in_range.Goals.{then-before, else-before}

pub loop-i-preserved : goal.loop-i-preserved
loop-i-preserved c =
    let P : ℕ → Pair = λ i. moved c.args.self.now (point_at c.args.points.now i) in
    let at : c.index-points-i.result ≡ point_at c.args.points.now c.loop-i.i =
    c.index-points-i.is ∙ get_or_free c.args.points.now c.loop-i.i c.index-points-i.result origin c.loop-i-test.true in
    let found : (c.in_ok-q.q ≡ moved c.args.self.now c.index-points-i.result) × IsInRange (moved c.args.self.now c.index-points-i.result) =
    search rules in
    let is : c.in_ok-q.q ≡ P c.loop-i.i = found.0 ∙ ap (moved c.args.self.now) at in
    let kept : (k : ℕ) (d : Pair) → k < c.loop-i.i + 1 → IsInRange (moved c.args.self.now (get_or c.args.points.now k d)) =
    λ k d l. elim (cases_lt k c.loop-i.i) [
      | inl m ↦ c.loop-i.invariant.kept k d m
      | inr m ↦ subst (λ (z : Pair). IsInRange (moved c.args.self.now z))
          (c.index-points-i.is ∙ get_or_free c.args.points.now c.loop-i.i c.index-points-i.result d c.loop-i-test.true
          ∙ ap (λ (i : ℕ). get_or c.args.points.now i d) (omega (arith, l, m)))
          found.1
    ] in
    elim c.if-before.branch [
      | then-before w ↦ record {
        within = omega (arith, c.loop-i-test.true, w.first-is);
        start = w.start-is ∙ is ∙ ap P (sym w.first-is);
        kept = kept;
        first = subst (λ (n : ℕ). IsFirstOf P (c.loop-i.i + 1) n) (sym w.first-is)
            (moves P c.loop-i.i c.loop-i.first c.loop-i.invariant.first
            (subst (IsBefore (P c.loop-i.i)) c.loop-i.invariant.start
            (subst (λ (z : Pair). IsBefore z c.loop-i.start) is (w.if-before.ensures.0 refl))));
      }
      | else-before w ↦ record {
        within = omega (arith, c.loop-i.invariant.within, w.first-is);
        start = w.start-is ∙ c.loop-i.invariant.start ∙ ap P (sym w.first-is);
        kept = kept;
        first = subst (λ (n : ℕ). IsFirstOf P (c.loop-i.i + 1) n) (sym w.first-is)
            (stays P c.loop-i.i c.loop-i.first c.loop-i.invariant.first
            (λ b. let e : false ≡ true = w.if-before.ensures.1
            (subst (λ (z : Pair). IsBefore z c.loop-i.start) (sym is)
            (subst (IsBefore (P c.loop-i.i)) (sym c.loop-i.invariant.start) b)) in cc));
      }
    ]
