-- the bisection found the only index of the chain at which p can be
use Rattle.std.proofs.Common.{◌≡◌, ◌∙◌, true, sym, subst, rules, of_calls}
use Rattle.lattice.specs.Plane.{Pair}
use Rattle.hull_set.specs.PointLists.{is_same_pair}
use Rattle.hull_set.proofs.HeldMultiplicities.{same_true, returned_same}
use Rattle.hull_polygon.proofs.Staying.{found_on}
use Rattle.hull_polygon.proofs.indices.index_on.Goals as goal

pub returns-then-eq : goal.returns-then-eq
returns-then-eq c = (
  c.wrapped.ensures.within,
  c.wrapped.ensures.same ∙ sym c.vertex_at.ensures ∙ returned_same _ _ (sym c.eq.ensures ∙ c.if-eq.true),
)

pub returns-else-eq : goal.returns-else-eq
returns-else-eq c = λ s.
    let f = c.first_failing_on-place.ensures in
    let k = found_on c.args.side c.args.vertices.now c.args.last c.first_failing_on-place.result c.args.p
    c.requires.some c.requires.separated f.from f.to (λ h. let k = f.held h in search (rules, of_calls))
    (λ h b. let k = f.fails h in search (rules, of_calls)) s in
    let t : c.eq.result ≡ true = c.eq.ensures ∙ subst (λ (z : Pair). is_same_pair z c.args.p ≡ true)
    (sym (c.vertex_at.ensures ∙ k)) (same_true c.args.p) in
    let f = c.if-eq.false in cc
