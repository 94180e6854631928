-- the bisection found the only index of the chain at which p can be
use Rattle.std.proofs.Common.{◌≡◌, ◌∙◌, true, sym, subst, rules, of_calls}
use Rattle.lattice.specs.Plane.{Pair}
use Rattle.hull_set.specs.PointLists.{is_same_pair}
use Rattle.hull_set.proofs.HeldMultiplicities.{same_true, returned_same}
use Rattle.hull_polygon.proofs.Staying.{found_on}
use Rattle.hull_polygon.proofs.stays.stands_on.Goals as goal

pub returns : goal.returns
returns c =
    let f = c.first_failing_on.ensures in
    let e = c.vertex_at.ensures in (
      λ t. (c.first_failing_on.result, f.from, f.to, sym e ∙ returned_same _ _ (sym c.eq.ensures ∙ t)),
      λ s. let k = found_on c.args.side c.args.vertices.now c.args.last c.first_failing_on.result c.args.p
          c.requires.some c.requires.separated f.from f.to (λ h. let k = f.held h in search (rules, of_calls))
          (λ h b. let k = f.fails h in search (rules, of_calls)) s in
          c.eq.ensures ∙ subst (λ (z : Pair). is_same_pair z c.args.p ≡ true) (sym (e ∙ k)) (same_true c.args.p),
    )
