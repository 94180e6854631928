-- each point of the upper chain, from its end back, is the end of the next upper edge
use Rattle.std.proofs.Common.{◌≡◌, ◌++◌, ◌∷◌, [], sym, ap, ◌∙◌, subst, List, arith, ◌<◌, ◌-◌, length, inl, inr, ℕ}
use Rattle.std.proofs.lemmas.Bool.{cases_lt}
use Rattle.lattice.specs.Plane.{Pair}
use Rattle.lattice.specs.Vertices.{IsVertexList}
use Rattle.hull_geometry.specs.Positions.{point_at, origin}
use Rattle.hull_geometry.proofs.PointLists.{append_none, append_twice, get_or_free}
use Rattle.hull_geometry.proofs.TwoChains.{few_vertices, back_more, back_done}
use Rattle.hull_geometry.proofs.VertexLists.{end_push}
use Rattle.hull_plain.proofs.vertices.vertices_of.Goals as goal

pub loop-i-preserved : goal.loop-i-preserved
loop-i-preserved c =
    let walk = c.loop-i.invariant.walk in
    let p : Pair = c.get.result in
    let l : c.loop-i.i - 1 - 1 < length c.args.upper.now.items =
    omega (arith, c.loop-i-test.true, c.loop-i.invariant.within) in
    record {
      within = omega (arith, c.loop-i.invariant.within);
      low = λ u. omega (arith, c.loop-i-test.true);
      walk = (
        walk.0 ++ p ∷ [],
        c.in_ok-push.ensures.items ∙ ap (λ (z : List Pair). z ++ p ∷ []) walk.1
            ∙ append_twice c.args.lower.now.items walk.0 (p ∷ []),
        λ u. absurd (omega (arith, u, c.loop-i-test.true, c.loop-i.invariant.within)),
        end_push (point_at c.args.upper.now.items (length c.args.upper.now.items - 1)) walk.0 p
            ∙ c.get.ensures ∙ get_or_free c.args.upper.now.items (c.loop-i.i - 1 - 1) p origin l,
        λ S k. back_more S c.args.upper.now.items walk.0 c.loop-i.i p k c.loop-i-test.true c.loop-i.invariant.within
            c.get.ensures (walk.4 S k) walk.3,
      );
    }

pub returns-clause-vertices : goal.returns-clause-vertices
returns-clause-vertices c = λ S s k.
    let walk = c.loop-i.invariant.walk in
    elim (cases_lt 1 (length c.args.upper.now.items)) [
      | inr h ↦
          let few : length c.args.upper.now.items < 2 = omega (arith, h) in
          subst (IsVertexList S)
          (append_none c.args.lower.now.items ∙ ap (λ (z : List Pair). c.args.lower.now.items ++ z) (sym (walk.2 few)) ∙ sym walk.1)
          (few_vertices S c.args.lower.now.items c.args.upper.now.items s k few)
      | inl h ↦
          let at : c.loop-i.i - 1 ≡ 1 = omega (arith, c.loop-i-test.false, c.loop-i.invariant.low h) in
          subst (IsVertexList S) (sym walk.1)
          (back_done S c.args.lower.now.items c.args.upper.now.items walk.0 s k h (walk.4 S k.above)
          (walk.3 ∙ ap (λ (n : ℕ). point_at c.args.upper.now.items n) at))
    ]
