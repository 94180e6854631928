-- vertices at which the chain does not bend are removed, and what is left of it bends
use Rattle.std.proofs.Common.{◌≡◌, ◌<◌, ◌+◌, ◌-◌, ◌^◌, ◌++◌, ◌∷◌, [], List, ℕ, length, take, arith, sym, ap, subst, ◌∙◌}
use Rattle.std.proofs.Common.{refl}
use Rattle.lattice.specs.Covers.{IsPointSet}
use Rattle.lattice.specs.Plane.{Pair}
use Rattle.hull_geometry.specs.Monotone.{IsConvex, IsPassed}
use Rattle.hull_geometry.specs.Positions.{point_at}
use Rattle.hull_geometry.proofs.Passes.{thinned_itself, passed_of, convex_take}
use Rattle.hull_buckets.specs.Masks.{at_places}
use Rattle.hull_buckets.proofs.Ends.{thinned_twice, thinned_by}
use Rattle.hull_buckets.proofs.Places.{set_at, pushed}
use Rattle.hull_buckets.proofs.chain.pushed.Goals as goal

-- points at the indices of a mask and one after them are a set
set_with : (S : List Pair) (mask k : ℕ) → IsPointSet S → mask < 2 ^ k → k < length S
    → IsPointSet (at_places mask S ++ point_at S k ∷ [])
set_with S mask k s b l = subst IsPointSet (pushed S mask k b l) (set_at (mask + 2 ^ k) S s)

pub loop-front-init : goal.loop-front-init
loop-front-init c = record {
  fewer = omega arith;
  convex = c.requires.convex;
  thinned = thinned_itself c.args.side _
      (set_with c.args.points.now c.args.chain c.args.place c.requires.ordered c.requires.before c.requires.within);
}

pub loop-front-preserved : goal.loop-front-preserved
loop-front-preserved c =
    let S : List Pair = c.args.points.now in
    let front : at_places c.in-Some.front S ≡ take (length (at_places c.loop-front.kept S) - 1) (at_places
    c.loop-front.kept S) =
    c.in-Some.ensures.front in
    record {
      fewer = omega (arith, c.in-Some.ensures.fewer, c.loop-front.invariant.fewer);
      convex = subst (IsConvex c.args.side) (sym front)
          (convex_take c.args.side _ (at_places c.loop-front.kept S) c.loop-front.invariant.convex);
      thinned = thinned_twice c.args.side _ _ _ c.loop-front.invariant.thinned
          (thinned_by c.args.side (at_places c.loop-front.kept S) (at_places c.in-Some.front S)
          (point_at S c.args.place) c.in-Some.ensures.inwards front
          (set_with S c.loop-front.kept c.args.place c.requires.ordered
          (omega (arith, c.loop-front.invariant.fewer, c.requires.before)) c.requires.within));
    }

pub returns-clause-passed : goal.returns-clause-passed
returns-clause-passed c =
    let S : List Pair = c.args.points.now in
    let before : c.loop-front.kept < 2 ^ c.args.place = omega (arith, c.loop-front.invariant.fewer, c.requires.before)
    in
    let new : at_places c.loop-front.kept S ++ point_at S c.args.place ∷ [] ≡ at_places (c.loop-front.kept +
    c.bit.result) S =
    sym (pushed S c.loop-front.kept c.args.place before c.requires.within)
    ∙ ap (λ (b : ℕ). at_places (c.loop-front.kept + b) S) (sym c.bit.ensures) in
    subst (IsPassed c.args.side (at_places c.args.chain S ++ point_at S c.args.place ∷ [])) new
    (passed_of c.args.side _ _ c.loop-front.invariant.thinned
    (c.in_default.ensures.convex refl c.loop-front.invariant.convex))
