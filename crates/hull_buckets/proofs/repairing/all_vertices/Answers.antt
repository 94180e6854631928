-- all points are a candidate list of their own set, and what a pass leaves of them is the chain
use Rattle.std.proofs.Common.{◌≡◌, ◌-◌, ◌^◌, ◌++◌, ℕ, List, length, arith, sym, ap, subst, ◌∙◌}
use Rattle.std.proofs.lemmas.Nat.{pow_pos}
use Rattle.lattice.specs.Plane.{Pair}
use Rattle.hull_geometry.specs.Monotone.{IsConvex, IsPassed}
use Rattle.hull_geometry.proofs.Mended.{chain_of}
use Rattle.hull_geometry.proofs.Passes.{member_inner}
use Rattle.hull_buckets.specs.Masks.{at_places}
use Rattle.hull_buckets.proofs.Places.{none_at, all_at}
use Rattle.hull_buckets.proofs.repairing.all_vertices.Goals as goal

pub passed_over-requires-clause-convex : goal.passed_over-requires-clause-convex
passed_over-requires-clause-convex c = subst (IsConvex c.args.side) (sym (none_at c.args.points.now)) tt

pub returns : goal.returns
returns c =
    let S : List Pair = c.args.points.now in
    let first : c.first.result ≡ 2 ^ length S - 1 = c.first.ensures in
    let some = pow_pos (length S) in
    let all : at_places 0 S ++ at_places c.first.result S ≡ S =
    ap (λ (z : List Pair). z ++ at_places c.first.result S) (none_at S)
    ∙ ap (λ (m : ℕ). at_places m S) first ∙ all_at S in
    let h : IsPassed c.args.side S (at_places c.passed_over.result S) =
    subst (λ (z : List Pair). IsPassed c.args.side z (at_places c.passed_over.result S)) all
    c.passed_over.ensures.passed in
    record {
      within = c.passed_over.ensures.within (length S) (omega (arith, some)) (omega (arith, some, first));
      chain = chain_of c.args.side S (at_places c.passed_over.result S)
          (record {
            ordered = h.strict.ordered;
            among = h.among;
            inner = λ u m. h.inner u (member_inner c.args.side S u m);
          })
          h.strict.convex;
    }
