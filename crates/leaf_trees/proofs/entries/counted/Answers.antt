-- each point is counted in after those before it
use Rattle.std.proofs.Common.{◌≡◌, ◌≤◌, ◌<◌, ◌+◌, ◌∙◌, inl, inr, refl, subst, sym, arith, take, get_or, length}
use Rattle.lattice.specs.Plane.{IsBefore}
use Rattle.hull_set.specs.declared.TheConstants.{MULTIPLICITY_LIMIT}
use Rattle.leaf_trees.specs.Entries.{multiplicity_listed}
use Rattle.hull_set.specs.Held.{multiplicity_among}
use Rattle.hull_set.proofs.HeldMultiplicities.{among_more}
use Rattle.leaf_trees.proofs.Counting.{counted_past, at_place}
use Rattle.leaf_trees.proofs.entries.counted.Goals as goal

pub count_in-requires-clause-last : goal.count_in-requires-clause-last
count_in-requires-clause-last c = λ t m b.
    c.loop-i.invariant.left t m c.loop-i.i (omega arith) (omega (arith, c.loop-i-test.true))
    (subst (λ z. IsBefore z t)
    (at_place c.args.points.now c.loop-i.i c.index-points-i.result t c.index-points-i.is
    (omega (arith, c.loop-i-test.true))) b)

pub returns-then-not-count_in-clause-too_often : goal.returns-then-not-count_in-clause-too_often
returns-then-not-count_in-clause-too_often c = λ _.
    let p = c.index-points-i.result in
    let a : MULTIPLICITY_LIMIT < multiplicity_listed c.loop-i.entries.items p + 1 =
    c.if-not-count_in.ensures.too_often refl in
    let b : multiplicity_listed c.loop-i.entries.items p ≡ multiplicity_among (take c.loop-i.i c.args.points.now) p =
    c.loop-i.invariant.multiplicities p in
    let d : multiplicity_among (take c.loop-i.i c.args.points.now) p + 1 ≤ multiplicity_among c.args.points.now p =
    counted_past c.args.points.now c.loop-i.i p c.index-points-i.is (omega (arith, c.loop-i-test.true)) in
    (p, omega (arith, a, b, d))

pub loop-i-preserved : goal.loop-i-preserved
loop-i-preserved c =
    let l : c.loop-i.i < length c.args.points.now = omega (arith, c.loop-i-test.true) in
    record {
      entries = c.count_in.ensures.entries;
      multiplicities = λ q. c.if-not-count_in.ensures.multiplicities refl q
          ∙ (rw (c.loop-i.invariant.multiplicities q)
          (sym (among_more c.args.points.now c.loop-i.i c.index-points-i.result q c.index-points-i.is l)));
      left = λ t m j n k b. elim (c.count_in.ensures.among t m) [
        | inl i ↦ c.loop-i.invariant.left t i j (omega (arith, n)) k b
        | inr e ↦ c.requires.ascending c.loop-i.i j t (omega (arith, n)) k
            (subst (IsBefore (get_or c.args.points.now j t))
            (e ∙ at_place c.args.points.now c.loop-i.i c.index-points-i.result t c.index-points-i.is l) b)
      ];
      short = omega (arith, c.count_in.ensures.short, c.loop-i.invariant.short);
      space = omega (arith, c.count_in.ensures.capacity, c.loop-i.invariant.space);
    }
