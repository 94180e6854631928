-- the entry that comes next is counted in after those before it
use Rattle.std.proofs.Common.{◌<◌, ◌+◌, refl, arith, ℕ}
use Rattle.lattice.specs.Plane.{Pair}
use Rattle.hull_set.specs.declared.TheConstants.{MULTIPLICITY_LIMIT}
use Rattle.leaf_trees.specs.Entries.{points_listed, multiplicity_listed, Precedes}
use Rattle.leaf_trees.proofs.Counting.{behind_both, listed_more, listed_past, listed_few}
use Rattle.leaf_trees.proofs.entries.merged.Goals as goal

pub returns-then-not-count_in-clause-too_often : goal.returns-then-not-count_in-clause-too_often
returns-then-not-count_in-clause-too_often c = λ _.
    let e : Pair × ℕ = c.index-first-i.result in
    let s : Precedes c.args.first.now c.loop-i.i c.args.second.now c.loop-i.j = c.if-is_next.ensures.first refl in
    let a : MULTIPLICITY_LIMIT < multiplicity_listed c.loop-i.entries.items e.0 + e.1 =
    c.if-not-count_in.ensures.too_often refl in (
      e.0,
      omega (
        arith,
        a,
        c.loop-i.invariant.multiplicities e.0,
        listed_past c.args.first.now c.loop-i.i e c.index-first-i.is s.there,
        listed_few c.args.second.now c.loop-i.j e.0,
      ),
    )

pub loop-i-preserved-then-is_next : goal.loop-i-preserved-then-is_next
loop-i-preserved-then-is_next c =
    let e : Pair × ℕ = c.index-first-i.result in
    let s : Precedes c.args.first.now c.loop-i.i c.args.second.now c.loop-i.j = c.if-is_next.ensures.first refl in
    let b =
    behind_both c.args.first.now c.args.second.now c.loop-i.i c.loop-i.j e (points_listed c.loop-i.entries.items) (points_listed c.count_in.new.entries.items)
    c.requires.first c.requires.second c.index-first-i.is s c.loop-i.invariant.first_left
    c.loop-i.invariant.second_left c.count_in.ensures.among in
    record {
      entries = c.count_in.ensures.entries;
      multiplicities = λ q. omega (
        arith,
        c.if-not-count_in.ensures.multiplicities refl q,
        c.loop-i.invariant.multiplicities q,
        listed_more c.args.first.now c.loop-i.i e q c.index-first-i.is s.there,
      );
      first_left = b.0;
      second_left = b.1;
      first_in = omega (arith, s.there);
      second_in = c.loop-i.invariant.second_in;
      short = omega (arith, c.count_in.ensures.short, c.loop-i.invariant.short);
      space = omega (arith, c.count_in.ensures.capacity, c.loop-i.invariant.space);
    }

pub returns-then-not-count_in-2-clause-too_often : goal.returns-then-not-count_in-2-clause-too_often
returns-then-not-count_in-2-clause-too_often c = λ _.
    let e : Pair × ℕ = c.index-second-j.result in
    let s : Precedes c.args.second.now c.loop-i.j c.args.first.now c.loop-i.i = c.if-is_next.ensures.second refl in
    let a : MULTIPLICITY_LIMIT < multiplicity_listed c.loop-i.entries.items e.0 + e.1 =
    c.if-not-count_in-2.ensures.too_often refl in (
      e.0,
      omega (
        arith,
        a,
        c.loop-i.invariant.multiplicities e.0,
        listed_past c.args.second.now c.loop-i.j e c.index-second-j.is s.there,
        listed_few c.args.first.now c.loop-i.i e.0,
      ),
    )

pub loop-i-preserved : goal.loop-i-preserved
loop-i-preserved c =
    let e : Pair × ℕ = c.index-second-j.result in
    let s : Precedes c.args.second.now c.loop-i.j c.args.first.now c.loop-i.i = c.if-is_next.ensures.second refl in
    let b =
    behind_both c.args.second.now c.args.first.now c.loop-i.j c.loop-i.i e (points_listed c.loop-i.entries.items) (points_listed c.count_in-else-is_next.new.entries.items)
    c.requires.second c.requires.first c.index-second-j.is s c.loop-i.invariant.second_left
    c.loop-i.invariant.first_left c.count_in-else-is_next.ensures.among in
    record {
      entries = c.count_in-else-is_next.ensures.entries;
      multiplicities = λ q. omega (
        arith,
        c.if-not-count_in-2.ensures.multiplicities refl q,
        c.loop-i.invariant.multiplicities q,
        listed_more c.args.second.now c.loop-i.j e q c.index-second-j.is s.there,
      );
      first_left = b.1;
      second_left = b.0;
      first_in = c.loop-i.invariant.first_in;
      second_in = omega (arith, s.there);
      short = omega (arith, c.count_in-else-is_next.ensures.short, c.loop-i.invariant.short);
      space = omega (arith, c.count_in-else-is_next.ensures.capacity, c.loop-i.invariant.space);
    }
