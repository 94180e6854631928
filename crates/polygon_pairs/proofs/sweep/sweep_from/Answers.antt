-- one more pair was tried; the boxes from one on that begins beyond the length are all beyond it
use Rattle.std.proofs.Common.{◌∙◌, length, sym, arith}
use Rattle.std.proofs.lemmas.List.{length-map}
use Rattle.polygon_pairs.specs.declared.boxed.Boxed.{Boxed}
use Rattle.polygon_pairs.proofs.Sweeping.{at_most_one, box_at, index_at, next_found, rest_apart, rest_found}
use Rattle.polygon_pairs.proofs.sweep.sweep_from.Goals as goal

pub returns-then-begins_beyond-clause-found : goal.returns-then-begins_beyond-clause-found
returns-then-begins_beyond-clause-found c =
    rest_found c.args.reach c.args.polygons.now c.args.boxes.now c.args.at c.loop-j.j c.args.out.now c.loop-j.out c.args.count
    c.loop-j.total
    (rest_apart c.args.reach c.args.polygons.now c.args.boxes.now (length c.args.polygons.now) c.args.at c.loop-j.j
    c.requires.polygons c.requires.boxes c.requires.sorted c.requires.within (c.begins_beyond.ensures.0 c.if-begins_beyond.true))
    c.loop-j.invariant.found

pub find_pair-total-requires-clause-here : goal.find_pair-total-requires-clause-here
find_pair-total-requires-clause-here c = c.requires.boxes.each c.args.at _ c.requires.within

pub find_pair-total-requires-clause-there : goal.find_pair-total-requires-clause-there
find_pair-total-requires-clause-there c = c.requires.boxes.each c.loop-j.j _ c.loop-j-test.true

pub find_pair-total-requires-clause-apart : goal.find_pair-total-requires-clause-apart
find_pair-total-requires-clause-apart c = λ e.
    c.requires.boxes.distinct c.args.at c.loop-j.j 0 (omega (arith, c.loop-j.auto.j))
    (omega (arith, c.loop-j-test.true, length-map c.args.boxes.now (λ (b : Boxed). b.index)))
    (index_at c.args.boxes.now c.args.at ∙ e ∙ sym (index_at c.args.boxes.now c.loop-j.j))

pub loop-j-preserved : goal.loop-j-preserved
loop-j-preserved c = record {
  found = next_found c.args.reach c.args.polygons.now c.args.boxes.now (length c.args.polygons.now) c.args.at c.loop-j.j
      c.args.out.now c.loop-j.out c.find_pair-total.new.out c.args.count c.loop-j.total c.find_pair-total.result c.requires.boxes
      (omega (arith, c.loop-j.auto.j)) c.loop-j-test.true c.loop-j.invariant.found c.find_pair-total.ensures;
  few = omega (
    arith,
    c.loop-j.invariant.few,
    at_most_one c.args.reach c.args.polygons.now (box_at c.args.boxes.now c.args.at).index (box_at c.args.boxes.now c.loop-j.j).index
        c.loop-j.out c.find_pair-total.new.out c.loop-j.total c.find_pair-total.result c.find_pair-total.ensures,
  );
}

pub returns-clause-found : goal.returns-clause-found
returns-clause-found c =
    rest_found c.args.reach c.args.polygons.now c.args.boxes.now c.args.at c.loop-j.j c.args.out.now c.loop-j.out c.args.count
    c.loop-j.total (λ b jb lb near. omega (arith, jb, lb, c.loop-j-test.false)) c.loop-j.invariant.found
