-- one more vertex arrives, or does not; at the end all were tried
use Rattle.std.proofs.Common.{◌≡◌, subst, sym, List, Option, take}
use Rattle.std.proofs.lemmas.List.{take_all}
use Rattle.lattice.specs.Plane.{Pair}
use Rattle.first_meeting.specs.Arrivals.{ReturnsFirst, ReturnsSooner}
use Rattle.first_meeting.specs.declared.arrivals.Arrival.{Arrival}
use Rattle.first_meeting.proofs.Sooner.{one_more, one_more_first, sooner_keeps, sooner_none}
use Rattle.first_meeting.proofs.arrivals.first_arrival.Goals as goal
use Rattle.first_meeting.proofs.arrivals.first_arrival.Goals.{in-Some, in_default}

-- the sooner of what was found and what the vertex gives
sooner_of : (f g h r s : Option Arrival) → g ≡ h → r ≡ s → ReturnsSooner f h s → ReturnsSooner f g r
sooner_of f g h r s e i k =
    subst (λ (z : Option Arrival). ReturnsSooner f z r) (sym e)
    (subst (λ (z : Option Arrival). ReturnsSooner f h z) (sym i) k)

pub loop-vertex-preserved-then-comes_no_sooner : goal.loop-vertex-preserved-then-comes_no_sooner
loop-vertex-preserved-then-comes_no_sooner c = record {
  first = λ S o. subst (λ (z : List Pair). ReturnsFirst S c.args.direction z c.loop-vertex.found)
      (sym (one_more c.args.vertices.now c.loop-vertex.vertex-index c.vertex-item.result c.loop-vertex-test.true c.vertex-item.is))
      (c.comes_no_sooner.ensures c.if-comes_no_sooner.true S (take c.loop-vertex.vertex-index c.args.vertices.now)
      c.args.direction (c.loop-vertex.invariant.first S o));
  moves = c.loop-vertex.invariant.moves;
}

pub loop-vertex-preserved : goal.loop-vertex-preserved
loop-vertex-preserved c = record {
  first = λ S o. one_more_first S c.args.direction c.args.vertices.now c.loop-vertex.vertex-index c.vertex-item.result
      c.loop-vertex.found c.arrival_of.result c.match-arrival_of.found c.loop-vertex-test.true c.vertex-item.is
      (c.loop-vertex.invariant.first S o) (c.arrival_of.ensures.first S o) sooner_there;
  moves = sooner_keeps (λ found. found.moves ≡ c.args.moves) c.loop-vertex.found c.arrival_of.result c.match-arrival_of.found
      c.loop-vertex.invariant.moves c.arrival_of.ensures.moves sooner_there;
}
  where
    sooner_there : ReturnsSooner c.loop-vertex.found c.arrival_of.result c.match-arrival_of.found
    sooner_there = elim c.match-arrival_of.branch [
      | in-Some w ↦ sooner_of _ _ _ _ _ w.in-Some.is w.found-is w.sooner-found.ensures
      | in_default w ↦ sooner_of _ _ _ _ _ w.in_default.is w.found-is (sooner_none c.loop-vertex.found)
    ]

pub returns-clause-first : goal.returns-clause-first
returns-clause-first c = λ S o.
    subst (λ (z : List Pair). ReturnsFirst S c.args.direction z c.loop-vertex.found)
    (take_all c.loop-vertex.vertex-index c.args.vertices.now c.loop-vertex-test.false) (c.loop-vertex.invariant.first S o)
