-- the index of the vertex is the only one
use Rattle.std.proofs.Common.{◌≡◌, ◌≤◌, ◌<◌, ◌-◌, ℕ, List, length, IsTrue, inl, inr, subst, sym, ◌∙◌, arith}
use Rattle.std.specs.List.{remove}
use Rattle.lattice.specs.Covers.{without_point}
use Rattle.lattice.specs.Plane.{Pair}
use Rattle.lattice.specs.Vertices.{IsVertexList}
use Rattle.hull_polygon.specs.Polygons.{HoldsOfSetsOf}
use Rattle.hull_polygon.specs.Rounds.{vertex}
use Rattle.prepared_set.specs.Patches.{TakesOut, count_after}
use Rattle.prepared_set.proofs.Beside.{same_index}
use Rattle.prepared_set.proofs.Patching.{decided}
use Rattle.prepared_set.proofs.patches.let_go.Goals as goal

pub returns-in-Some-clause-taken : goal.returns-in-Some-clause-taken
returns-in-Some-clause-taken g c = λ i q v l.
    let T = (g.S.HullSet.held c.args.set.now).points in
    let V = c.args.vertices.now in
    let f = subst (λ (Z : List Pair). (c.in-Some.i < length Z) × (vertex Z c.in-Some.i ≡ c.args.p)) c.polygon.ensures.vertices
    c.in-Some.ensures.index in
    let e = same_index V i c.in-Some.i c.polygon.ensures.polygon.0 q.within f.0 (v ∙ sym f.1) in
    subst (λ (n : ℕ). IsTrue c.take_out.result × (c.take_out.new.vertices ≡ remove V n)
    × (c.take_out.new.moves ≡ c.args.moves.now - count_after V n)) (sym e)
    (elim (decided c.take_out.result) [
      | inl t ↦ (t, c.take_out.ensures.taken t, (let s = c.take_out.ensures.spent t in omega (arith, s)))
      | inr n ↦ absurd (c.take_out.ensures.refused n
          (subst (λ (k : ℕ). count_after V k ≤ c.args.moves.now) e l) (subst (TakesOut T V) e q))
    ])

pub returns-in-None-clause-without : goal.returns-in-None-clause-without
returns-in-None-clause-without g c = λ t P o e.
    subst (λ (Z : List Pair). IsVertexList Z c.args.vertices.now) (sym e)
    (subst (λ (Z : List Pair). HoldsOfSetsOf Z (λ S. IsVertexList (without_point c.args.p S) Z)) c.polygon.ensures.vertices
    c.in-None.ensures.stays P o)
