-- the first and the last vertex are not between two others, and each other one is
use Rattle.std.proofs.Common.{List, ◌∙◌, ◌+◌, ◌-◌, get_or, ap, subst, arith}
use Rattle.lattice.specs.Plane.{Pair}
use Rattle.hull_polygon.specs.Insertions.{IsAmid}
use Rattle.hull_polygon.specs.Rounds.{vertex, IsSeparated}
use Rattle.hull_polygon.proofs.RoundChains.{renumbered}
use Rattle.hull_polygon.proofs.Vertices.{read_vertex}
use Rattle.prepared_set.proofs.Beside.{first_not_amid, last_not_amid, others_amid}
use Rattle.prepared_set.proofs.kept.Kept.neighbours.Goals as goal

pub returns-then-i-eq0 : goal.returns-then-i-eq0
returns-then-i-eq0 c = λ h.
    let s = subst (λ (V : List Pair). IsSeparated V c.self.inside.last) c.self.view_is c.self.invariant.0 in
    first_not_amid c.args.self.now c.self.inside.last s (omega (arith, c.requires))
    (renumbered c.args.self.now (IsAmid c.args.self.now) c.args.i 0 c.if-i-eq0.true h)

pub returns-then-i-self : goal.returns-then-i-self
returns-then-i-self c = λ h.
    let s = subst (λ (V : List Pair). IsSeparated V c.self.inside.last) c.self.view_is c.self.invariant.0 in
    last_not_amid c.args.self.now c.self.inside.last s (omega (arith, c.requires))
    (renumbered c.args.self.now (IsAmid c.args.self.now) c.args.i c.self.inside.last c.if-i-self.true h)

pub returns : goal.returns
returns c =
    let s = subst (λ (V : List Pair). IsSeparated V c.self.inside.last) c.self.view_is c.self.invariant.0 in (
      others_amid c.args.self.now c.self.inside.last c.args.i s c.requires (omega (arith, c.if-i-eq0.false))
          c.if-i-self.false,
      read_vertex c.args.self.now (c.args.i - 1) c.index.result.now (omega (arith, c.requires))
          (c.index.ensures ∙ ap (λ (V : List Pair). get_or V (c.args.i - 1) c.index.result.now) c.self.view_is),
      c.vertex_after.ensures ∙ ap (λ (V : List Pair). vertex V (c.args.i + 1)) (c.deref.ensures.value ∙ c.self.view_is),
    )
