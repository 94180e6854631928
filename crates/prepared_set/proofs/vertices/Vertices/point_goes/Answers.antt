-- the vertices are those of the set without the point
use Rattle.std.proofs.Common.{refl, subst, sym, arith}
use Rattle.lattice.specs.Covers.{IsPointSet}
use Rattle.hull_geometry.proofs.SetLaws.{ordered_without}
use Rattle.prepared_set.specs.Known.{AreVerticesOf}
use Rattle.prepared_set.proofs.Patching.{not_both, same_known, same_moves}
use Rattle.prepared_set.proofs.vertices.Vertices.point_goes.Goals as goal

pub returns-then-not-let_go-clause-stay : goal.returns-then-not-let_go-clause-stay
returns-then-not-let_go-clause-stay g c = λ P a n.
    let o = subst (AreVerticesOf P) c.in-Known.is a in
    absurd (not_both c.let_go.result (c.let_go.ensures.stay (λ m. n ((o.1.members c.args.p).0 m))).0 c.if-not-let_go.true)

pub returns-else-not-let_go-clause-without : goal.returns-else-not-let_go-clause-without
returns-else-not-let_go-clause-without g c = λ P a e.
    let o = subst (AreVerticesOf P) c.in-Known.is a in (
      subst IsPointSet (sym e) (ordered_without c.args.p P o.0),
      c.let_go.ensures.without c.if-not-let_go.false P o e,
    )

pub returns-else-not-let_go-clause-stay : goal.returns-else-not-let_go-clause-stay
returns-else-not-let_go-clause-stay g c = λ P a n.
    let o = subst (AreVerticesOf P) c.in-Known.is a in
    let s = c.let_go.ensures.stay (λ m. n ((o.1.members c.args.p).0 m)) in rw (c.in-Known.is) (same_known _ _ _ _ s.1 s.2)

pub returns-else-not-let_go-clause-fewer : goal.returns-else-not-let_go-clause-fewer
returns-else-not-let_go-clause-fewer g c = λ V W m n e f.
    let before = same_moves c.args.self.now _ V _ m c.in-Known.is e in
    let after = same_moves _ _ W _ n refl f in omega (arith, before, after, c.let_go.ensures.fewer)
