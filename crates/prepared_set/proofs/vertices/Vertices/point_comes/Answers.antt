-- the vertices are those of the set with the point
use Rattle.std.proofs.Common.{refl, subst, arith}
use Rattle.hull_geometry.proofs.SetLaws.{ordered_with}
use Rattle.prepared_set.specs.Known.{AreVerticesOf}
use Rattle.prepared_set.proofs.Patching.{not_both, same_known, same_moves}
use Rattle.prepared_set.proofs.vertices.Vertices.point_comes.Goals as goal

pub returns-then-not-take_in-clause-stay : goal.returns-then-not-take_in-clause-stay
returns-then-not-take_in-clause-stay c = λ S a k.
    let o = subst (AreVerticesOf S) c.in-Known.is a in
    absurd (not_both c.take_in.result (c.take_in.ensures.stay S o k).0 c.if-not-take_in.true)

pub returns-else-not-take_in-clause-with_it : goal.returns-else-not-take_in-clause-with_it
returns-else-not-take_in-clause-with_it c = λ S a.
    let o = subst (AreVerticesOf S) c.in-Known.is a in
    (ordered_with c.args.p S o.0, c.take_in.ensures.with_it c.if-not-take_in.false S o)

pub returns-else-not-take_in-clause-stay : goal.returns-else-not-take_in-clause-stay
returns-else-not-take_in-clause-stay c = λ S a k.
    let o = subst (AreVerticesOf S) c.in-Known.is a in
    let s = c.take_in.ensures.stay S o k in rw (c.in-Known.is) (same_known _ _ _ _ s.1 s.2)

pub returns-else-not-take_in-clause-fewer : goal.returns-else-not-take_in-clause-fewer
returns-else-not-take_in-clause-fewer c = λ V W m n e f.
    let before = same_moves c.args.self.now _ V _ m c.in-Known.is e in
    let after = same_moves _ _ W _ n refl f in omega (arith, before, after, c.take_in.ensures.fewer)
