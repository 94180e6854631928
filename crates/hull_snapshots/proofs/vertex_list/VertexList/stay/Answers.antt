-- the facts of the convex polygon, for every set with these vertices
use Rattle.std.proofs.Common.{◌∙◌, subst, sym}
use Rattle.lattice.specs.Covers.{with_point, without_point}
use Rattle.lattice.specs.Vertices.{IsVertexList}
use Rattle.hull_snapshots.proofs.vertex_list.VertexList.stay.Goals as goal

pub returns-in-Came-clause-stay : goal.returns-in-Came-clause-stay
returns-in-Came-clause-stay c = λ yes held ordered vertices.
    let own = c.of_separated-polygon.ensures ∙ c.deref.ensures.value in
    rw (c.in-Came.is)
    (subst (λ l. IsVertexList (with_point c.in-Came.p held.points) l) own
    (c.stays_with.ensures.stays yes held.points (ordered, subst (λ l. IsVertexList held.points l) (sym own) vertices)))

pub returns-in-Came-clause-within : goal.returns-in-Came-clause-within
returns-in-Came-clause-within c = λ S polygon.
    let own = c.of_separated-polygon.ensures ∙ c.deref.ensures.value in
    rw (c.in-Came.is) (c.stays_with.ensures.covered S (polygon.0, subst (λ l. IsVertexList S l) (sym own) polygon.1))

pub returns-in-Went-clause-stay : goal.returns-in-Went-clause-stay
returns-in-Went-clause-stay c = λ yes held ordered vertices.
    let own = c.of_separated-polygon.ensures ∙ c.deref.ensures.value in
    rw (c.in-Went.is)
    (subst (λ l. IsVertexList (without_point c.in-Went.p held.points) l) own
    (c.stays_without.ensures.stays yes held.points (ordered, subst (λ l. IsVertexList held.points l) (sym own) vertices)))
