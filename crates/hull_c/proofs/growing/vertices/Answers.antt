-- the vertices are written; no points have none
use Rattle.std.proofs.Common.{[], inl, refl, List, subst, sym}
use Rattle.lattice.specs.Plane.{Pair}
use Rattle.lattice.specs.Vertices.{IsVertexList}
use Rattle.hull_reply.specs.Vertices.{EncodesVertices}
use Rattle.hull_c.proofs.Grown.{no_vertices}
use Rattle.hull_c.proofs.growing.vertices.Goals as goal

pub returns-in-Ok : goal.returns-in-Ok
returns-in-Ok c = (
  refl,
  inl (
    c.in-Ok.vertices.items,
    c.in-Ok.ensures.vertices,
    subst (λ (v : List Pair). EncodesVertices v c.args.out.now c.put_vertices.new.out c.put_vertices.result) c.deref.ensures.value
        c.put_vertices.ensures,
  ),
)

pub returns-then-is_empty : goal.returns-then-is_empty
returns-then-is_empty c = (
  refl,
  inl (
    [],
    (λ S k. subst (λ (z : List Pair). IsVertexList z []) (sym (c.is_empty.ensures.empty c.if-is_empty.true S k)) no_vertices),
    c.put_vertices-then-is_empty.ensures,
  ),
)
