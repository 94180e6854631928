-- the number is that of the vertices; memory is refused only if there are points
use Rattle.std.proofs.Common.{◌≡◌, ◌∙◌, List, [], arith, length, subst, sym}
use Rattle.std.proofs.lemmas.Bool.{false≢true}
use Rattle.lattice.specs.Plane.{Pair}
use Rattle.lattice.specs.Vertices.{IsVertexList}
use Rattle.hull_reply.specs.Encoded.{IsNumber}
use Rattle.hull_reply.specs.declared.code.Code.TheVariants as code
use Rattle.hull_set.specs.declared.reply.Reply.TheVariants.{NoMemory, VertexList}
use Rattle.hull_c.proofs.Grown.{no_vertices}
use Rattle.hull_c.proofs.growing.count.Goals as goal

pub returns-in-Ok : goal.returns-in-Ok
returns-in-Ok c =
    let long : c.len.result ≡ length c.in-Ok.vertices.items = omega (arith, c.len.ensures, c.in-Ok.vertices.ok.0) in
    record {
      reply = VertexList c.in-Ok.vertices.items;
      reports = subst (λ n. IsNumber code.Vertices n c.numbered.result) long c.numbered.ensures;
      allowed = λ held limit of. c.in-Ok.ensures.vertices held.points of;
    }

pub returns-then-is_empty : goal.returns-then-is_empty
returns-then-is_empty c = record {
  reply = VertexList [];
  reports = c.numbered-then-is_empty.ensures;
  allowed = λ held limit of.
      subst (λ (S : List Pair). IsVertexList S []) (sym (c.is_empty.ensures.empty c.if-is_empty.true held.points of)) no_vertices;
}

pub returns-else-is_empty : goal.returns-else-is_empty
returns-else-is_empty c = record {
  reply = NoMemory;
  reports = c.bare.ensures;
  allowed = λ held limit of.
      c.is_empty.ensures.some (λ t. false≢true (sym c.if-is_empty.false ∙ t)) held.points of;
}
