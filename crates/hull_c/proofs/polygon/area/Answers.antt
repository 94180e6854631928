-- The answer of the convex polygon is allowed for each set with its vertices.
use Rattle.hull_set.specs.declared.reply.Reply.TheVariants.{DoubledArea}
use Rattle.hull_c.proofs.polygon.area.Goals as goal

pub returns : goal.returns
returns c = record {
  reply = DoubledArea c.area2.result;
  reports = c.encoded.ensures;
  allowed = λ held limit of. c.area2.ensures held.points of;
}
