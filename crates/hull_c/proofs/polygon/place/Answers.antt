-- The answer of the convex polygon is allowed for each set with its vertices.
use Rattle.hull_set.specs.declared.reply.Reply.TheVariants.{Lies}
use Rattle.hull_c.proofs.polygon.place.Goals as goal

pub returns : goal.returns
returns c = record {
  reply = Lies c.place.result;
  reports = c.encoded.ensures;
  allowed = λ held limit of. c.place.ensures held.points of;
}
