-- The answer of the hull is allowed for each set that it is of.
use Rattle.hull_set.specs.declared.reply.Reply.TheVariants.{Lies}
use Rattle.hull_c.proofs.growing.place.Goals as goal

pub returns : goal.returns
returns c = record {
  reply = Lies c.place.result;
  reports = c.encoded_place.ensures;
  allowed = λ held limit of. c.place.ensures held.points of;
}
