-- The answer of the hull is allowed for each set that it is of.
use Rattle.hull_set.specs.declared.reply.Reply.TheVariants.{DoubledArea}
use Rattle.hull_c.proofs.growing.area.Goals as goal

pub returns : goal.returns
returns c = record {
  reply = DoubledArea c.area2.result;
  reports = c.encoded.ensures;
  allowed = λ held limit of. c.area2.ensures held.points of;
}
