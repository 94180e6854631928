-- The answer of the hull is allowed for each set that it is of.
use Rattle.std.proofs.Common.{subst}
use Rattle.hull_reply.specs.Encoded.{Encodes}
use Rattle.hull_set.specs.Replies.{reply_to_extreme}
use Rattle.hull_c.proofs.growing.extreme.Goals as goal

pub returns : goal.returns
returns c = record {
  reply = reply_to_extreme c.extreme.result;
  reports = subst (Encodes c.encoded.result) c.extreme_reply.ensures c.encoded.ensures;
  allowed = λ held limit of. c.extreme.ensures held.points of;
}
