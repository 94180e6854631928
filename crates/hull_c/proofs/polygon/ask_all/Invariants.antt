-- the first i requests are answered, and the array is unchanged after their replies
use Rattle.std.proofs.Common.{ℕ, ◌≡◌, ◌<◌, length, drop, get_or}
use Rattle.hull_reply.specs.declared.reply.HullReply.{HullReply}
use Rattle.hull_c.specs.Polygons.{AnswersAt}
use Rattle.hull_c.proofs.polygon.ask_all.Given as goal

abbrev pub invariant-loop-i : goal.invariant-loop-i
invariant-loop-i l = record {
  answered : (k : ℕ) → k < l.i → (r : HullReply) → AnswersAt l.vertices l.requests k (get_or l.replies k r);
  rest : drop l.i l.replies ≡ drop l.i l.fn.replies;
  long : length l.replies ≡ length l.fn.replies;
}
