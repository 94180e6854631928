use Rattle.std.proofs.Common.{length, ◌-◌, ◌≡◌, drop}
use Rattle.hull_c.proofs.Served.{GoesOn}
use Rattle.hull_c.proofs.requests.serve_all.Given as goal

-- the first `made` requests were served, and the array is unchanged after their replies
abbrev pub invariant-loop-made : goal.invariant-loop-made
invariant-loop-made g l = record {
  on : GoesOn g.S.Server.serves l.requests l.fn.replies l.fn.server l.server l.replies l.made;
  rest : drop l.made l.replies ≡ drop l.made l.fn.replies;
  long : length l.replies ≡ length l.fn.replies;
}

abbrev pub decreases-loop-made : goal.decreases-loop-made
decreases-loop-made g l = length l.requests - l.made
