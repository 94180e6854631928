-- The bytes written are a prefix of the piece, no call has failed, and the rest gets shorter with each write.
use Rattle.std.proofs.Common.{◌≡◌, length}
use Rattle.text_io.proofs.Writing.{Written}
use Rattle.text_io.proofs.write.put.Given as goal

abbrev pub invariant-loop-rest : goal.invariant-loop-rest
invariant-loop-rest g l = record {
  written : Written (g.W.Write.contents l.fn.out) (g.W.Write.contents l.out) l.fn.piece l.rest;
  count : g.W.Sink.failed l.out ≡ g.W.Sink.failed l.fn.out;
}

abbrev pub decreases-loop-rest : goal.decreases-loop-rest
decreases-loop-rest g l = length l.rest
