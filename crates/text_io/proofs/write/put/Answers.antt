-- A write that took bytes appends them and leaves the count unchanged; so the written prefix grows by what was taken,
-- and the rest shrinks.
use Rattle.std.proofs.Common.{◌∙◌, length}
use Rattle.text_io.proofs.Writing.{written_more, count_kept}
use Rattle.text_io.proofs.write.put.Goals as goal

pub loop-rest-preserved : goal.loop-rest-preserved
loop-rest-preserved g c =
    let more = written_more _ _ _ _ _ c.in-Ok.n c.loop-rest.invariant.written c.in-Ok.ensures.bytes in
    record {
      written = rw c.split_at.ensures.back more;
      count = count_kept c.in-Ok.n (length c.loop-rest.rest.now) _ _ c.in-Ok.n-test.1 c.in-Ok.ensures.count
          ∙ c.loop-rest.invariant.count;
    }
