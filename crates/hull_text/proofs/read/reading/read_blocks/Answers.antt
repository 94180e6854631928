-- A block continues the reading by its bytes; so the blocks that were taken determine a fault's line, and the text
-- itself.
use Rattle.std.proofs.Common.{arith, refl, ◌∙◌, take}
use Rattle.std.proofs.lemmas.Grind.{common_steps}
use Rattle.std.proofs.lemmas.List.{length-take}
use Rattle.std.proofs.lemmas.Result.{err_from_is_err_and}
use Rattle.hull_text.proofs.Known.{known_feed, line_fed, line_here, lines_at_end}
use Rattle.hull_text.proofs.read.reading.read_blocks.Goals as goal

pub loop-preserved : goal.loop-preserved
loop-preserved g c =
    record {
      whole = c.in_ok-feed.ensures.whole;
      known = known_feed (g.L.LineReader.answers c.args.reader) (g.L.LineReader.answers c.loop.reader)
          (g.L.LineReader.answers c.feed.new.reader) _ _ _ c.loop.kept.items c.feed.new.kept.items
          (take c.in-Ok.n c.read_counted.new.buf) _ _ _ c.loop.invariant.known c.in-Ok.ensures.bytes.0
          (omega (arith, length-take c.in-Ok.n c.read_counted.new.buf, c.in-Ok.ensures.bound)) c.in_ok-feed.ensures.ok
          c.in_ok-feed.ensures.next c.in_ok-feed.ensures.tail;
      count = c.in-Ok.ensures.count ∙ c.loop.invariant.count;
    }

pub returns-then-n-eq0-clause-line : goal.returns-then-n-eq0-clause-line
returns-then-n-eq0-clause-line g c =
    lines_at_end (g.L.LineReader.answers c.args.reader) (g.L.LineReader.answers c.loop.reader) _ _ _ c.loop.kept.items
    (take c.in-Ok.n c.read_counted.new.buf) _ _ c.finish.result c.loop.invariant.known c.in-Ok.ensures.bytes.0
    (rw c.if-n-eq0.true refl)
    (c.in-Ok.ensures.bytes.1 c.if-n-eq0.true
    (omega (arith, c.requires.space, c.loop.auto.block, c.read_counted.auto.buf))) c.loop.invariant.whole
    (rw c.deref.ensures.value at c.finish.ensures.place)

pub returns-in_err-feed-clause-line : goal.returns-in_err-feed-clause-line
returns-in_err-feed-clause-line g c =
    let p = err_from_is_err_and c.from_residual.result c.from_residual.ensures.1 in
    rw (p.1, p.2) (line_fed (g.L.LineReader.answers c.args.reader) (g.L.LineReader.answers c.loop.reader) _ _ _
    c.loop.kept.items (take c.in-Ok.n c.read_counted.new.buf) _ _ _ c.loop.invariant.known c.in-Ok.ensures.bytes.0
    c.in_err-feed.ensures.low c.in_err-feed.ensures.high)

pub returns-clause-line : goal.returns-clause-line
returns-clause-line g c =
    rw (c.new-2.ensures, c.line-2.ensures.number)
    (line_here (g.L.LineReader.answers c.args.reader) (g.L.LineReader.answers c.loop.reader) _ _ c.loop.kept.items _
    _ c.loop.invariant.known)

-- grind closes these at once; what is tried first takes long
pub returns-in_default-clause-place : goal.returns-in_default-clause-place
returns-in_default-clause-place c = grind (arith, common_steps)

pub returns-in_default-clause-line : goal.returns-in_default-clause-line
returns-in_default-clause-line c = grind (arith, common_steps)

pub returns-in_err-feed-clause-value : goal.returns-in_err-feed-clause-value
returns-in_err-feed-clause-value c = grind (arith, common_steps)

pub returns-clause-value : goal.returns-clause-value
returns-clause-value c = grind (arith, common_steps)
