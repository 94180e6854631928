-- The blocks so far were read as far as the kept part of a line, and no read has failed.
use Rattle.std.proofs.Common.{◌≡◌}
use Rattle.hull_text.specs.Reading.{HasNoNewline}
use Rattle.hull_text.proofs.Known.{Known}
use Rattle.hull_text.proofs.read.reading.read_blocks.Given as goal

abbrev pub invariant-loop : goal.invariant-loop
invariant-loop g l = record {
  whole : HasNoNewline l.kept.items;
  known : Known (g.L.LineReader.answers l.fn.reader) (g.L.LineReader.answers l.reader) (g.R.Read.remaining l.fn.source)
      (g.R.Read.remaining l.source) l.kept.items (g.L.LineReader.line l.reader) l.counter;
  count : g.R.Source.failed l.source ≡ g.R.Source.failed l.fn.source;
}
