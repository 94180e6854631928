-- a list of one entry is a point; a longer one is a fork, whose edges are in its first entry
use Rattle.std.proofs.Common.{arith}
use Rattle.bridge_search.proofs.ListedTrees.{edges_one, edges_more}
use Rattle.bridge_search.proofs.listed.ListedHalf.lower.Goals as goal

pub returns-then-self-lt2 : goal.returns-then-self-lt2
returns-then-self-lt2 c = (edges_one c.args.self.entries.now (omega (arith, c.if-self-lt2.true))).1

pub returns-else-self-lt2 : goal.returns-else-self-lt2
returns-else-self-lt2 c =
    (edges_more c.args.self.entries.now c.index-self-0.result (omega (arith, c.if-self-lt2.false))).1
