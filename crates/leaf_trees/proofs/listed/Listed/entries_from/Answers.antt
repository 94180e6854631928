-- the first `most` of the entries, or all
use Rattle.std.proofs.Common.{ap, arith, length}
use Rattle.std.proofs.lemmas.Map.Entries.{length-keys_of}
use Rattle.hull_set.specs.Held.{Held}
use Rattle.leaf_trees.specs.ChainRanges.{entries_from}
use Rattle.leaf_trees.proofs.ChainRanges.{from_shorter, take_least}
use Rattle.leaf_trees.proofs.listed.Listed.entries_from.Goals as goal

pub returns-clause-chain_range : goal.returns-clause-chain_range
returns-clause-chain_range g c =
    let all = g.Self.Listed.listed c.args.self.now in
    record {
      all = all;
      entries = c.lists_are_sound.ensures.entries;
      of_held = c.lists_are_sound.ensures.held;
      chain_range =
          rw (c.push_from.ensures, c.in_ok-entries.ensures.items, c.min-space.ensures)
          (take_least c.args.most c.count-count.result (entries_from c.args.start all)
          (omega (
            arith,
            from_shorter c.args.start all,
            length-keys_of all,
            ap (λ (z : Held). length z.points) c.lists_are_sound.ensures.held,
            c.count-count.ensures.reply,
          )));
    }
