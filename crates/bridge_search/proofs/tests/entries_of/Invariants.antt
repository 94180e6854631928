-- the entries so far are a half with its bridges
use Rattle.bridge_search.specs.Trees.{IsBridged}
use Rattle.bridge_search.specs.Listed.{listed_tree}
use Rattle.bridge_search.proofs.tests.entries_of.Given as goal

abbrev pub invariant-loop-pair : goal.invariant-loop-pair
invariant-loop-pair l = IsBridged (listed_tree l.entries.items)
