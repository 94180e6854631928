-- the entries below the root are those of the tree
use Rattle.hull_tree.proofs.NodeEntries.{root_entries, root_entries_hold}
use Rattle.hull_tree.proofs.tree.HullTreeListed.lists_are_sound.Goals as goal

pub returns-clause-entries : goal.returns-clause-entries
returns-clause-entries c = root_entries c.args.self.now.root c.trees_are_sound.ensures.built

pub returns-clause-held : goal.returns-clause-held
returns-clause-held c = root_entries_hold c.args.self.now.root
