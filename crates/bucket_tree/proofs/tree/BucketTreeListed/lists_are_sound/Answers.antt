-- the entries below the root are those of the tree
use Rattle.bucket_tree.proofs.Rooted.{root_entries, root_entries_hold}
use Rattle.bucket_tree.proofs.tree.BucketTreeListed.lists_are_sound.Goals as goal

pub returns-clause-entries : goal.returns-clause-entries
returns-clause-entries c = root_entries c.args.self.now.root c.bucket_trees_are_sound.ensures.built

pub returns-clause-held : goal.returns-clause-held
returns-clause-held c = root_entries_hold c.args.self.now.root c.bucket_trees_are_sound.ensures.built
