use Rattle.bucket_tree.proofs.load.+build.Given as goal

abbrev pub decreases-build : goal.decreases-build
decreases-build l = l.forks
