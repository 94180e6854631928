-- the node over some entries is the root of a set with their points
use Rattle.std.proofs.Common.{ap, arith, length, List}
use Rattle.std.proofs.lemmas.Map.Entries.{length-keys_of}
use Rattle.lattice.specs.Plane.{Pair}
use Rattle.bucket_tree.proofs.Rooted.{held_entries, sound_node}
use Rattle.bucket_tree.proofs.tree.BucketTreeListed.from_entries.Goals as goal

pub returns-clause-held : goal.returns-clause-held
returns-clause-held c =
    held_entries c.in_ok-root.root c.args.entries.now c.in_ok-root.ensures.points c.in_ok-root.ensures.multiplicities

pub returns-clause-sound : goal.returns-clause-sound
returns-clause-sound c =
    sound_node c.in_ok-root.root c.in_ok-root.ensures.built
    (omega (
      arith,
      ap (λ (z : List Pair). length z) c.in_ok-root.ensures.points,
      length-keys_of c.args.entries.now,
      c.requires.space,
      c.requires.high,
    ))
