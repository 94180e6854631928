-- each chain is a candidate list, and its vertices are among those of both
use Rattle.hull_buckets.proofs.SliceBridges.{vertices_candidates}
use Rattle.hull_buckets.proofs.bridges.vertices_are_candidates.Goals as goal

pub returns : goal.returns
returns c = vertices_candidates c.args.side c.args.bucket.now c.buckets_are_sound.ensures
