use Rattle.std.proofs.Common.{length, ◌-◌, ◌≡◌, ◌≤◌, ◌*◌, ◌^◌}
use Rattle.hull_buckets.specs.declared.TheConstants.{BUCKET_SIZE}
use Rattle.bucket_tree.proofs.load.from_parts.Given as goal

abbrev pub invariant-loop-space : goal.invariant-loop-space
invariant-loop-space l =
    (l.space ≡ BUCKET_SIZE * 2 ^ l.forks) × (2 ^ l.forks ≤ length l.points) × (l.forks ≤ 20)

abbrev pub decreases-loop-space : goal.decreases-loop-space
decreases-loop-space l = length l.points - l.space
