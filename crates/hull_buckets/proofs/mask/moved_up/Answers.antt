-- what is not below the index is a multiple of its power
use Rattle.std.proofs.Common.{◌-◌, ◌*◌, ℕ, ap, ◌∙◌}
use Rattle.hull_buckets.proofs.Words.{high_twice}
use Rattle.hull_buckets.proofs.mask.moved_up.Goals as goal

pub returns : goal.returns
returns c = ap (λ (b : ℕ). (c.args.mask - b) * 2) c.below.ensures ∙ high_twice c.args.mask c.args.place
