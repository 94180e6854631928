-- the indices below one are the ones of the word before its own
use Rattle.std.proofs.Common.{◌-◌, ◌∙◌, ℕ, ap, bit_and}
use Rattle.std.proofs.lemmas.Nat.{and_mask}
use Rattle.hull_buckets.proofs.mask.below.Goals as goal

pub returns : goal.returns
returns c = ap (λ (b : ℕ). bit_and c.args.mask (b - 1)) c.bit.ensures ∙ and_mask c.args.mask c.args.place
