-- an array of ones
use Rattle.std.proofs.Common.{◌≡◌, ℕ, refl}
use Rattle.std.proofs.lemmas.List.Elements.{All-replicate}
use Rattle.hull_buckets.proofs.multiplicities.Multiplicities.new.Goals as goal

pub invariant_of-ones : goal.invariant_of-ones
invariant_of-ones c = λ t. All-replicate (λ (n : ℕ). n ≡ 1) 64 1 refl
