-- the sort is by the left sides
use Rattle.std.proofs.Common.{rules}
use Rattle.std.proofs.lemmas.List.Sorted.{IsNonDecreasingBy-from_sort_by_key}
use Rattle.polygon_pairs.specs.declared.boxed.Boxed.{Boxed}
use Rattle.polygon_pairs.proofs.boxed.sort.Goals as goal

pub returns-clause-sorted : goal.returns-clause-sorted
returns-clause-sorted c =
    IsNonDecreasingBy-from_sort_by_key (λ (b : Boxed). b.left) _ c.sort_unstable_by_key.ensures.sorted (λ a r q k. search rules)
