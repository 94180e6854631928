-- the first values of a list in which one of them was written over
use Rattle.std.proofs.Common.{◌≡◌, List, ℕ, take, slice_set, ap, ◌∙◌}
use Rattle.hull_buckets.proofs.Rows.{take_set}
use Rattle.hull_buckets.proofs.multiplicities.Multiplicities.set.Goals as goal

-- of a list that is another one
first_set : (values old : List ℕ) (count place multiplicity : ℕ) → values ≡ old
    → take count (slice_set values place multiplicity) ≡ slice_set (take count old) place multiplicity
first_set values old count place multiplicity e =
    take_set count values place multiplicity ∙ ap (λ (z : List ℕ). slice_set (take count z) place multiplicity) e

pub returns-then-multiplicity-ne1-clause-first : goal.returns-then-multiplicity-ne1-clause-first
returns-then-multiplicity-ne1-clause-first c =
    first_set c.self.inside.values c.args.self.now c.args.count c.args.place c.args.multiplicity c.self.view_is

pub returns-else-multiplicity-ne1-clause-first : goal.returns-else-multiplicity-ne1-clause-first
returns-else-multiplicity-ne1-clause-first c =
    first_set c.self.inside.values c.args.self.now c.args.count c.args.place c.args.multiplicity c.self.view_is
