-- ones stay where they are
use Rattle.std.proofs.Common.{◌-◌, ◌≡◌, List, ℕ, take, subst, arith}
use Rattle.std.specs.List.{remove}
use Rattle.hull_buckets.proofs.Ones.{one_removed}
use Rattle.hull_buckets.proofs.multiplicities.Multiplicities.remove.Goals as goal

pub returns-else-not-self-clause-first : goal.returns-else-not-self-clause-first
returns-else-not-self-clause-first c =
    subst (λ (z : List ℕ). take (c.args.count - 1) z ≡ remove (take c.args.count z) c.args.place) c.self.view_is
    (one_removed c.self.inside.values c.args.count c.args.place (c.self.invariant c.if-not-self.false) c.requires.order
    (omega (arith, c.requires.within, c.self.told)))
