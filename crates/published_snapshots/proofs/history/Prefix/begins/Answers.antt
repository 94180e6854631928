-- the shorter of two prefixes of all that either has seen is a prefix of the other
use Rattle.std.proofs.Common.{ap, refl, subst}
use mathlib.Core.List.{IsPrefix}
use Rattle.published_snapshots.proofs.Beginnings.{begins_by_count}
use Rattle.published_snapshots.proofs.history.Prefix.begins.Goals as goal

pub returns : goal.returns
returns g c =
    let both = c.learn.new.self.log in
    begins_by_count c.args.self.now.seen.log c.args.other.now.seen.log both c.args.self.now.count
    c.args.other.now.count c.args.self.now.counted c.args.other.now.counted
    (subst (λ l. IsPrefix l both) (ap (λ s. s.log) c.again-both.ensures) c.learn.ensures.2) c.learn.ensures.3 _ refl
