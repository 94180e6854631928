-- above the highest bit there are as many zeros as are counted
use Rattle.std.proofs.Common.{◌≡◌, ◌<◌, ◌≤◌, ◌+◌, ◌-◌, ◌^◌, ℕ, suc, arith, subst}
use lib.Count.{count_leading_zeros}
use Rattle.std.proofs.lemmas.Nat.{leading_top}
use Rattle.hull_buckets.proofs.mask.highest.Goals as goal

pub returns-clause-there : goal.returns-clause-there
returns-clause-there c =
    let t = leading_top 64 c.args.mask c.requires c.ranges.mask.fits in
    let e : t.0 ≡ 63 - count_leading_zeros 64 c.args.mask = omega (arith, t.1) in
    subst (λ (k : ℕ). 2 ^ k ≤ c.args.mask) e t.2

pub returns-clause-none_above : goal.returns-clause-none_above
returns-clause-none_above c =
    let t = leading_top 64 c.args.mask c.requires c.ranges.mask.fits in
    let e : suc t.0 ≡ 63 - count_leading_zeros 64 c.args.mask + 1 = omega (arith, t.1) in
    subst (λ (k : ℕ). c.args.mask < 2 ^ k) e t.3
