-- the lowest bit is the only one up to its index
use Rattle.std.proofs.Common.{◌≡◌, ◌<◌, ◌+◌, ◌*◌, ◌%◌, ◌^◌, ℕ, w64, arith, ap, ◌∙◌}
use Rattle.std.specs.Int.{trailing_zeros}
use Rattle.std.proofs.lemmas.Nat.Bits.{bit_at-trailing_zeros}
use Rattle.hull_buckets.proofs.Words.{one_more, none_below}
use Rattle.std.proofs.lemmas.Nat.{shr_split}
use Rattle.hull_buckets.proofs.mask.lowest.Goals as goal

-- up to its lowest bit a number has only that bit
up_to_lowest : (n : ℕ) → 0 < n → n < 2 ^ 64 → n % 2 ^ (trailing_zeros w64 n + 1) ≡ 2 ^ trailing_zeros w64 n
up_to_lowest n some fits =
    let b = bit_at-trailing_zeros w64 n some fits in
    let none = none_below n (trailing_zeros w64 n) b.2 in
    one_more n (trailing_zeros w64 n)
    ∙ ap (λ (z : ℕ). z * 2 ^ trailing_zeros w64 n + n % 2 ^ trailing_zeros w64 n) b.1
    ∙ ap (λ (z : ℕ). 1 * 2 ^ trailing_zeros w64 n + z) none ∙ (omega arith)

pub returns-clause-least : goal.returns-clause-least
returns-clause-least c =
    let e = up_to_lowest c.args.mask c.requires c.ranges.mask.fits in
    let s = shr_split c.args.mask (trailing_zeros w64 c.args.mask + 1) in
    omega (arith, e, s)

pub returns-clause-none_below : goal.returns-clause-none_below
returns-clause-none_below c =
    none_below c.args.mask _ (bit_at-trailing_zeros w64 c.args.mask c.requires c.ranges.mask.fits).2

pub returns-clause-there : goal.returns-clause-there
returns-clause-there c = up_to_lowest c.args.mask c.requires c.ranges.mask.fits
