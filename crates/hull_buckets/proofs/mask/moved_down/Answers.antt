-- two shifts are one, and what is shifted back fits
use Rattle.std.proofs.Common.{◌≡◌, ◌*◌, ◌/◌, ◌^◌, ◌+◌, ◌≤◌, ℕ, ap, ◌∙◌, arith}
use Rattle.std.proofs.lemmas.Nat.{shr-shr, shr_split, mul-le}
use Rattle.hull_buckets.proofs.Words.{small}
use Rattle.hull_buckets.proofs.mask.moved_down.Goals as goal

pub returns : goal.returns
returns c =
    let e : c.args.mask / 2 ^ c.args.place / 2 ≡ c.args.mask / 2 ^ (c.args.place + 1) = shr-shr c.args.mask
    c.args.place 1 in
    let s = shr_split c.args.mask (c.args.place) in
    let h : c.args.mask / 2 ^ c.args.place / 2 ≤ c.args.mask / 2 ^ c.args.place = omega arith in
    let m = fewer (c.args.mask / 2 ^ c.args.place / 2) (c.args.mask / 2 ^ c.args.place) (2 ^ c.args.place) h in
    small (c.args.mask / 2 ^ c.args.place / 2 * 2 ^ c.args.place) 64 (omega (arith, s, m, c.ranges.mask.fits))
    ∙ ap (λ (z : ℕ). z * 2 ^ c.args.place) e
  where
    fewer : (a b p : ℕ) → a ≤ b → a * p ≤ b * p
    fewer a b p l = mul-le a p b p l (omega arith)
