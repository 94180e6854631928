-- a product with a negated factor is subtracted
use Rattle.std.proofs.Common.{◌≡◌, ℤ, ◌+ℤ◌, ◌-ℤ◌, ◌*ℤ◌, neg_ℤ, ap, arith, rules}
use Rattle.std.proofs.lemmas.Int.{ints}
use Rattle.lattice.specs.Integers.{neg_mul_r}
use Rattle.motions.proofs.motion.rotated_x.Goals as goal

-- the same for any numbers
minus : (n a b c d e : ℤ) → n ≡ a *ℤ b +ℤ c *ℤ d → d ≡ neg_ℤ e → n ≡ a *ℤ b -ℤ c *ℤ e
minus n a b c d e h k =
    let m = neg_mul_r c e in let f : c *ℤ d ≡ c *ℤ neg_ℤ e = ap (λ (z : ℤ). c *ℤ z) k in omega (arith, ints)

pub returns : goal.returns
returns c = minus _ c.args.d.x c.args.p.x c.args.d.y c.negative.result c.args.p.y (search rules) (search rules)
