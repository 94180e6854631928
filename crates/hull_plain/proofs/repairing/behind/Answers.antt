-- the point before the index is the end
use Rattle.std.proofs.Common.{ℕ, take, ap, arith}
use Rattle.hull_geometry.proofs.Between.{end_of_first}
use Rattle.hull_plain.proofs.repairing.behind.Goals as goal

pub returns-then-i-eq0 : goal.returns-then-i-eq0
returns-then-i-eq0 c = ap (λ (n : ℕ). take n c.args.chain.now.items) c.if-i-eq0.true

pub returns-else-i-eq0 : goal.returns-else-i-eq0
returns-else-i-eq0 c =
    end_of_first c.args.chain.now.items c.args.i c.get.result (omega (arith, c.if-i-eq0.false)) c.requires c.get.ensures
