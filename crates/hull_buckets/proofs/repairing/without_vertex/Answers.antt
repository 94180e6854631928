-- the masks of the vertices before the point and after it are those of the old chain's parts
use Rattle.std.proofs.Common.{◌≡◌, ◌<◌, ℕ, arith, sym, ◌∙◌}
use Rattle.std.proofs.lemmas.Bool.{false≢true}
use Rattle.std.proofs.lemmas.Nat.Bits.{bit_at-lt}
use Rattle.hull_buckets.proofs.Removed.{left_of}
use Rattle.hull_buckets.proofs.Words.{sum_within}
use Rattle.hull_buckets.proofs.repairing.without_vertex.Goals as goal

pub overflow_add-result : goal.overflow_add-result
overflow_add-result c =
    let b = left_of c.args.side c.args.points.now c.args.old c.args.place c.below-low.result c.moved_down-high.result
    c.requires
    c.below-low.ensures c.moved_down-high.ensures in
    let s = sum_within c.below-low.result c.moved_down-high.result 64 b.apart c.below-low.type_inv
    c.moved_down-high.type_inv in
    omega (arith, s)

pub returns-then-not-has : goal.returns-then-not-has
returns-then-not-has c =
    (left_of c.args.side c.args.points.now c.args.old c.args.place c.below-low.result c.moved_down-high.result
    c.requires
    c.below-low.ensures c.moved_down-high.ensures).stays
    (none _ (bit_at-lt c.args.old c.args.place) (λ e. false≢true (sym c.if-not-has.true ∙ c.has.ensures.1 e)))
  where
    none : (n : ℕ) → n < 2 → ¬ (n ≡ 1) → n ≡ 0
    none n l h = omega (arith, l, h)

pub joined-requires-clause-ordered : goal.joined-requires-clause-ordered
joined-requires-clause-ordered c =
    (left_of c.args.side c.args.points.now c.args.old c.args.place c.below-low.result c.moved_down-high.result
    c.requires
    c.below-low.ensures c.moved_down-high.ensures).ordered

pub joined-requires-clause-ends : goal.joined-requires-clause-ends
joined-requires-clause-ends c =
    (left_of c.args.side c.args.points.now c.args.old c.args.place c.below-low.result c.moved_down-high.result
    c.requires
    c.below-low.ensures c.moved_down-high.ensures).ends (c.has.ensures.0 c.if-not-has.false)
