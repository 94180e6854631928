-- the masks of the vertices before the point and after it are those of the old chain's parts
use Rattle.std.proofs.Common.{length, arith, sym, ◌∙◌}
use Rattle.std.proofs.lemmas.Bool.{false≢true}
use Rattle.hull_buckets.specs.Masks.{without_place}
use Rattle.hull_buckets.proofs.Around.{others_count}
use Rattle.hull_buckets.proofs.Inserted.{beside}
use Rattle.hull_buckets.proofs.Words.{power_le, sum_within}
use Rattle.hull_buckets.proofs.repairing.with_vertex.Goals as goal

pub moved_up-high-requires-clause-space : goal.moved_up-high-requires-clause-space
moved_up-high-requires-clause-space c =
    let n = others_count c.args.points.now c.args.place c.requires.within in
    let p = power_le (length (without_place c.args.place c.args.points.now)) 63 (omega (arith, n, c.requires.few)) in
    let w = c.requires.mask.within in
    omega (arith, w, p)

pub is_covered-requires-clause-high_after : goal.is_covered-requires-clause-high_after
is_covered-requires-clause-high_after c =
    (beside c.args.side c.args.points.now c.args.old c.args.place c.below-low.result c.moved_up-high.result
    c.requires.ordered c.requires.within c.requires.mask c.below-low.ensures c.moved_up-high.ensures).high_after

pub is_covered-requires-clause-high_within : goal.is_covered-requires-clause-high_within
is_covered-requires-clause-high_within c =
    (beside c.args.side c.args.points.now c.args.old c.args.place c.below-low.result c.moved_up-high.result
    c.requires.ordered c.requires.within c.requires.mask c.below-low.ensures c.moved_up-high.ensures).high_within

pub overflow_add-result : goal.overflow_add-result
overflow_add-result c =
    let b = beside c.args.side c.args.points.now c.args.old c.args.place c.below-low.result c.moved_up-high.result
    c.requires.ordered c.requires.within c.requires.mask c.below-low.ensures c.moved_up-high.ensures in
    let s = sum_within c.below-low.result c.moved_up-high.result 64 b.apart c.below-low.type_inv
    c.moved_up-high.type_inv in
    omega (arith, s)

pub returns-then-is_covered : goal.returns-then-is_covered
returns-then-is_covered c =
    (beside c.args.side c.args.points.now c.args.old c.args.place c.below-low.result c.moved_up-high.result
    c.requires.ordered c.requires.within c.requires.mask c.below-low.ensures c.moved_up-high.ensures).stays
    (c.is_covered.ensures.0 c.if-is_covered.true)

pub appended-requires-clause-high_after : goal.appended-requires-clause-high_after
appended-requires-clause-high_after c =
    (beside c.args.side c.args.points.now c.args.old c.args.place c.below-low.result c.moved_up-high.result
    c.requires.ordered c.requires.within c.requires.mask c.below-low.ensures c.moved_up-high.ensures).high_after

pub appended-requires-clause-high_within : goal.appended-requires-clause-high_within
appended-requires-clause-high_within c =
    (beside c.args.side c.args.points.now c.args.old c.args.place c.below-low.result c.moved_up-high.result
    c.requires.ordered c.requires.within c.requires.mask c.below-low.ensures c.moved_up-high.ensures).high_within

pub appended-requires-clause-low_convex : goal.appended-requires-clause-low_convex
appended-requires-clause-low_convex c =
    (beside c.args.side c.args.points.now c.args.old c.args.place c.below-low.result c.moved_up-high.result
    c.requires.ordered c.requires.within c.requires.mask c.below-low.ensures c.moved_up-high.ensures).left_convex

pub appended-requires-clause-high_convex : goal.appended-requires-clause-high_convex
appended-requires-clause-high_convex c =
    (beside c.args.side c.args.points.now c.args.old c.args.place c.below-low.result c.moved_up-high.result
    c.requires.ordered c.requires.within c.requires.mask c.below-low.ensures c.moved_up-high.ensures).right_convex

pub returns : goal.returns
returns c =
    (beside c.args.side c.args.points.now c.args.old c.args.place c.below-low.result c.moved_up-high.result
    c.requires.ordered c.requires.within c.requires.mask c.below-low.ensures c.moved_up-high.ensures).comes c.appended.result
    (λ o. false≢true (sym c.if-is_covered.false ∙ c.is_covered.ensures.1 o)) c.appended.ensures.passed
    c.appended.ensures.within
