-- all points are farther, or those of a bucket, or those of both halves, one after the other
use Rattle.std.proofs.Common.{◌≡◌, ◌+◌, ◌++◌, ◌∷◌, ◌∙◌, max, List, sym, ap, subst, arith}
use Rattle.lattice.specs.Plane.{Pair}
use Rattle.bucket_tree.specs.NearestPoints.{IsNearestPoint}
use Rattle.bucket_tree.specs.Nodes.{ends_in, node_height, points_below, IsWellBuilt}
use Rattle.bucket_tree.specs.declared.node.Fork.{Fork as Below}
use Rattle.bucket_tree.proofs.NearestPoints.{between_ends, left_first, right_first}
use Rattle.bucket_tree.proofs.NodeRows.{halves_row}
use Rattle.bucket_tree.proofs.nearest.+nearest_below.Goals as goal

pub returns-then-are_beyond-clause-nearest : goal.returns-then-are_beyond-clause-nearest
returns-then-are_beyond-clause-nearest t c =
    subst (λ z. IsNearestPoint c.args.q (c.args.best.now.point ∷ points_below c.args.node.now) z.point) (sym c.same.ensures)
    (between_ends c.args.q c.args.best.now.point c.args.best.now.squared (points_below c.args.node.now) c.args.ends.now
    c.requires.squared c.requires.ends c.requires.built.ordered (c.are_beyond.ensures c.if-are_beyond.true))

pub nearest_below-found-requires : goal.nearest_below-found-requires
nearest_below-found-requires t c =
    let row = halves_row c.args.node.now c.in-Fork.field-0 c.in-Fork.fork c.in-Fork.is c.requires.built in
    let e : node_height c.args.node.now
    ≡ max (node_height c.in-Fork.fork.value.left) (node_height c.in-Fork.fork.value.right) + 1 =
    ap node_height c.in-Fork.is in
    let k = ap (λ (z : Below). node_height z.left) c.deref-then-before.ensures in (
      omega (arith, c.decreases, e, k),
      (
        subst (λ (z : Below). IsWellBuilt z.left) (sym c.deref-then-before.ensures) row.left_built,
        (
          ap (λ (z : Below). z.left_ends) c.deref-then-before-2.ensures
              ∙ (subst IsWellBuilt c.in-Fork.is c.requires.built).labelled.0
              ∙ ap (λ (z : Below). ends_in (points_below z.left)) (sym c.deref-then-before.ensures),
          c.requires.squared,
        ),
      ),
    )

pub nearest_below-requires : goal.nearest_below-requires
nearest_below-requires t c =
    let row = halves_row c.args.node.now c.in-Fork.field-0 c.in-Fork.fork c.in-Fork.is c.requires.built in
    let e : node_height c.args.node.now
    ≡ max (node_height c.in-Fork.fork.value.left) (node_height c.in-Fork.fork.value.right) + 1 =
    ap node_height c.in-Fork.is in
    let k = ap (λ (z : Below). node_height z.right) c.deref-then-before-3.ensures in (
      omega (arith, c.decreases, e, k),
      (
        subst (λ (z : Below). IsWellBuilt z.right) (sym c.deref-then-before-3.ensures) row.right_built,
        (
          ap (λ (z : Below). z.right_ends) c.deref-then-before-4.ensures
              ∙ (subst IsWellBuilt c.in-Fork.is c.requires.built).labelled.1
              ∙ ap (λ (z : Below). ends_in (points_below z.right)) (sym c.deref-then-before-3.ensures),
          c.nearest_below-found.ensures.squared,
        ),
      ),
    )

pub nearest_below-found-requires-else-before : goal.nearest_below-found-requires-else-before
nearest_below-found-requires-else-before t c =
    let row = halves_row c.args.node.now c.in-Fork.field-0 c.in-Fork.fork c.in-Fork.is c.requires.built in
    let e : node_height c.args.node.now
    ≡ max (node_height c.in-Fork.fork.value.left) (node_height c.in-Fork.fork.value.right) + 1 =
    ap node_height c.in-Fork.is in
    let k = ap (λ (z : Below). node_height z.right) c.deref-else-before.ensures in (
      omega (arith, c.decreases, e, k),
      (
        subst (λ (z : Below). IsWellBuilt z.right) (sym c.deref-else-before.ensures) row.right_built,
        (
          ap (λ (z : Below). z.right_ends) c.deref-else-before-2.ensures
              ∙ (subst IsWellBuilt c.in-Fork.is c.requires.built).labelled.1
              ∙ ap (λ (z : Below). ends_in (points_below z.right)) (sym c.deref-else-before.ensures),
          c.requires.squared,
        ),
      ),
    )

pub nearest_below-requires-else-before : goal.nearest_below-requires-else-before
nearest_below-requires-else-before t c =
    let row = halves_row c.args.node.now c.in-Fork.field-0 c.in-Fork.fork c.in-Fork.is c.requires.built in
    let e : node_height c.args.node.now
    ≡ max (node_height c.in-Fork.fork.value.left) (node_height c.in-Fork.fork.value.right) + 1 =
    ap node_height c.in-Fork.is in
    let k = ap (λ (z : Below). node_height z.left) c.deref-else-before-3.ensures in (
      omega (arith, c.decreases, e, k),
      (
        subst (λ (z : Below). IsWellBuilt z.left) (sym c.deref-else-before-3.ensures) row.left_built,
        (
          ap (λ (z : Below). z.left_ends) c.deref-else-before-4.ensures
              ∙ (subst IsWellBuilt c.in-Fork.is c.requires.built).labelled.0
              ∙ ap (λ (z : Below). ends_in (points_below z.left)) (sym c.deref-else-before-3.ensures),
          c.nearest_below-found-else-before.ensures.squared,
        ),
      ),
    )

pub returns-then-before-clause-nearest : goal.returns-then-before-clause-nearest
returns-then-before-clause-nearest t c =
    subst (λ (z : List Pair). IsNearestPoint c.args.q (c.args.best.now.point ∷ z) c.nearest_below.result.point)
    (ap (λ (z : Below). points_below z.left ++ points_below c.deref-then-before-3.result.now.right) c.deref-then-before.ensures
    ∙ ap (λ (z : Below). points_below c.in-Fork.fork.value.left ++ points_below z.right) c.deref-then-before-3.ensures
    ∙ sym (ap points_below c.in-Fork.is))
    (left_first c.args.q c.args.best.now.point c.nearest_below-found.result.point c.nearest_below.result.point
    (points_below c.deref-then-before.result.now.left) (points_below c.deref-then-before-3.result.now.right)
    c.nearest_below-found.ensures.nearest c.nearest_below.ensures.nearest)

pub returns-else-before-clause-nearest : goal.returns-else-before-clause-nearest
returns-else-before-clause-nearest t c =
    subst (λ (z : List Pair). IsNearestPoint c.args.q (c.args.best.now.point ∷ z) c.nearest_below-else-before.result.point)
    (ap (λ (z : Below). points_below z.left ++ points_below c.deref-else-before.result.now.right) c.deref-else-before-3.ensures
    ∙ ap (λ (z : Below). points_below c.in-Fork.fork.value.left ++ points_below z.right) c.deref-else-before.ensures
    ∙ sym (ap points_below c.in-Fork.is))
    (right_first c.args.q c.args.best.now.point c.nearest_below-found-else-before.result.point
    c.nearest_below-else-before.result.point
    (points_below c.deref-else-before-3.result.now.left) (points_below c.deref-else-before.result.now.right)
    c.nearest_below-found-else-before.ensures.nearest c.nearest_below-else-before.ensures.nearest)
