-- the vertices of the one are before those of the other
use Rattle.std.proofs.Common.{ap, arith, length-append, subst, sym}
use Rattle.lattice.specs.Bridges.{IsAllBefore}
use Rattle.bridge_search.specs.Trees.{On, height_of}
use Rattle.bucket_tree.specs.Nodes.{tree_of, points_below}
use Rattle.bucket_tree.specs.Parts.{part_tree}
use Rattle.bucket_tree.proofs.NodeRows.{vertices_in_row, vertices_low}
use Rattle.bucket_tree.proofs.join.search.Goals as goal

pub both_bridges-upper-requires : goal.both_bridges-upper-requires
both_bridges-upper-requires c =
    subst (λ z. IsAllBefore (On z) (On (part_tree c.new-2.result))) (sym c.new.ensures)
    (subst (λ z. IsAllBefore (On (tree_of c.args.left.now)) (On z)) (sym c.new-2.ensures)
    (vertices_in_row c.args.left.now c.args.right.now c.requires.row))

pub overflow_add-result : goal.overflow_add-result
overflow_add-result c = omega (
  arith,
  c.both_bridges-upper.ensures.upper_few,
  c.both_bridges-upper.ensures.lower_few,
  ap height_of c.new.ensures,
  ap height_of c.new-2.ensures,
  c.vertices_are_few.ensures.low,
  c.vertices_are_few-2.ensures.low,
  c.requires.few,
  length-append (points_below c.args.left.now) (points_below c.args.right.now),
)

pub returns-clause-turns : goal.returns-clause-turns
returns-clause-turns c = omega (
  arith,
  c.both_bridges-upper.ensures.upper_few,
  c.both_bridges-upper.ensures.lower_few,
  ap height_of c.new.ensures,
  ap height_of c.new-2.ensures,
  vertices_low c.args.left.now c.requires.row.left_built.buckets,
  vertices_low c.args.right.now c.requires.row.right_built.buckets,
)

pub returns-clause-before : goal.returns-clause-before
returns-clause-before c = vertices_in_row c.args.left.now c.args.right.now c.requires.row
