-- the vertices of the one are before those of the other
use Rattle.std.proofs.Common.{ap, arith, subst, sym}
use Rattle.lattice.specs.Bridges.{IsAllBefore}
use Rattle.bridge_search.specs.Trees.{On, height_of}
use Rattle.bucket_tree.specs.Nodes.{tree_of}
use Rattle.bucket_tree.specs.Parts.{part_tree}
use Rattle.bucket_tree.proofs.NodeRows.{vertices_in_row, vertices_low}
use Rattle.bucket_tree.proofs.join.search_one.Goals as goal

pub upper_bridge_counted-requires : goal.upper_bridge_counted-requires
upper_bridge_counted-requires c =
    subst (λ z. IsAllBefore (On z) (On (part_tree c.new-w.result))) (sym c.new-u.ensures)
    (subst (λ z. IsAllBefore (On (tree_of c.args.left.now)) (On z)) (sym c.new-w.ensures)
    (vertices_in_row c.args.left.now c.args.right.now c.requires.row))

pub lower_bridge_counted-requires : goal.lower_bridge_counted-requires
lower_bridge_counted-requires c =
    subst (λ z. IsAllBefore (On z) (On (part_tree c.new-w.result))) (sym c.new-u.ensures)
    (subst (λ z. IsAllBefore (On (tree_of c.args.left.now)) (On z)) (sym c.new-w.ensures)
    (vertices_in_row c.args.left.now c.args.right.now c.requires.row))

pub returns-in-Upper-clause-turns : goal.returns-in-Upper-clause-turns
returns-in-Upper-clause-turns c = omega (
  arith,
  c.upper_bridge_counted.ensures.few,
  ap height_of c.new-u.ensures,
  ap height_of c.new-w.ensures,
  vertices_low c.args.left.now c.requires.row.left_built.buckets,
  vertices_low c.args.right.now c.requires.row.right_built.buckets,
)

pub returns-in-Lower-clause-turns : goal.returns-in-Lower-clause-turns
returns-in-Lower-clause-turns c = omega (
  arith,
  c.lower_bridge_counted.ensures.few,
  ap height_of c.new-u.ensures,
  ap height_of c.new-w.ensures,
  vertices_low c.args.left.now c.requires.row.left_built.buckets,
  vertices_low c.args.right.now c.requires.row.right_built.buckets,
)
