-- the lower bridge is the upper one after a rotation by 180 degrees
use Rattle.std.proofs.Common.{ap, arith}
use Rattle.bridge_search.specs.Trees.{height_of}
use Rattle.bridge_search.specs.TurnedTrees.{height_turned}
use Rattle.bucket_tree.specs.Nodes.{tree_of}
use Rattle.bucket_tree.specs.Parts.{part_tree}
use Rattle.bucket_tree.proofs.NodeRows.{vertices_low}
use Rattle.bucket_tree.proofs.OtherEnds.{beside_by_turn, lower_by_turn, within_by_turn}
use Rattle.bucket_tree.proofs.other_end.search_end.Goals as goal

pub upper_end-found-requires-clause-beside : goal.upper_end-found-requires-clause-beside
upper_end-found-requires-clause-beside c =
    rw (c.opposite_end.ensures, c.new.ensures, c.new-part.ensures, c.turned.ensures)
    (beside_by_turn c.args.end c.args.p (tree_of c.args.node.now) c.requires.beside)

pub upper_end-requires-clause-within : goal.upper_end-requires-clause-within
upper_end-requires-clause-within c = rw c.new-part.ensures (rw c.in-Upper.is at c.requires.within)

pub upper_end-found-requires-clause-within : goal.upper_end-found-requires-clause-within
upper_end-found-requires-clause-within c =
    rw (
      c.opposite_end.ensures,
      c.new.ensures,
      c.new-part.ensures,
      c.turned.ensures,
      c.turned-in-Lower.ensures,
      c.turned-in-Lower-2.ensures,
    )
    (within_by_turn c.args.end c.args.p (tree_of c.args.node.now) c.args.first c.args.last
    (rw c.in-Lower.is at c.requires.within))

pub returns-in-Upper-clause-turns : goal.returns-in-Upper-clause-turns
returns-in-Upper-clause-turns c = omega (
  arith,
  c.upper_end.ensures.turns,
  ap height_of c.new-part.ensures,
  vertices_low c.args.node.now c.requires.built.buckets,
)

pub returns-in-Lower-clause-end : goal.returns-in-Lower-clause-end
returns-in-Lower-clause-end c =
    rw (c.in-Lower.is, c.turned-in-Lower-3.ensures)
    (lower_by_turn c.args.end c.args.p (tree_of c.args.node.now) c.upper_end-found.result.0
    (rw (c.opposite_end.ensures, c.new.ensures, c.new-part.ensures, c.turned.ensures) at c.upper_end-found.ensures.end))

pub returns-in-Lower-clause-turns : goal.returns-in-Lower-clause-turns
returns-in-Lower-clause-turns c = omega (
  arith,
  c.upper_end-found.ensures.turns,
  ap height_of c.new.ensures,
  height_turned (part_tree c.new-part.result),
  ap height_of c.new-part.ensures,
  vertices_low c.args.node.now c.requires.built.buckets,
)
