-- the parts of a row are in a row, and their edges are the bridges that the rotation keeps
use Rattle.std.proofs.Common.{◌∙◌, ap, subst, sym, arith, length, List}
use Rattle.lattice.specs.Bridges.{IsBridge}
use Rattle.lattice.specs.Covers.{IsPointSet}
use Rattle.lattice.specs.Plane.{Pair}
use Rattle.lattice.specs.declared.side.Side.TheVariants.{Lower, Upper}
use Rattle.bridge_search.specs.Trees.{On}
use Rattle.bucket_tree.specs.Changes.{edge_on}
use Rattle.bucket_tree.specs.Nodes.{tree_of, points_below}
use Rattle.bucket_tree.specs.declared.node.Fork.{Fork}
use Rattle.bucket_tree.proofs.NodeRows.{in_row, front, back, with_back}
use Rattle.bucket_tree.proofs.RotatedNodes.{edges_right, four_right, rotated_right}
use Rattle.bucket_tree.proofs.rotation.rotate_right.Goals as goal

pub regroup_forks-upper-requires-clause-row : goal.regroup_forks-upper-requires-clause-row
regroup_forks-upper-requires-clause-row c =
    in_row c.take_apart-outer.result.1 c.args.right c.take_apart-outer.ensures.row.right_built
    c.requires.row.right_built
    (back (points_below c.args.left) (points_below c.args.right) (points_below c.take_apart-outer.result.0)
    (points_below c.take_apart-outer.result.1) c.requires.row.in_order c.take_apart-outer.ensures.points)

pub regroup_forks-lower-requires-clause-row : goal.regroup_forks-lower-requires-clause-row
regroup_forks-lower-requires-clause-row c =
    in_row c.take_apart-outer.result.1 c.args.right c.take_apart-outer.ensures.row.right_built
    c.requires.row.right_built
    (back (points_below c.args.left) (points_below c.args.right) (points_below c.take_apart-outer.result.0)
    (points_below c.take_apart-outer.result.1) c.requires.row.in_order c.take_apart-outer.ensures.points)

pub fork_over-second-requires-clause-row : goal.fork_over-second-requires-clause-row
fork_over-second-requires-clause-row c =
    in_row c.take_apart-outer.result.1 c.args.right c.take_apart-outer.ensures.row.right_built
    c.requires.row.right_built
    (back (points_below c.args.left) (points_below c.args.right) (points_below c.take_apart-outer.result.0)
    (points_below c.take_apart-outer.result.1) c.requires.row.in_order c.take_apart-outer.ensures.points)

pub fork_over-whole-requires-clause-row : goal.fork_over-whole-requires-clause-row
fork_over-whole-requires-clause-row c =
    in_row c.take_apart-outer.result.0 c.fork_over-second.result c.take_apart-outer.ensures.row.left_built
    c.fork_over-second.ensures.built
    (with_back (points_below c.args.left) (points_below c.args.right) (points_below c.take_apart-outer.result.0)
    (points_below c.take_apart-outer.result.1) (points_below c.fork_over-second.result) c.requires.row.in_order
    c.take_apart-outer.ensures.points c.fork_over-second.ensures.points)

pub fork_over-second-requires-clause-upper : goal.fork_over-second-requires-clause-upper
fork_over-second-requires-clause-upper c = (rotated_right Upper c.args.left c.args.right c.take_apart-outer.result.0
    c.take_apart-outer.result.1
    c.take_apart-outer.result.2.value c.args.place.value _ _ _ c.regroup_forks-upper.result c.requires.row
    c.take_apart-outer.ensures.row c.take_apart-outer.ensures.tree (c.take_apart-outer.ensures.stored Upper)
    (ap (λ (z : Fork). z.right_ends.first) c.deref-then-height_of.ensures ∙ c.take_apart-outer.ensures.split) (c.requires.edges Upper)
    (ap (edge_on Upper) c.deref.ensures) (ap (edge_on Upper) c.deref-then-height_of.ensures)
    c.regroup_forks-upper.ensures.edges).0

pub fork_over-whole-requires-clause-upper : goal.fork_over-whole-requires-clause-upper
fork_over-whole-requires-clause-upper c =
    let e = c.regroup_forks-upper.result.outer in
    subst (λ z. IsBridge Upper (On (tree_of c.take_apart-outer.result.0)) (On z) e.0 e.1) (sym
    c.fork_over-second.ensures.tree)
    (rotated_right Upper c.args.left c.args.right c.take_apart-outer.result.0 c.take_apart-outer.result.1
    c.take_apart-outer.result.2.value c.args.place.value _ _ _ c.regroup_forks-upper.result c.requires.row
    c.take_apart-outer.ensures.row c.take_apart-outer.ensures.tree (c.take_apart-outer.ensures.stored Upper)
    (ap (λ (z : Fork). z.right_ends.first) c.deref-then-height_of.ensures ∙ c.take_apart-outer.ensures.split) (c.requires.edges Upper)
    (ap (edge_on Upper) c.deref.ensures) (ap (edge_on Upper) c.deref-then-height_of.ensures)
    c.regroup_forks-upper.ensures.edges).1

pub fork_over-second-requires-clause-lower : goal.fork_over-second-requires-clause-lower
fork_over-second-requires-clause-lower c = (rotated_right Lower c.args.left c.args.right c.take_apart-outer.result.0
    c.take_apart-outer.result.1
    c.take_apart-outer.result.2.value c.args.place.value _ _ _ c.regroup_forks-lower.result c.requires.row
    c.take_apart-outer.ensures.row c.take_apart-outer.ensures.tree (c.take_apart-outer.ensures.stored Lower)
    (ap (λ (z : Fork). z.right_ends.first) c.deref-then-height_of-3.ensures ∙ c.take_apart-outer.ensures.split) (c.requires.edges Lower)
    (ap (edge_on Lower) c.deref-then-height_of-2.ensures) (ap (edge_on Lower) c.deref-then-height_of-3.ensures)
    c.regroup_forks-lower.ensures.edges).0

pub fork_over-whole-requires-clause-lower : goal.fork_over-whole-requires-clause-lower
fork_over-whole-requires-clause-lower c =
    let e = c.regroup_forks-lower.result.outer in
    subst (λ z. IsBridge Lower (On (tree_of c.take_apart-outer.result.0)) (On z) e.0 e.1) (sym
    c.fork_over-second.ensures.tree)
    (rotated_right Lower c.args.left c.args.right c.take_apart-outer.result.0 c.take_apart-outer.result.1
    c.take_apart-outer.result.2.value c.args.place.value _ _ _ c.regroup_forks-lower.result c.requires.row
    c.take_apart-outer.ensures.row c.take_apart-outer.ensures.tree (c.take_apart-outer.ensures.stored Lower)
    (ap (λ (z : Fork). z.right_ends.first) c.deref-then-height_of-3.ensures ∙ c.take_apart-outer.ensures.split) (c.requires.edges Lower)
    (ap (edge_on Lower) c.deref-then-height_of-2.ensures) (ap (edge_on Lower) c.deref-then-height_of-3.ensures)
    c.regroup_forks-lower.ensures.edges).1

pub rotate_twice-requires-clause-row : goal.rotate_twice-requires-clause-row
rotate_twice-requires-clause-row c =
    let to = c.take_apart-outer.ensures in
    let tm = c.take_apart-middle_left.ensures in
    record {
      front = in_row c.take_apart-outer.result.0 c.take_apart-middle_left.result.0 to.row.left_built tm.row.left_built
          (front (points_below c.take_apart-outer.result.0) (points_below c.take_apart-outer.result.1) (points_below
          c.take_apart-middle_left.result.0) (points_below c.take_apart-middle_left.result.1) to.row.in_order
          tm.points);
      back = in_row c.take_apart-middle_left.result.1 c.args.right tm.row.right_built c.requires.row.right_built
          (back (points_below c.take_apart-outer.result.1) (points_below c.args.right) (points_below
          c.take_apart-middle_left.result.0) (points_below c.take_apart-middle_left.result.1) (back (points_below
          c.args.left) (points_below c.args.right) (points_below c.take_apart-outer.result.0) (points_below
          c.take_apart-outer.result.1) c.requires.row.in_order to.points) tm.points);
      in_order = subst IsPointSet (four_right _ _ _ _ _ _ to.points tm.points) c.requires.row.in_order;
    }

pub rotate_twice-requires-clause-few : goal.rotate_twice-requires-clause-few
rotate_twice-requires-clause-few c =
    let e = ap (λ (z : List Pair). length z) (four_right (points_below c.args.left) (points_below c.args.right)
    (points_below c.take_apart-outer.result.0) (points_below c.take_apart-outer.result.1)
    (points_below c.take_apart-middle_left.result.0) (points_below c.take_apart-middle_left.result.1)
    c.take_apart-outer.ensures.points c.take_apart-middle_left.ensures.points) in
    omega (arith, e, c.requires.few)

pub rotate_twice-requires-clause-edges : goal.rotate_twice-requires-clause-edges
rotate_twice-requires-clause-edges c = λ side.
    edges_right side c.args.left c.args.right c.take_apart-outer.result.0 c.take_apart-outer.result.1
    c.take_apart-middle_left.result.0 c.take_apart-middle_left.result.1 c.take_apart-outer.result.2.value
    c.take_apart-middle_left.result.2.value (edge_on side c.args.place.value) c.take_apart-outer.ensures.row
    c.take_apart-middle_left.ensures.row c.take_apart-outer.ensures.tree c.take_apart-middle_left.ensures.tree
    (c.take_apart-outer.ensures.stored side) (c.take_apart-middle_left.ensures.stored side) (c.requires.edges side)

pub returns-clause-points : goal.returns-clause-points
returns-clause-points c = c.rotate_twice.ensures.points ∙ sym (four_right _ _ _ _ _ _ c.take_apart-outer.ensures.points
    c.take_apart-middle_left.ensures.points)

pub returns-clause-multiplicities : goal.returns-clause-multiplicities
returns-clause-multiplicities c = c.rotate_twice.ensures.multiplicities
    ∙ sym (four_right _ _ _ _ _ _ c.take_apart-outer.ensures.multiplicities
    c.take_apart-middle_left.ensures.multiplicities)
