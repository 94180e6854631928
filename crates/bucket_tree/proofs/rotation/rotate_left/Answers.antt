-- the parts of a row are in a row, and their edges are the bridges that the rotation keeps
use Rattle.std.proofs.Common.{◌∙◌, ap, subst, sym, arith, length, List}
use Rattle.lattice.specs.Bridges.{IsBridge}
use Rattle.lattice.specs.Covers.{IsPointSet}
use Rattle.lattice.specs.Plane.{Pair}
use Rattle.lattice.specs.declared.side.Side.TheVariants.{Lower, Upper}
use Rattle.bridge_search.specs.Trees.{On}
use Rattle.bucket_tree.specs.Changes.{edge_on}
use Rattle.bucket_tree.specs.Nodes.{tree_of, points_below}
use Rattle.bucket_tree.specs.declared.node.Fork.{Fork}
use Rattle.bucket_tree.proofs.NodeRows.{in_row, front, back, with_front}
use Rattle.bucket_tree.proofs.RotatedNodes.{edges_left, four_left, rotated_left}
use Rattle.bucket_tree.proofs.rotation.rotate_left.Goals as goal

pub regroup_forks-upper-requires-clause-row : goal.regroup_forks-upper-requires-clause-row
regroup_forks-upper-requires-clause-row c =
    in_row c.args.left c.take_apart-inner.result.0 c.requires.row.left_built c.take_apart-inner.ensures.row.left_built
    (front (points_below c.args.left) (points_below c.args.right) (points_below c.take_apart-inner.result.0)
    (points_below c.take_apart-inner.result.1) c.requires.row.in_order c.take_apart-inner.ensures.points)

pub regroup_forks-lower-requires-clause-row : goal.regroup_forks-lower-requires-clause-row
regroup_forks-lower-requires-clause-row c =
    in_row c.args.left c.take_apart-inner.result.0 c.requires.row.left_built c.take_apart-inner.ensures.row.left_built
    (front (points_below c.args.left) (points_below c.args.right) (points_below c.take_apart-inner.result.0)
    (points_below c.take_apart-inner.result.1) c.requires.row.in_order c.take_apart-inner.ensures.points)

pub fork_over-first-requires-clause-row : goal.fork_over-first-requires-clause-row
fork_over-first-requires-clause-row c =
    in_row c.args.left c.take_apart-inner.result.0 c.requires.row.left_built c.take_apart-inner.ensures.row.left_built
    (front (points_below c.args.left) (points_below c.args.right) (points_below c.take_apart-inner.result.0)
    (points_below c.take_apart-inner.result.1) c.requires.row.in_order c.take_apart-inner.ensures.points)

pub fork_over-whole-requires-clause-row : goal.fork_over-whole-requires-clause-row
fork_over-whole-requires-clause-row c =
    in_row c.fork_over-first.result c.take_apart-inner.result.1 c.fork_over-first.ensures.built
    c.take_apart-inner.ensures.row.right_built
    (with_front (points_below c.args.left) (points_below c.args.right) (points_below c.take_apart-inner.result.0)
    (points_below c.take_apart-inner.result.1) (points_below c.fork_over-first.result) c.requires.row.in_order
    c.take_apart-inner.ensures.points c.fork_over-first.ensures.points)

pub fork_over-first-requires-clause-upper : goal.fork_over-first-requires-clause-upper
fork_over-first-requires-clause-upper c = (rotated_left Upper c.args.left c.args.right c.take_apart-inner.result.0
    c.take_apart-inner.result.1
    c.take_apart-inner.result.2.value c.args.place.value _ _ _ c.regroup_forks-upper.result c.requires.row
    c.take_apart-inner.ensures.row c.take_apart-inner.ensures.tree (c.take_apart-inner.ensures.stored Upper)
    (ap (λ (z : Fork). z.right_ends.first) c.deref-then-height_of.ensures ∙ c.take_apart-inner.ensures.split) (c.requires.edges Upper)
    (ap (edge_on Upper) c.deref.ensures) (ap (edge_on Upper) c.deref-then-height_of.ensures)
    c.regroup_forks-upper.ensures.edges).0

pub fork_over-whole-requires-clause-upper : goal.fork_over-whole-requires-clause-upper
fork_over-whole-requires-clause-upper c =
    let e = c.regroup_forks-upper.result.outer in
    subst (λ z. IsBridge Upper (On z) (On (tree_of c.take_apart-inner.result.1)) e.0 e.1) (sym
    c.fork_over-first.ensures.tree)
    (rotated_left Upper c.args.left c.args.right c.take_apart-inner.result.0 c.take_apart-inner.result.1
    c.take_apart-inner.result.2.value c.args.place.value _ _ _ c.regroup_forks-upper.result c.requires.row
    c.take_apart-inner.ensures.row c.take_apart-inner.ensures.tree (c.take_apart-inner.ensures.stored Upper)
    (ap (λ (z : Fork). z.right_ends.first) c.deref-then-height_of.ensures ∙ c.take_apart-inner.ensures.split) (c.requires.edges Upper)
    (ap (edge_on Upper) c.deref.ensures) (ap (edge_on Upper) c.deref-then-height_of.ensures)
    c.regroup_forks-upper.ensures.edges).1

pub fork_over-first-requires-clause-lower : goal.fork_over-first-requires-clause-lower
fork_over-first-requires-clause-lower c = (rotated_left Lower c.args.left c.args.right c.take_apart-inner.result.0
    c.take_apart-inner.result.1
    c.take_apart-inner.result.2.value c.args.place.value _ _ _ c.regroup_forks-lower.result c.requires.row
    c.take_apart-inner.ensures.row c.take_apart-inner.ensures.tree (c.take_apart-inner.ensures.stored Lower)
    (ap (λ (z : Fork). z.right_ends.first) c.deref-then-height_of-3.ensures ∙ c.take_apart-inner.ensures.split) (c.requires.edges Lower)
    (ap (edge_on Lower) c.deref-then-height_of-2.ensures) (ap (edge_on Lower) c.deref-then-height_of-3.ensures)
    c.regroup_forks-lower.ensures.edges).0

pub fork_over-whole-requires-clause-lower : goal.fork_over-whole-requires-clause-lower
fork_over-whole-requires-clause-lower c =
    let e = c.regroup_forks-lower.result.outer in
    subst (λ z. IsBridge Lower (On z) (On (tree_of c.take_apart-inner.result.1)) e.0 e.1) (sym
    c.fork_over-first.ensures.tree)
    (rotated_left Lower c.args.left c.args.right c.take_apart-inner.result.0 c.take_apart-inner.result.1
    c.take_apart-inner.result.2.value c.args.place.value _ _ _ c.regroup_forks-lower.result c.requires.row
    c.take_apart-inner.ensures.row c.take_apart-inner.ensures.tree (c.take_apart-inner.ensures.stored Lower)
    (ap (λ (z : Fork). z.right_ends.first) c.deref-then-height_of-3.ensures ∙ c.take_apart-inner.ensures.split) (c.requires.edges Lower)
    (ap (edge_on Lower) c.deref-then-height_of-2.ensures) (ap (edge_on Lower) c.deref-then-height_of-3.ensures)
    c.regroup_forks-lower.ensures.edges).1

pub rotate_twice-requires-clause-row : goal.rotate_twice-requires-clause-row
rotate_twice-requires-clause-row c =
    let to = c.take_apart-inner.ensures in
    let tm = c.take_apart-middle_left.ensures in
    record {
      front = in_row c.args.left c.take_apart-middle_left.result.0 c.requires.row.left_built tm.row.left_built
          (front (points_below c.args.left) (points_below c.take_apart-inner.result.0) (points_below
          c.take_apart-middle_left.result.0) (points_below c.take_apart-middle_left.result.1) (front (points_below
          c.args.left) (points_below c.args.right) (points_below c.take_apart-inner.result.0) (points_below
          c.take_apart-inner.result.1) c.requires.row.in_order to.points) tm.points);
      back = in_row c.take_apart-middle_left.result.1 c.take_apart-inner.result.1 tm.row.right_built to.row.right_built
          (back (points_below c.take_apart-inner.result.0) (points_below c.take_apart-inner.result.1) (points_below
          c.take_apart-middle_left.result.0) (points_below c.take_apart-middle_left.result.1) to.row.in_order
          tm.points);
      in_order = subst IsPointSet (four_left _ _ _ _ _ _ to.points tm.points) c.requires.row.in_order;
    }

pub rotate_twice-requires-clause-few : goal.rotate_twice-requires-clause-few
rotate_twice-requires-clause-few c =
    let e = ap (λ (z : List Pair). length z) (four_left (points_below c.args.left) (points_below c.args.right)
    (points_below c.take_apart-inner.result.0) (points_below c.take_apart-inner.result.1)
    (points_below c.take_apart-middle_left.result.0) (points_below c.take_apart-middle_left.result.1)
    c.take_apart-inner.ensures.points c.take_apart-middle_left.ensures.points) in
    omega (arith, e, c.requires.few)

pub rotate_twice-requires-clause-edges : goal.rotate_twice-requires-clause-edges
rotate_twice-requires-clause-edges c = λ side.
    edges_left side c.args.left c.args.right c.take_apart-inner.result.0 c.take_apart-inner.result.1
    c.take_apart-middle_left.result.0 c.take_apart-middle_left.result.1 c.take_apart-inner.result.2.value
    c.take_apart-middle_left.result.2.value (edge_on side c.args.place.value) c.take_apart-inner.ensures.row
    c.take_apart-middle_left.ensures.row c.take_apart-inner.ensures.tree c.take_apart-middle_left.ensures.tree
    (c.take_apart-inner.ensures.stored side) (c.take_apart-middle_left.ensures.stored side) (c.requires.edges side)

pub returns-clause-points : goal.returns-clause-points
returns-clause-points c = c.rotate_twice.ensures.points ∙ sym (four_left _ _ _ _ _ _ c.take_apart-inner.ensures.points
    c.take_apart-middle_left.ensures.points)

pub returns-clause-multiplicities : goal.returns-clause-multiplicities
returns-clause-multiplicities c = c.rotate_twice.ensures.multiplicities
    ∙ sym (four_left _ _ _ _ _ _ c.take_apart-inner.ensures.multiplicities
    c.take_apart-middle_left.ensures.multiplicities)
