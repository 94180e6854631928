-- the bridges after both rotations
use Rattle.std.proofs.Common.{◌≡◌, refl, subst, arith}
use Rattle.bucket_tree.specs.Changes.{edge_on}
use Rattle.bucket_tree.specs.Nodes.{tree_of}
use Rattle.bucket_tree.specs.Rotations.{AreEdgesOfFour}
use Rattle.bucket_tree.specs.declared.rotation.Rotation.{Rotation}
use Rattle.bucket_tree.specs.declared.rotation.Rotation.TheVariants.{Left, Right}
use Rattle.bucket_tree.proofs.RotatedNodes.{edges_as, four_of, twice_left, twice_right}
use Rattle.bucket_tree.proofs.rotation.regroup_twice.Goals.{After-edge}
use Rattle.bucket_tree.proofs.rotation.regroup_twice.Goals as goal

-- the edges before are those of three forks over the four halves, by the rotation that it is
edges_before : (c : After-edge) (rotation : Rotation) → c.args.rotation ≡ rotation → AreEdgesOfFour rotation c.args.side
    (tree_of c.args.a.now) (tree_of c.args.b.now) (tree_of c.args.c.now) (tree_of c.args.d.now) c.edge.result.now
    (edge_on c.args.side c.args.low.now) (edge_on c.args.side c.args.middle.now)
edges_before c rotation is =
    edges_as rotation c.args.side (tree_of c.args.a.now) (tree_of c.args.b.now) (tree_of c.args.c.now) (tree_of c.args.d.now)
    _ _ _ c.edge.result.now _ _ c.edge.ensures refl refl
    (subst (λ z. AreEdgesOfFour z c.args.side (tree_of c.args.a.now) (tree_of c.args.b.now) (tree_of c.args.c.now)
    (tree_of c.args.d.now) (edge_on c.args.side c.args.whole.now) (edge_on c.args.side c.args.low.now)
    (edge_on c.args.side c.args.middle.now)) is c.requires.edges)

pub returns-in-Left : goal.returns-in-Left
returns-in-Left c =
    let side = c.args.side in
    let split = c.args.middle.now.right_ends.first in
    let t = c.edges_of_both.ensures in
    let bridges = twice_left side c.args.a.now c.args.b.now c.args.c.now c.args.d.now split c.edge.result.now
    (edge_on side c.args.low.now) (edge_on side c.args.middle.now) c.regroup_forks-lower.result c.regroup-upper.result
    (four_of c.args.a.now c.args.b.now c.args.c.now c.args.d.now split c.requires.row c.requires.split)
    (edges_before (goal.at.returns-in-Left c).After-edge Left c.in-Left.is) c.regroup_forks-lower.ensures.edges
    c.regroup-upper.ensures.edges in
    record {
      left = rw t.left bridges.0;
      right = rw t.right bridges.1;
      outer = rw t.outer bridges.2;
      turns = omega (arith, t.turns, c.regroup_forks-lower.ensures.turns, c.regroup-upper.ensures.turns);
    }

pub returns-in-Right : goal.returns-in-Right
returns-in-Right c =
    let side = c.args.side in
    let split = c.args.middle.now.right_ends.first in
    let t = c.edges_of_both-in-Right.ensures in
    let bridges = twice_right side c.args.a.now c.args.b.now c.args.c.now c.args.d.now split c.edge.result.now
    (edge_on side c.args.low.now) (edge_on side c.args.middle.now) c.regroup_forks-lower-in-Right.result c.regroup-upper-in-Right.result
    (four_of c.args.a.now c.args.b.now c.args.c.now c.args.d.now split c.requires.row c.requires.split)
    (edges_before (goal.at.returns-in-Right c).After-edge Right c.in-Right.is) c.regroup_forks-lower-in-Right.ensures.edges
    c.regroup-upper-in-Right.ensures.edges in
    record {
      left = rw t.left bridges.0;
      right = rw t.right bridges.1;
      outer = rw t.outer bridges.2;
      turns = omega (arith, t.turns, c.regroup_forks-lower-in-Right.ensures.turns, c.regroup-upper-in-Right.ensures.turns);
    }
