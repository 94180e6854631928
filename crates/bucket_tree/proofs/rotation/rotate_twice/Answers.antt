-- the edges are the bridges of the halves
use Rattle.std.proofs.Common.{ap, subst, sym}
use Rattle.lattice.specs.Bridges.{IsBridge}
use Rattle.lattice.specs.declared.side.Side.TheVariants.{Lower, Upper}
use Rattle.bridge_search.specs.Trees.{On, Fork as ForkTree}
use Rattle.bucket_tree.specs.Changes.{edge_on}
use Rattle.bucket_tree.specs.Nodes.{tree_of}
use Rattle.bucket_tree.proofs.RotatedNodes.{edges_as}
use Rattle.bucket_tree.proofs.rotation.rotate_twice.Goals as goal

pub regroup_twice-upper-requires-clause-edges : goal.regroup_twice-upper-requires-clause-edges
regroup_twice-upper-requires-clause-edges c =
    edges_as c.args.turn Upper (tree_of c.args.a) (tree_of c.args.b) (tree_of c.args.c) (tree_of c.args.d) _ _ _ _ _ _
    (ap (edge_on Upper) c.deref.ensures) (ap (edge_on Upper) c.deref-2.ensures) (ap (edge_on Upper) c.deref-3.ensures)
    (c.requires.edges Upper)

pub regroup_twice-lower-requires-clause-edges : goal.regroup_twice-lower-requires-clause-edges
regroup_twice-lower-requires-clause-edges c =
    edges_as c.args.turn Lower (tree_of c.args.a) (tree_of c.args.b) (tree_of c.args.c) (tree_of c.args.d) _ _ _ _ _ _
    (ap (edge_on Lower) c.deref-4.ensures) (ap (edge_on Lower) c.deref-5.ensures) (ap (edge_on Lower) c.deref-6.ensures)
    (c.requires.edges Lower)

pub fork_over-whole-requires-clause-lower : goal.fork_over-whole-requires-clause-lower
fork_over-whole-requires-clause-lower c =
    let e = c.regroup_twice-lower.result.outer in
    subst (λ z. IsBridge Lower (On z) (On (tree_of c.fork_over-right.result)) e.0 e.1) (sym c.fork_over-left.ensures.tree)
    (subst (λ z. IsBridge Lower (On (ForkTree c.regroup_twice-upper.result.left c.regroup_twice-lower.result.left
    (tree_of c.args.a) (tree_of c.args.b))) (On z) e.0 e.1) (sym c.fork_over-right.ensures.tree)
    c.regroup_twice-lower.ensures.outer)
