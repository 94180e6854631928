-- the bridge from the end that is still there and the bridge back are one if both have this end
use Rattle.std.proofs.Common.{◌∙◌, ap, subst, sym}
use Rattle.bridge_search.specs.Trees.{On}
use Rattle.hull_set.proofs.HeldMultiplicities.{returned_same}
use Rattle.lattice.specs.declared.side.Side.TheVariants.{Lower}
use Rattle.bucket_tree.specs.Changes.{edge_on}
use Rattle.bucket_tree.specs.Nodes.{tree_of}
use Rattle.bucket_tree.specs.OtherEnds.{IsEndTo}
use Rattle.bucket_tree.specs.declared.node.Ends.{Ends}
use Rattle.bucket_tree.proofs.Added.{after_first, back_not_after, before_second, in_bounds, not_before_first, one_by_both}
use Rattle.bucket_tree.proofs.NodeCandidateLists.{node_candidates}
use Rattle.bucket_tree.proofs.renewal.search_by_end.Goals as goal

pub other_end-start-requires-clause-beside : goal.other_end-start-requires-clause-beside
other_end-start-requires-clause-beside c =
    let f = c.args.fork.now in
    rw c.edge.ensures (before_second f.left f.right (edge_on c.args.side f).1 c.requires.row c.requires.there)

pub other_end-start-requires-clause-within : goal.other_end-start-requires-clause-within
other_end-start-requires-clause-within c = λ q h.
    in_bounds c.args.fork.now.left q c.args.fork.now.left_ends c.requires.row.left_built c.requires.ends.left
    h.from_left

pub other_end-end-requires-clause-beside : goal.other_end-end-requires-clause-beside
other_end-end-requires-clause-beside c =
    let f = c.args.fork.now in
    after_first f.left f.right c.other_end-start.result.0 c.requires.row
    ((node_candidates Lower f.left c.requires.row.left_built.buckets).among c.other_end-start.result.0
    c.other_end-start.ensures.end.from_left)

pub other_end-end-requires-clause-within : goal.other_end-end-requires-clause-within
other_end-end-requires-clause-within c =
    let f = c.args.fork.now in
    rw c.edge.ensures (λ q h. (
      not_before_first f.right q f.right_ends.first c.requires.row.right_built
          (ap (λ (z : Ends). z.first) c.requires.ends.right) h.to_right,
      back_not_after c.args.side f.left f.right (edge_on c.args.side f) c.other_end-start.result.0 q c.requires.row
          c.requires.inner c.requires.there c.other_end-start.ensures.end.from_left h,
    ))

pub returns-then-eq-clause-bridge : goal.returns-then-eq-clause-bridge
returns-then-eq-clause-bridge c =
    let f = c.args.fork.now in
    one_by_both c.args.side (On (tree_of f.left)) (On (tree_of f.right)) c.other_end-start.result.0
    c.other_end-end.result.0
    (subst (λ z. IsEndTo c.args.side (tree_of f.left) z c.other_end-start.result.0)
    (sym (returned_same c.other_end-end.result.0 c.edge.result.now.1 (sym c.eq.ensures ∙ c.if-eq.true)))
    c.other_end-start.ensures.end)
    c.other_end-end.ensures.end
