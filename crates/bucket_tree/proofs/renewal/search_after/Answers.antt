-- a bridge of all points is that of the vertices
use Rattle.std.proofs.Common.{false, subst, true}
use Rattle.bucket_tree.specs.Changes.{IsEndOf, edge_on}
use Rattle.bucket_tree.proofs.Kept.{of_vertices}
use Rattle.bucket_tree.proofs.TopDown.{itself}
use Rattle.bucket_tree.proofs.renewal.search_after.Goals as goal

pub search_to_added-requires-clause-half : goal.search_to_added-requires-clause-half
search_to_added-requires-clause-half c = itself true c.args.fork.now c.requires.row c.requires.few c.requires.ends

pub search_to_added-requires-clause-end : goal.search_to_added-requires-clause-end
search_to_added-requires-clause-end c =
    let f = c.args.fork.now in
    subst (λ z. IsEndOf z c.args.side c.args.p f.left f.right (edge_on c.args.side f)) c.in-AddedLeft.is c.requires.end

pub search_to_added-requires-in-AddedRight-clause-half : goal.search_to_added-requires-in-AddedRight-clause-half
search_to_added-requires-in-AddedRight-clause-half c = itself false c.args.fork.now c.requires.row c.requires.few c.requires.ends

pub returns-in-AddedLeft-clause-bridge : goal.returns-in-AddedLeft-clause-bridge
returns-in-AddedLeft-clause-bridge c =
    of_vertices c.args.side c.args.fork.now.left c.args.fork.now.right c.search_to_added.result.0 c.requires.row
    c.search_to_added.ensures.bridge

pub returns-in-AddedRight-clause-bridge : goal.returns-in-AddedRight-clause-bridge
returns-in-AddedRight-clause-bridge c =
    of_vertices c.args.side c.args.fork.now.left c.args.fork.now.right c.search_to_added-in-AddedRight.result.0 c.requires.row
    c.search_to_added-in-AddedRight.ensures.bridge
