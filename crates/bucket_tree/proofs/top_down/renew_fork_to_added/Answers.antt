-- the halves and the edges are as they were after the ends were renewed
use Rattle.bucket_tree.proofs.TopDown.{edges_over, end_over, ends_over, half_over}
use Rattle.bucket_tree.proofs.top_down.renew_fork_to_added.Goals as goal

pub renew_edges_to_added-requires-clause-half : goal.renew_edges_to_added-requires-clause-half
renew_edges_to_added-requires-clause-half c = let e = c.extend_half.ensures in half_over c.requires.over e.ends e.left e.right e.edges

pub renew_edges_to_added-requires-clause-edges : goal.renew_edges_to_added-requires-clause-edges
renew_edges_to_added-requires-clause-edges c = let e = c.extend_half.ensures in edges_over c.requires.over e.ends e.left e.right e.edges

pub renew_edges_to_added-requires-clause-end : goal.renew_edges_to_added-requires-clause-end
renew_edges_to_added-requires-clause-end c = let e = c.extend_half.ensures in end_over c.requires.over e.ends e.left e.right e.edges

pub renew_edges_to_added-requires-clause-ends : goal.renew_edges_to_added-requires-clause-ends
renew_edges_to_added-requires-clause-ends c = let e = c.extend_half.ensures in ends_over c.requires.over e.ends e.left e.right e.edges
