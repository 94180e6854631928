-- an edge of which the point is clear is kept; otherwise the new one ends there
use Rattle.std.proofs.Common.{subst}
use Rattle.lattice.specs.Plane.{Pair}
use Rattle.bucket_tree.specs.Changes.{IsClearOf}
use Rattle.bucket_tree.proofs.Gained.{failed, passed}
use Rattle.bucket_tree.proofs.top_down.renew_edge_to_added.Goals as goal

pub returns-then-is_clear-clause-bridge : goal.returns-then-is_clear-clause-bridge
returns-then-is_clear-clause-bridge c =
    c.requires.clear (subst (λ (z : Pair × Pair). IsClearOf c.args.side z c.args.p) c.edge.ensures
    (passed c.is_clear.result c.is_clear.ensures.0 c.if-is_clear.true))

pub search_to_added-edge-requires-clause-end : goal.search_to_added-edge-requires-clause-end
search_to_added-edge-requires-clause-end c =
    c.requires.end (subst (λ (z : Pair × Pair). ¬ IsClearOf c.args.side z c.args.p) c.edge.ensures
    (failed c.is_clear.result c.is_clear.ensures.1 c.if-is_clear.false))
