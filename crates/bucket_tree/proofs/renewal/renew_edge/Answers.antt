-- an edge of a side that is closed, or that stays valid, is the bridge of all points, and so that of the vertices
use Rattle.std.proofs.Common.{inr, subst}
use Rattle.lattice.specs.Plane.{Pair}
use Rattle.hull_geometry.specs.Monotone.{IsInwards}
use Rattle.bucket_tree.specs.Changes.{IsClearOf, edge_on}
use Rattle.bucket_tree.proofs.Kept.{of_vertices, clear_covered, covered_by}
use Rattle.bucket_tree.proofs.renewal.renew_edge.Goals as goal

pub returns-then-not-at_issue-clause-bridge : goal.returns-then-not-at_issue-clause-bridge
returns-then-not-at_issue-clause-bridge c =
    of_vertices c.args.side c.args.fork.now.left c.args.fork.now.right (edge_on c.args.side c.args.fork.now) c.requires.row
    (c.requires.unaffected c.if-not-at_issue.true)

pub returns-in-Covered-clause-bridge : goal.returns-in-Covered-clause-bridge
returns-in-Covered-clause-bridge c =
    let e : Pair × Pair = edge_on c.args.side c.args.fork.now in
    of_vertices c.args.side c.args.fork.now.left c.args.fork.now.right e c.requires.row
    (c.requires.clear (clear_covered c.args.side c.args.p e
    (subst (λ (z : Pair × Pair). IsInwards c.args.side z.0 z.1 c.args.p) c.edge.ensures c.in-Covered.ensures)))

pub returns-in-Covered-clause-closes : goal.returns-in-Covered-clause-closes
returns-in-Covered-clause-closes c = λ _.
    inr (covered_by c.args.side c.args.p c.args.fork.now.left c.args.fork.now.right (edge_on c.args.side c.args.fork.now)
    (subst (λ (z : Pair × Pair). IsInwards c.args.side z.0 z.1 c.args.p) c.edge.ensures c.in-Covered.ensures)
    c.requires.clear)

pub returns-in-Clear-clause-bridge : goal.returns-in-Clear-clause-bridge
returns-in-Clear-clause-bridge c =
    of_vertices c.args.side c.args.fork.now.left c.args.fork.now.right (edge_on c.args.side c.args.fork.now) c.requires.row
    (c.requires.clear
    (subst (λ (z : Pair × Pair). IsClearOf c.args.side z c.args.p) c.edge.ensures c.in-Clear.ensures))

pub search_edge-requires-clause-end : goal.search_edge-requires-clause-end
search_edge-requires-clause-end c =
    c.requires.end (subst (λ (z : Pair × Pair). ¬ IsClearOf c.args.side z c.args.p) c.edge.ensures c.in-Touching.ensures)
