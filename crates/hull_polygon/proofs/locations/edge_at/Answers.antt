-- the bisection found the first edge that ends after q
use Rattle.std.proofs.Common.{rules, of_calls}
use Rattle.hull_polygon.proofs.EdgesAt.{start_within, edge_found}
use Rattle.hull_polygon.proofs.locations.edge_at.Goals as goal

pub returns : goal.returns
returns c = λ S o.
    let V = c.args.vertices.now in
    let f = c.first_failing_on-start.ensures in
    rw (c.vertex_at.ensures, c.vertex_at-2.ensures)
    (edge_found c.args.side S V c.args.last c.first_failing_on-start.result c.args.q o c.requires.separated c.requires.some
    c.requires.from c.requires.to f.from
    (start_within c.args.side V c.args.last c.first_failing_on-start.result c.args.q c.requires.from c.requires.to f.from f.to
    (λ h b. let k = f.held h in search (rules, of_calls)))
    (λ h b. let k = f.held h in search (rules, of_calls)) (λ h. let k = f.fails h in search (rules, of_calls)))
