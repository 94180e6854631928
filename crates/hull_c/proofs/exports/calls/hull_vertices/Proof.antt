-- `hull_vertices` meets its contract.
use Rattle.hull_reply.proofs.Steps.{[], ◌∷◌}
use Rattle.hull_reply.proofs.Lends.{lends, relent, reply}
use Rattle.hull_c.specs.contracts.hull.Hull.{the_row}
use Rattle.hull_reply.specs.contracts.vertices.HullPoint.{the_row as Vertex}
use Rattle.hull_c.specs.Calls.{AreVertices}
use Rattle.hull_c.proofs.exports.calls.hull_vertices.Statement.{statement}
use Rattle.hull_c.proofs.exports.calls.hull_vertices.Code as code
use Rattle.hull_c.proofs.vertices.vertices.Met.{met}

pub hull_vertices_spec : {M : Type 1} → statement M
hull_vertices_spec 𝓤 𝓛 𝓜 𝓡 wired =
    lends 𝓤 𝓛 𝓜 𝓡 1 (relent 0 tt Vertex ∷ []) tt the_row (reply 𝓛)
    (λ κs a t new ws u. AreVertices t new a.0.now ws.0 u) (code.unfolded 𝓤 𝓛.H 𝓜 𝓡 wired)
    (λ x. met 𝓤 𝓛 𝓜 𝓡 (code.calls-hull_c::vertices::vertices 𝓡.env wired) (x, tt))
