-- `hull_call` meets its contract.
use Rattle.hull_reply.proofs.Steps.{w32, w64, [], ◌∷◌}
use Rattle.hull_reply.proofs.Lends.{integer, lends, natural, reply}
use Rattle.hull_c.specs.contracts.hull.Hull.{the_row}
use Rattle.bucket_tree.specs.Sets.{bucket_set}
use Rattle.hull_reply.specs.Served.{IsAnswered}
use Rattle.hull_c.proofs.exports.calls.hull_call.Statement.{statement}
use Rattle.hull_c.proofs.exports.calls.hull_call.Code as code
use Rattle.hull_c.proofs.calls.call.Met.{met}

pub hull_call_spec : {M : Type 1} → statement M
hull_call_spec 𝓤 𝓛 𝓜 𝓡 wired =
    lends 𝓤 𝓛 𝓜 𝓡 0 (natural 𝓛 w32 ∷ integer 𝓛 w64 ∷ integer 𝓛 w64 ∷ []) tt the_row (reply 𝓛)
    (λ κs a t new ws u. IsAnswered bucket_set a.0 a.1.0 a.1.1.0 t new u) (code.unfolded 𝓤 𝓛.H 𝓜 𝓡 wired)
    (λ x. met 𝓤 𝓛 𝓜 𝓡 (code.calls-hull_c::calls::call 𝓡.env wired) (x, tt))
