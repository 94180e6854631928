-- `hull_shared_set_max_readers` meets its contract.
use Rattle.hull_reply.proofs.Steps.{w32, [], ◌∷◌}
use Rattle.hull_reply.proofs.Lends.{lends, natural, number}
use Rattle.hull_shared.specs.contracts.shared_hull.SharedHull.{the_row}
use Rattle.hull_shared.specs.Readings.{HasSetReaders}
use Rattle.hull_shared.proofs.exports.readers.hull_shared_set_max_readers.Statement.{statement}
use Rattle.hull_shared.proofs.exports.readers.hull_shared_set_max_readers.Code as code
use Rattle.hull_shared.proofs.reading.set_max_readers.Met.{met}

pub hull_shared_set_max_readers_spec : {M : Type 1} → statement M
hull_shared_set_max_readers_spec 𝓤 𝓛 𝓜 𝓡 wired =
    lends 𝓤 𝓛 𝓜 𝓡 0 (natural 𝓛 w32 ∷ []) tt the_row (number 𝓛 w32)
    (λ κs a t new ws u. HasSetReaders a.0 t new u) (code.unfolded 𝓤 𝓛.H 𝓜 𝓡 wired)
    (λ x. met 𝓤 𝓛 𝓜 𝓡 (code.calls-hull_shared::reading::set_max_readers 𝓡.env wired) (x, tt))
