-- `hull_shared_make_seat` meets its contract.
use Rattle.hull_reply.proofs.Steps.{◌≡◌, refl}
use Rattle.hull_shared.proofs.Makes.{makes}
use Rattle.hull_shared.specs.contracts.seat.SharedSeat.{the_row}
use Rattle.hull_shared.proofs.seat.SharedSeat.TheLaws.{the_row_laws}
use Rattle.hull_shared.specs.declared.seat.SharedSeat.TheVariants.{Vacant}
use Rattle.hull_shared.proofs.exports.storages.hull_shared_make_seat.Statement.{statement}
use Rattle.hull_shared.proofs.exports.storages.hull_shared_make_seat.Code as code
use Rattle.hull_shared.proofs.exports.storages.vacant_seat.Met.{met}

pub hull_shared_make_seat_spec : {M : Type 1} → statement M
hull_shared_make_seat_spec 𝓤 𝓛 𝓜 𝓡 wired =
    makes 𝓤 𝓛 𝓜 𝓡 the_row refl (λ u v is. ((the_row_laws.lawful 𝓛).typed u _ is).0) (λ new. new ≡ Vacant)
    (λ x. met 𝓤 𝓛 𝓜 𝓡 (code.calls-hull_shared::exports::storages::vacant_seat 𝓡.env wired) ((tt, tt, tt, tt, tt), tt)) (code.unfolded 𝓤 𝓛.H 𝓜 𝓡 wired)
