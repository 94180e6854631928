-- `hull_shared_make` meets its contract.
use Rattle.hull_reply.proofs.Steps.{refl}
use Rattle.hull_shared.proofs.Makes.{makes}
use Rattle.hull_shared.specs.contracts.shared_hull.SharedHull.{the_row}
use Rattle.hull_shared.proofs.shared_hull.SharedHull.TheLaws.{the_row_laws}
use Rattle.hull_shared.specs.SharedHulls.{IsFreshForNone}
use Rattle.hull_shared.proofs.exports.storages.hull_shared_make.Statement.{statement}
use Rattle.hull_shared.proofs.exports.storages.hull_shared_make.Code as code
use Rattle.hull_shared.proofs.exports.storages.fresh_shared_hull.Met.{met}

pub hull_shared_make_spec : {M : Type 1} → statement M
hull_shared_make_spec 𝓤 𝓛 𝓜 𝓡 wired =
    makes 𝓤 𝓛 𝓜 𝓡 the_row refl (λ u v is. ((the_row_laws.lawful 𝓛).typed u _ is).0) IsFreshForNone
    (λ x. met 𝓤 𝓛 𝓜 𝓡 (code.calls-hull_shared::exports::storages::fresh_shared_hull 𝓡.env wired) ((tt, tt, tt, tt, tt), tt))
    (code.unfolded 𝓤 𝓛.H 𝓜 𝓡 wired)
