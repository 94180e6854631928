-- `hull_shared_open_without_journal` meets its contract.
use Rattle.hull_reply.proofs.Steps.{w32, w64, [], ◌∷◌}
use Rattle.hull_reply.proofs.Lends.{lends, memory, natural, number}
use Rattle.hull_shared.specs.contracts.shared_hull.SharedHull.{the_row}
use Rattle.hull_shared.specs.Limits.{unkept_with}
use Rattle.hull_shared.specs.SharedHulls.{HasOpened}
use Rattle.hull_shared.proofs.exports.opening.hull_shared_open_without_journal.Statement.{statement}
use Rattle.hull_shared.proofs.exports.opening.hull_shared_open_without_journal.Code as code
use Rattle.hull_shared.proofs.opening.open_without_journal.Met.{met}

pub hull_shared_open_without_journal_spec : {M : Type 1} → statement M
hull_shared_open_without_journal_spec 𝓤 𝓛 𝓜 𝓡 wired =
    lends 𝓤 𝓛 𝓜 𝓡 0 (memory 𝓛 ∷ natural 𝓛 w32 ∷ natural 𝓛 w64 ∷ natural 𝓛 w32 ∷ []) tt the_row (number 𝓛 w32)
    (λ κs a t new ws u. HasOpened
    (unkept_with a.1.0 a.1.1.0 a.1.1.1.0) t new u) (code.unfolded 𝓤 𝓛.H 𝓜 𝓡 wired)
    (λ x. met 𝓤 𝓛 𝓜 𝓡 (code.calls-hull_shared::opening::open_without_journal 𝓡.env wired) (x, tt))
