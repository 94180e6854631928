-- `hull_shared_file_numbers` meets its contract.
use Rattle.hull_reply.proofs.Steps.{w32, [], ◌∷◌}
use Rattle.hull_reply.proofs.Lends.{lends, number, relent}
use Rattle.hull_shared.specs.contracts.stored_file.JournalFile.{the_row}
use denote.Builtin.{u64}
use Rattle.hull_shared.specs.JournalFiles.{HasPutNumbers}
use Rattle.hull_shared.proofs.exports.files.hull_shared_file_numbers.Statement.{statement}
use Rattle.hull_shared.proofs.exports.files.hull_shared_file_numbers.Code as code
use Rattle.hull_shared.proofs.journal_files.put_numbers.Met.{met}

pub hull_shared_file_numbers_spec : {M : Type 1} → statement M
hull_shared_file_numbers_spec 𝓤 𝓛 𝓜 𝓡 wired =
    lends 𝓤 𝓛 𝓜 𝓡 1 (relent 0 tt u64 ∷ []) tt the_row (number 𝓛 w32)
    (λ κs a t new ws u. HasPutNumbers t new a.0.now ws.0 u) (code.unfolded 𝓤 𝓛.H 𝓜 𝓡 wired)
    (λ x. met 𝓤 𝓛 𝓜 𝓡 (code.calls-hull_shared::journal_files::put_numbers 𝓡.env wired) (x, tt))
