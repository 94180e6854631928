-- `hull_shared_file_end` meets its contract.
use Rattle.hull_reply.proofs.Steps.{w32, []}
use Rattle.hull_reply.proofs.Lends.{lends, number}
use Rattle.hull_shared.specs.contracts.stored_file.JournalFile.{the_row}
use Rattle.hull_shared.specs.JournalFiles.{HasEndedFile}
use Rattle.hull_shared.proofs.exports.files.hull_shared_file_end.Statement.{statement}
use Rattle.hull_shared.proofs.exports.files.hull_shared_file_end.Code as code
use Rattle.hull_shared.proofs.journal_files.end.Met.{met}

pub hull_shared_file_end_spec : {M : Type 1} → statement M
hull_shared_file_end_spec 𝓤 𝓛 𝓜 𝓡 wired =
    lends 𝓤 𝓛 𝓜 𝓡 0 [] tt the_row (number 𝓛 w32)
    (λ κs a t new ws u. HasEndedFile t new u) (code.unfolded 𝓤 𝓛.H 𝓜 𝓡 wired)
    (λ x. met 𝓤 𝓛 𝓜 𝓡 (code.calls-hull_shared::journal_files::end 𝓡.env wired) (x, tt))
