-- `hull_shared_file_finish` meets its contract.
use Rattle.hull_reply.proofs.Steps.{[]}
use Rattle.hull_reply.proofs.Lends.{lends, reply}
use Rattle.hull_shared.specs.contracts.stored_file.JournalFile.{the_row}
use Rattle.hull_shared.specs.JournalFiles.{HasFinished}
use Rattle.hull_shared.proofs.exports.files.hull_shared_file_finish.Statement.{statement}
use Rattle.hull_shared.proofs.exports.files.hull_shared_file_finish.Code as code
use Rattle.hull_shared.proofs.journal_files.finish.Met.{met}

pub hull_shared_file_finish_spec : {M : Type 1} → statement M
hull_shared_file_finish_spec 𝓤 𝓛 𝓜 𝓡 wired =
    lends 𝓤 𝓛 𝓜 𝓡 0 [] tt the_row (reply 𝓛)
    (λ κs a t new ws u. HasFinished t new u) (code.unfolded 𝓤 𝓛.H 𝓜 𝓡 wired)
    (λ x. met 𝓤 𝓛 𝓜 𝓡 (code.calls-hull_shared::journal_files::finish 𝓡.env wired) (x, tt))
