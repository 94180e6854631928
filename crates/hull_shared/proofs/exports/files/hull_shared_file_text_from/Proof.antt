-- `hull_shared_file_text_from` meets its contract.
use Rattle.hull_reply.proofs.Steps.{w64, [], ◌∷◌}
use Rattle.hull_reply.proofs.Lends.{lends, natural, relent, reply}
use Rattle.hull_shared.specs.contracts.stored_file.JournalFile.{the_row}
use denote.Builtin.{u8}
use Rattle.hull_shared.specs.JournalFiles.{HasWrittenFile}
use Rattle.hull_shared.proofs.exports.files.hull_shared_file_text_from.Statement.{statement}
use Rattle.hull_shared.proofs.exports.files.hull_shared_file_text_from.Code as code
use Rattle.hull_shared.proofs.journal_files.text_from.Met.{met}

pub hull_shared_file_text_from_spec : {M : Type 1} → statement M
hull_shared_file_text_from_spec 𝓤 𝓛 𝓜 𝓡 wired =
    lends 𝓤 𝓛 𝓜 𝓡 1 (natural 𝓛 w64 ∷ relent 0 tt u8 ∷ []) tt the_row (reply 𝓛)
    (λ κs a t new ws u. HasWrittenFile a.0 t new a.1.0.now ws.1.0 u) (code.unfolded 𝓤 𝓛.H 𝓜 𝓡 wired)
    (λ x. met 𝓤 𝓛 𝓜 𝓡 (code.calls-hull_shared::journal_files::text_from 𝓡.env wired) (x, tt))
