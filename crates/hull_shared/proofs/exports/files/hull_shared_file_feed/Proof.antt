-- `hull_shared_file_feed` meets its contract.
use Rattle.hull_reply.proofs.Steps.{w32, [], ◌∷◌}
use Rattle.hull_reply.proofs.Lends.{lends, number, shared_array}
use Rattle.hull_shared.specs.contracts.stored_file.JournalFile.{the_row}
use denote.Builtin.{u8}
use Rattle.hull_shared.specs.JournalFiles.{HasFed}
use Rattle.hull_shared.proofs.exports.files.hull_shared_file_feed.Statement.{statement}
use Rattle.hull_shared.proofs.exports.files.hull_shared_file_feed.Code as code
use Rattle.hull_shared.proofs.journal_files.feed.Met.{met}

pub hull_shared_file_feed_spec : {M : Type 1} → statement M
hull_shared_file_feed_spec 𝓤 𝓛 𝓜 𝓡 wired =
    lends 𝓤 𝓛 𝓜 𝓡 1 (shared_array 𝓛 0 tt u8 ∷ []) tt the_row (number 𝓛 w32)
    (λ κs a t new ws u. HasFed a.0.now t new u) (code.unfolded 𝓤 𝓛.H 𝓜 𝓡 wired)
    (λ x. met 𝓤 𝓛 𝓜 𝓡 (code.calls-hull_shared::journal_files::feed 𝓡.env wired) (x, tt))
