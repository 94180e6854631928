-- `hull_shared_release_reader` meets its contract.
use Rattle.hull_reply.proofs.Steps.{alloc_all, and_then, enter, framed, free_all, get, lands_as, look_at, no_more, pass_all, refl}
use Rattle.hull_reply.proofs.Steps.{returns, tables, w32, [], ◌$◌, ! }
use Rattle.hull_reply.proofs.Lends.{borrows, calls_on, copies, handed, number}
use Rattle.hull_shared.proofs.LendsBoth.{lends_both}
use mathlib.Core.Option.{none}
use Rattle.hull_shared.specs.contracts.shared_hull.SharedHull.{the_row as R}
use Rattle.hull_shared.specs.contracts.reader.SharedReader.{the_row as Q}
use Rattle.hull_shared.specs.Readings.{HasReturnedReader}
use Rattle.hull_shared.proofs.exports.readers.hull_shared_release_reader.Statement.{statement}
use Rattle.hull_shared.proofs.exports.readers.hull_shared_release_reader.Code as code
use Rattle.hull_shared.proofs.reading.return_reader.Met.{met}

pub hull_shared_release_reader_spec : {M : Type 1} → statement M
hull_shared_release_reader_spec 𝓤 𝓛 𝓜 𝓡 wired =
    lends_both 𝓤 𝓛 𝓜 𝓡 [] R Q (number 𝓛 w32) (λ t s. none)
    (λ a t new s left u. HasReturnedReader t new s left u)
    (λ x. met 𝓤 𝓛 𝓜 𝓡 (code.calls-hull_shared::reading::return_reader 𝓡.env wired) (x, tt)) code.function
    (code.unfolded 𝓤 𝓛.H 𝓜 𝓡 wired) (λ b o d w P typed.
    enter ! _ _ _ _ _ $ alloc_all ! (λ l. pass_all ! refl ((tt, tt), ((tt, tt), tt)) $
    copies ! refl refl (tt, tt) $ copies ! refl refl (tt, tt) $ copies ! refl refl (tt, tt) $ copies ! refl refl (tt, tt) $
    borrows ! refl refl (tt, tt) $ copies ! refl refl (tt, tt) $ borrows ! refl refl (tt, tt) $ copies ! refl refl (tt, tt) $
    calls_on ! (framed 𝓤 𝓛.H 𝓜 (tables 𝓤 𝓛.H 𝓜 𝓡 𝓡.env)) typed
    (and_then ! (get ! refl) (and_then ! (get ! refl) (no_more !))) (λ v fits.
    lands_as ! refl refl fits $ returns ! (look_at ! 0 refl) $ free_all ! refl $ handed !)))
