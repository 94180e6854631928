-- A snapshot in numbers as the result of an export.
use Rattle.hull_reply.proofs.Lends.{Result}
use Rattle.hull_shared.specs.contracts.reading.SnapshotReply.{the_row}
use Rattle.hull_shared.proofs.reading.SnapshotReply.TheLaws.{lowers, the_row_laws}
use seplogic.Ra.Ura.{Ura}
use types.Logic.{Logic}

abbrev pub snapshot_reply : {M : Type 1} {𝓤 : Ura M} → Logic 𝓤 → Result
snapshot_reply 𝓛 = record { row = the_row; ty = lowers.mir; typed = λ u v is. ((the_row_laws.lawful 𝓛).typed u _ is).0 }
