-- A seat's reply as the result of an export.
use Rattle.hull_reply.proofs.Lends.{Result}
use Rattle.hull_shared.specs.contracts.looking.SeatReply.{the_row}
use Rattle.hull_shared.proofs.looking.SeatReply.TheLaws.{lowers, the_row_laws}
use seplogic.Ra.Ura.{Ura}
use types.Logic.{Logic}

abbrev pub seat_reply : {M : Type 1} {𝓤 : Ura M} → Logic 𝓤 → Result
seat_reply 𝓛 = record { row = the_row; ty = lowers.mir; typed = λ u v is. ((the_row_laws.lawful 𝓛).typed u _ is).0 }
