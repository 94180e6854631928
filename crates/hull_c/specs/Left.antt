-- The state after a call that ends a value.
use base.Fml.{Fml, fex, fsep, ftrue}
use denote.RattleType.{RattleType}
use denote.RawPtr.{Ptr, room_at}

-- storage for a value of the type is at p, and this holds
abbrev pub leaves_storage : RattleType → Ptr → Type 0 → Fml
leaves_storage R p holds = fsep (room_at R p) (fex holds (λ _. ftrue))
