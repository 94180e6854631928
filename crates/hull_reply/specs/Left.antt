-- The state of a borrowed value after a call.
use base.Fml.{Fml, fex, fsep, ftrue}
use base.Fraction.{full_share}
use denote.RattleType.{RattleType}
use denote.RawPtr.{Ptr, lies_at}

-- a value of the type is at p, and this holds of it
abbrev pub leaves : (R : RattleType) → Ptr → (R.Denot → Type 0) → Fml
leaves R p holds = fex R.Denot (λ new. fsep (lies_at R full_share p new) (fex (holds new) (λ _. ftrue)))
