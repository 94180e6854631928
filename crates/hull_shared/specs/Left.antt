-- The state that a call leaves in the storage of a shared hull and a seat.
use base.Fml.{Fml, fex, fsep, ftrue}
use base.Fraction.{full_share}
use denote.RattleType.{RattleType}
use denote.RawPtr.{Ptr, lies_at}

-- a value of one type is at p and one of another at q, and this holds of both
abbrev pub leaves_both : (R Q : RattleType) → Ptr → Ptr → (R.Denot → Q.Denot → Type 0) → Fml
leaves_both R Q p q holds =
    fex R.Denot (λ new. fex Q.Denot
    (λ left. fsep (lies_at R full_share p new)
    (fsep (lies_at Q full_share q left) (fex (holds new left) (λ _. ftrue)))))
