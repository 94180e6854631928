-- What an acquired seat saw that looked once.
use Rattle.std.proofs.Common.{◌≡◌, ◌≤◌, ℕ, Some, inl, refl, subst, sym}
use Rattle.std.specs.Prelude.{Option, None, IsNone, true, false}
use Rattle.hull_shared.specs.Drains.{HasLookedWith, HasSeenWithBy}
use Rattle.hull_shared.specs.Locks.{lock_of}
use Rattle.hull_shared.specs.Looks.{HasSeenAt, HasSeenBy, IsSameSeat}
use Rattle.hull_shared.specs.SharedHulls.{HasReturnedBy}
use Rattle.hull_shared.specs.declared.looking.Seen.{Seen}
use Rattle.hull_shared.specs.declared.segment.ReadySegment.{ReadySegment}
use Rattle.hull_shared.specs.declared.segment.Segment.{Segment}
use Rattle.hull_shared.specs.declared.segment.Segment.TheVariants.{Ready}
use Rattle.hull_shared.specs.declared.shared_hull.OpenSharedHull.{OpenSharedHull}
use Rattle.hull_shared.specs.declared.shared_hull.SharedHull.{SharedHull}
use Rattle.hull_shared.specs.declared.seat.AcquiredSeat.{AcquiredSeat}
use Rattle.hull_shared.specs.declared.seat.SharedSeat.{SharedSeat}
use Rattle.hull_shared.specs.declared.seat.SharedSeat.TheVariants.{Acquired}
use Rattle.hull_shared.specs.declared.seat_state.TakenNumber.{TakenNumber}

module _ (a b : AcquiredSeat) (t : TakenNumber) (is : a.state.taken ≡ Some t) (same : IsSameSeat a b) where
  -- what a waiting seat saw is what it saw as an acquired seat
  pub seen_by : (s : Seen) → HasSeenAt (lock_of a.lock) a.number a.state.ledger t b.state s
      → HasSeenBy a.state.taken a (Acquired b) s
  seen_by s seen = subst (λ (o : Option TakenNumber). HasSeenBy o a (Acquired b) s) (sym is) (b, refl, same, seen)

  -- and so it is with a segment that has enough storage
  pub seen_with : (p : ReadySegment) (segment : Segment) (s : Seen) → a.capacity ≤ p.lines
      → HasLookedWith (lock_of a.lock) a.number a.state.ledger t b.state p segment s
      → HasSeenWithBy a.state.taken a (Acquired b) (Ready p) segment s
  seen_with p segment s fits seen =
      subst (λ (o : Option TakenNumber). HasSeenWithBy o a (Acquired b) (Ready p) segment s) (sym is) (inl (fits, (b, refl, same, seen)))

-- an acquired seat with no number was released
pub returned : (taken : Option TakenNumber) (d : OpenSharedHull) (new : SharedHull) (a : AcquiredSeat) (storage : SharedSeat) (encoded : ℕ)
    → IsNone taken → HasReturnedBy None d new a storage encoded → HasReturnedBy taken d new a storage encoded
returned None d new a storage encoded idle has = has
returned (Some t) d new a storage encoded idle has = absurd (let f : true ≡ false = idle in cc)
