-- Points that all move straight along one vector, and the first of them that comes into the hull of a set.
use Rattle.std.specs.Prelude.{◌≡◌, ◌⊎◌, ℕ, ◌*◌, ◌<◌, ◌≤◌, List, Option, Some, None, MatchOption}
use Rattle.std.specs.List.{Contains}
use Rattle.lattice.specs.Plane.{Pair}
use Rattle.lattice.specs.Covers.{Covers}
use Rattle.hull_polygon.specs.Closest.{magnified}
use Rattle.hull_polygon.specs.Raycasts.{IsHit, moved, on_way}
use Rattle.first_meeting.specs.declared.arrivals.Arrival.{Arrival}

-- T covers the point a after n / k of its motion along d
abbrev pub CoversAfter : List Pair → Pair → Pair → ℕ → ℕ → Type 0
CoversAfter T d a n k = Covers (magnified k T) (on_way k n a (moved a d))

-- T covers no point of V after any part of the motion
abbrev pub NoneArrives : List Pair → Pair → List Pair → Type 0
NoneArrives T d V = (a : Pair) (n k : ℕ) → Contains V a → 0 < k → n ≤ k → ¬ CoversAfter T d a n k

-- a point of V comes into T within the motion, and none is covered before
pub record ArrivesFirst (T : List Pair) (d : Pair) (V : List Pair) (found : Arrival) : Type 0 where
  pub there : Contains V found.vertex
  pub hit : IsHit T found.vertex (moved found.vertex d) found.hit
  pub within : found.hit.numerator ≤ found.hit.denominator
  pub first : (a : Pair) (n k : ℕ) → Contains V a → 0 < k → CoversAfter T d a n k
      → found.hit.numerator * k ≤ n * found.hit.denominator

-- the first arrival, or there is none
abbrev pub ReturnsFirst : List Pair → Pair → List Pair → Option Arrival → Type 0
ReturnsFirst T d V r = MatchOption r (NoneArrives T d V) (λ found. ArrivesFirst T d V found)

-- the first one if it is no later than the second, and else the second; or the only one
abbrev pub ReturnsSooner : Option Arrival → Option Arrival → Option Arrival → Type 0
ReturnsSooner None b r = r ≡ b
ReturnsSooner (Some a) None r = r ≡ Some a
ReturnsSooner (Some a) (Some b) r =
    ((r ≡ Some a) × (a.hit.numerator * b.hit.denominator ≤ b.hit.numerator * a.hit.denominator))
    ⊎ ((r ≡ Some b) × (b.hit.numerator * a.hit.denominator < a.hit.numerator * b.hit.denominator))
