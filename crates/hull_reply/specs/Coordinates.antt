-- The point and the direction that two numbers are.
use Rattle.std.specs.Prelude.{◌≡◌, ◌⊎◌, ℤ, pos, Result, MatchResult}
use Rattle.lattice.specs.Plane.{Pair, IsCoordinate}
use Rattle.hull_reply.specs.declared.code.Code.{Code}
use Rattle.hull_reply.specs.declared.code.Code.TheVariants.{OutOfRange, ZeroDirection}

-- both numbers are coordinates
abbrev pub AreCoordinates : ℤ → ℤ → Type 0
AreCoordinates x y = IsCoordinate x × IsCoordinate y

-- both numbers are 0
abbrev pub AreZero : ℤ → ℤ → Type 0
AreZero x y = (x ≡ pos 0) × (y ≡ pos 0)

-- the two numbers are a point, or one of them is not a coordinate
abbrev pub IsPointOf : ℤ → ℤ → Result Pair Code → Type 0
IsPointOf x y r = MatchResult r (λ p. AreCoordinates x y × (p ≡ record { x = x; y = y }))
    (λ fault. ¬ AreCoordinates x y × (fault ≡ OutOfRange))

-- the two numbers are a direction; or one of them is not a coordinate, or both are 0
abbrev pub IsDirectionOf : ℤ → ℤ → Result Pair Code → Type 0
IsDirectionOf x y r = MatchResult r
    (λ d. AreCoordinates x y × ¬ AreZero x y × (d ≡ record { x = x; y = y }))
    (λ fault. (¬ AreCoordinates x y × (fault ≡ OutOfRange)) ⊎ (AreZero x y × (fault ≡ ZeroDirection)))
