-- The requests that a kind and two numbers describe.
use Rattle.std.specs.Prelude.{◌≡◌, ◌≢◌, ◌⊎◌, ℕ, ℤ, Result, Ok, Err, MatchResult}
use Rattle.lattice.specs.Plane.{Pair}
use Rattle.hull_set.specs.declared.call.Call.TheVariants as call
use Rattle.hull_reply.specs.Coordinates.{AreCoordinates, AreZero}
use Rattle.hull_reply.specs.declared.code.Code.{Code}
use Rattle.hull_reply.specs.declared.code.Code.TheVariants.{OutOfRange, ZeroDirection, UnknownKind}
use Rattle.hull_reply.specs.declared.kind.Kind.{Kind}
use Rattle.hull_reply.specs.declared.kind.Kind.TheVariants as kind
use Rattle.hull_reply.specs.declared.request.Request.{Request}
use Rattle.hull_reply.specs.declared.request.Request.TheVariants.{Call, Multiplicity}

-- the number of a kind in the headers
abbrev pub kind_number : Kind → ℕ
-- written by tools/table.py: kinds
kind_number kind.Add = 1
kind_number kind.Remove = 2
kind_number kind.Place = 3
kind_number kind.Tangents = 4
kind_number kind.Extreme = 5
kind_number kind.Vertices = 6
kind_number kind.Area = 7
kind_number kind.Count = 8
kind_number kind.Multiplicity = 9

-- end of what tools/table.py writes

-- the request for the point of the two numbers, or the error if they are not a point
abbrev pub IsPointRequest : (Pair → Request) → ℤ → ℤ → Result Request Code → Type 0
IsPointRequest make x y r =
    MatchResult r (λ q. AreCoordinates x y × (q ≡ make (record { x = x; y = y })))
    (λ fault. ¬ AreCoordinates x y × (fault ≡ OutOfRange))

-- the question for the direction of the two numbers, or the error if they are not a direction
abbrev pub IsDirectionRequest : (Pair → Request) → ℤ → ℤ → Result Request Code → Type 0
IsDirectionRequest make x y r =
    MatchResult r (λ q. AreCoordinates x y × ¬ AreZero x y × (q ≡ make (record { x = x; y = y })))
    (λ fault. (¬ AreCoordinates x y × (fault ≡ OutOfRange)) ⊎ (AreZero x y × (fault ≡ ZeroDirection)))

-- the request of a kind, or the error; if the kind needs no point and no direction, the two numbers are not read
abbrev pub IsRequestAs : Kind → ℤ → ℤ → Result Request Code → Type 0
-- written by tools/table.py: a case for each kind
IsRequestAs kind.Add x y r = IsPointRequest (λ p. Call (call.Add p)) x y r
IsRequestAs kind.Remove x y r = IsPointRequest (λ p. Call (call.Remove p)) x y r
IsRequestAs kind.Place x y r = IsPointRequest (λ p. Call (call.Place p)) x y r
IsRequestAs kind.Tangents x y r = IsPointRequest (λ p. Call (call.Tangents p)) x y r
IsRequestAs kind.Extreme x y r = IsDirectionRequest (λ d. Call (call.Extreme d)) x y r
IsRequestAs kind.Vertices x y r = r ≡ Ok (Call call.Vertices)
IsRequestAs kind.Area x y r = r ≡ Ok (Call call.Area)
IsRequestAs kind.Count x y r = r ≡ Ok (Call call.Count)
IsRequestAs kind.Multiplicity x y r = IsPointRequest Multiplicity x y r

-- end of what tools/table.py writes

-- the request of the kind with this number, or the error
abbrev pub IsRequestOf : ℕ → ℤ → ℤ → Result Request Code → Type 0
IsRequestOf number x y r =
    ((k : Kind) × (kind_number k ≡ number) × IsRequestAs k x y r)
    ⊎ (((k : Kind) → kind_number k ≢ number) × (r ≡ Err UnknownKind))
