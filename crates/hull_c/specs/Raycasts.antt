-- The entry of a ray or a segment into a convex polygon, in numbers.
use Rattle.std.specs.Prelude.{◌≡◌, ◌+◌, ◌*◌, ◌^◌, ◌≤◌, ◌⊎◌, ℕ, ℤ, List, [], Option, Some, None, MatchOption, Result, MatchResult}
use Rattle.lattice.specs.Plane.{Pair}
use Rattle.hull_geometry.specs.Positions.{origin}
use Rattle.hull_polygon.specs.Raycasts.{IsHit, IsLast, MissesRay, moved}
use Rattle.hull_polygon.specs.Meetings.{AreDisjoint, segment}
use Rattle.hull_polygon.specs.Polygons.{HoldsOfSetsOf}
use Rattle.hull_polygon.specs.Steps.{backward}
use Rattle.hull_polygon.specs.declared.raycasts.Entry.{Entry}
use Rattle.hull_polygon.specs.declared.raycasts.Entry.TheVariants as entry
use Rattle.hull_polygon.specs.declared.raycasts.Hit.{Hit}
use Rattle.hull_reply.specs.Coordinates.{IsDirectionOf, IsPointOf}
use Rattle.hull_reply.specs.Encoded.{code_number}
use Rattle.hull_reply.specs.declared.code.Code.{Code}
use Rattle.hull_reply.specs.declared.code.Code.TheVariants as code
use Rattle.hull_c.specs.declared.raycasts.HullHit.{HullHit}

-- a code, with two points
abbrev pub IsHitAt : Code → Pair → Pair → HullHit → Type 0
IsHitAt c p q encoded =
    (encoded.code ≡ code_number c) × (encoded.x ≡ p.x) × (encoded.y ≡ p.y) × (encoded.other_x ≡ q.x) × (encoded.other_y ≡ q.y)

-- a fraction of the way, in two words above and two below
abbrev pub IsPart : ℕ → ℕ → HullHit → Type 0
IsPart n d encoded = (encoded.high * 2 ^ 64 + encoded.low ≡ n) × (encoded.divisor_high * 2 ^ 64 + encoded.divisor_low ≡ d)

-- the entry: at the start, across an edge, or at a vertex
abbrev pub IsEntryEncoded : Entry → HullHit → Type 0
IsEntryEncoded entry.Start encoded = IsHitAt code.Covered origin origin encoded
IsEntryEncoded (entry.Edge p q) encoded = IsHitAt code.Edge p q encoded
IsEntryEncoded (entry.Vertex c) encoded = IsHitAt code.Vertex c origin encoded

-- a code and no other number
abbrev pub IsNoHit : Code → HullHit → Type 0
IsNoHit c encoded = IsHitAt c origin origin encoded × IsPart 0 0 encoded

-- the entry, and how far along the way it is; or a miss
abbrev pub IsHitEncoded : Option Hit → HullHit → Type 0
IsHitEncoded None encoded = IsNoHit code.Disjoint encoded
IsHitEncoded (Some found) encoded = IsEntryEncoded found.place encoded × IsPart found.numerator found.denominator encoded

-- this holds of the ray from a in the direction d and each set with these vertices, of which there are some
abbrev pub EncodesRay : List Pair → Pair → Pair → HullHit → Type 0
EncodesRay vertices a d encoded =
    ((vertices ≡ []) × IsNoHit code.Empty encoded)
    ⊎ ((found : Option Hit) × IsHitEncoded found encoded
    × HoldsOfSetsOf vertices (λ S. MatchOption found (MissesRay S a (moved a d)) (λ hit. IsHit S a (moved a d) hit)))

-- the same of the exit, the last point of the set on the ray
abbrev pub EncodesRaycastExit : List Pair → Pair → Pair → HullHit → Type 0
EncodesRaycastExit vertices a d encoded =
    ((vertices ≡ []) × IsNoHit code.Empty encoded)
    ⊎ ((found : Option Hit) × IsHitEncoded found encoded
    × HoldsOfSetsOf vertices (λ S. MatchOption found (MissesRay S a (moved a d))
    (λ hit. IsLast S a (moved a (backward d)) hit)))

-- the same of the segment from a to b
abbrev pub EncodesSegmentHit : List Pair → Pair → Pair → HullHit → Type 0
EncodesSegmentHit vertices a b encoded =
    ((vertices ≡ []) × IsNoHit code.Empty encoded)
    ⊎ ((found : Option Hit) × IsHitEncoded found encoded
    × HoldsOfSetsOf vertices (λ S. MatchOption found (AreDisjoint S (segment a b))
    (λ hit. IsHit S a b hit × (hit.numerator ≤ hit.denominator))))

-- the two numbers are a point and it was answered, or the reply has the reason why they are none
abbrev pub IsHitOf : ℤ → ℤ → (Pair → HullHit → Type 0) → HullHit → Type 0
IsHitOf x y P encoded =
    (asked : Result Pair Code) × IsPointOf x y asked
    × MatchResult asked (λ p. P p encoded) (λ fault. IsNoHit fault encoded)

-- the two numbers are a direction and it was answered, or the reply has the reason why they are none
abbrev pub IsHitAlong : ℤ → ℤ → (Pair → HullHit → Type 0) → HullHit → Type 0
IsHitAlong x y P encoded =
    (asked : Result Pair Code) × IsDirectionOf x y asked
    × MatchResult asked (λ d. P d encoded) (λ fault. IsNoHit fault encoded)
