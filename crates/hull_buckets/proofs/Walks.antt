-- The next vertex of a walk along a chain.
use Rattle.std.proofs.Common.{◌≡◌, ◌∙◌, ap, arith, ℕ, ◌+◌, ◌-◌, ◌^◌, ◌%◌, ◌<◌, ◌≤◌, List, [], ◌∷◌, length}
use Rattle.std.specs.Prelude.{reverse}
use Rattle.std.proofs.lemmas.List.{reverse-append}
use Rattle.lattice.specs.Plane.{Pair}
use Rattle.lattice.specs.declared.side.Side.{Side}
use Rattle.lattice.specs.declared.side.Side.TheVariants.{Lower, Upper}
use Rattle.hull_geometry.specs.Positions.{point_at}
use Rattle.hull_buckets.specs.Masks.{at_places}
use Rattle.hull_buckets.specs.Walks.{along}
use Rattle.hull_buckets.proofs.Places.{first_at, none_at, pushed}
use Rattle.hull_buckets.proofs.Words.{below_top, top_before}

-- along no vertices there are none
pub along_none : (side : Side) (S : List Pair) (mask : ℕ) → mask ≡ 0 → along side (at_places mask S) ≡ []
along_none Lower S mask e = ap (λ (m : ℕ). at_places m S) e ∙ none_at S
along_none Upper S mask e = ap (λ (m : ℕ). reverse (at_places m S)) e ∙ ap (λ (z : List Pair). reverse z) (none_at S)

-- the index at which a walk goes on: the lowest of a mask, or the highest
abbrev pub IsNextPlace : Side → ℕ → ℕ → Type 0
IsNextPlace Lower mask place = (2 ^ place ≤ mask) × (mask % 2 ^ (place + 1) ≡ 2 ^ place)
IsNextPlace Upper mask place = (2 ^ place ≤ mask) × (mask < 2 ^ (place + 1))

-- it is one of the list
pub next_within : (side : Side) (S : List Pair) (mask place : ℕ) → mask < 2 ^ length S → IsNextPlace side mask place
    → place < length S
next_within Lower S mask place l n = top_before mask place (length S) n.0 l
next_within Upper S mask place l n = top_before mask place (length S) n.0 l

-- the point there is the first of the walk, which goes on without it
pub next_along : (side : Side) (S : List Pair) (mask place : ℕ) → mask < 2 ^ length S → IsNextPlace side mask place
    → along side (at_places mask S) ≡ point_at S place ∷ along side (at_places (mask - 2 ^ place) S)
next_along Lower S mask place l n = first_at S mask place n.1 (next_within Lower S mask place l n)
next_along Upper S mask place l n =
    let rest : mask ≡ (mask - 2 ^ place) + 2 ^ place = omega (arith, n.0) in
    ap (λ (m : ℕ). reverse (at_places m S)) rest
    ∙ ap (λ (z : List Pair). reverse z)
    (pushed S (mask - 2 ^ place) place (below_top mask place n.1) (next_within Upper S mask place l n))
    ∙ reverse-append (at_places (mask - 2 ^ place) S) (point_at S place ∷ [])
