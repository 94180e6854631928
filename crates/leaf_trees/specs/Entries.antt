-- Points in order, each with its multiplicity; and the set after points are added one by one.
use Rattle.std.specs.Prelude.{◌⊎◌, ◌↔◌, ℕ, ◌<◌, ◌≤◌, List, [], ◌∷◌, length, slice_index_or, if◌then◌else◌}
use Rattle.std.specs.List.{All, Contains, sum_by}
use Rattle.std.specs.Map.{keys_of}
use Rattle.lattice.specs.Plane.{Pair, IsBefore}
use Rattle.lattice.specs.Covers.{IsPointSet}
use Rattle.hull_set.specs.Held.{Held, with_new}
use Rattle.hull_set.specs.PointLists.{is_same_pair}
use Rattle.hull_set.specs.declared.TheConstants.{MULTIPLICITY_LIMIT}

-- the set that contains p with multiplicity n, and no other point
abbrev pub several : ℕ → Pair → Pair → ℕ
several multiplicity p q = if is_same_pair p q then multiplicity else 0

-- a multiplicity that a point of a set may have
abbrev pub IsMultiplicity : ℕ → Type 0
IsMultiplicity multiplicity = (1 ≤ multiplicity) × (multiplicity ≤ MULTIPLICITY_LIMIT)

-- the points are in order, and are exactly those with a multiplicity of at least one
pub record IsTrueHeld (h : Held) : Type 0 where
  pub in_order : IsPointSet h.points
  pub live : (t : Pair) → Contains h.points t ↔ (1 ≤ h.multiplicities t)

-- the points of the entries
abbrev pub points_listed : List (Pair × ℕ) → List Pair
points_listed entries = keys_of entries

-- the multiplicity of a point in the entries
abbrev pub multiplicity_listed : List (Pair × ℕ) → Pair → ℕ
multiplicity_listed entries q = sum_by (λ (e : Pair × ℕ). several e.1 e.0 q) entries

-- the set that the entries list
abbrev pub held_listed : List (Pair × ℕ) → Held
held_listed entries = record { points = points_listed entries; multiplicities = λ q. multiplicity_listed entries q }

-- entries: points in order, each with a multiplicity that a point may have
pub record AreEntries (entries : List (Pair × ℕ)) : Type 0 where
  pub in_order : IsPointSet (points_listed entries)
  pub held : All (λ (e : Pair × ℕ). IsMultiplicity e.1) entries

-- the set after points were added one by one: the effect of each reply that is no refusal (a point that is already in the set is not inserted twice,
-- but its multiplicity grows by one)
abbrev pub held_after_adds : Held → List Pair → Held
held_after_adds held [] = held
held_after_adds held (p ∷ ps) = held_after_adds (with_new p held) ps

-- the entry at i of one list is not after the entry at j of another, if there is one
pub record Precedes (xs : List (Pair × ℕ)) (i : ℕ) (ys : List (Pair × ℕ)) (j : ℕ) : Type 0 where
  pub there : i < length xs
  pub first : (d : Pair × ℕ) → j < length ys → ¬ IsBefore (slice_index_or ys j d).0 (slice_index_or xs i d).0

-- if the points are added one by one, a point would get a greater multiplicity than one may have, or the set more points than its limit
abbrev pub AreTooMany : Held → List Pair → ℕ → Type 0
AreTooMany held points limit =
    ((q : Pair) × (MULTIPLICITY_LIMIT < (held_after_adds held points).multiplicities q))
    ⊎ (limit < length (held_after_adds held points).points)
