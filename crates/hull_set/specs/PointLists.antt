-- Points in lists: the test whether two are equal, and lists in order that may contain a point more than once.
use Rattle.std.specs.Prelude.{Bool, ℕ, ◌<◌, ◌≤◌, List, length, slice_index_or}
use Rattle.std.specs.Ordering.{int_eq, on, eq_of_both}
use Rattle.lattice.specs.Plane.{Pair, IsBefore}

-- both coordinates are equal
abbrev pub is_same_pair : Pair → Pair → Bool
is_same_pair = eq_of_both (on (λ p. p.x) int_eq) (on (λ p. p.y) int_eq)

-- no point of a list is before an earlier one
abbrev pub IsAscending : List Pair → Type 0
IsAscending points = (i j : ℕ) (d : Pair) → i ≤ j → j < length points
    → ¬ IsBefore (slice_index_or points j d) (slice_index_or points i d)
