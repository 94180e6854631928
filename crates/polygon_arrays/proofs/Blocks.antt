-- Parts of lists of points.
use Rattle.std.proofs.Common.{◌∙◌, ℕ, ◌-◌, ◌<◌, ◌≤◌, List, length, get_or, ap, arith, subst}
use Rattle.std.specs.Prelude.{slice_range}
use Rattle.std.specs.List.{All}
use Rattle.std.proofs.lemmas.List.Edits.{length-between, get_or-between}
use Rattle.lattice.specs.Plane.{Pair}

-- a property of all points of a part is one of each point at an index in it
pub in_part : (P : Pair → Type 0) (xs : List Pair) (start end : ℕ) → end ≤ length xs → All P (slice_range xs start end)
    → (k : ℕ) (d : Pair) → start ≤ k → k < end → P (get_or xs k d)
in_part P xs start end w h k d l m =
    subst P (get_or-between xs start end (k - start) d (omega (arith, l, m)) ∙ ap (λ (i : ℕ). get_or xs i d) (omega (arith, l)))
    (h (k - start) d (omega (arith, l, m, length-between xs start end w)))
