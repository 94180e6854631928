-- Removals that are carried out later, and the contents of a set once they are.
use Rattle.std.specs.Prelude.{◌≡◌, ℕ, List, [], ◌∷◌}
use Rattle.std.specs.List.{Contains}
use Rattle.lattice.specs.Plane.{Pair}
use Rattle.lattice.specs.Covers.{IsPointSet}
use Rattle.hull_set.specs.Held.{Held, with_none}
use Rattle.hull_set.specs.declared.set.HullSet.{Ghosts}

-- the contents after the points have left the set, one after the other
unfoldable pub without_all : List Pair → Held → Held
without_all [] held = held
without_all (p ∷ ps) held = without_all ps (with_none p held)

-- no point is in the list twice
unfoldable pub AreDistinct : List Pair → Type 0
AreDistinct [] = Unit {0}
AreDistinct (p ∷ ps) = ¬ Contains ps p × AreDistinct ps

-- the points are different points of a set in order, and each has multiplicity one there
pub record AreDeferred (ps : List Pair) (held : Held) : Type 0 where
  pub in_order : IsPointSet held.points
  pub distinct : AreDistinct ps
  pub once : (q : Pair) → Contains ps q → Contains held.points q × (held.multiplicities q ≡ 1)

-- a set, and the points that wait for their removal from it
pub record Deferring (S : Type 0) : Type 0 where
  pub set : S
  pub removed : List Pair

-- the contents of the set once they have left it
abbrev pub held_in : {S : Type 0} → Ghosts S → Deferring S → Held
held_in K d = without_all d.removed (K.held d.set)

-- the greatest number of different points of the set
abbrev pub limit_of : {S : Type 0} → Ghosts S → Deferring S → ℕ
limit_of K d = K.bound d.set
