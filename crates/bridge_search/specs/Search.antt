-- The search for the upper bridge of two halves: its turns, and what n of them keep.
use Rattle.std.specs.Prelude.{◌≡◌, ℕ, Bool, true, false, ◌+◌, ◌<◌, ◌≤◌}
use Rattle.lattice.specs.Plane.{Pair, IsBefore}
use Rattle.lattice.specs.Bridges.{IsAllBefore, IsUpperBridge}
use Rattle.bridge_search.specs.Trees.{Tree, On, IsBridged, first_of, size_of, height_of, IsAtDepth}

-- the halves u and w of a turn keep the law, and the point m separates them: each point of u is before m, and no point
-- of w is
pub record IsReady (u w : Tree) (m : Pair) : Type 0 where
  pub left_bridged : IsBridged u
  pub right_bridged : IsBridged w
  pub ordered : IsAllBefore (On u) (On w)
  pub after_left : (t : Pair) → On u t → IsBefore t m
  pub by_right : (t : Pair) → On w t → ¬ IsBefore t m

-- p is i forks down in u, q is j forks down in w, and n is i + j
abbrev pub IsDepthSum : Tree → Tree → Pair → Pair → ℕ → Type 0
IsDepthSum u w p q n = (i : ℕ) × (j : ℕ) × IsAtDepth u p i × IsAtDepth w q j × (n ≡ i + j)

-- one turn leads from the halves u and w to the halves v and z, which have the same upper bridge, at a depth that is
-- one less
pub record IsTurn (u w : Tree) (m : Pair) (v z : Tree) : Type 0 where
  pub ready : IsReady v z m
  pub lifts : (p q : Pair) → IsUpperBridge (On v) (On z) p q → IsUpperBridge (On u) (On w) p q
  pub falls : size_of v + size_of z < size_of u + size_of w
  pub shallower : height_of v + height_of z + 1 ≤ height_of u + height_of w
  pub deeper : (p q : Pair) (n : ℕ) → IsDepthSum v z p q n → IsDepthSum u w p q (n + 1)

-- both halves are one point, and these points are the bridge
pub record IsDone (u w : Tree) : Type 0 where
  pub bridge : IsUpperBridge (On u) (On w) (first_of u) (first_of w)
  pub depth : IsDepthSum u w (first_of u) (first_of w) 0

-- n turns lead from the halves u0 and w0 to the halves u and w
pub record IsReached (u0 w0 u w : Tree) (m : Pair) (n : ℕ) : Type 0 where
  pub ready : IsReady u w m
  pub lifts : (p q : Pair) → IsUpperBridge (On u) (On w) p q → IsUpperBridge (On u0) (On w0) p q
  pub deeper : (p q : Pair) (k : ℕ) → IsDepthSum u w p q k → IsDepthSum u0 w0 p q (k + n)
  pub within : height_of u + height_of w + n ≤ height_of u0 + height_of w0

-- after n turns one more, so k in all; or none, if both halves are one point
abbrev pub IsAdvance : Bool → Tree → Tree → Pair → ℕ → Tree → Tree → ℕ → Type 0
IsAdvance true u w m n v z k = IsTurn u w m v z × (k ≡ n + 1)
IsAdvance false u w m n v z k = (v ≡ u) × (z ≡ w) × (k ≡ n) × IsDone u w
