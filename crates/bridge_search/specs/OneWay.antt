-- The law of a half has one proof: a ghost field requires that.
use lib.IntN.{ℤ_set}
use Rattle.lattice.specs.Plane.{Pair}
use Rattle.lattice.specs.Bridges.{IsAllBefore, IsUpperBridge, IsLowerBridge}
use Rattle.lattice.specs.OneWay.{either_prop, le_prop, before_prop}
use Rattle.bridge_search.specs.Trees.{Tree, Leaf, Fork, On, IsBridged}
use Rattle.bridge_search.specs.Near.{IsAllNear}
use Rattle.lattice.proofs.Order.{before_irrefl}

-- a statement has at most one proof if it has, given one proof
given : {A : Type 0} → (A → IsProp A) → IsProp A
given f x y = f x x y

-- the equality of two points has one proof
pub point_set : IsSet Pair
point_set = hlevel ℤ_set

-- the order of two sets has one proof
all_before_prop : (l r : Pair → Type 0) → IsProp (IsAllBefore l r)
all_before_prop l r = hlevel before_prop

-- that an edge is the upper bridge has one proof, if membership in either set has one
upper_prop : (l r : Pair → Type 0) (p q : Pair) → ((t : Pair) → IsProp (l t)) → ((t : Pair) → IsProp (r t))
    → IsProp (IsUpperBridge l r p q)
upper_prop l r p q pl pr = hlevel (pl, pr, le_prop)

-- the same of the lower bridge
lower_prop : (l r : Pair → Type 0) (p q : Pair) → ((t : Pair) → IsProp (l t)) → ((t : Pair) → IsProp (r t))
    → IsProp (IsLowerBridge l r p q)
lower_prop l r p q pl pr = hlevel (pl, pr, le_prop)

-- membership in a half that keeps the law has one proof: a point is only once in it
pub on_prop : (t : Tree) → IsBridged t → (p : Pair) → IsProp (On t p)
on_prop (Leaf x) h p = point_set p x
on_prop (Fork e f u w) h p = either_prop (on_prop u h.3 p) (on_prop w h.4 p) (λ i j. before_irrefl p (h.0 p p i j))

-- the law of a half has one proof
pub IsBridged-prop : (t : Tree) → IsProp (IsBridged t)
IsBridged-prop (Leaf x) = hlevel
IsBridged-prop (Fork e f u w) = given (λ h.
    let a : IsProp (IsAllBefore (On u) (On w)) = all_before_prop (On u) (On w) in
    let b : IsProp (IsUpperBridge (On u) (On w) e.0 e.1) =
    upper_prop (On u) (On w) e.0 e.1 (on_prop u h.3) (on_prop w h.4) in
    let c : IsProp (IsLowerBridge (On u) (On w) f.0 f.1) =
    lower_prop (On u) (On w) f.0 f.1 (on_prop u h.3) (on_prop w h.4) in
    let d : IsProp (IsBridged u) = IsBridged-prop u in
    let k : IsProp (IsBridged w) = IsBridged-prop w in
    hlevel (a, b, c, d, k))

-- that all points of a half are near has one proof
pub IsAllNear-prop : (t : Tree) → IsProp (IsAllNear t)
IsAllNear-prop t = hlevel le_prop
