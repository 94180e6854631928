-- A comparison, and a choice of facts that exclude each other, have one proof: a ghost field requires that.
use Rattle.std.specs.Prelude.{◌≡◌, ℤ, ◌≤ℤ◌, ◌<ℤ◌, ◌⊎◌}
use Rattle.std.proofs.Common.{ap, arith, inl, inr}
use lib.IntN.{ℤ_set}
use lib.Dec.{T_prop}
use Rattle.lattice.specs.Plane.{Pair, IsBefore}
use Rattle.lattice.specs.Integers.{linear}

-- a choice of two facts that exclude each other has one proof, if each has one
pub either_prop : {A B : Type 0} → IsProp A → IsProp B → (A → B → ⊥) → IsProp (A ⊎ B)
either_prop pa pb n (inl x) (inl y) = ap inl (pa x y)
either_prop pa pb n (inl x) (inr y) = absurd (n x y)
either_prop pa pb n (inr x) (inl y) = absurd (n y x)
either_prop pa pb n (inr x) (inr y) = ap inr (pb x y)

-- a comparison of whole numbers has one proof
pub le_prop : (a b : ℤ) → IsProp (a ≤ℤ b)
le_prop a b = hlevel T_prop

-- a strict comparison has one proof
pub lt_prop : (a b : ℤ) → IsProp (a <ℤ b)
lt_prop a b = hlevel T_prop

-- the order of two points has one proof
pub before_prop : (p q : Pair) → IsProp (IsBefore p q)
before_prop p q = either_prop (lt_prop p.x q.x) (let e : IsProp (p.x ≡ q.x) = ℤ_set p.x q.x in hlevel (e, lt_prop))
    (λ h k. omega (arith, linear))
