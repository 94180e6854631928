-- The size of the fans of a half's chains: at most as many triangles as it has points, minus one.
use Rattle.std.proofs.Common.{◌≡◌, ℕ, ℤ, ◌+ℤ◌, ◌≤◌, ◌<◌, ◌+◌, ◌-◌, ◌*◌, ◌^◌, arith, refl, ap, to_z, of_z, lit≤, pos}
use Rattle.std.proofs.Common.{◌≤ℤ◌, Fits}
use Rattle.std.proofs.lemmas.Int.{ints}
use lib.Dec.{T}
use lib.IntN.{nat_abs}
use lib.Signed.{non_neg}
use mir.Syntax.{w128}
use Rattle.lattice.specs.Plane.{IsWithin, widest_side}
use Rattle.lattice.specs.Integers.{within_add, within_more}
use Rattle.bridge_search.specs.Trees.{Tree, Leaf, Fork, IsFork, left_of, right_of, size_of, height_of}
use Rattle.bridge_search.specs.TurnedTrees.{turned_tree}
use Rattle.hull_set.specs.declared.TheConstants.{POINT_LIMIT}

-- both halves of a fork have less height
pub lower_halves : (t : Tree) → IsFork t
    → (height_of (left_of t) < height_of t) × (height_of (right_of t) < height_of t)
lower_halves (Leaf x) f = absurd f
lower_halves (Fork e g u w) f = (omega arith, omega arith)

-- a fork has the points of both halves
pub both_sizes : (t : Tree) → IsFork t → size_of t ≡ size_of (left_of t) + size_of (right_of t)
both_sizes (Leaf x) f = absurd f
both_sizes (Fork e g u w) f = refl

-- a rotation keeps the number of points
size_turned : (t : Tree) → size_of (turned_tree t) ≡ size_of t
size_turned (Leaf x) = refl
size_turned (Fork e f u w) = omega (arith, size_turned u, size_turned w)

-- a half with few points has few after a rotation
pub few_turned : (t v : Tree) → v ≡ turned_tree t → size_of t ≤ POINT_LIMIT → size_of v ≤ POINT_LIMIT
few_turned t v e l = omega (arith, ap size_of e, size_turned t)

-- a fan of few points is small
pub fan_small : (n : ℕ) (z : ℤ) → n ≤ POINT_LIMIT → IsWithin ((n - 1) * widest_side) z → IsWithin (2 ^ 123) z
fan_small n z l h = within_more ((n - 1) * widest_side) (2 ^ 123) z (omega arith) h

-- a triangle is small
pub side_small : (z : ℤ) → IsWithin widest_side z → IsWithin (2 ^ 123) z
side_small z h = within_more widest_side (2 ^ 123) z (lit≤ tt) h

-- a fan of more points has a larger bound
pub fan_more : (m n : ℕ) (z : ℤ) → m ≤ n → IsWithin ((m - 1) * widest_side) z → IsWithin ((n - 1) * widest_side) z
fan_more m n z l h = within_more ((m - 1) * widest_side) ((n - 1) * widest_side) z (omega arith) h

-- two fans and the triangle between them are within the bound of their points
pub within_over : (a b : ℕ) (m n k : ℤ) → 1 ≤ a → 1 ≤ b → IsWithin ((a - 1) * widest_side) m → IsWithin widest_side n
    → IsWithin ((b - 1) * widest_side) k → IsWithin ((a + b - 1) * widest_side) (m +ℤ n +ℤ k)
within_over a b m n k i j h t g =
    within_more ((a - 1) * widest_side + widest_side + (b - 1) * widest_side) ((a + b - 1) * widest_side) (m +ℤ n +ℤ k)
    (omega arith)
    (within_add ((a - 1) * widest_side + widest_side) ((b - 1) * widest_side) (m +ℤ n) k
    (within_add ((a - 1) * widest_side) widest_side m n h t) g)

-- a cast to 128 bits keeps a number that is small enough
pub cast_one : (m : ℤ) → IsWithin (2 ^ 123) m → to_z w128 (of_z w128 m) ≡ m
cast_one m h = omega (arith, ints)

-- a cast to 128 bits keeps a sum of three numbers that are small enough
pub cast_three : (m n k : ℤ) → IsWithin (2 ^ 123) m → IsWithin (2 ^ 123) n → IsWithin (2 ^ 123) k
    → to_z w128 (of_z w128 (to_z w128 (of_z w128 (to_z w128 (of_z w128 m) +ℤ to_z w128 (of_z w128 n)))
    +ℤ to_z w128 (of_z w128 k)))
    ≡ m +ℤ n +ℤ k
cast_three m n k h i j = omega (arith, ints)

-- a cast to 128 bits keeps a sum of two numbers that are small enough
pub cast_two : (m n : ℤ) → IsWithin (2 ^ 123) m → IsWithin (2 ^ 123) n
    → to_z w128 (of_z w128 (to_z w128 (of_z w128 m) +ℤ to_z w128 (of_z w128 n))) ≡ m +ℤ n
cast_two m n h i = omega (arith, ints)

-- a sum of two numbers at least 0 is its absolute value
pub sum_is : (m n : ℤ) → pos 0 ≤ℤ m → pos 0 ≤ℤ n → pos (nat_abs (m +ℤ n)) ≡ m +ℤ n
sum_is m n p q = omega (arith, ints)

-- if both are small, it fits in 128 bits
pub sum_in : (m n : ℤ) → IsWithin (2 ^ 123) m → IsWithin (2 ^ 123) n → pos 0 ≤ℤ m → pos 0 ≤ℤ n
    → T (non_neg (m +ℤ n)) × Fits w128 (nat_abs (m +ℤ n))
sum_in m n h i p q = (omega (arith, ints), omega (arith, ints))
