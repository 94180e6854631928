-- A tree that is not high has few points.
use Rattle.std.proofs.Common.{ℕ, zero, suc, ◌+◌, ◌≤◌, ◌^◌, arith}
use Rattle.std.proofs.Math.Nat.{pow-suc, one-le-pow}
use Rattle.bridge_search.specs.Trees.{Tree, Leaf, Fork, height_of, size_of}

-- each level doubles the points at most
pub size_by_height : (n : ℕ) (t : Tree) → height_of t ≤ n → size_of t ≤ 2 ^ n
size_by_height n (Leaf x) h = one-le-pow n 2 (omega arith)
size_by_height zero (Fork e f u w) h = absurd (omega (arith, h))
size_by_height (suc n) (Fork e f u w) h =
    omega (arith, h, size_by_height n u (omega (arith, h)), size_by_height n w (omega (arith, h)), pow-suc 2 n)

-- so one that is at most 16 high has few
pub low_size : (t : Tree) → height_of t ≤ 16 → size_of t ≤ 65536
low_size t h = size_by_height 16 t h
