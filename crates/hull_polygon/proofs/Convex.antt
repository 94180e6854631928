-- Points that ascend in the order "before" and bend left: none of them lies right of the line from one to the next.
use Rattle.std.proofs.Common.{◌≡◌, ℕ, zero, suc, ◌+◌, ◌-◌, ◌≤◌, ◌<◌, ℤ, pos, ◌-ℤ◌, ◌≤ℤ◌, ◌<ℤ◌, neg_ℤ, ◌⊎◌, inl, inr}
use Rattle.std.proofs.Common.{sym, ap, ◌∙◌, subst, arith}
use Rattle.std.proofs.lemmas.Bool.{cases_lt}
use Rattle.std.proofs.lemmas.Int.{ints}
use Rattle.lattice.specs.Plane.{Pair, orient, IsBefore}
use Rattle.lattice.specs.Signs.{le_or_lt}
use Rattle.lattice.proofs.Vectors.{minus, cross, cross_swap, cross_trans, cross_trans_strict}
use Rattle.lattice.proofs.Order.{before_trans}
use Rattle.lattice.proofs.LineCrossings.{orient_start, orient_end}
use Rattle.lattice.proofs.Numbers.{nn_zero}
use Rattle.hull_geometry.proofs.Orientation.{orient-cross, orient_swap, above, at_least, ahead_of}
use Rattle.lattice.proofs.Sides.{side_after, side_before, side_more, side_less}
use Rattle.lattice.proofs.Numbers.{nn_above}

-- g from 0 to m ascends and bends left
pub record IsConvex (g : ℕ → Pair) (m : ℕ) : Type 0 where
  pub ascends : (i j : ℕ) → j ≡ i + 1 → j ≤ m → IsBefore (g i) (g j)
  pub bends : (i j k : ℕ) → j ≡ i + 1 → k ≡ j + 1 → k ≤ m → pos 0 <ℤ orient (g i) (g j) (g k)

-- a later point is after an earlier one
ascended : (g : ℕ → Pair) (m d i j : ℕ) → IsConvex g m → j ≡ i + suc d → j ≤ m → IsBefore (g i) (g j)
ascended g m zero i j c e l = c.ascends i j (omega (arith, e)) l
ascended g m (suc d) i j c e l =
    before_trans (g i) (g (j - 1)) (g j) (ascended g m d i (j - 1) c (omega (arith, e)) (omega (arith, l)))
    (c.ascends (j - 1) j (omega (arith, e)) l)

-- a later point is after an earlier one
pub later_after : (g : ℕ → Pair) (m i j : ℕ) → IsConvex g m → i < j → j ≤ m → IsBefore (g i) (g j)
later_after g m i j c h l = ascended g m (j - i - 1) i j c (omega (arith, h)) l

-- the next step bends left
next_bends : (g : ℕ → Pair) (m i j k : ℕ) → IsConvex g m → j ≡ i + 1 → k ≡ j + 1 → k ≤ m
    → pos 0 <ℤ cross (minus (g j) (g i)) (minus (g k) (g j))
next_bends g m i j k c e f l = above _ _ (side_after (g i) (g j) (g k)) (c.bends i j k e f l)

-- each later step bends left
turned_by : (g : ℕ → Pair) (m d i j u v : ℕ) → IsConvex g m → j ≡ i + 1 → u ≡ j + d → v ≡ u + 1 → v ≤ m
    → pos 0 <ℤ cross (minus (g j) (g i)) (minus (g v) (g u))
turned_by g m zero i j u v c e f k l =
    subst (λ (n : ℕ). pos 0 <ℤ cross (minus (g j) (g i)) (minus (g v) (g n))) (omega (arith, f))
    (next_bends g m i j v c e (omega (arith, f, k)) l)
turned_by g m (suc d) i j u v c e f k l =
    cross_trans_strict (minus (g j) (g i)) (minus (g u) (g (u - 1))) (minus (g v) (g u))
    (ahead_of (g i) (g j) (c.ascends i j e (omega (arith, f, k, l))))
    (ahead_of (g (u - 1)) (g u) (c.ascends (u - 1) u (omega (arith, f)) (omega (arith, k, l))))
    (ahead_of (g u) (g v) (c.ascends u v k l))
    (turned_by g m d i j (u - 1) u c e (omega (arith, f)) (omega (arith, f)) (omega (arith, k, l)))
    (nn_above _ (next_bends g m (u - 1) u v c (omega (arith, f)) k l))

-- if s exceeds q by a positive difference, and q is not below 0, s is above 0
sum_above : (s q d : ℤ) → s -ℤ q ≡ d → pos 0 ≤ℤ q → pos 0 <ℤ d → pos 0 <ℤ s
sum_above s q d e h k = omega (arith, ints)

-- a point after the next one lies left of the line
left_of_later : (g : ℕ → Pair) (m d i j k : ℕ) → IsConvex g m → j ≡ i + 1 → k ≡ j + suc d → k ≤ m
    → pos 0 <ℤ orient (g i) (g j) (g k)
left_of_later g m zero i j k c e f l = c.bends i j k e (omega (arith, f)) l
left_of_later g m (suc d) i j k c e f l =
    sum_above _ _ _ (side_more (g i) (g j) (g (k - 1)) (g k))
    (nn_above _ (left_of_later g m d i j (k - 1) c e (omega (arith, f)) (omega (arith, l))))
    (turned_by g m (suc d) i j (k - 1) k c e (omega (arith, f)) (omega (arith, f)) l)

-- a point before it lies left of the line
left_of_earlier : (g : ℕ → Pair) (m d i j k : ℕ) → IsConvex g m → j ≡ i + 1 → i ≡ k + suc d → j ≤ m
    → pos 0 <ℤ orient (g i) (g j) (g k)
left_of_earlier g m zero i j k c e f l =
    sum_above _ _ _ (side_less (g i) (g j) (g i) (g k)) (nn_zero _ (orient_start (g i) (g j)))
    (next_bends g m k i j c (omega (arith, f)) e l)
left_of_earlier g m (suc d) i j k c e f l =
    sum_above _ _ _ (side_less (g i) (g j) (g (k + 1)) (g k))
    (nn_above _ (left_of_earlier g m d i j (k + 1) c e (omega (arith, f)) l))
    (turned_by g m (suc d) k (k + 1) i j c (omega arith) (omega (arith, f)) e l)

-- u and v are consecutive, and t is one of them or lies left of their line
abbrev pub IsLeftOrEnd : Pair → Pair → Pair → Type 0
IsLeftOrEnd u v t = (pos 0 <ℤ orient u v t) ⊎ ((t ≡ u) ⊎ (t ≡ v))

-- each of the points is one of the two or lies left of their line
pub left_or_end : (g : ℕ → Pair) (m i j k : ℕ) → IsConvex g m → j ≡ i + 1 → j ≤ m → k ≤ m
    → IsLeftOrEnd (g i) (g j) (g k)
left_or_end g m i j k c e l n =
    elim (cases_lt k i) [
      | inl h ↦ inl (left_of_earlier g m (i - k - 1) i j k c e (omega (arith, h)) l)
      | inr h ↦ elim (cases_lt i k) [
        | inr h2 ↦ inr (inl (ap g (omega (arith, h, h2))))
        | inl h2 ↦ elim (cases_lt j k) [
          | inl h3 ↦ inl (left_of_later g m (k - j - 1) i j k c e (omega (arith, h3)) n)
          | inr h3 ↦ inr (inr (ap g (omega (arith, h2, h3, e))))
        ]
      ]
    ]

-- such a point is not right of the line
pub not_right : (u v t : Pair) → IsLeftOrEnd u v t → pos 0 ≤ℤ orient u v t
not_right u v t (inl h) = nn_above _ h
not_right u v t (inr (inl e)) = nn_zero _ (ap (orient u v) e ∙ orient_start u v)
not_right u v t (inr (inr e)) = nn_zero _ (ap (orient u v) e ∙ orient_end u v)

-- a point between the first and the last lies right of their line
pub inner_below : (g : ℕ → Pair) (m j : ℕ) → IsConvex g m → 0 < j → j < m → pos 0 <ℤ orient (g 0) (g j) (g m)
inner_below g m j c h l =
    above _ _ (sym (side_after (g 0) (g j) (g m)))
    (cross_trans_strict (minus (g j) (g 0)) (minus (g (j + 1)) (g j)) (minus (g m) (g j))
    (ahead_of (g 0) (g j) (later_after g m 0 j c h (omega (arith, l))))
    (ahead_of (g j) (g (j + 1)) (c.ascends j (j + 1) (omega arith) (omega (arith, l))))
    (ahead_of (g j) (g m) (later_after g m j m c l (omega arith)))
    (above _ _ (side_before (g j) (g (j + 1)) (g 0))
    (left_of_earlier g m (j - 1) j (j + 1) 0 c (omega arith) (omega (arith, h)) (omega (arith, l))))
    (at_least _ _ (orient-cross (g j) (g (j + 1)) (g m))
    (not_right (g j) (g (j + 1)) (g m) (left_or_end g m j (j + 1) m c (omega arith) (omega (arith, l)) (omega arith)))))

-- a point above the line from `first` to `last`, between them, lies left of each line uv that has both not on its right
pub over_all : (u v first last t : Pair) → IsBefore u v → IsBefore first t → IsBefore t last
    → pos 0 ≤ℤ orient u v first → pos 0 ≤ℤ orient u v last → pos 0 <ℤ orient first last t → pos 0 <ℤ orient u v t
over_all u v first last t uv ft tl hf hl over =
    elim (le_or_lt (orient u v t) (pos 0)) [
      | inr k ↦ k
      | inl k ↦ absurd (clash _ _ _ (sym (side_after first t last)) (orient_swap first t last)
          (cross_trans (minus t first) (minus v u) (minus last t) (ahead_of first t ft) (ahead_of u v uv)
          (ahead_of t last tl)
          (rises _ _ _ _ (side_more u v first t) (cross_swap (minus v u) (minus t first)) hf k)
          (falls _ _ _ (side_more u v t last) hl k))
          over)
    ]
  where
    rises : (s q d e : ℤ) → s -ℤ q ≡ d → d ≡ neg_ℤ e → pos 0 ≤ℤ q → s ≤ℤ pos 0 → pos 0 ≤ℤ e
    rises s q d e f g h k = omega (arith, ints)

    falls : (s q d : ℤ) → s -ℤ q ≡ d → pos 0 ≤ℤ s → q ≤ℤ pos 0 → pos 0 ≤ℤ d
    falls s q d f h k = omega (arith, ints)

    clash : (x y z : ℤ) → x ≡ y → y ≡ neg_ℤ z → pos 0 ≤ℤ x → pos 0 <ℤ z → ⊥
    clash x y z e f h k = omega (arith, ints)
