-- Vectors that do not go down in a direction, at the points of two sets that touch its line: one of the vectors along
-- the edges there has the others on one side.
use Rattle.std.proofs.Common.{◌≡◌, ℤ, pos, ◌+ℤ◌, ◌-ℤ◌, ◌*ℤ◌, ◌≤ℤ◌, ◌<ℤ◌, ◌⊎◌, inl, inr, ◌∙◌, arith}
use Rattle.std.proofs.lemmas.Int.{ints}
use Rattle.lattice.specs.Plane.{Pair, product, IsZero}
use Rattle.lattice.specs.Polynomials.{difference-eq, difference_rules}
use Rattle.lattice.specs.Signs.{le_or_lt, product_nn, cancel_zero}
use Rattle.lattice.proofs.Vectors.{as_pair, cross, cross_swap}
use Rattle.lattice.proofs.Numbers.{above_opposite, nn_above, nn_opposite, np_below, np_opposite, nn_zero}
use Rattle.hull_polygon.proofs.Axes.{IsWedge, three, first_of_three, second_of_three, third_of_three}
use Rattle.lattice.proofs.Lines.{zero_times}

-- ---- two vectors that do not lie in one line

-- the first coordinate of a direction, by how far two vectors go in it
by_x : (d l r : Pair) → d.x *ℤ cross r l ≡ product d r *ℤ l.y -ℤ product d l *ℤ r.y
unfolding product
by_x d l r = rw (as_pair d, as_pair l, as_pair r) (simp difference_rules (difference-eq _ _ _ _ (omega arith)))

-- the second coordinate
by_y : (d l r : Pair) → d.y *ℤ cross r l ≡ product d l *ℤ r.x -ℤ product d r *ℤ l.x
unfolding product
by_y d l r = rw (as_pair d, as_pair l, as_pair r) (simp difference_rules (difference-eq _ _ _ _ (omega arith)))

-- two vectors that are not in line are not both level
not_level : (d l r : Pair) → ¬ IsZero d → pos 0 <ℤ cross r l → product d l ≡ pos 0 → product d r ≡ pos 0 → ⊥
not_level d l r n t hl hr = n (
  cancel_zero d.x (cross r l) t (by_x d l r ∙ none _ _ (zero_times _ l.y hr) (zero_times _ r.y hl)),
  cancel_zero d.y (cross r l) t (by_y d l r ∙ none _ _ (zero_times _ r.x hl) (zero_times _ l.x hr)),
)
  where
    none : (x y : ℤ) → x ≡ pos 0 → y ≡ pos 0 → x -ℤ y ≡ pos 0
    none x y e f = omega (arith, ints)

-- ---- three products not below 0 that sum to 0

-- if the first product is by a number above 0, its other factor is 0
first_none : (p k y z : ℤ) → p *ℤ k +ℤ (y +ℤ z) ≡ pos 0 → pos 0 <ℤ k → pos 0 ≤ℤ p → pos 0 ≤ℤ y → pos 0 ≤ℤ z → p ≡ pos 0
first_none p k y z e hk hp hy hz =
    cancel_zero p k hk (first_of_three _ y z e (product_nn p k hp (nn_above _ hk)) hy hz)

-- if the second product is by a number above 0, its other factor is 0
second_none : (x p k z : ℤ) → x +ℤ (p *ℤ k +ℤ z) ≡ pos 0 → pos 0 <ℤ k → pos 0 ≤ℤ x → pos 0 ≤ℤ p → pos 0 ≤ℤ z → p ≡ pos 0
second_none x p k z e hk hx hp hz =
    cancel_zero p k hk (second_of_three x _ z e hx (product_nn p k hp (nn_above _ hk)) hz)

-- if the third product is by a number above 0, its other factor is 0
third_none : (x y p k : ℤ) → x +ℤ (y +ℤ p *ℤ k) ≡ pos 0 → pos 0 <ℤ k → pos 0 ≤ℤ x → pos 0 ≤ℤ y → pos 0 ≤ℤ p → p ≡ pos 0
third_none x y p k e hk hx hy hp =
    cancel_zero p k hk (third_of_three x y _ e hx hy (product_nn p k hp (nn_above _ hk)))

-- ---- a vector and a wedge

-- a vector strictly left of the left one of a wedge is not right of its right one
left_of_wedge : (d x m s : Pair) → ¬ IsZero d → pos 0 ≤ℤ product d x → IsWedge d m s → pos 0 <ℤ cross m x
    → cross x s ≤ℤ pos 0
left_of_wedge d x m s n up f h = elim (le_or_lt (cross x s) (pos 0)) [
  | inl k ↦ k
  | inr k ↦
      let e = three d m x s in
      let p = product_nn _ _ f.left_up (nn_above _ k) in
      let q = product_nn _ _ up (nn_above _ f.bends) in
      let r = product_nn _ _ f.right_up (nn_above _ h) in
      absurd (not_level d m s n f.bends (first_none _ _ _ _ e k f.left_up q r) (third_none _ _ _ _ e h p q f.right_up))
]

-- a vector that does not go down is not left of a wedge's left one and right of its right one
not_outside : (d w l r : Pair) → ¬ IsZero d → IsWedge d l r → pos 0 ≤ℤ product d w → pos 0 <ℤ cross l w
    → cross r w <ℤ pos 0 → ⊥
not_outside d w l r n f up left right =
    let e = three d w r l in
    let k = above_opposite _ _ (cross_swap w r) right in
    let p = product_nn _ _ up (nn_above _ f.bends) in
    let q = product_nn _ _ f.right_up (nn_above _ left) in
    let s = product_nn _ _ f.left_up (nn_above _ k) in
    not_level d l r n f.bends (third_none _ _ _ _ e k p q f.left_up) (second_none _ _ _ _ e left p f.right_up s)

-- a vector that does not go down is not left of a vector left of a wedge's left one, and right of the wedge's right one
not_astride : (d w x m s : Pair) → ¬ IsZero d → pos 0 ≤ℤ product d x → IsWedge d m s → pos 0 ≤ℤ product d w
    → pos 0 ≤ℤ cross m x → pos 0 ≤ℤ cross s x → pos 0 <ℤ cross x w → cross s w <ℤ pos 0 → ⊥
not_astride d w x m s n ux f up hm hs left right =
    let e = three d w s x in
    let k = above_opposite _ _ (cross_swap w s) right in
    let p = product_nn _ _ up hs in
    let q = product_nn _ _ f.right_up (nn_above _ left) in
    let r = product_nn _ _ ux (nn_above _ k) in
    let s-none : product d s ≡ pos 0 = second_none _ _ _ _ e left p f.right_up r in
    let x-none : product d x ≡ pos 0 = third_none _ _ _ _ e k p q ux in
    let m-none : product d m ≡ pos 0 = third_none _ _ _ _ (three d x w m) left
    (nn_zero _ (zero_times _ _ x-none)) (product_nn _ _ up hm) f.left_up in
    not_level d m s n f.bends m-none s-none

-- the same from the other side: it is not right of a vector right of a wedge's right one, and left of its left one
not_astride_right : (d w x m s : Pair) → ¬ IsZero d → pos 0 ≤ℤ product d x → IsWedge d m s → pos 0 ≤ℤ product d w
    → pos 0 ≤ℤ cross x m → pos 0 ≤ℤ cross x s → cross x w <ℤ pos 0 → pos 0 <ℤ cross m w → ⊥
not_astride_right d w x m s n ux f up hm hs right left =
    let e = three d w x m in
    let k = above_opposite _ _ (cross_swap w x) right in
    let p = product_nn _ _ up hm in
    let q = product_nn _ _ ux (nn_above _ left) in
    let r = product_nn _ _ f.left_up (nn_above _ k) in
    let x-none : product d x ≡ pos 0 = second_none _ _ _ _ e left p ux r in
    let m-none : product d m ≡ pos 0 = third_none _ _ _ _ e k p q f.left_up in
    let s-none : product d s ≡ pos 0 = second_none _ _ _ _ (three d x s w) k (nn_zero _ (zero_times _ _ x-none)) f.right_up
    (product_nn _ _ up hs) in
    not_level d m s n f.bends m-none s-none

-- ---- an axis

-- the two of a wedge, and w, lie right of e, or on it
pub record IsLeftAxis (e left right w : Pair) : Type 0 where
  pub beside : cross e w ≤ℤ pos 0
  pub left_beside : cross e left ≤ℤ pos 0
  pub right_beside : cross e right ≤ℤ pos 0

-- the two of a wedge, and w, lie left of e, or on it
pub record IsRightAxis (e left right w : Pair) : Type 0 where
  pub beside : pos 0 ≤ℤ cross e w
  pub left_beside : pos 0 ≤ℤ cross e left
  pub right_beside : pos 0 ≤ℤ cross e right

-- of two pairs of vectors one of the four has the other pair and w on one side
abbrev pub HasAxis : Pair → Pair → Pair → Pair → Pair → Type 0
HasAxis l r m s w = (IsLeftAxis l m s w ⊎ IsRightAxis r m s w) ⊎ (IsLeftAxis m l r w ⊎ IsRightAxis s l r w)

-- exchanging the pairs keeps an axis
axis_swap : (l r m s w : Pair) → HasAxis m s l r w → HasAxis l r m s w
axis_swap l r m s w (inl h) = inr h
axis_swap l r m s w (inr h) = inl h

-- of two wedges, if the left one of the second is not strictly left of that of the first, the left one of the second is
-- no farther right than the right one of the first ..
wedge_left : (d l r m s : Pair) → ¬ IsZero d → IsWedge d l r → IsWedge d m s → pos 0 ≤ℤ cross m l → cross l s ≤ℤ pos 0
wedge_left d l r m s n e f h = elim (le_or_lt (cross l s) (pos 0)) [
  | inl k ↦ k
  | inr k ↦
      let a = three d s m l in
      let p = product_nn _ _ f.right_up h in
      let q = product_nn _ _ f.left_up (nn_above _ k) in
      let l-none : product d l ≡ pos 0 = third_none _ _ _ _ a f.bends p q e.left_up in
      let r-none : product d r ≡ pos 0 = third_none _ _ _ _ (three d l s r) k (nn_zero _ (zero_times _ _ l-none))
      (product_nn _ _ f.right_up (nn_above _ e.bends)) e.right_up in
      absurd (not_level d l r n e.bends l-none r-none)
]

-- .. and the same of the right ones
wedge_right : (d l r m s : Pair) → ¬ IsZero d → IsWedge d l r → IsWedge d m s → pos 0 ≤ℤ cross r s → cross m r ≤ℤ pos 0
wedge_right d l r m s n e f h = elim (le_or_lt (cross m r) (pos 0)) [
  | inl k ↦ k
  | inr k ↦
      let a = three d s m r in
      let p = product_nn _ _ f.right_up (nn_above _ k) in
      let q = product_nn _ _ f.left_up h in
      let r-none : product d r ≡ pos 0 = third_none _ _ _ _ a f.bends p q e.right_up in
      let l-none : product d l ≡ pos 0 = first_none _ _ _ _ (three d l m r) k e.left_up
      (product_nn _ _ f.left_up (nn_above _ e.bends)) (nn_zero _ (zero_times _ _ r-none)) in
      absurd (not_level d l r n e.bends l-none r-none)
]

-- two wedges have an axis if the first reaches no less far to the left
wedges_from_left : (d w l r m s : Pair) → ¬ IsZero d → IsWedge d l r → IsWedge d m s → pos 0 ≤ℤ product d w
    → pos 0 ≤ℤ cross m l → HasAxis l r m s w
wedges_from_left d w l r m s n e f up a =
    let k = wedge_left d l r m s n e f a in
    elim (le_or_lt (cross l w) (pos 0)) [
      | inl c ↦ inl (inl record { beside = c; left_beside = np_opposite _ _ (cross_swap l m) a; right_beside = k })
      | inr c ↦ elim (le_or_lt (pos 0) (cross r s)) [
        | inl b ↦ elim (le_or_lt (pos 0) (cross r w)) [
          | inl g ↦ inl (inr record {
            beside = g;
            left_beside = nn_opposite _ _ (cross_swap r m) (wedge_right d l r m s n e f b);
            right_beside = b;
          })
          | inr g ↦ absurd (not_outside d w l r n e up c g)
        ]
        | inr b ↦ elim (le_or_lt (pos 0) (cross s w)) [
          | inl g ↦ inr (inr record {
            beside = g;
            left_beside = nn_opposite _ _ (cross_swap s l) k;
            right_beside = nn_opposite _ _ (cross_swap s r) (np_below _ b);
          })
          | inr g ↦ absurd (not_astride d w l m s n e.left_up f up a (nn_opposite _ _ (cross_swap s l) k) c g)
        ]
      ]
    ]

-- of two wedges one has an axis
pub axis_of_wedges : (d w l r m s : Pair) → ¬ IsZero d → IsWedge d l r → IsWedge d m s → pos 0 ≤ℤ product d w
    → HasAxis l r m s w
axis_of_wedges d w l r m s n e f up = elim (le_or_lt (pos 0) (cross m l)) [
  | inl a ↦ wedges_from_left d w l r m s n e f up a
  | inr a ↦ axis_swap l r m s w
      (wedges_from_left d w m s l r n f e up (nn_opposite _ _ (cross_swap l m) (np_below _ a)))
]

-- a vector and a wedge have an axis
pub axis_of_vector : (d w x m s : Pair) → ¬ IsZero d → pos 0 ≤ℤ product d x → IsWedge d m s → pos 0 ≤ℤ product d w
    → HasAxis x x m s w
axis_of_vector d w x m s n ux f up = elim (le_or_lt (cross m x) (pos 0)) [
  | inr a ↦
      let k = left_of_wedge d x m s n ux f a in
      let h = nn_opposite _ _ (cross_swap s x) k in
      elim (le_or_lt (cross x w) (pos 0)) [
        | inl c ↦ inl (inl record { beside = c; left_beside = np_opposite _ _ (cross_swap x m) (nn_above _ a); right_beside = k })
        | inr c ↦ elim (le_or_lt (pos 0) (cross s w)) [
          | inl g ↦ inr (inr record { beside = g; left_beside = h; right_beside = h })
          | inr g ↦ absurd (not_astride d w x m s n ux f up (nn_above _ a) h c g)
        ]
      ]
  | inl a ↦ elim (le_or_lt (pos 0) (cross s x)) [
    | inl b ↦ elim (le_or_lt (cross m w) (pos 0)) [
      | inl c ↦ inr (inl record { beside = c; left_beside = a; right_beside = a })
      | inr c ↦ elim (le_or_lt (pos 0) (cross s w)) [
        | inl g ↦ inr (inr record { beside = g; left_beside = b; right_beside = b })
        | inr g ↦ absurd (not_outside d w m s n f up c g)
      ]
    ]
    | inr b ↦
        let h = nn_opposite _ _ (cross_swap x m) a in
        let k = nn_opposite _ _ (cross_swap x s) (np_below _ b) in
        elim (le_or_lt (pos 0) (cross x w)) [
          | inl g ↦ inl (inr record { beside = g; left_beside = h; right_beside = k })
          | inr g ↦ elim (le_or_lt (cross m w) (pos 0)) [
            | inl c ↦ inr (inl record { beside = c; left_beside = a; right_beside = a })
            | inr c ↦ absurd (not_astride_right d w x m s n ux f up h k g c)
          ]
        ]
  ]
]

-- a wedge and a vector have an axis
pub axis_of_wedge : (d w l r x : Pair) → ¬ IsZero d → IsWedge d l r → pos 0 ≤ℤ product d x → pos 0 ≤ℤ product d w
    → HasAxis l r x x w
axis_of_wedge d w l r x n e ux up = axis_swap l r x x w (axis_of_vector d w x l r n ux e up)

-- two vectors have an axis if the second is not left of the first
vectors_from_left : (d w x y : Pair) → ¬ IsZero d → pos 0 ≤ℤ product d x → pos 0 ≤ℤ product d y → pos 0 ≤ℤ product d w
    → cross x y ≤ℤ pos 0 → HasAxis x x y y w
vectors_from_left d w x y n ux uy up a = elim (le_or_lt (cross x w) (pos 0)) [
  | inl c ↦ inl (inl record { beside = c; left_beside = a; right_beside = a })
  | inr c ↦ elim (le_or_lt (pos 0) (cross x y)) [
    | inl b ↦ inl (inr record { beside = nn_above _ c; left_beside = b; right_beside = b })
    | inr b ↦ elim (le_or_lt (pos 0) (cross y w)) [
      | inl g ↦ let h = nn_opposite _ _ (cross_swap y x) a in
          inr (inr record { beside = g; left_beside = h; right_beside = h })
      | inr g ↦ absurd (not_outside d w x y n
          record { left_up = ux; right_up = uy; bends = above_opposite _ _ (cross_swap y x) b } up c g)
    ]
  ]
]

-- two vectors have an axis
pub axis_of_vectors : (d w x y : Pair) → ¬ IsZero d → pos 0 ≤ℤ product d x → pos 0 ≤ℤ product d y → pos 0 ≤ℤ product d w
    → HasAxis x x y y w
axis_of_vectors d w x y n ux uy up = elim (le_or_lt (cross x y) (pos 0)) [
  | inl a ↦ vectors_from_left d w x y n ux uy up a
  | inr a ↦ axis_swap x x y y w
      (vectors_from_left d w y x n uy ux up (np_opposite _ _ (cross_swap y x) (nn_above _ a)))
]
