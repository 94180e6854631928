-- Four vectors that do not go down, seen in a direction: the outermost on each side, and a vector that goes up.
use Rattle.std.proofs.Common.{◌≡◌, ℤ, pos, ◌+ℤ◌, ◌*ℤ◌, ◌≤ℤ◌, ◌<ℤ◌, ◌⊎◌, inl, inr, refl, ap, ◌∙◌, subst, arith}
use Rattle.std.proofs.lemmas.Int.{ints}
use Rattle.lattice.specs.Plane.{Pair, product}
use Rattle.lattice.specs.Polynomials.{difference-eq, as_difference, difference_rules}
use Rattle.lattice.specs.Signs.{le_or_lt, product_nn, product_pp, cancel_zero}
use Rattle.lattice.proofs.Vectors.{as_pair, cross, cross_swap}
use Rattle.lattice.proofs.Numbers.{nn_above, nn_opposite, nn_zero, np_below, zero_opposite}
use Rattle.lattice.proofs.Lines.{zero_times}

-- ---- numbers

-- of three numbers not below 0 that sum to 0, the first is 0
pub first_of_three : (x y z : ℤ) → x +ℤ (y +ℤ z) ≡ pos 0 → pos 0 ≤ℤ x → pos 0 ≤ℤ y → pos 0 ≤ℤ z → x ≡ pos 0
first_of_three x y z e hx hy hz = omega (arith, ints)

-- of three numbers not below 0 that sum to 0, the second is 0
pub second_of_three : (x y z : ℤ) → x +ℤ (y +ℤ z) ≡ pos 0 → pos 0 ≤ℤ x → pos 0 ≤ℤ y → pos 0 ≤ℤ z → y ≡ pos 0
second_of_three x y z e hx hy hz = omega (arith, ints)

-- of three numbers not below 0 that sum to 0, the third is 0
pub third_of_three : (x y z : ℤ) → x +ℤ (y +ℤ z) ≡ pos 0 → pos 0 ≤ℤ x → pos 0 ≤ℤ y → pos 0 ≤ℤ z → z ≡ pos 0
third_of_three x y z e hx hy hz = omega (arith, ints)

-- if three sums of products are 0, and only x can be below 0 or above it, x is not above 0
no_more : (p q r s t cf ce x y z a b : ℤ) → q *ℤ y +ℤ (p *ℤ x +ℤ r *ℤ cf) ≡ pos 0
    → r *ℤ z +ℤ (q *ℤ ce +ℤ s *ℤ x) ≡ pos 0 → t *ℤ cf +ℤ (q *ℤ b +ℤ p *ℤ a) ≡ pos 0
    → pos 0 ≤ℤ p → pos 0 ≤ℤ q → pos 0 ≤ℤ r → pos 0 ≤ℤ s → pos 0 <ℤ t → pos 0 <ℤ cf → pos 0 <ℤ ce → pos 0 ≤ℤ y
    → x ≤ℤ pos 0
no_more p q r s t cf ce x y z a b e f g hp hq hr hs ht hcf hce hy = elim (le_or_lt x (pos 0)) [
  | inl h ↦ h
  | inr h ↦
      let qy = product_nn q y hq hy in
      let px = product_nn p x hp (nn_above _ h) in
      let rc = product_nn r cf hr (nn_above _ hcf) in
      let p-zero : p ≡ pos 0 = cancel_zero p x h (second_of_three _ _ _ e qy px rc) in
      let r-zero : r ≡ pos 0 = cancel_zero r cf hcf (third_of_three _ _ _ e qy px rc) in
      let rest : q *ℤ ce ≡ pos 0 = second_of_three (r *ℤ z) (q *ℤ ce) (s *ℤ x) f (nn_zero _ (zero_times r z r-zero))
      (product_nn q ce hq (nn_above _ hce)) (product_nn s x hs (nn_above _ h)) in
      let q-zero : q ≡ pos 0 = cancel_zero q ce hce rest in
      absurd (omega (arith, ints, zero_times q b q-zero, zero_times p a p-zero, product_pp t cf ht hcf))
]

-- ---- vectors

-- the identity of three vectors, in a direction
pub three : (d a b c : Pair)
    → product d a *ℤ cross b c +ℤ (product d b *ℤ cross c a +ℤ product d c *ℤ cross a b) ≡ pos 0
unfolding product
three d a b c = rw (as_pair d, as_pair a, as_pair b, as_pair c, as_difference (pos 0))
    (simp difference_rules (difference-eq _ _ _ _ (omega arith)))

-- the same in another order
three_turned : (d a b c : Pair)
    → product d a *ℤ cross b c +ℤ (product d c *ℤ cross a b +ℤ product d b *ℤ cross c a) ≡ pos 0
three_turned d a b c = omega (arith, ints, three d a b c)

-- two vectors that do not go down in the direction d, the second to the right of the first
pub record IsWedge (d left right : Pair) : Type 0 where
  pub left_up : pos 0 ≤ℤ product d left
  pub right_up : pos 0 ≤ℤ product d right
  pub bends : pos 0 <ℤ cross right left

-- a vector of a wedge that is not right of the left one of another is not right of its right one either
left_of_both : (d w l r m s : Pair) → IsWedge d l r → IsWedge d m s → pos 0 <ℤ product d w → pos 0 ≤ℤ cross m l
    → cross l s ≤ℤ pos 0
left_of_both d w l r m s e f up h =
    no_more (product d m) (product d s) (product d l) (product d r) (product d w) (cross s m) (cross r l) (cross l s)
    (cross m l) (cross s r) (cross w s) (cross m w) (three d s m l) (three d l s r) (three d w s m) f.left_up
    f.right_up e.left_up e.right_up up f.bends e.bends h

-- the same on the other side
right_of_both : (d w l r m s : Pair) → IsWedge d l r → IsWedge d m s → pos 0 <ℤ product d w → pos 0 ≤ℤ cross r s
    → cross m r ≤ℤ pos 0
right_of_both d w l r m s e f up h =
    no_more (product d s) (product d m) (product d r) (product d l) (product d w) (cross s m) (cross r l) (cross m r)
    (cross r s) (cross l m) (cross m w) (cross w s) (three_turned d m r s) (three_turned d r l m)
    (three_turned d w s m) f.right_up f.left_up e.right_up e.left_up up f.bends e.bends h

-- a vector that goes up is right of the left one of two, or left of the right one
between_clash : (d w l r : Pair) → pos 0 ≤ℤ product d l → pos 0 ≤ℤ product d r → pos 0 <ℤ cross r l
    → pos 0 <ℤ product d w → pos 0 ≤ℤ cross l w → pos 0 ≤ℤ cross w r → ⊥
between_clash d w l r hl hr t up left right =
    omega (arith, ints, three d w r l, product_pp _ _ up t, product_nn _ _ hr left, product_nn _ _ hl right)

-- ---- the outermost of both wedges

-- if the left one of the first wedge and the right one of the second are the outermost and in line, the first wedge is
-- level
level_of : (d l r m s : Pair) → IsWedge d l r → IsWedge d m s → pos 0 ≤ℤ cross m l → cross l s ≡ pos 0
    → product d l ≡ pos 0
level_of d l r m s e f h flat =
    cancel_zero (product d l) (cross s m) f.bends
    (third_of_three _ _ _ (three d s m l) (product_nn _ _ f.right_up h) (nn_zero _ (times_nothing (product d m) _ flat))
    (product_nn _ _ e.left_up (nn_above _ f.bends)))
  where
    times_nothing : (k z : ℤ) → z ≡ pos 0 → k *ℤ z ≡ pos 0
    times_nothing k z e = ap (λ (x : ℤ). k *ℤ x) e ∙ omega (arith, ints)

-- g is the left one of two wedges that is farther left, h the right one that is farther right
pub record IsSpan (d l r m s g h : Pair) : Type 0 where
  pub left_one : ((g ≡ l) × (cross l m ≤ℤ pos 0) × (cross l s ≤ℤ pos 0))
      ⊎ ((g ≡ m) × (cross m l ≤ℤ pos 0) × (cross m r ≤ℤ pos 0))
  pub right_one : ((h ≡ r) × (pos 0 ≤ℤ cross r m) × (pos 0 ≤ℤ cross r s))
      ⊎ ((h ≡ s) × (pos 0 ≤ℤ cross s l) × (pos 0 ≤ℤ cross s r))
  pub left_up : pos 0 ≤ℤ product d g
  pub right_up : pos 0 ≤ℤ product d h
  pub bends : (pos 0 <ℤ cross h g) ⊎ (product d g ≡ pos 0)

-- of two wedges there are such two
pub span_of : (d w l r m s : Pair) → IsWedge d l r → IsWedge d m s → pos 0 <ℤ product d w
    → (g : Pair) × (h : Pair) × IsSpan d l r m s g h
span_of d w l r m s e f up = elim (le_or_lt (cross l m) (pos 0)) [
  | inl a ↦
      let k : cross l s ≤ℤ pos 0 = left_of_both d w l r m s e f up (nn_opposite _ _ (cross_swap m l) a) in
      elim (le_or_lt (pos 0) (cross r s)) [
        | inl b ↦ (
          l,
          r,
          record {
            left_one = inl (refl, a, k);
            right_one = inl (refl, nn_opposite _ _ (cross_swap r m) (right_of_both d w l r m s e f up b), b);
            left_up = e.left_up;
            right_up = e.right_up;
            bends = inl e.bends;
          },
        )
        | inr b ↦ (
          l,
          s,
          record {
            left_one = inl (refl, a, k);
            right_one =
                let j : pos 0 ≤ℤ cross s r = nn_opposite _ _ (cross_swap s r) (np_below _ b) in
                inr (refl, nn_opposite _ _ (cross_swap s l) (right_of_both d w m s l r f e up j), j);
            left_up = e.left_up;
            right_up = f.right_up;
            bends = returned (cross s l) (nn_opposite _ _ (cross_swap s l) k)
                (λ z. level_of d l r m s e f (nn_opposite _ _ (cross_swap m l) a)
                (zero_opposite _ _ (cross_swap l s) z));
          },
        )
      ]
  | inr a ↦
      let k : cross m r ≤ℤ pos 0 = left_of_both d w m s l r f e up (nn_above _ a) in
      let i : cross m l ≤ℤ pos 0 = omega (arith, ints, cross_swap m l) in
      elim (le_or_lt (pos 0) (cross r s)) [
        | inl b ↦ (
          m,
          r,
          record {
            left_one = inr (refl, i, k);
            right_one = inl (refl, nn_opposite _ _ (cross_swap r m) (right_of_both d w l r m s e f up b), b);
            left_up = f.left_up;
            right_up = e.right_up;
            bends = returned (cross r m) (nn_opposite _ _ (cross_swap r m) k)
                (λ z. level_of d m s l r f e (nn_above _ a) (zero_opposite _ _ (cross_swap m r) z));
          },
        )
        | inr b ↦ (
          m,
          s,
          record {
            left_one = inr (refl, i, k);
            right_one =
                let j : pos 0 ≤ℤ cross s r = nn_opposite _ _ (cross_swap s r) (np_below _ b) in
                inr (refl, nn_opposite _ _ (cross_swap s l) (right_of_both d w m s l r f e up j), j);
            left_up = f.left_up;
            right_up = f.right_up;
            bends = inl f.bends;
          },
        )
      ]
]
  where
    returned : {P : Type 0} (x : ℤ) → pos 0 ≤ℤ x → (x ≡ pos 0 → P) → (pos 0 <ℤ x) ⊎ P
    returned x h f = elim (le_or_lt x (pos 0)) [ inr k ↦ inl k | inl k ↦ inr (f (omega (arith, ints))) ]

-- ---- a vector that goes up

-- a vector that goes up is right of the left one of a wedge that is level
level_clash : (d w l r : Pair) → IsWedge d l r → product d l ≡ pos 0 → pos 0 <ℤ product d w → pos 0 ≤ℤ cross l w → ⊥
level_clash d w l r e level up left =
    clash _ _ _ (three d w r l) (product_pp _ _ up e.bends) (product_nn _ _ e.right_up left)
    (zero_times _ (cross w r) level)
  where
    clash : (x y z : ℤ) → x +ℤ (y +ℤ z) ≡ pos 0 → pos 0 <ℤ x → pos 0 ≤ℤ y → z ≡ pos 0 → ⊥
    clash x y z e h k l = omega (arith, ints)

-- a vector that goes up is right of the outermost on the left, or left of the outermost on the right
outside_of : (d w l r m s g h : Pair) → IsWedge d l r → IsWedge d m s → pos 0 <ℤ product d w
    → IsSpan d l r m s g h → (cross g w <ℤ pos 0) ⊎ (pos 0 <ℤ cross h w)
outside_of d w l r m s g h e f up n = elim (le_or_lt (pos 0) (cross g w)) [
  | inr a ↦ inl a
  | inl a ↦ elim (le_or_lt (cross h w) (pos 0)) [
    | inr b ↦ inr b
    | inl b ↦ absurd (elim n.bends [
      | inl t ↦ between_clash d w g h n.left_up n.right_up t up a (nn_opposite _ _ (cross_swap w h) b)
      | inr z ↦ elim n.left_one [
        | inl o ↦ level_clash d w l r e (subst (λ (v : Pair). product d v ≡ pos 0) o.0 z) up
            (subst (λ (v : Pair). pos 0 ≤ℤ cross v w) o.0 a)
        | inr o ↦ level_clash d w m s f (subst (λ (v : Pair). product d v ≡ pos 0) o.0 z) up
            (subst (λ (v : Pair). pos 0 ≤ℤ cross v w) o.0 a)
      ]
    ])
  ]
]

-- the two of a wedge lie right of e, or on it, and w lies right of it
pub record IsLeftAxis (e left right w : Pair) : Type 0 where
  pub beside : cross e w <ℤ pos 0
  pub left_beside : cross e left ≤ℤ pos 0
  pub right_beside : cross e right ≤ℤ pos 0

-- the two of a wedge lie left of e, or on it, and w lies left of it
pub record IsRightAxis (e left right w : Pair) : Type 0 where
  pub beside : pos 0 <ℤ cross e w
  pub left_beside : pos 0 ≤ℤ cross e left
  pub right_beside : pos 0 ≤ℤ cross e right

-- of two wedges and a vector that goes up, one of the four has the other wedge and the vector on one side
pub axis_of : (d w l r m s : Pair) → IsWedge d l r → IsWedge d m s → pos 0 <ℤ product d w
    → (IsLeftAxis l m s w ⊎ IsRightAxis r m s w) ⊎ (IsLeftAxis m l r w ⊎ IsRightAxis s l r w)
axis_of d w l r m s e f up =
    let (g, h, n) = span_of d w l r m s e f up in
    elim (outside_of d w l r m s g h e f up n) [
      | inl a ↦ elim n.left_one [
        | inl o ↦ inl (inl (record {
          beside = subst (λ (v : Pair). cross v w <ℤ pos 0) o.0 a;
          left_beside = o.1;
          right_beside = o.2;
        }))
        | inr o ↦ inr (inl (record {
          beside = subst (λ (v : Pair). cross v w <ℤ pos 0) o.0 a;
          left_beside = o.1;
          right_beside = o.2;
        }))
      ]
      | inr b ↦ elim n.right_one [
        | inl o ↦ inl (inr (record {
          beside = subst (λ (v : Pair). pos 0 <ℤ cross v w) o.0 b;
          left_beside = o.1;
          right_beside = o.2;
        }))
        | inr o ↦ inr (inr (record {
          beside = subst (λ (v : Pair). pos 0 <ℤ cross v w) o.0 b;
          left_beside = o.1;
          right_beside = o.2;
        }))
      ]
    ]
