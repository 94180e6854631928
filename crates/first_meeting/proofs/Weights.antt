-- Weighted sums: fewer weights suffice where more do.
use Rattle.std.proofs.Common.{◌≡◌, ℤ, pos, ◌+ℤ◌, ◌-ℤ◌, ◌*ℤ◌, ◌≤ℤ◌, ◌<ℤ◌, neg_ℤ, ◌⊎◌, inl, inr, refl, sym, ap, ◌∙◌, arith}
use Rattle.std.proofs.lemmas.Int.{ints}
use Rattle.lattice.specs.Polynomials.{difference-eq, difference-pos, as_difference, difference_rules}
use Rattle.lattice.specs.Signs.{le_or_lt, product_nn, product_np, product_pp, cancel_zero}
use Rattle.lattice.proofs.Numbers.{le_less}

-- ---- two of three

-- two weights, not below 0 and not both 0, by which c and d sum to 0, and g and h to no more than 0
pub record Two (c d g h : ℤ) : Type 0 where
  pub u : ℤ
  pub v : ℤ
  pub u_nn : pos 0 ≤ℤ u
  pub v_nn : pos 0 ≤ℤ v
  pub some : pos 0 <ℤ (u +ℤ v)
  pub level : u *ℤ c +ℤ v *ℤ d ≡ pos 0
  pub low : (u *ℤ g +ℤ v *ℤ h) ≤ℤ pos 0

-- three such weights
pub record Three (c d e g h i : ℤ) : Type 0 where
  pub u : ℤ
  pub v : ℤ
  pub w : ℤ
  pub u_nn : pos 0 ≤ℤ u
  pub v_nn : pos 0 ≤ℤ v
  pub w_nn : pos 0 ≤ℤ w
  pub some : pos 0 <ℤ (u +ℤ v +ℤ w)
  pub level : u *ℤ c +ℤ v *ℤ d +ℤ w *ℤ e ≡ pos 0
  pub low : (u *ℤ g +ℤ v *ℤ h +ℤ w *ℤ i) ≤ℤ pos 0

-- two of the three have such weights
abbrev pub TwoOf : ℤ → ℤ → ℤ → ℤ → ℤ → ℤ → Type 0
TwoOf c d e g h i = Two c d g h ⊎ (Two c e g i ⊎ Two d e h i)

-- a product with 0
none : (x : ℤ) → x *ℤ pos 0 ≡ pos 0
none x = omega (arith, ints)

none_left : (x : ℤ) → pos 0 *ℤ x ≡ pos 0
none_left x = omega (arith, ints)

-- two numbers of opposite signs
crossed : (c e g i : ℤ) → c ≤ℤ pos 0 → pos 0 <ℤ e → (e *ℤ g -ℤ c *ℤ i) ≤ℤ pos 0 → Two c e g i
crossed c e g i hc he h = record {
  u = e;
  v = neg_ℤ c;
  u_nn = omega (arith, ints);
  v_nn = omega (arith, ints);
  some = omega (arith, ints);
  level = opposite e c;
  low = omega (arith, ints, turned e g c i);
}
  where
    opposite : (e c : ℤ) → e *ℤ c +ℤ neg_ℤ c *ℤ e ≡ pos 0
    opposite e c = rw (as_difference e, as_difference c) (simp difference_rules (difference-pos _ _ 0 (omega arith)))

    turned : (e g c i : ℤ) → e *ℤ g +ℤ neg_ℤ c *ℤ i ≡ e *ℤ g -ℤ c *ℤ i
    turned e g c i = rw (as_difference e, as_difference g, as_difference c, as_difference i)
        (simp difference_rules (difference-eq _ _ _ _ (omega arith)))

-- the weighted sum of two crossings
crossings : (c d e g h i u v w : ℤ)
    → u *ℤ (e *ℤ g -ℤ c *ℤ i) +ℤ v *ℤ (e *ℤ h -ℤ d *ℤ i)
    ≡ e *ℤ (u *ℤ g +ℤ v *ℤ h +ℤ w *ℤ i) -ℤ i *ℤ (u *ℤ c +ℤ v *ℤ d +ℤ w *ℤ e)
crossings c d e g h i u v w =
    rw (
      as_difference c,
      as_difference d,
      as_difference e,
      as_difference g,
      as_difference h,
      as_difference i,
      as_difference u,
      as_difference v,
      as_difference w,
    ) (simp difference_rules (difference-eq _ _ _ _ (omega arith)))

-- weights whose products with numbers above 0 sum to no more than 0 are 0
both_none : (u v x y : ℤ) → pos 0 ≤ℤ u → pos 0 ≤ℤ v → pos 0 <ℤ x → pos 0 <ℤ y → (u *ℤ x +ℤ v *ℤ y) ≤ℤ pos 0
    → (u ≡ pos 0) × (v ≡ pos 0)
both_none u v x y hu hv hx hy h =
    let m = product_nn u x hu (omega (arith, ints)) in
    let n = product_nn v y hv (omega (arith, ints)) in
    (cancel_zero u x hx (omega (arith, ints)), cancel_zero v y hy (omega (arith, ints)))

-- if c and d are not above 0 and e is above it, one of them and e suffice
across : (c d e g h i : ℤ) → c ≤ℤ pos 0 → d ≤ℤ pos 0 → pos 0 <ℤ e → Three c d e g h i → TwoOf c d e g h i
across c d e g h i hc hd he t = elim (le_or_lt (e *ℤ g -ℤ c *ℤ i) (pos 0)) [
  | inl k ↦ inr (inl (crossed c e g i hc he k))
  | inr k ↦ elim (le_or_lt (e *ℤ h -ℤ d *ℤ i) (pos 0)) [
    | inl l ↦ inr (inr (crossed d e h i hd he l))
    | inr l ↦ absurd (clash k l)
  ]
]
  where
    sums : (e i m n : ℤ) → pos 0 <ℤ e → m ≤ℤ pos 0 → n ≡ pos 0 → (e *ℤ m -ℤ i *ℤ n) ≤ℤ pos 0
    sums e i m n he hm hn =
        let k : i *ℤ n ≡ pos 0 = ap (λ (z : ℤ). i *ℤ z) hn ∙ none i in
        let l = product_np m e hm (omega (arith, ints)) in
        let s : e *ℤ m ≡ m *ℤ e = swapped e m in omega (arith, ints)
      where
        swapped : (e m : ℤ) → e *ℤ m ≡ m *ℤ e
        swapped e m = rw (as_difference e, as_difference m) (simp difference_rules (difference-eq _ _ _ _ (omega arith)))

    last : (u v w : ℤ) → u ≡ pos 0 → v ≡ pos 0 → u *ℤ c +ℤ v *ℤ d +ℤ w *ℤ e ≡ pos 0 → w *ℤ e ≡ pos 0
    last u v w hu hv h =
        let k : u *ℤ c ≡ pos 0 = ap (λ (z : ℤ). z *ℤ c) hu ∙ none_left c in
        let l : v *ℤ d ≡ pos 0 = ap (λ (z : ℤ). z *ℤ d) hv ∙ none_left d in omega (arith, ints)

    clash : pos 0 <ℤ (e *ℤ g -ℤ c *ℤ i) → pos 0 <ℤ (e *ℤ h -ℤ d *ℤ i) → ⊥
    clash k l =
        let s = sums e i _ _ he t.low t.level in
        let z = both_none t.u t.v _ _ t.u_nn t.v_nn k l (rw (crossings c d e g h i t.u t.v t.w) s) in
        let o = cancel_zero t.w e he (last t.u t.v t.w z.0 z.1 t.level) in
        let m = t.some in omega (arith, ints, z.0, z.1, o, m)

-- a weight of a number below 0 is 0 if all are not above 0
first_none : (c d e u v w : ℤ) → c <ℤ pos 0 → d ≤ℤ pos 0 → e ≤ℤ pos 0 → pos 0 ≤ℤ u → pos 0 ≤ℤ v → pos 0 ≤ℤ w
    → u *ℤ c +ℤ v *ℤ d +ℤ w *ℤ e ≡ pos 0 → u ≡ pos 0
first_none c d e u v w hc hd he hu hv hw h =
    let k = product_np d v hd hv in
    let l = product_np e w he hw in
    let m = product_nn u (neg_ℤ c) hu (omega (arith, ints)) in
    cancel_zero u (neg_ℤ c) (omega (arith, ints)) (omega (arith, ints, swapped v d, swapped w e, turned u c))
  where
    swapped : (x y : ℤ) → x *ℤ y ≡ y *ℤ x
    swapped x y = rw (as_difference x, as_difference y) (simp difference_rules (difference-eq _ _ _ _ (omega arith)))

    turned : (x y : ℤ) → x *ℤ neg_ℤ y ≡ neg_ℤ (x *ℤ y)
    turned x y = rw (as_difference x, as_difference y) (simp difference_rules (difference-eq _ _ _ _ (omega arith)))

-- the smallest of three numbers, whose weighted sum is not above 0, is not above 0
least_low : (g h i u v w : ℤ) → pos 0 ≤ℤ u → pos 0 ≤ℤ v → pos 0 ≤ℤ w → pos 0 <ℤ (u +ℤ v +ℤ w) → pos 0 <ℤ g
    → pos 0 <ℤ h → pos 0 <ℤ i → (u *ℤ g +ℤ v *ℤ h +ℤ w *ℤ i) ≤ℤ pos 0 → ⊥
least_low g h i u v w hu hv hw some hg hh hi low =
    let m = product_nn w i hw (omega (arith, ints)) in
    let k = product_nn v h hv (omega (arith, ints)) in
    let l = product_nn u g hu (omega (arith, ints)) in
    let a : u ≡ pos 0 = cancel_zero u g hg (omega (arith, ints)) in
    let b : v ≡ pos 0 = cancel_zero v h hh (omega (arith, ints)) in
    let c : w ≡ pos 0 = cancel_zero w i hi (omega (arith, ints)) in omega (arith, ints)

-- one weight of a number that is 0
alone : (c d g h : ℤ) → c ≡ pos 0 → g ≤ℤ pos 0 → Two c d g h
alone c d g h e l = record {
  u = pos 1;
  v = pos 0;
  u_nn = omega (arith, ints);
  v_nn = omega (arith, ints);
  some = omega (arith, ints);
  level = omega (arith, ints, e);
  low = omega (arith, ints);
}

-- either of two may come first
pub two_turned : (c d g h : ℤ) → Two c d g h → Two d c h g
two_turned c d g h t = let e = t.level in let l = t.low in let s = t.some in record {
  u = t.v;
  v = t.u;
  u_nn = t.v_nn;
  v_nn = t.u_nn;
  some = omega (arith, ints);
  level = omega (arith, ints);
  low = omega (arith, ints);
}

-- a first weight that is 0 is left out
without_first : (c d e g h i : ℤ) (t : Three c d e g h i) → t.u ≡ pos 0 → Two d e h i
without_first c d e g h i t z = record {
  u = t.v;
  v = t.w;
  u_nn = t.v_nn;
  v_nn = t.w_nn;
  some = rest t.u t.v t.w z t.some;
  level = rest_level t.u c (t.v *ℤ d) (t.w *ℤ e) z t.level;
  low = rest_low t.u g (t.v *ℤ h) (t.w *ℤ i) z t.low;
}
  where
    rest : (u v w : ℤ) → u ≡ pos 0 → pos 0 <ℤ (u +ℤ v +ℤ w) → pos 0 <ℤ (v +ℤ w)
    rest u v w z h = omega (arith, ints)

    gone : (u c : ℤ) → u ≡ pos 0 → u *ℤ c ≡ pos 0
    gone u c z = ap (λ (y : ℤ). y *ℤ c) z ∙ none_left c

    rest_level : (u c x y : ℤ) → u ≡ pos 0 → u *ℤ c +ℤ x +ℤ y ≡ pos 0 → x +ℤ y ≡ pos 0
    rest_level u c x y z h = let k = gone u c z in omega (arith, ints)

    rest_low : (u c x y : ℤ) → u ≡ pos 0 → (u *ℤ c +ℤ x +ℤ y) ≤ℤ pos 0 → (x +ℤ y) ≤ℤ pos 0
    rest_low u c x y z h = let k = gone u c z in omega (arith, ints)

-- the first goes behind the others, once or twice
three_turned : (c d e g h i : ℤ) → Three c d e g h i → Three d e c h i g
three_turned c d e g h i t = let l = t.level in let k = t.low in let s = t.some in record {
  u = t.v;
  v = t.w;
  w = t.u;
  u_nn = t.v_nn;
  v_nn = t.w_nn;
  w_nn = t.u_nn;
  some = omega (arith, ints);
  level = omega (arith, ints);
  low = omega (arith, ints);
}

-- the result for the numbers in that order
of_turned : (c d e g h i : ℤ) → TwoOf d e c h i g → TwoOf c d e g h i
of_turned c d e g h i (inl t) = inr (inr t)
of_turned c d e g h i (inr (inl t)) = inl (two_turned d c h g t)
of_turned c d e g h i (inr (inr t)) = inr (inl (two_turned e c i g t))

-- if none of the three is above 0, two suffice
none_above : (c d e g h i : ℤ) → c ≤ℤ pos 0 → d ≤ℤ pos 0 → e ≤ℤ pos 0 → Three c d e g h i → TwoOf c d e g h i
none_above c d e g h i hc hd he t = elim (le_or_lt (pos 0) c) [
  | inr k ↦ inr (inr (without_first c d e g h i t (first_none c d e t.u t.v t.w k hd he t.u_nn t.v_nn t.w_nn t.level)))
  | inl kc ↦ elim (le_or_lt (pos 0) d) [
    | inr k ↦ let s = three_turned c d e g h i t in
        of_turned c d e g h i (inr (inr (without_first d e c h i g s (first_none d e c s.u s.v s.w k he hc s.u_nn s.v_nn s.w_nn s.level))))
    | inl kd ↦ elim (le_or_lt (pos 0) e) [
      | inr k ↦ let s = three_turned d e c h i g (three_turned c d e g h i t) in
          of_turned c d e g h i (of_turned d e c h i g (inr (inr (without_first e c d i g h s (first_none e c d s.u s.v s.w k hc hd s.u_nn s.v_nn s.w_nn s.level)))))
      | inl ke ↦ elim (le_or_lt g (pos 0)) [
        | inl l ↦ inl (alone c d g h (omega (arith, ints)) l)
        | inr lg ↦ elim (le_or_lt h (pos 0)) [
          | inl l ↦ inr (inr (alone d e h i (omega (arith, ints)) l))
          | inr lh ↦ elim (le_or_lt i (pos 0)) [
            | inl l ↦ inr (inl (two_turned e c i g (alone e c i g (omega (arith, ints)) l)))
            | inr li ↦ absurd (least_low g h i t.u t.v t.w t.u_nn t.v_nn t.w_nn t.some lg lh li t.low)
          ]
        ]
      ]
    ]
  ]
]

-- if two of the three are not above 0, two suffice
same_side : (c d e g h i : ℤ) → c ≤ℤ pos 0 → d ≤ℤ pos 0 → Three c d e g h i → TwoOf c d e g h i
same_side c d e g h i hc hd t = elim (le_or_lt e (pos 0)) [
  | inl he ↦ none_above c d e g h i hc hd he t
  | inr he ↦ across c d e g h i hc hd he t
]

-- the opposite of a weighted sum that is 0 is 0
two_opposite : (c d g h : ℤ) → Two (neg_ℤ c) (neg_ℤ d) g h → Two c d g h
two_opposite c d g h t = record {
  u = t.u;
  v = t.v;
  u_nn = t.u_nn;
  v_nn = t.v_nn;
  some = t.some;
  level = let e = t.level in omega (arith, ints, turned t.u t.v c d);
  low = t.low;
}
  where
    turned : (u v c d : ℤ) → u *ℤ neg_ℤ c +ℤ v *ℤ neg_ℤ d ≡ neg_ℤ (u *ℤ c +ℤ v *ℤ d)
    turned u v c d = rw (as_difference u, as_difference v, as_difference c, as_difference d)
        (simp difference_rules (difference-eq _ _ _ _ (omega arith)))

three_opposite : (c d e g h i : ℤ) → Three c d e g h i → Three (neg_ℤ c) (neg_ℤ d) (neg_ℤ e) g h i
three_opposite c d e g h i t = record {
  u = t.u;
  v = t.v;
  w = t.w;
  u_nn = t.u_nn;
  v_nn = t.v_nn;
  w_nn = t.w_nn;
  some = t.some;
  level = let l = t.level in omega (arith, ints, turned t.u t.v t.w c d e);
  low = t.low;
}
  where
    turned : (u v w c d e : ℤ)
        → u *ℤ neg_ℤ c +ℤ v *ℤ neg_ℤ d +ℤ w *ℤ neg_ℤ e ≡ neg_ℤ (u *ℤ c +ℤ v *ℤ d +ℤ w *ℤ e)
    turned u v w c d e =
        rw (as_difference u, as_difference v, as_difference w, as_difference c, as_difference d, as_difference e)
        (simp difference_rules (difference-eq _ _ _ _ (omega arith)))

-- the same if two of the three are above 0
same_above : (c d e g h i : ℤ) → pos 0 <ℤ c → pos 0 <ℤ d → Three c d e g h i → TwoOf c d e g h i
same_above c d e g h i hc hd t = back (same_side (neg_ℤ c) (neg_ℤ d) (neg_ℤ e) g h i (omega (arith, ints)) (omega (arith, ints)) (three_opposite c d e g h i t))
  where
    back : TwoOf (neg_ℤ c) (neg_ℤ d) (neg_ℤ e) g h i → TwoOf c d e g h i
    back (inl s) = inl (two_opposite c d g h s)
    back (inr (inl s)) = inr (inl (two_opposite c e g i s))
    back (inr (inr s)) = inr (inr (two_opposite d e h i s))

-- two of three weights suffice
pub two_of_three : (c d e g h i : ℤ) → Three c d e g h i → TwoOf c d e g h i
two_of_three c d e g h i t = elim (le_or_lt c (pos 0)) [
  | inl hc ↦ elim (le_or_lt d (pos 0)) [
    | inl hd ↦ same_side c d e g h i hc hd t
    | inr hd ↦ elim (le_or_lt e (pos 0)) [
      | inl he ↦ of_turned c d e g h i (of_turned d e c h i g (same_side e c d i g h he hc twice))
      | inr he ↦ of_turned c d e g h i (same_above d e c h i g hd he once)
    ]
  ]
  | inr hc ↦ elim (le_or_lt d (pos 0)) [
    | inr hd ↦ same_above c d e g h i hc hd t
    | inl hd ↦ elim (le_or_lt e (pos 0)) [
      | inl he ↦ of_turned c d e g h i (same_side d e c h i g hd he once)
      | inr he ↦ of_turned c d e g h i (of_turned d e c h i g (same_above e c d i g h he hc twice))
    ]
  ]
]
  where
    once : Three d e c h i g
    once = three_turned c d e g h i t

    twice : Three e c d i g h
    twice = three_turned d e c h i g once

-- ---- one of two against two

-- c lies between d and e, by weights not below 0 and not both 0, by which g is no more than the opposite of h and i
pub record One (c d e g h i : ℤ) : Type 0 where
  pub u : ℤ
  pub v : ℤ
  pub u_nn : pos 0 ≤ℤ u
  pub v_nn : pos 0 ≤ℤ v
  pub some : pos 0 <ℤ (u +ℤ v)
  pub level : (u +ℤ v) *ℤ c ≡ u *ℤ d +ℤ v *ℤ e
  pub low : ((u +ℤ v) *ℤ g +ℤ (u *ℤ h +ℤ v *ℤ i)) ≤ℤ pos 0

-- two weights of c and d, and two of e and f, with the same sum and the same weighted sum
pub record Four (c d e f g h i j : ℤ) : Type 0 where
  pub x : ℤ
  pub y : ℤ
  pub u : ℤ
  pub v : ℤ
  pub x_nn : pos 0 ≤ℤ x
  pub y_nn : pos 0 ≤ℤ y
  pub u_nn : pos 0 ≤ℤ u
  pub v_nn : pos 0 ≤ℤ v
  pub same : x +ℤ y ≡ u +ℤ v
  pub some : pos 0 <ℤ (x +ℤ y)
  pub level : x *ℤ c +ℤ y *ℤ d ≡ u *ℤ e +ℤ v *ℤ f
  pub low : ((x *ℤ g +ℤ y *ℤ h) +ℤ (u *ℤ i +ℤ v *ℤ j)) ≤ℤ pos 0

-- one of two suffices against the other two
abbrev pub OneOf : ℤ → ℤ → ℤ → ℤ → ℤ → ℤ → ℤ → ℤ → Type 0
OneOf c d e f g h i j = (One c e f g i j ⊎ One d e f h i j) ⊎ (One e c d i g h ⊎ One f c d j g h)

-- of two weights that are changed until one is 0, the first comes to 0: k and r are how fast these change
first_gone : (c d e f g h i j k r : ℤ) → pos 0 ≤ℤ k → pos 0 ≤ℤ r → pos 0 <ℤ (k +ℤ r)
    → k *ℤ (d -ℤ c) ≡ r *ℤ (f -ℤ e) → (k *ℤ (h -ℤ g) +ℤ r *ℤ (j -ℤ i)) ≤ℤ pos 0
    → (t : Four c d e f g h i j) → (t.x *ℤ r) ≤ℤ (t.u *ℤ k) → One d e f h i j
first_gone c d e f g h i j k r hk hr some balance rate t first = elim (le_or_lt k (pos 0)) [
  | inl z ↦ at_once (omega (arith, ints))
  | inr p ↦ record {
    u = k *ℤ t.u -ℤ r *ℤ t.x;
    v = k *ℤ t.v +ℤ r *ℤ t.x;
    u_nn = omega (arith, ints, swapped t.x r, swapped t.u k);
    v_nn = let a = product_nn k t.v hk t.v_nn in let b = product_nn r t.x hr t.x_nn in omega (arith, ints);
    some = rw (sum k r t.u t.v t.x, ← t.same) (product_pp k _ p t.some);
    level = rw (sum k r t.u t.v t.x, ← t.same) (levels t.x t.y t.u t.v t.level);
    low = rw (sum k r t.u t.v t.x, ← t.same) (lows t.x t.y t.u t.v t.x_nn t.low p);
  }
]
  where
    swapped : (x y : ℤ) → x *ℤ y ≡ y *ℤ x
    swapped x y = rw (as_difference x, as_difference y) (simp difference_rules (difference-eq _ _ _ _ (omega arith)))

    sum : (k r u v x : ℤ) → (k *ℤ u -ℤ r *ℤ x) +ℤ (k *ℤ v +ℤ r *ℤ x) ≡ k *ℤ (u +ℤ v)
    sum k r u v x =
        rw (as_difference k, as_difference r, as_difference u, as_difference v, as_difference x)
        (simp difference_rules (difference-eq _ _ _ _ (omega arith)))

    -- the new weighted sum, by the old one
    spread : (k r x u v e f : ℤ)
        → (k *ℤ u -ℤ r *ℤ x) *ℤ e +ℤ (k *ℤ v +ℤ r *ℤ x) *ℤ f ≡ k *ℤ (u *ℤ e +ℤ v *ℤ f) +ℤ x *ℤ (r *ℤ (f -ℤ e))
    spread k r x u v e f =
        rw (
          as_difference k,
          as_difference r,
          as_difference x,
          as_difference u,
          as_difference v,
          as_difference e,
          as_difference f,
        ) (simp difference_rules (difference-eq _ _ _ _ (omega arith)))

    -- the other side, by the old one
    spread_first : (k x y c d : ℤ) → (k *ℤ (x +ℤ y)) *ℤ d ≡ k *ℤ (x *ℤ c +ℤ y *ℤ d) +ℤ x *ℤ (k *ℤ (d -ℤ c))
    spread_first k x y c d =
        rw (as_difference k, as_difference x, as_difference y, as_difference c, as_difference d)
        (simp difference_rules (difference-eq _ _ _ _ (omega arith)))

    levels : (x y u v : ℤ) → x *ℤ c +ℤ y *ℤ d ≡ u *ℤ e +ℤ v *ℤ f
        → (k *ℤ (x +ℤ y)) *ℤ d ≡ (k *ℤ u -ℤ r *ℤ x) *ℤ e +ℤ (k *ℤ v +ℤ r *ℤ x) *ℤ f
    levels x y u v l = rw (spread k r x u v e f, spread_first k x y c d, l, balance) refl

    sums : (k x a b m n : ℤ) → pos 0 ≤ℤ k → pos 0 ≤ℤ x → (a +ℤ b) ≤ℤ pos 0 → (m +ℤ n) ≤ℤ pos 0
        → ((k *ℤ a +ℤ x *ℤ m) +ℤ (k *ℤ b +ℤ x *ℤ n)) ≤ℤ pos 0
    sums k x a b m n hk hx ab mn =
        let s = product_np (a +ℤ b) k ab hk in let t = product_np (m +ℤ n) x mn hx in
        omega (arith, ints, joined k x a b m n)
      where
        joined : (k x a b m n : ℤ)
            → (k *ℤ a +ℤ x *ℤ m) +ℤ (k *ℤ b +ℤ x *ℤ n) ≡ (a +ℤ b) *ℤ k +ℤ (m +ℤ n) *ℤ x
        joined k x a b m n =
            rw (as_difference k, as_difference x, as_difference a, as_difference b, as_difference m, as_difference n)
            (simp difference_rules (difference-eq _ _ _ _ (omega arith)))

    -- the sum of both, by the old ones
    lows : (x y u v : ℤ) → pos 0 ≤ℤ x → ((x *ℤ g +ℤ y *ℤ h) +ℤ (u *ℤ i +ℤ v *ℤ j)) ≤ℤ pos 0 → pos 0 <ℤ k
        → ((k *ℤ (x +ℤ y)) *ℤ h +ℤ ((k *ℤ u -ℤ r *ℤ x) *ℤ i +ℤ (k *ℤ v +ℤ r *ℤ x) *ℤ j)) ≤ℤ pos 0
    lows x y u v hx l p =
        rw (spread k r x u v i j, spread_first k x y g h)
        (sums k x (x *ℤ g +ℤ y *ℤ h) (u *ℤ i +ℤ v *ℤ j) (k *ℤ (h -ℤ g)) (r *ℤ (j -ℤ i)) hk hx l rate)

    -- if the other weights do not change, the first is 0
    at_once : k ≡ pos 0 → One d e f h i j
    at_once z = let gone : t.x ≡ pos 0 = cancel_zero t.x r (omega (arith, ints)) (nothing t.x t.u z t.x_nn first) in
        record {
          u = t.u;
          v = t.v;
          u_nn = t.u_nn;
          v_nn = t.v_nn;
          some = let s = t.some in let q = t.same in omega (arith, ints);
          level = rw (← t.same) (without_level t.x t.y c d _ gone t.level);
          low = rw (← t.same) (without_low t.x t.y g h _ gone t.low);
        }
      where
        nothing : (x u : ℤ) → k ≡ pos 0 → pos 0 ≤ℤ x → (x *ℤ r) ≤ℤ (u *ℤ k) → x *ℤ r ≡ pos 0
        nothing x u z hx l = let a = product_nn x r hx hr in
            let b : u *ℤ k ≡ pos 0 = ap (λ (m : ℤ). u *ℤ m) z ∙ none u in omega (arith, ints)

        only : (x y c d : ℤ) → x ≡ pos 0 → (x +ℤ y) *ℤ d ≡ x *ℤ c +ℤ y *ℤ d
        only x y c d z = rw z (omega (arith, ints, none_left c, zero_more y d))
          where
            zero_more : (y d : ℤ) → (pos 0 +ℤ y) *ℤ d ≡ y *ℤ d
            zero_more y d = ap (λ (m : ℤ). m *ℤ d) (omega (arith, ints))

        without_level : (x y c d s : ℤ) → x ≡ pos 0 → x *ℤ c +ℤ y *ℤ d ≡ s → (x +ℤ y) *ℤ d ≡ s
        without_level x y c d s z l = only x y c d z ∙ l

        without_low : (x y g h s : ℤ) → x ≡ pos 0 → ((x *ℤ g +ℤ y *ℤ h) +ℤ s) ≤ℤ pos 0 → ((x +ℤ y) *ℤ h +ℤ s) ≤ℤ pos 0
        without_low x y g h s z l = rw (only x y g h z) l

-- the two and the other two change places
abbrev four_exchanged : (c d e f g h i j : ℤ) → Four c d e f g h i j → Four e f c d i j g h
four_exchanged c d e f g h i j t = record {
  x = t.u;
  y = t.v;
  u = t.x;
  v = t.y;
  x_nn = t.u_nn;
  y_nn = t.v_nn;
  u_nn = t.x_nn;
  v_nn = t.y_nn;
  same = sym t.same;
  some = let s = t.some in let e = t.same in omega (arith, ints);
  level = sym t.level;
  low = let l = t.low in omega (arith, ints);
}

-- the first two change places
four_turned : (c d e f g h i j : ℤ) → Four c d e f g h i j → Four d c e f h g i j
four_turned c d e f g h i j t = let s = t.some in let e = t.same in let l = t.low in let m = t.level in record {
  x = t.y;
  y = t.x;
  u = t.u;
  v = t.v;
  x_nn = t.y_nn;
  y_nn = t.x_nn;
  u_nn = t.u_nn;
  v_nn = t.v_nn;
  same = omega (arith, ints);
  some = omega (arith, ints);
  level = omega (arith, ints);
  low = omega (arith, ints);
}

-- the two that it lies between change places
one_turned : (c d e g h i : ℤ) → One c d e g h i → One c e d g i h
one_turned c d e g h i t = let s = t.some in record {
  u = t.v;
  v = t.u;
  u_nn = t.v_nn;
  v_nn = t.u_nn;
  some = omega (arith, ints);
  level = rw (order t.v t.u) (let l = t.level in omega (arith, ints));
  low = rw (order t.v t.u) (let l = t.low in omega (arith, ints));
}
  where
    order : (u v : ℤ) → u +ℤ v ≡ v +ℤ u
    order u v = omega (arith, ints)

-- results in another order
exchanged : (c d e f g h i j : ℤ) → OneOf e f c d i j g h → OneOf c d e f g h i j
exchanged c d e f g h i j (inl t) = inr t
exchanged c d e f g h i j (inr t) = inl t

turned : (c d e f g h i j : ℤ) → OneOf d c e f h g i j → OneOf c d e f g h i j
turned c d e f g h i j (inl (inl t)) = inl (inr t)
turned c d e f g h i j (inl (inr t)) = inl (inl t)
turned c d e f g h i j (inr (inl t)) = inr (inl (one_turned e d c i h g t))
turned c d e f g h i j (inr (inr t)) = inr (inr (one_turned f d c j h g t))

-- whichever of the first and the third comes to 0 sooner
one_gone : (c d e f g h i j k r : ℤ) → pos 0 ≤ℤ k → pos 0 ≤ℤ r → pos 0 <ℤ (k +ℤ r)
    → k *ℤ (d -ℤ c) ≡ r *ℤ (f -ℤ e) → (k *ℤ (h -ℤ g) +ℤ r *ℤ (j -ℤ i)) ≤ℤ pos 0
    → Four c d e f g h i j → OneOf c d e f g h i j
one_gone c d e f g h i j k r hk hr some balance rate t = elim (le_or_lt (t.x *ℤ r) (t.u *ℤ k)) [
  | inl l ↦ inl (inr (first_gone c d e f g h i j k r hk hr some balance rate t l))
  | inr l ↦ inr (inr (first_gone e f c d i j g h r k hr hk (omega (arith, ints)) (sym balance) (omega (arith, ints))
      (four_exchanged c d e f g h i j t) (le_less _ _ l)))
]

-- the weights change in the direction in which the sum does not grow
one_way : (c d e f g h i j k r : ℤ) → pos 0 ≤ℤ k → pos 0 ≤ℤ r → pos 0 <ℤ (k +ℤ r)
    → k *ℤ (d -ℤ c) ≡ r *ℤ (f -ℤ e) → Four c d e f g h i j → OneOf c d e f g h i j
one_way c d e f g h i j k r hk hr some balance t = elim (le_or_lt (k *ℤ (h -ℤ g) +ℤ r *ℤ (j -ℤ i)) (pos 0)) [
  | inl l ↦ one_gone c d e f g h i j k r hk hr some balance l t
  | inr l ↦ turned c d e f g h i j (exchanged d c e f h g i j (turned e f d c i j h g (exchanged f e d c j i h g
      (one_gone d c f e h g j i k r hk hr some (other k r c d e f balance) (below k r g h i j l) back))))
]
  where
    opposite : (k x y : ℤ) → k *ℤ (x -ℤ y) ≡ neg_ℤ (k *ℤ (y -ℤ x))
    opposite k x y = rw (as_difference k, as_difference x, as_difference y)
        (simp difference_rules (difference-eq _ _ _ _ (omega arith)))

    other : (k r c d e f : ℤ) → k *ℤ (d -ℤ c) ≡ r *ℤ (f -ℤ e) → k *ℤ (c -ℤ d) ≡ r *ℤ (e -ℤ f)
    other k r c d e f b = omega (arith, ints, b, opposite k c d, opposite r e f)

    below : (k r g h i j : ℤ) → pos 0 <ℤ (k *ℤ (h -ℤ g) +ℤ r *ℤ (j -ℤ i))
        → (k *ℤ (g -ℤ h) +ℤ r *ℤ (i -ℤ j)) ≤ℤ pos 0
    below k r g h i j l = omega (arith, ints, opposite k g h, opposite r i j)

    back : Four d c f e h g j i
    back = four_exchanged f e d c j i h g (four_turned e f d c i j h g (four_exchanged d c e f h g i j (four_turned c d e f g h i j t)))

-- the same of pairs in order
in_order : (c d e f g h i j : ℤ) → c ≤ℤ d → e ≤ℤ f → Four c d e f g h i j → OneOf c d e f g h i j
in_order c d e f g h i j cd ef t = elim (le_or_lt d c) [
  | inl l ↦ one_way c d e f g h i j (pos 1) (pos 0) (omega (arith, ints)) (omega (arith, ints)) (omega (arith, ints)) (level c d e f (omega (arith, ints))) t
  | inr l ↦ one_way c d e f g h i j (f -ℤ e) (d -ℤ c) (omega (arith, ints)) (omega (arith, ints)) (omega (arith, ints)) (swapped (f -ℤ e) (d -ℤ c)) t
]
  where
    swapped : (x y : ℤ) → x *ℤ y ≡ y *ℤ x
    swapped x y = rw (as_difference x, as_difference y) (simp difference_rules (difference-eq _ _ _ _ (omega arith)))

    level : (c d e f : ℤ) → c ≡ d → pos 1 *ℤ (d -ℤ c) ≡ pos 0 *ℤ (f -ℤ e)
    level c d e f z = omega (arith, ints)

-- one of two suffices against the other two
pub one_of_four : (c d e f g h i j : ℤ) → Four c d e f g h i j → OneOf c d e f g h i j
one_of_four c d e f g h i j t = elim (le_or_lt c d) [
  | inl l ↦ second c d g h l t
  | inr l ↦ turned c d e f g h i j (second d c h g (omega (arith, ints)) (four_turned c d e f g h i j t))
]
  where
    second : (c d g h : ℤ) → c ≤ℤ d → Four c d e f g h i j → OneOf c d e f g h i j
    second c d g h l t = elim (le_or_lt e f) [
      | inl m ↦ in_order c d e f g h i j l m t
      | inr m ↦ exchanged c d e f g h i j (turned e f c d i j g h (exchanged f e c d j i g h
          (in_order c d f e g h j i l (omega (arith, ints))
          (four_exchanged f e c d j i g h (four_turned e f c d i j g h (four_exchanged c d e f g h i j t))))))
    ]
