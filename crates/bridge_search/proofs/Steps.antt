-- One step of the bridge search: the bridge of the smaller halves is that of the larger ones.
use Rattle.std.proofs.Common.{◌≡◌, arith, ◌⊎◌, inl, inr, ⊎_elim}
use Rattle.std.proofs.lemmas.Int.{by_lt_z}
use lib.IntN.{pos}
use lib.Signed.{◌<ℤ◌, ◌≤ℤ◌}
use Rattle.lattice.specs.Plane.{Pair, orient, IsBefore}
use Rattle.lattice.specs.Bridges.{IsAllBefore, IsUpperBridge}
use Rattle.lattice.specs.Crossing.{IsCrossingAtOrBefore, IsCrossingAfter}
use Rattle.lattice.specs.Integers.{linear}
use Rattle.lattice.proofs.Order.{before_not}
use Rattle.lattice.proofs.Lines.{under, over}
use Rattle.lattice.proofs.LineCrossings.{orient_start, orient_end, orient_cycle, right_of_crossing, left_of_crossing}

-- both sets together
abbrev pub Joined : (Pair → Type 0) → (Pair → Type 0) → Pair → Type 0
Joined u v t = u t ⊎ v t

-- the bridge stays if points are added after those of the left half, none over the line
grow_left_after : (u1 u2 w : Pair → Type 0) (p q : Pair) → IsAllBefore u1 u2 → IsAllBefore u2 w
    → ((t : Pair) → u2 t → orient p q t ≤ℤ pos 0) → IsUpperBridge u1 w p q → IsUpperBridge (Joined u1 u2) w p q
grow_left_after u1 u2 w p q o12 o2 low h = record {
  from_left = inl h.from_left;
  to_right = h.to_right;
  inner_left = λ t s. ⊎_elim (h.inner_left t) (low t) s;
  inner_right = h.inner_right;
  tie_left = λ t s e. ⊎_elim (λ a. h.tie_left t a e)
      (λ a. (before_not p t (o12 p t h.from_left a), before_not t q (o2 t q a h.to_right))) s;
  tie_right = h.tie_right;
}

-- the bridge stays if points are added before those of the left half, all under the line
grow_left_before : (u1 u2 w : Pair → Type 0) (p q : Pair) → ((t : Pair) → u1 t → orient p q t <ℤ pos 0)
    → IsUpperBridge u2 w p q → IsUpperBridge (Joined u1 u2) w p q
grow_left_before u1 u2 w p q low h = record {
  from_left = inr h.from_left;
  to_right = h.to_right;
  inner_left = λ t s. ⊎_elim
      (λ a. let k : orient p q t <ℤ pos 0 = low t a in let g : orient p q t ≤ℤ pos 0 = omega (arith, linear) in g)
      (h.inner_left t) s;
  inner_right = h.inner_right;
  tie_left = λ t s e. ⊎_elim (λ a. let k : orient p q t <ℤ pos 0 = low t a in absurd (omega (arith, linear)))
      (λ a. h.tie_left t a e) s;
  tie_right = h.tie_right;
}

-- the bridge stays if points are added before those of the right half, none over the line
grow_right_before : (u w1 w2 : Pair → Type 0) (p q : Pair) → IsAllBefore w1 w2 → IsAllBefore u w1
    → ((t : Pair) → w1 t → orient p q t ≤ℤ pos 0) → IsUpperBridge u w2 p q → IsUpperBridge u (Joined w1 w2) p q
grow_right_before u w1 w2 p q o12 o1 low h = record {
  from_left = h.from_left;
  to_right = inr h.to_right;
  inner_left = h.inner_left;
  inner_right = λ t s. ⊎_elim (low t) (h.inner_right t) s;
  tie_left = h.tie_left;
  tie_right = λ t s e. ⊎_elim (λ a. (before_not p t (o1 p t h.from_left a), before_not t q (o12 t q a h.to_right)))
      (λ a. h.tie_right t a e) s;
}

-- the bridge stays if points are added after those of the right half, all under the line
grow_right_after : (u w1 w2 : Pair → Type 0) (p q : Pair) → ((t : Pair) → w2 t → orient p q t <ℤ pos 0)
    → IsUpperBridge u w1 p q → IsUpperBridge u (Joined w1 w2) p q
grow_right_after u w1 w2 p q low h = record {
  from_left = h.from_left;
  to_right = inl h.to_right;
  inner_left = h.inner_left;
  inner_right = λ t s. ⊎_elim (h.inner_right t)
      (λ a. let k : orient p q t <ℤ pos 0 = low t a in let g : orient p q t ≤ℤ pos 0 = omega (arith, linear) in g) s;
  tie_left = h.tie_left;
  tie_right = λ t s e. ⊎_elim (λ a. h.tie_right t a e)
      (λ a. let k : orient p q t <ℤ pos 0 = low t a in absurd (omega (arith, linear))) s;
}

-- if c in w is not under ab, u2 is not needed
pub to_left_of_left : (u1 u2 w : Pair → Type 0) (a b c p q : Pair) → IsAllBefore u1 u2 → IsAllBefore (Joined u1 u2) w
    → IsUpperBridge u1 u2 a b → w c → pos 0 ≤ℤ orient a b c → IsUpperBridge u1 w p q
    → IsUpperBridge (Joined u1 u2) w p q
to_left_of_left u1 u2 w a b c p q o12 o e inc g h =
    grow_left_after u1 u2 w p q o12 (λ x y i j. o x y (inr i) j)
    (λ t int. under p q a b a t c (o p q (inl h.from_left) h.to_right) (o12 a b e.from_left e.to_right)
    (o12 a t e.from_left int) (o t c (inr int) inc)
    (h.inner_left a e.from_left) (let z : orient a b a ≡ pos 0 = orient_start a b in omega (arith, linear))
    (h.inner_right c inc) g (e.inner_right t int))
    h

-- if b in u is not under cd, w1 is not needed
pub to_right_of_right : (u w1 w2 : Pair → Type 0) (b c d p q : Pair) → IsAllBefore w1 w2 → IsAllBefore u (Joined w1 w2)
    → IsUpperBridge w1 w2 c d → u b → pos 0 ≤ℤ orient b c d → IsUpperBridge u w2 p q
    → IsUpperBridge u (Joined w1 w2) p q
to_right_of_right u w1 w2 b c d p q o12 o e inb g h =
    grow_right_before u w1 w2 p q o12 (λ x y i j. o x y i (inl j))
    (λ t int. under p q c d b t d (o p q h.from_left (inr h.to_right)) (o12 c d e.from_left e.to_right)
    (o b t inb (inl int)) (o12 t d int e.to_right)
    (h.inner_left b inb) (let z : orient b c d ≡ orient c d b = orient_cycle b c d in omega (arith, linear))
    (h.inner_right d e.to_right) (let z : orient c d d ≡ pos 0 = orient_end c d in omega (arith, linear))
    (e.inner_left t int))
    h

-- if q is under ab, u1 is not needed
past_left : (u1 u2 w : Pair → Type 0) (a b p q : Pair) → IsAllBefore u1 u2 → IsAllBefore (Joined u1 u2) w
    → IsUpperBridge u1 u2 a b → orient a b q <ℤ pos 0 → IsUpperBridge u2 w p q → IsUpperBridge (Joined u1 u2) w p q
past_left u1 u2 w a b p q o12 o e g h =
    grow_left_before u1 u2 w p q
    (λ t int. over p q a b q b t (o p q (inr h.from_left) h.to_right) (o12 a b e.from_left e.to_right)
    (inr (o12 t b int e.to_right, o b q (inr e.to_right) h.to_right))
    (let z : orient p q q ≡ pos 0 = orient_end p q in omega (arith, linear)) g (h.inner_left b e.to_right)
    (let z : orient a b b ≡ pos 0 = orient_end a b in omega (arith, linear)) (e.inner_left t int))
    h

-- if p is under cd, w2 is not needed
past_right : (u w1 w2 : Pair → Type 0) (c d p q : Pair) → IsAllBefore w1 w2 → IsAllBefore u (Joined w1 w2)
    → IsUpperBridge w1 w2 c d → orient c d p <ℤ pos 0 → IsUpperBridge u w1 p q → IsUpperBridge u (Joined w1 w2) p q
past_right u w1 w2 c d p q o12 o e g h =
    grow_right_after u w1 w2 p q
    (λ t int. over p q c d p c t (o p q h.from_left (inl h.to_right)) (o12 c d e.from_left e.to_right)
    (inl (o p c h.from_left (inl e.from_left), o12 c t e.from_left int))
    (let z : orient p q p ≡ pos 0 = orient_start p q in omega (arith, linear)) g (h.inner_right c e.from_left)
    (let z : orient c d c ≡ pos 0 = orient_start c d in omega (arith, linear)) (e.inner_right t int))
    h

-- if the crossing is at or before m, and no point of w is before m, u1 is not needed
pub to_right_of_left : (u1 u2 w1 w2 : Pair → Type 0) (a b c d m p q : Pair) → IsAllBefore u1 u2 → IsAllBefore w1 w2
    → IsAllBefore (Joined u1 u2) (Joined w1 w2) → IsUpperBridge u1 u2 a b → IsUpperBridge w1 w2 c d
    → orient a b c <ℤ pos 0 → orient b c d <ℤ pos 0 → IsCrossingAtOrBefore a b c d m
    → ((t : Pair) → Joined w1 w2 t → IsBefore t m → ⊥) → IsUpperBridge u2 (Joined w1 w2) p q
    → IsUpperBridge (Joined u1 u2) (Joined w1 w2) p q
to_right_of_left u1 u2 w1 w2 a b c d m p q ou ow o e f g1 g2 at low h =
    by_lt_z (orient a b q) (pos 0)
    (λ under_q. past_left u1 u2 (Joined w1 w2) a b p q ou o e under_q h)
    (λ over_q. absurd (right_of_crossing a b c d m q (ou a b e.from_left e.to_right)
    (o b c (inr e.to_right) (inl f.from_left)) (ow c d f.from_left f.to_right) g1
    (let z : orient b c d ≡ orient c d b = orient_cycle b c d in omega (arith, linear)) at (low q h.to_right) over_q
    (⊎_elim (f.inner_left q) (f.inner_right q) h.to_right)
    (λ z. (⊎_elim (λ i. f.tie_left q i z) (λ i. f.tie_right q i z) h.to_right).0)))

-- if the crossing is after m, and each point of u is before m, w2 is not needed
pub to_left_of_right : (u1 u2 w1 w2 : Pair → Type 0) (a b c d m p q : Pair) → IsAllBefore u1 u2 → IsAllBefore w1 w2
    → IsAllBefore (Joined u1 u2) (Joined w1 w2) → IsUpperBridge u1 u2 a b → IsUpperBridge w1 w2 c d
    → orient a b c <ℤ pos 0 → orient b c d <ℤ pos 0 → IsCrossingAfter a b c d m
    → ((t : Pair) → Joined u1 u2 t → IsBefore t m) → IsUpperBridge (Joined u1 u2) w1 p q
    → IsUpperBridge (Joined u1 u2) (Joined w1 w2) p q
to_left_of_right u1 u2 w1 w2 a b c d m p q ou ow o e f g1 g2 after low h =
    past_right (Joined u1 u2) w1 w2 c d p q ow o f
    (left_of_crossing a b c d m p (ou a b e.from_left e.to_right) (o b c (inr e.to_right) (inl f.from_left))
    (ow c d f.from_left f.to_right) g1
    (let z : orient b c d ≡ orient c d b = orient_cycle b c d in omega (arith, linear)) after (low p h.from_left)
    (⊎_elim (e.inner_left p) (e.inner_right p) h.from_left))
    h

-- if w is one point c, under ab, u1 is not needed
pub to_right_of_left_one : (u1 u2 : Pair → Type 0) (a b c p q : Pair) → IsAllBefore u1 u2
    → IsAllBefore (Joined u1 u2) (λ t. t ≡ c) → IsUpperBridge u1 u2 a b → orient a b c <ℤ pos 0
    → IsUpperBridge u2 (λ t. t ≡ c) p q → IsUpperBridge (Joined u1 u2) (λ t. t ≡ c) p q
to_right_of_left_one u1 u2 a b c p q ou o e g h = past_left u1 u2 (λ t. t ≡ c) a b p q ou o e (rw h.to_right g) h

-- if u is one point b, under cd, w2 is not needed
pub to_left_of_right_one : (w1 w2 : Pair → Type 0) (b c d p q : Pair) → IsAllBefore w1 w2
    → IsAllBefore (λ t. t ≡ b) (Joined w1 w2) → IsUpperBridge w1 w2 c d → orient b c d <ℤ pos 0
    → IsUpperBridge (λ t. t ≡ b) w1 p q → IsUpperBridge (λ t. t ≡ b) (Joined w1 w2) p q
to_left_of_right_one w1 w2 b c d p q ow o e g h =
    past_right (λ t. t ≡ b) w1 w2 c d p q ow o e
    (rw h.from_left (let z : orient b c d ≡ orient c d b = orient_cycle b c d in omega (arith, linear))) h
