-- A point strictly left of an edge below it and of an edge above it is on no outer line.
use Rattle.std.proofs.Common.{◌≡◌, ℤ, pos, ◌+ℤ◌, ◌-ℤ◌, ◌*ℤ◌, ◌≤ℤ◌, ◌<ℤ◌, neg_ℤ, inl, inr, ap, ◌∙◌, List, arith}
use Rattle.std.specs.List.{All, Contains}
use Rattle.std.proofs.lemmas.Int.{ints}
use Rattle.std.proofs.lemmas.List.Elements.{All-contains}
use Rattle.lattice.specs.Plane.{Pair, orient, product, IsBefore}
use Rattle.lattice.specs.Polynomials.{difference-eq, difference_rules}
use Rattle.lattice.specs.Signs.{le_or_lt, product_nn, product_pp, product_np, product_pn}
use Rattle.lattice.proofs.Vectors.{as_pair, minus, opp, cross, Ahead, ahead_nn}
use Rattle.hull_geometry.proofs.Orientation.{product-minus, ahead_of, behind_of}

-- the second component of a functional that makes neither end of a bend negative
sides : (fy A B c x y : ℤ) → pos 0 <ℤ c → pos 0 ≤ℤ A → pos 0 ≤ℤ B → x ≤ℤ pos 0 → pos 0 ≤ℤ y → y *ℤ A ≡ x *ℤ B -ℤ fy *ℤ c
    → fy ≤ℤ pos 0
sides fy A B c x y hc hA hB hx hy e =
    elim (le_or_lt fy (pos 0)) [
      | inl h ↦ h
      | inr h ↦ let p : pos 0 <ℤ (fy *ℤ c) = product_pp fy c h hc in
          let m : pos 0 ≤ℤ (y *ℤ A) = product_nn y A hy hA in
          let n : (x *ℤ B) ≤ℤ pos 0 = product_np x B hx hB in absurd (omega (arith, ints))
    ]

-- the products of two vectors, by their cross product
flat_by : (f a b : Pair) → b.x *ℤ product f a ≡ a.x *ℤ product f b -ℤ f.y *ℤ cross a b
unfolding product
flat_by f a b = rw (as_pair f, as_pair a, as_pair b) (simp difference_rules (difference-eq _ _ _ _ (omega arith)))

-- the same from the other vector
flat_back : (f a b : Pair) → a.x *ℤ product f b ≡ b.x *ℤ product f a -ℤ neg_ℤ f.y *ℤ cross a b
unfolding product
flat_back f a b = rw (as_pair f, as_pair a, as_pair b) (simp difference_rules (difference-eq _ _ _ _ (omega arith)))

-- a vector whose opposite is ahead has no first component above 0
behind_np : (u : Pair) → Ahead (opp u) → u.x ≤ℤ pos 0
behind_np u (inl h) = omega (arith, ints)
behind_np u (inr h) = omega (arith, ints, h.0)

-- the product with a level functional is that of the first components
pub product-level : (f a : Pair) → f.y ≡ pos 0 → product f a ≡ f.x *ℤ a.x
unfolding product
product-level f a e = ap (λ (z : ℤ). f.x *ℤ a.x +ℤ z *ℤ a.y) e ∙ omega (arith, ints)

-- if a level functional above 0 does not make such a vector negative, the vector goes straight down
straight : (f u : Pair) → Ahead (opp u) → f.y ≡ pos 0 → pos 0 <ℤ f.x → pos 0 ≤ℤ product f u
    → (u.x ≡ pos 0) × (u.y <ℤ pos 0)
straight f u (inl h) e hf hu =
    absurd (let p : (f.x *ℤ u.x) <ℤ pos 0 = product_pn f.x u.x hf (omega (arith, ints)) in let e = product-level f u e in
    omega (arith, ints))
straight f u (inr h) e hf hu = (omega (arith, ints, h.0), omega (arith, ints, h.1))

-- if a level functional below 0 does not make a vector ahead negative, the vector goes straight up
straight_up : (f u : Pair) → Ahead u → f.y ≡ pos 0 → f.x <ℤ pos 0 → pos 0 ≤ℤ product f u
    → (u.x ≡ pos 0) × (pos 0 <ℤ u.y)
straight_up f u (inl h) e hf hu =
    absurd (let p : (u.x *ℤ f.x) <ℤ pos 0 = product_pn u.x f.x h hf in let e = product-level f u e in omega (arith, ints))
straight_up f u (inr h) e hf hu = h

-- there is no left bend to a vector straight down
none_outwards_down : (c d : Pair) → pos 0 ≤ℤ c.x → (d.x ≡ pos 0) × (d.y <ℤ pos 0) → ¬ (pos 0 <ℤ cross c d)
none_outwards_down c d hc hd h =
    let p : (d.y *ℤ c.x) ≤ℤ pos 0 = product_np d.y c.x (omega (arith, ints, hd.1)) hc in
    let e : cross c d ≡ c.x *ℤ d.y -ℤ c.y *ℤ pos 0 = ap (λ (z : ℤ). c.x *ℤ d.y -ℤ c.y *ℤ z) hd.0 in
    omega (arith, ints)

-- there is no left bend to a vector straight up
none_outwards_up : (a b : Pair) → a.x ≤ℤ pos 0 → (b.x ≡ pos 0) × (pos 0 <ℤ b.y) → ¬ (pos 0 <ℤ cross a b)
none_outwards_up a b ha hb h =
    let p : (a.x *ℤ b.y) ≤ℤ pos 0 = product_np a.x b.y ha (omega (arith, ints, hb.1)) in
    let e : cross a b ≡ a.x *ℤ b.y -ℤ a.y *ℤ pos 0 = ap (λ (z : ℤ). a.x *ℤ b.y -ℤ a.y *ℤ z) hb.0 in
    omega (arith, ints)

-- a number not above 0 whose negative is not above 0 either is 0
both_zero : (x : ℤ) → x ≤ℤ pos 0 → (neg_ℤ x) ≤ℤ pos 0 → x ≡ pos 0
both_zero x h k = omega (arith, ints)

-- four vectors round the origin, as in `covered_by_edges`, that orient strictly: only the functional 0 is negative on
-- none of them
surrounded : (f A B C D : Pair) → Ahead (opp A) → Ahead B → Ahead C → Ahead (opp D) → pos 0 <ℤ cross A B
    → pos 0 <ℤ cross C D
    → pos 0 ≤ℤ product f A → pos 0 ≤ℤ product f B → pos 0 ≤ℤ product f C → pos 0 ≤ℤ product f D
    → (f.x ≡ pos 0) × (f.y ≡ pos 0)
surrounded f A B C D oA pB pC oD AB CD hA hB hC hD =
    let low : f.y ≤ℤ pos 0 =
    sides f.y (product f A) (product f B) (cross A B) A.x B.x AB hA hB (behind_np A oA) (ahead_nn B pB)
    (flat_by f A B) in
    let high : (neg_ℤ f.y) ≤ℤ pos 0 =
    sides (neg_ℤ f.y) (product f D) (product f C) (cross C D) D.x C.x CD hD hC (behind_np D oD) (ahead_nn C pC)
    (flat_back f C D) in
    let z : f.y ≡ pos 0 = both_zero f.y low high in
    elim (le_or_lt f.x (pos 0)) [
      | inl h ↦ elim (le_or_lt (pos 0) f.x) [
        | inl k ↦ (omega (arith, ints), z)
        | inr k ↦ absurd (none_outwards_up A B (behind_np A oA) (straight_up f B pB z k hB) AB)
      ]
      | inr h ↦ absurd (none_outwards_down C D (ahead_nn C pC) (straight f D oD z h hD) CD)
    ]

-- if t lies no farther than q, the step from q to t is not negative in the opposite direction
not_farther : (d t q : Pair) → product d t ≤ℤ product d q → pos 0 ≤ℤ product (opp d) (minus t q)
not_farther d t q h = let e = product-minus d t q in omega (arith, ints)

-- if q is strictly left of an edge from a before it to b after it, and of one from c after it to d before it, no
-- direction makes q outermost
pub not_on : (S : List Pair) (q a b c d : Pair) → Contains S a → Contains S b → Contains S c → Contains S d
    → IsBefore a q → IsBefore q b → IsBefore q c → IsBefore d q → pos 0 <ℤ orient q a b → pos 0 <ℤ orient q c d
    → (f : Pair) → All (λ t. product f t ≤ℤ product f q) S → (f.x ≡ pos 0) × (f.y ≡ pos 0)
unfolding orient
not_on S q a b c d ma mb mc md ha hb hc hd ab cd f h =
    let P : Pair → Type 0 = λ t. product f t ≤ℤ product f q in
    let r = surrounded (opp f) (minus a q) (minus b q) (minus c q) (minus d q) (behind_of a q ha) (ahead_of q b hb)
    (ahead_of q c hc) (behind_of d q hd) ab cd
    (not_farther f a q (All-contains P S a h ma)) (not_farther f b q (All-contains P S b h mb))
    (not_farther f c q (All-contains P S c h mc)) (not_farther f d q (All-contains P S d h md)) in
    (omega (arith, ints, r.0), omega (arith, ints, r.1))
