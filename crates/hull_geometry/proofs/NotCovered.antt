-- If a line has all of S strictly on one side and q on the other, S does not cover q.
use Rattle.std.proofs.lemmas.Grind.{common_steps}
use Rattle.std.proofs.Common.{◌≡◌, ℤ, pos, ◌+ℤ◌, ◌-ℤ◌, ◌*ℤ◌, ◌≤ℤ◌, ◌<ℤ◌, ◌⊎◌, inl, inr, sym, ap, ◌∙◌, List, arith}
use Rattle.std.specs.List.{All}
use Rattle.std.proofs.lemmas.Int.{ints}
use Rattle.std.proofs.lemmas.List.Elements.{All-contains}
use Rattle.lattice.specs.Covers.{IsBetween, Covers, Member, OnSegment, InTriangle}
use Rattle.lattice.specs.Plane.{Pair, orient, product}
use Rattle.lattice.specs.Polynomials.{difference-eq, difference_rules}
use Rattle.lattice.specs.Polynomials.{difference-pos, difference_rules}
use Rattle.lattice.specs.Signs.{product_nn, cancel_zero, product_np}
use Rattle.lattice.proofs.Vectors.{as_pair, minus, opp, cross}
use Rattle.lattice.proofs.Numbers.{above_by_less}
use Rattle.hull_geometry.proofs.Orientation.{orient-sum, product-minus, at_least, above, orient-cycle}

-- in some direction q lies farther than all of S
abbrev pub Separated : List Pair → Pair → Type 0
Separated S q = (d : Pair) × All (λ t. product d t <ℤ product d q) S

-- the cross products of three vectors weigh their products with any vector to 0
balance : (f a b c : Pair) → cross b c *ℤ product f a +ℤ cross c a *ℤ product f b +ℤ cross a b *ℤ product f c ≡ pos 0
unfolding product
balance f a b c = rw (as_pair f, as_pair a, as_pair b, as_pair c) (simp difference_rules (difference-pos _ _ 0 (omega arith)))

-- three weights, none of them below 0 and one above, of three numbers above 0 have a sum above 0
mix : (a b c A B C : ℤ) → pos 0 <ℤ A → pos 0 <ℤ B → pos 0 <ℤ C → pos 0 ≤ℤ a → pos 0 ≤ℤ b → pos 0 ≤ℤ c
    → pos 0 <ℤ (a +ℤ b +ℤ c) → (a *ℤ A) +ℤ (b *ℤ B) +ℤ (c *ℤ C) ≡ pos 0 → ⊥
mix a b c A B C hA hB hC ha hb hc h e = grind (arith, common_steps, pos, product_nn, ints, cancel_zero)

-- three vectors that bend left round the origin do not all lie on one side of a line through it
no_triangle : (f a b c : Pair) → pos 0 <ℤ product f a → pos 0 <ℤ product f b → pos 0 <ℤ product f c
    → pos 0 ≤ℤ cross b c → pos 0 ≤ℤ cross c a → pos 0 ≤ℤ cross a b → pos 0 <ℤ (cross b c +ℤ cross c a +ℤ cross a b) → ⊥
no_triangle f a b c ha hb hc A B C s =
    mix (cross b c) (cross c a) (cross a b) (product f a) (product f b) (product f c) ha hb hc A B C s (balance f a b c)

-- two numbers of opposite signs, or 0
abbrev Opposite : ℤ → ℤ → Type 0
Opposite a b = ((a ≤ℤ pos 0) × (pos 0 ≤ℤ b)) ⊎ ((b ≤ℤ pos 0) × (pos 0 ≤ℤ a))

-- if b * A = a * B and a and b have opposite signs, both are 0
flat : (a b A B : ℤ) → pos 0 <ℤ A → pos 0 <ℤ B → Opposite a b → b *ℤ A ≡ a *ℤ B → a ≡ pos 0
flat a b A B hA hB (inl h) e =
    let p : pos 0 ≤ℤ (b *ℤ A) = product_nn b A h.1 (omega (arith, ints)) in
    let n : (a *ℤ B) ≤ℤ pos 0 = product_np a B h.0 (omega (arith, ints)) in
    cancel_zero a B hB (omega (arith, ints))
flat a b A B hA hB (inr h) e =
    let p : pos 0 ≤ℤ (a *ℤ B) = product_nn a B h.1 (omega (arith, ints)) in
    let n : (b *ℤ A) ≤ℤ pos 0 = product_np b A h.0 (omega (arith, ints)) in
    cancel_zero a B hB (omega (arith, ints))

-- the products of two vectors in one line with any vector have the ratio of their first components
pub flat_x : (f a b : Pair) → cross a b ≡ pos 0 → b.x *ℤ product f a ≡ a.x *ℤ product f b
unfolding product
flat_x f a b e =
    let r : b.x *ℤ product f a ≡ a.x *ℤ product f b -ℤ f.y *ℤ cross a b =
    rw (as_pair f, as_pair a, as_pair b) (simp difference_rules
    (difference-eq _ _ _ _ (omega arith))) in
    r ∙ ap (λ (z : ℤ). a.x *ℤ product f b -ℤ f.y *ℤ z) e ∙ omega (arith, ints)

-- they have the ratio of their second components
flat_y : (f a b : Pair) → cross a b ≡ pos 0 → b.y *ℤ product f a ≡ a.y *ℤ product f b
unfolding product
flat_y f a b e =
    let r : b.y *ℤ product f a ≡ a.y *ℤ product f b +ℤ f.x *ℤ cross a b =
    rw (as_pair f, as_pair a, as_pair b) (simp difference_rules
    (difference-eq _ _ _ _ (omega arith))) in
    r ∙ ap (λ (z : ℤ). a.y *ℤ product f b +ℤ f.x *ℤ z) e ∙ omega (arith, ints)

-- the product with the zero vector is 0
product_zero : (f a : Pair) → a.x ≡ pos 0 → a.y ≡ pos 0 → product f a ≡ pos 0
unfolding product
product_zero f a zx zy =
    ap (λ (z : ℤ). f.x *ℤ z +ℤ f.y *ℤ a.y) zx ∙ ap (λ (z : ℤ). f.x *ℤ pos 0 +ℤ f.y *ℤ z) zy ∙ omega (arith, ints)

-- two vectors in one line on two sides of the origin do not both lie on one side of a line through it
no_segment : (f a b : Pair) → pos 0 <ℤ product f a → pos 0 <ℤ product f b → cross a b ≡ pos 0 → Opposite a.x b.x
    → Opposite a.y b.y → ⊥
no_segment f a b ha hb e ox oy =
    let z : product f a ≡ pos 0 =
    product_zero f a (flat a.x b.x (product f a) (product f b) ha hb ox (flat_x f a b e))
    (flat a.y b.y (product f a) (product f b) ha hb oy (flat_y f a b e)) in
    omega (arith, ints)

-- if q lies farther than t, the step from q to t has a positive product with the opposite direction
further : (d t q : Pair) → product d t <ℤ product d q → pos 0 <ℤ product (opp d) (minus t q)
further d t q h = above_by_less _ _ _ (product-minus d t q) h

-- a number between two others has differences of opposite signs to them
opposite : (a b v : ℤ) → IsBetween a b v → Opposite (a -ℤ v) (b -ℤ v)
opposite a b v (inl h) = inl (omega (arith, ints), omega (arith, ints))
opposite a b v (inr h) = inr (omega (arith, ints), omega (arith, ints))

-- no number is below itself
unfurther : (a : ℤ) → ¬ (a <ℤ a)
unfurther a h = omega (arith, ints)

-- S does not cover a point that is separated from it
pub not_covered : (S : List Pair) (q : Pair) → Separated S q → ¬ Covers S q
unfolding orient
not_covered S q s (Member m) = unfurther _ (All-contains (λ t. product s.0 t <ℤ product s.0 q) S q s.1 m)
not_covered S q s (OnSegment a b ma mb h) =
    let P : Pair → Type 0 = λ t. product s.0 t <ℤ product s.0 q in
    no_segment (opp s.0) (minus a q) (minus b q) (further s.0 a q (All-contains P S a s.1 ma))
    (further s.0 b q (All-contains P S b s.1 mb)) (sym (orient-cycle a b q) ∙ h.0) (opposite a.x b.x q.x h.1)
    (opposite a.y b.y q.y h.2)
not_covered S q s (InTriangle a b c ma mb mc h) =
    let P : Pair → Type 0 = λ t. product s.0 t <ℤ product s.0 q in
    no_triangle (opp s.0) (minus a q) (minus b q) (minus c q) (further s.0 a q (All-contains P S a s.1 ma))
    (further s.0 b q (All-contains P S b s.1 mb)) (further s.0 c q (All-contains P S c s.1 mc))
    (at_least _ _ (orient-cycle b c q) h.2) (at_least _ _ (orient-cycle c a q) h.3)
    (at_least _ _ (orient-cycle a b q) h.1) (above _ _ (orient-sum a b c q) h.0)
