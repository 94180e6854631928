-- The tree of a slice of vertices: a point, or a fork over the trees of its halves.
use Rattle.std.proofs.lemmas.Grind.{common_steps}
use Rattle.std.proofs.Common.{◌≡◌, ℕ, zero, suc, ◌+◌, ◌-◌, ◌^◌, ◌<◌, ◌≤◌, ◌⊎◌, inl, inr, sym, ap, ◌∙◌, subst, arith}
use Rattle.std.proofs.Common.{refl}
use Rattle.std.proofs.lemmas.Bool.{cases_lt}
use Rattle.std.proofs.lemmas.Nat.Bits.{bit_at_above}
use Rattle.std.specs.Int.{bit_at}
use Rattle.std.specs.Prelude.{max}
use Rattle.lattice.specs.Plane.{Pair}
use Rattle.lattice.specs.declared.side.Side.TheVariants.{Lower, Upper}
use Rattle.bridge_search.specs.Trees.{Tree, Leaf, Fork, On, IsFork, first_of, last_of, height_of}
use Rattle.hull_geometry.specs.Positions.{point_at}
use Rattle.hull_buckets.specs.Buckets.{BucketValue}
use Rattle.hull_buckets.specs.Masks.{lowest_of, highest_of}
use Rattle.hull_buckets.specs.Slices.{width_of, split_of, left_slice, right_slice, edge_of_slice, tree_by, tree_to}
use Rattle.hull_buckets.specs.Slices.{tree_of_slice}
use Rattle.hull_buckets.proofs.Words.{power_le}
use Rattle.hull_buckets.proofs.Halvings.{lowest_to_highest, lowest_set, bit_from, bit_to}
use Rattle.hull_buckets.proofs.Halvings.{left_some, left_fits, left_lowest, left_highest, left_narrow, left_bit}
use Rattle.hull_buckets.proofs.Halvings.{left_bit_of, right_lowest}
use Rattle.hull_buckets.proofs.Halvings.{right_some, right_fits, right_highest, right_narrow, right_bit, right_bit_of}

-- ---- depths that are enough

-- a slice has one index or several
pub one_or_several : (slice : ℕ) → 0 < slice → slice < 2 ^ 64 → (lowest_of slice ≡ highest_of slice) ⊎ (lowest_of slice <
    highest_of slice)
one_or_several slice s f = grind (arith, common_steps, cases_lt, lowest_of, highest_of, lowest_to_highest)

-- a tree to one depth is the tree to another, if both are enough
pub enough : (n m : ℕ) (b : BucketValue) (slice : ℕ) → 0 < slice → slice < 2 ^ 64 → width_of slice ≤ n → width_of slice ≤ m
    → tree_to n b slice ≡ tree_to m b slice
enough zero zero b slice s f k l = refl
enough zero (suc m) b slice s f k l =
    let e : width_of slice ≡ 0 = omega (arith, k) in
    sym (ap (λ (w : ℕ). tree_by w (Leaf (point_at b.points (lowest_of slice)))
    (Fork (edge_of_slice Upper b slice) (edge_of_slice Lower b slice) (tree_to m b (left_slice slice)) (tree_to m b (right_slice
    slice)))) e)
enough (suc n) zero b slice s f k l =
    let e : width_of slice ≡ 0 = omega (arith, l) in
    ap (λ (w : ℕ). tree_by w (Leaf (point_at b.points (lowest_of slice)))
    (Fork (edge_of_slice Upper b slice) (edge_of_slice Lower b slice) (tree_to n b (left_slice slice)) (tree_to n b (right_slice
    slice)))) e
enough (suc n) (suc m) b slice s f k l = elim (one_or_several slice s f) [
  | inl e ↦
      let z : width_of slice ≡ 0 = omega (arith, e) in
      ap (λ (w : ℕ). tree_by w (Leaf (point_at b.points (lowest_of slice)))
      (Fork (edge_of_slice Upper b slice) (edge_of_slice Lower b slice) (tree_to n b (left_slice slice)) (tree_to n b (right_slice
      slice)))) z
      ∙ sym (ap (λ (w : ℕ). tree_by w (Leaf (point_at b.points (lowest_of slice)))
      (Fork (edge_of_slice Upper b slice) (edge_of_slice Lower b slice) (tree_to m b (left_slice slice)) (tree_to m b (right_slice
      slice)))) z)
  | inr w ↦
      let a = left_narrow slice s f w in
      let c = right_narrow slice s f w in
      ap (λ (u : Tree). tree_by (width_of slice) (Leaf (point_at b.points (lowest_of slice)))
      (Fork (edge_of_slice Upper b slice) (edge_of_slice Lower b slice) u (tree_to n b (right_slice slice))))
      (enough n m b (left_slice slice) (left_some slice s f w) (left_fits slice s f w) (omega (arith, a, k)) (omega (
        arith,
        a,
        l,
      )))
      ∙ ap (λ (u : Tree). tree_by (width_of slice) (Leaf (point_at b.points (lowest_of slice)))
      (Fork (edge_of_slice Upper b slice) (edge_of_slice Lower b slice) (tree_to m b (left_slice slice)) u))
      (enough n m b (right_slice slice) (right_some slice s f w) (right_fits slice s f w) (omega (arith, c, k)) (omega (
        arith,
        c,
        l,
      )))
]

-- one index is a point
pub leaf_is : (b : BucketValue) (slice : ℕ) → lowest_of slice ≡ highest_of slice
    → tree_of_slice b slice ≡ Leaf (point_at b.points (lowest_of slice))
leaf_is b slice e = let z : width_of slice ≡ 0 = omega (arith, e) in ap (λ (n : ℕ). tree_to n b slice) z

-- several are a fork over the trees of the two halves
pub fork_is : (b : BucketValue) (slice : ℕ) → 0 < slice → slice < 2 ^ 64 → lowest_of slice < highest_of slice
    → tree_of_slice b slice ≡ Fork (edge_of_slice Upper b slice) (edge_of_slice Lower b slice) (tree_of_slice b (left_slice slice))
    (tree_of_slice b (right_slice slice))
fork_is b slice s f w =
    let n : ℕ = width_of slice in
    let a = left_narrow slice s f w in
    let c = right_narrow slice s f w in
    let e : width_of slice ≡ suc (width_of slice - 1) = omega (arith, w) in
    enough n (suc n) b slice s f (omega arith) (omega arith)
    ∙ ap (λ (w : ℕ). tree_by w (Leaf (point_at b.points (lowest_of slice)))
    (Fork (edge_of_slice Upper b slice) (edge_of_slice Lower b slice) (tree_to n b (left_slice slice)) (tree_to n b (right_slice
    slice)))) e
    ∙ ap (λ (u : Tree). Fork (edge_of_slice Upper b slice) (edge_of_slice Lower b slice) u (tree_to n b (right_slice slice)))
    (enough n (width_of (left_slice slice)) b (left_slice slice) (left_some slice s f w) (left_fits slice s f w) (omega (arith, a))
    (omega arith))
    ∙ ap (λ (u : Tree). Fork (edge_of_slice Upper b slice) (edge_of_slice Lower b slice) (tree_of_slice b (left_slice slice)) u)
    (enough n (width_of (right_slice slice)) b (right_slice slice) (right_some slice s f w) (right_fits slice s f w) (omega (
      arith,
      c,
    ))
    (omega arith))

-- ---- points

-- an index of a slice, and its point
abbrev pub PlaceIn : BucketValue → ℕ → Pair → Type 0
PlaceIn b slice t = (i : ℕ) × (bit_at slice i ≡ 1) × (t ≡ point_at b.points i)

-- one width is no less than several indices
pub too_wide : (slice : ℕ) → lowest_of slice < highest_of slice → width_of slice ≤ 0 → ⊥
too_wide slice w k = omega (arith, w, k)

-- each point of the tree is at an index of the slice
pub on_place : (n : ℕ) (b : BucketValue) (slice : ℕ) → 0 < slice → slice < 2 ^ 64 → width_of slice ≤ n → (t : Pair)
    → On (tree_of_slice b slice) t → PlaceIn b slice t
on_place zero b slice s f k t i = elim (one_or_several slice s f) [
  | inl e ↦ (lowest_of slice, lowest_set slice s f, subst (λ (u : Tree). On u t) (leaf_is b slice e) i)
  | inr w ↦ absurd (too_wide slice w k)
]
on_place (suc n) b slice s f k t i = elim (one_or_several slice s f) [
  | inl e ↦ (lowest_of slice, lowest_set slice s f, subst (λ (u : Tree). On u t) (leaf_is b slice e) i)
  | inr w ↦ parts w
      (λ h. on_place n b (left_slice slice) (left_some slice s f w) (left_fits slice s f w)
      (let a = left_narrow slice s f w in omega (arith, a, k)) t h)
      (λ h. on_place n b (right_slice slice) (right_some slice s f w) (right_fits slice s f w)
      (let a = right_narrow slice s f w in omega (arith, a, k)) t h)
      (subst (λ (u : Tree). On u t) (fork_is b slice s f w) i)
]
  where
    parts : lowest_of slice < highest_of slice → (On (tree_of_slice b (left_slice slice)) t → PlaceIn b (left_slice slice) t)
        → (On (tree_of_slice b (right_slice slice)) t → PlaceIn b (right_slice slice) t)
        → On (tree_of_slice b (left_slice slice)) t ⊎ On (tree_of_slice b (right_slice slice)) t → PlaceIn b slice t
    parts w g h (inl j) = let p = g j in (p.0, (left_bit slice s f w p.0 p.1).1, p.2)
    parts w g h (inr j) = let p = h j in (p.0, (right_bit slice s f w p.0 p.1).1, p.2)

-- a slice of one index has no other
only_place : (slice i : ℕ) → 0 < slice → slice < 2 ^ 64 → bit_at slice i ≡ 1 → lowest_of slice ≡ highest_of slice
    → i ≡ lowest_of slice
only_place slice i s f e q = let a = bit_from slice i s f e in let c = bit_to slice i s f e in omega (arith, a, c, q)

-- the point at each index of the slice is one of the tree
pub on_tree : (n : ℕ) (b : BucketValue) (slice : ℕ) → 0 < slice → slice < 2 ^ 64 → width_of slice ≤ n → (i : ℕ)
    → bit_at slice i ≡ 1 → On (tree_of_slice b slice) (point_at b.points i)
on_tree zero b slice s f k i e = elim (one_or_several slice s f) [
  | inl q ↦ subst (λ (u : Tree). On u (point_at b.points i)) (sym (leaf_is b slice q))
      (ap (point_at b.points) (only_place slice i s f e q))
  | inr w ↦ absurd (too_wide slice w k)
]
on_tree (suc n) b slice s f k i e = elim (one_or_several slice s f) [
  | inl q ↦ subst (λ (u : Tree). On u (point_at b.points i)) (sym (leaf_is b slice q))
      (ap (point_at b.points) (only_place slice i s f e q))
  | inr w ↦ subst (λ (u : Tree). On u (point_at b.points i)) (sym (fork_is b slice s f w))
      (elim (cases_lt i (split_of slice)) [
        | inl l ↦ inl (on_tree n b (left_slice slice) (left_some slice s f w) (left_fits slice s f w)
            (let a = left_narrow slice s f w in omega (arith, a, k)) i (left_bit_of slice s f w i l e))
        | inr l ↦ inr (on_tree n b (right_slice slice) (right_some slice s f w) (right_fits slice s f w)
            (let a = right_narrow slice s f w in omega (arith, a, k)) i (right_bit_of slice s f w i l e))
      ])
]

-- its first point is at the lowest index
pub first_is : (n : ℕ) (b : BucketValue) (slice : ℕ) → 0 < slice → slice < 2 ^ 64 → width_of slice ≤ n
    → first_of (tree_of_slice b slice) ≡ point_at b.points (lowest_of slice)
first_is zero b slice s f k = elim (one_or_several slice s f) [
  | inl q ↦ ap first_of (leaf_is b slice q)
  | inr w ↦ absurd (too_wide slice w k)
]
first_is (suc n) b slice s f k = elim (one_or_several slice s f) [
  | inl q ↦ ap first_of (leaf_is b slice q)
  | inr w ↦ ap first_of (fork_is b slice s f w)
      ∙ first_is n b (left_slice slice) (left_some slice s f w) (left_fits slice s f w)
      (let a = left_narrow slice s f w in omega (arith, a, k))
      ∙ ap (point_at b.points) (left_lowest slice s f w)
]

-- and its last at the highest
pub last_is : (n : ℕ) (b : BucketValue) (slice : ℕ) → 0 < slice → slice < 2 ^ 64 → width_of slice ≤ n
    → last_of (tree_of_slice b slice) ≡ point_at b.points (highest_of slice)
last_is zero b slice s f k = elim (one_or_several slice s f) [
  | inl q ↦ ap last_of (leaf_is b slice q) ∙ ap (point_at b.points) q
  | inr w ↦ absurd (too_wide slice w k)
]
last_is (suc n) b slice s f k = elim (one_or_several slice s f) [
  | inl q ↦ ap last_of (leaf_is b slice q) ∙ ap (point_at b.points) q
  | inr w ↦ ap last_of (fork_is b slice s f w)
      ∙ last_is n b (right_slice slice) (right_some slice s f w) (right_fits slice s f w)
      (let a = right_narrow slice s f w in omega (arith, a, k))
      ∙ ap (point_at b.points) (right_highest slice s f w)
]

-- it is no higher than the slice is wide
pub height_to : (n : ℕ) (b : BucketValue) (slice : ℕ) → 0 < slice → slice < 2 ^ 64 → width_of slice ≤ n
    → height_of (tree_of_slice b slice) ≤ n
height_to zero b slice s f k = elim (one_or_several slice s f) [
  | inl q ↦ let e = ap height_of (leaf_is b slice q) in omega (arith, e)
  | inr w ↦ absurd (too_wide slice w k)
]
height_to (suc n) b slice s f k = elim (one_or_several slice s f) [
  | inl q ↦ let e : height_of (tree_of_slice b slice) ≡ 0 = ap height_of (leaf_is b slice q) in omega (arith, e)
  | inr w ↦
      let e : height_of (tree_of_slice b slice)
      ≡ max (height_of (tree_of_slice b (left_slice slice))) (height_of (tree_of_slice b (right_slice slice))) + 1 =
      ap height_of (fork_is b slice s f w) in
      let l = height_to n b (left_slice slice) (left_some slice s f w) (left_fits slice s f w)
      (let a = left_narrow slice s f w in omega (arith, a, k)) in
      let r = height_to n b (right_slice slice) (right_some slice s f w) (right_fits slice s f w)
      (let a = right_narrow slice s f w in omega (arith, a, k)) in
      omega (arith, e, l, r)
]

-- the greatest width of a slice that is halved this often, if it is less
abbrev reach : ℕ → ℕ
reach zero = 1
reach (suc n) = reach n + reach n

-- since each half is half as wide, this many forks are enough
height_halved : (n : ℕ) (b : BucketValue) (slice : ℕ) → 0 < slice → slice < 2 ^ 64 → width_of slice < reach n
    → height_of (tree_of_slice b slice) ≤ n
height_halved zero b slice s f k = height_to 0 b slice s f (omega (arith, k))
height_halved (suc n) b slice s f k = elim (one_or_several slice s f) [
  | inl q ↦ let e : height_of (tree_of_slice b slice) ≡ 0 = ap height_of (leaf_is b slice q) in omega (arith, e)
  | inr w ↦
      let e : height_of (tree_of_slice b slice)
      ≡ max (height_of (tree_of_slice b (left_slice slice))) (height_of (tree_of_slice b (right_slice slice))) + 1 =
      ap height_of (fork_is b slice s f w) in
      let l = height_halved n b (left_slice slice) (left_some slice s f w) (left_fits slice s f w)
      (omega (arith, left_lowest slice s f w, left_highest slice s f w, k, w)) in
      let r = height_halved n b (right_slice slice) (right_some slice s f w) (right_fits slice s f w)
      (omega (arith, right_highest slice s f w, right_lowest slice s f w, k, w)) in
      omega (arith, e, l, r)
]

-- no slice of 64 indices is higher than 6
pub six_high : (b : BucketValue) (slice : ℕ) → 0 < slice → slice < 2 ^ 64 → height_of (tree_of_slice b slice) ≤ 6
six_high b slice s f = height_halved 6 b slice s f (omega arith)

-- ---- by the words of a half

-- a mask of the indices of a list fits
pub mask_fits : (mask n : ℕ) → mask < 2 ^ n → n ≤ 64 → mask < 2 ^ 64
mask_fits mask n l k = let p = power_le n 64 k in omega (arith, l, p)

-- an index of it is one of the list
pub place_within : (mask n i : ℕ) → mask < 2 ^ n → bit_at mask i ≡ 1 → i < n
place_within mask n i l e = grind (arith, common_steps, cases_lt, bit_at_above)

-- two indices that differ are several
pub several_of : (mask low high : ℕ) → 0 < mask → mask < 2 ^ 64 → low ≡ lowest_of mask → high ≡ highest_of mask
    → ¬ (low ≡ high) → lowest_of mask < highest_of mask
several_of mask low high s f e g n = grind (arith, common_steps, one_or_several)

-- a fork is over several indices
pub several_of_fork : (b : BucketValue) (slice : ℕ) → 0 < slice → slice < 2 ^ 64 → IsFork (tree_of_slice b slice)
    → lowest_of slice < highest_of slice
several_of_fork b slice s f h = grind (arith, common_steps, one_or_several, leaf_is)

-- no slice is higher than a half may be
pub low_enough : (b : BucketValue) (slice : ℕ) → 0 < slice → slice < 2 ^ 64 → height_of (tree_of_slice b slice) ≤ 63
low_enough b slice s f = height_to 63 b slice s f (omega arith)
