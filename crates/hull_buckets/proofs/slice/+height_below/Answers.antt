-- each half is lower by one at least
use Rattle.std.proofs.Common.{◌≡◌, ◌<◌, ◌+◌, ◌^◌, ℕ, [], sym, ap, ◌∙◌, arith}
use Rattle.std.specs.Prelude.{max}
use Rattle.bridge_search.specs.Trees.{height_of}
use Rattle.hull_buckets.specs.Buckets.{BucketValue}
use Rattle.hull_buckets.specs.Masks.{lowest_of, highest_of}
use Rattle.hull_buckets.specs.Slices.{left_slice, right_slice, split_of, tree_of_slice}
use Rattle.std.proofs.lemmas.Nat.{shr_split}
use Rattle.hull_buckets.proofs.Halvings.{left_some, right_some}
use Rattle.hull_buckets.proofs.SliceTrees.{several_of, fork_is, low_enough}
use Rattle.hull_buckets.proofs.slice.+height_below.Goals as goal

pub halves_of-left-requires-clause-several : goal.halves_of-left-requires-clause-several
halves_of-left-requires-clause-several t c =
    several_of c.args.mask c.lowest.result c.highest.result c.requires c.ranges.mask.fits c.lowest.ensures.value
    c.highest.ensures.value c.if-lowest-highest.false

-- neither half is the whole slice, since the other has an index
smaller : (mask low high left right : ℕ) → 0 < mask → mask < 2 ^ 64 → low ≡ lowest_of mask → high ≡ highest_of mask
    → ¬ (low ≡ high) → left ≡ left_slice mask → right ≡ right_slice mask
    → (left < mask) × (0 < left) × (right < mask) × (0 < right)
smaller mask low high left right s f e g n l r =
    let w = several_of mask low high s f e g n in
    let a = left_some mask s f w in
    let b = right_some mask s f w in
    let d = shr_split mask (split_of mask) in
    (omega (arith, a, b, d, l, r), omega (arith, a, l), omega (arith, a, b, d, l, r), omega (arith, b, r))

pub height_below-requires : goal.height_below-requires
height_below-requires t c =
    let h = smaller c.args.mask c.lowest.result c.highest.result c.halves_of-left.result.0 c.halves_of-left.result.1
    c.requires c.ranges.mask.fits c.lowest.ensures.value c.highest.ensures.value c.if-lowest-highest.false
    c.halves_of-left.ensures.left c.halves_of-left.ensures.right in
    let d = h.0 in
    (omega (arith, d, c.decreases), h.1)

pub height_below-requires-2 : goal.height_below-requires-2
height_below-requires-2 t c =
    let h = smaller c.args.mask c.lowest.result c.highest.result c.halves_of-left.result.0 c.halves_of-left.result.1
    c.requires c.ranges.mask.fits c.lowest.ensures.value c.highest.ensures.value c.if-lowest-highest.false
    c.halves_of-left.ensures.left c.halves_of-left.ensures.right in
    let d = h.2 in
    (omega (arith, d, c.decreases), h.3)

-- the height of a slice of several indices, by those of its halves
over : (b : BucketValue) (mask low high left right x y : ℕ) → 0 < mask → mask < 2 ^ 64 → low ≡ lowest_of mask
    → high ≡ highest_of mask → ¬ (low ≡ high) → left ≡ left_slice mask → right ≡ right_slice mask
    → x ≡ height_of (tree_of_slice b left) → y ≡ height_of (tree_of_slice b right)
    → max x y + 1 ≡ height_of (tree_of_slice b mask)
over b mask low high left right x y s f e g n l r p q =
    let w = several_of mask low high s f e g n in
    ap (λ (k : ℕ). max k y + 1) (p ∙ ap (λ (m : ℕ). height_of (tree_of_slice b m)) l)
    ∙ ap (λ (k : ℕ). max (height_of (tree_of_slice b (left_slice mask))) k + 1)
    (q ∙ ap (λ (m : ℕ). height_of (tree_of_slice b m)) r)
    ∙ sym (ap height_of (fork_is b mask s f w))

-- a bucket of nothing
nothing : BucketValue
nothing = record { points = []; multiplicities = []; lower = 0; upper = 0 }

pub overflow_add-result : goal.overflow_add-result
overflow_add-result t c =
    let o = over nothing c.args.mask c.lowest.result c.highest.result c.halves_of-left.result.0
    c.halves_of-left.result.1 c.height_below.result c.height_below-2.result c.requires c.ranges.mask.fits
    c.lowest.ensures.value c.highest.ensures.value c.if-lowest-highest.false c.halves_of-left.ensures.left
    c.halves_of-left.ensures.right (c.height_below.ensures nothing) (c.height_below-2.ensures nothing) in
    let l = low_enough nothing c.args.mask c.requires c.ranges.mask.fits in
    omega (arith, o, l, c.max.ensures)

pub returns : goal.returns
returns t c = λ b.
    let o = over b c.args.mask c.lowest.result c.highest.result c.halves_of-left.result.0
    c.halves_of-left.result.1 c.height_below.result c.height_below-2.result c.requires c.ranges.mask.fits
    c.lowest.ensures.value c.highest.ensures.value c.if-lowest-highest.false c.halves_of-left.ensures.left
    c.halves_of-left.ensures.right (c.height_below.ensures b) (c.height_below-2.ensures b) in
    omega (arith, o, c.max.ensures)
