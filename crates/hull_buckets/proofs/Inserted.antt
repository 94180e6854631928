-- The chain of points of which the one at an index is new, by the masks of the vertices before it and after it.
use Rattle.std.proofs.Common.{◌≡◌, ℕ, ◌+◌, ◌*◌, ◌%◌, ◌/◌, ◌^◌, ◌<◌, sym, ap, ◌∙◌, subst, arith, Err}
use Rattle.std.proofs.Common.{List, [], ◌∷◌, ◌++◌, length, take, drop}
use Rattle.std.proofs.lemmas.List.{length-take-le}
use Rattle.std.proofs.lemmas.Nat.{shr_split, mod_below, pow_pos, mod_low}
use Rattle.std.specs.List.{Contains}
use Rattle.lattice.specs.Covers.{IsPointSet}
use Rattle.lattice.specs.Plane.{Pair}
use Rattle.lattice.specs.declared.side.Side.{Side}
use Rattle.hull_geometry.specs.Mending.{IsOverEdge}
use Rattle.hull_geometry.specs.Monotone.{IsChainOf, IsPassed, IsConvex}
use Rattle.hull_geometry.specs.Positions.{IsPositionOf, point_at}
use Rattle.hull_geometry.proofs.Mended.{put_in_same, put_in_new}
use Rattle.hull_geometry.proofs.Passes.{convex_left, convex_right}
use Rattle.hull_buckets.specs.Buckets.{IsMaskOf}
use Rattle.hull_buckets.specs.Masks.{at_places, without_place, AreApart}
use Rattle.hull_buckets.proofs.Around.{take_front, drop_front, others_count, put_back, between_lists}
use Rattle.hull_buckets.proofs.Around.{before_place, after_place}
use Rattle.hull_buckets.proofs.Places.{separated, low_at, high_at, at_among, together}
use Rattle.hull_buckets.proofs.Words.{divided, next_power, sum_within, power_le}

-- ---- masks around an index

-- the points of the others at the indices of a mask are those of the list if the indices from k on are moved up
pub with_gap : (S : List Pair) (mask k : ℕ) → k < length S
    → at_places mask (without_place k S)
    ≡ at_places (mask % 2 ^ k) S ++ at_places (mask / 2 ^ k * 2 ^ (k + 1)) S
with_gap S mask k l =
    let n : length (take k S) ≡ k = length-take-le k S (omega (arith, l)) in
    let low : mask % 2 ^ k < 2 ^ k = mod_below mask (2 ^ k) (pow_pos k) in
    ap (λ (m : ℕ). at_places m (without_place k S)) (sym (shr_split mask k))
    ∙ ap (λ (j : ℕ). at_places (mask / 2 ^ k * 2 ^ j + mask % 2 ^ k) (without_place k S)) (sym n)
    ∙ separated (take k S) (drop (k + 1) S) (mask / 2 ^ k) (mask % 2 ^ k)
    (subst (λ (j : ℕ). mask % 2 ^ k < 2 ^ j) (sym n) low)
    ∙ ap (λ (z : List Pair). z ++ at_places (mask / 2 ^ k) (drop (k + 1) S))
    (sym (low_at S k (mask % 2 ^ k) (omega (arith, l)) low))
    ∙ ap (λ (z : List Pair). at_places (mask % 2 ^ k) S ++ z) (sym (high_at S (k + 1) (mask / 2 ^ k) (omega (
      arith,
      l,
    ))))

-- what is moved up by one index stays below the next power
pub moved_within : (mask k n : ℕ) → mask < 2 ^ n → mask / 2 ^ k * 2 ^ (k + 1) < 2 ^ (n + 1)
moved_within mask k n l =
    let s = shr_split mask k in
    let e : mask / 2 ^ k * 2 ^ (k + 1) ≡ mask / 2 ^ k * 2 ^ k * 2 =
    ap (λ (z : ℕ). mask / 2 ^ k * z) (next_power k) ∙ assoc (mask / 2 ^ k) (2 ^ k) in
    let p = next_power n in
    omega (arith, s, e, p, l)
  where
    assoc : (a b : ℕ) → a * (b * 2) ≡ a * b * 2
    assoc a b = grind arith

-- ---- the new chain

module _ (side : Side) (S : List Pair) (old k : ℕ) (ordered : IsPointSet S) (l : k < length S)
    (mask : IsMaskOf side (without_place k S) old) where
  -- the vertices before the point
  abbrev left : List Pair
  left = at_places (old % 2 ^ k) S

  -- and those after it
  abbrev right : List Pair
  right = at_places (old / 2 ^ k * 2 ^ (k + 1)) S

  -- they are the old chain
  pub old_chain : IsChainOf side (without_place k S) (left ++ right)
  old_chain = subst (IsChainOf side (without_place k S)) (with_gap S old k l) mask.chain

  -- all indices of the one mask are before all of the other
  pub are_apart : AreApart (old % 2 ^ k) (old / 2 ^ k * 2 ^ (k + 1))
  are_apart = (k, mod_below old (2 ^ k) (pow_pos k), divided (old / 2 ^ k * 2 ^ (k + 1)) k (k + 1) (omega arith) none)
    where
      none : (old / 2 ^ k * 2 ^ (k + 1)) % 2 ^ (k + 1) ≡ 0
      none = let z : old / 2 ^ k * 2 ^ (k + 1) ≡ old / 2 ^ k * 2 ^ (k + 1) + 0 = omega arith in
          ap (λ (n : ℕ). n % 2 ^ (k + 1)) z ∙ mod_low (old / 2 ^ k) (k + 1) 0 (pow_pos (k + 1))

  -- there is none after it up to its own index
  pub high_after : (old / 2 ^ k * 2 ^ (k + 1)) % 2 ^ (k + 1) ≡ 0
  high_after = let z : old / 2 ^ k * 2 ^ (k + 1) ≡ old / 2 ^ k * 2 ^ (k + 1) + 0 = omega arith in
      ap (λ (n : ℕ). n % 2 ^ (k + 1)) z ∙ mod_low (old / 2 ^ k) (k + 1) 0 (pow_pos (k + 1))

  -- both are within the list
  pub low_within : old % 2 ^ k < 2 ^ length S
  low_within = let b = mod_below old (2 ^ k) (pow_pos k) in
      let p = power_le k (length S) (omega (arith, l)) in omega (arith, b, p)

  pub high_within : old / 2 ^ k * 2 ^ (k + 1) < 2 ^ length S
  high_within = subst (λ (n : ℕ). old / 2 ^ k * 2 ^ (k + 1) < 2 ^ n) (others_count S k l)
      (moved_within old k (length (without_place k S)) mask.within)

  -- the parts are convex
  pub left_convex : IsConvex side left
  left_convex = convex_left side left right old_chain.strict.convex

  pub right_convex : IsConvex side right
  right_convex = convex_right side left right old_chain.strict.convex

  -- where the point would be in the old chain
  pub position : IsPositionOf (left ++ right) (point_at S k) (Err (length left))
  position = between_lists left right (point_at S k)
      (λ t m. before_place S k t ordered l (at_among (old % 2 ^ k) (take k S) t
      (subst (λ (z : List Pair). Contains z t)
      (low_at S k (old % 2 ^ k) (omega (arith, l)) (mod_below old (2 ^ k) (pow_pos k))) m)))
      (λ t m. after_place S k t ordered l (at_among (old / 2 ^ k) (drop (k + 1) S) t
      (subst (λ (z : List Pair). Contains z t) (high_at S (k + 1) (old / 2 ^ k) (omega (arith, l))) m)))

  -- if the point is over an edge of the old chain, that edge stays
  pub stays : IsOverEdge side (left ++ right) (length left) (point_at S k)
      → IsMaskOf side S (old % 2 ^ k + old / 2 ^ k * 2 ^ (k + 1))
  stays over = record {
    within = sum_within (old % 2 ^ k) (old / 2 ^ k * 2 ^ (k + 1)) (length S) are_apart low_within high_within;
    chain = subst (IsChainOf side S)
        (sym (together S (old % 2 ^ k) (old / 2 ^ k * 2 ^ (k + 1)) are_apart high_within low_within))
        (subst (λ (z : List Pair). IsChainOf side z (left ++ right)) (put_back S k ordered l)
        (put_in_same side (without_place k S) (left ++ right) (point_at S k) (length left) position over old_chain));
  }

  -- otherwise the pass goes over the vertices before it, the point, and those after it
  pub comes : (new : ℕ) → ¬ (IsOverEdge side (left ++ right) (length left) (point_at S k))
      → IsPassed side (left ++ point_at S k ∷ [] ++ right) (at_places new S) → new < 2 ^ length S → IsMaskOf side S new
  comes new none passed within = record {
    within = within;
    chain = subst (λ (z : List Pair). IsChainOf side z (at_places new S)) (put_back S k ordered l)
        (put_in_new side (without_place k S) (left ++ right) (at_places new S) (point_at S k) (length left) position
        none
        (subst (λ (z : List Pair). IsPassed side (z ++ point_at S k ∷ [] ++ drop (length left) (left ++ right))
        (at_places new S))
        (sym (take_front left right))
        (subst (λ (z : List Pair). IsPassed side (left ++ point_at S k ∷ [] ++ z) (at_places new S))
        (sym (drop_front left right)) passed)) old_chain);
  }

-- what is known of the masks of the vertices before a point and after it
pub record AreBeside (side : Side) (S : List Pair) (k low high : ℕ) : Type 0 where
  pub apart : AreApart low high
  pub low_within : low < 2 ^ length S
  pub high_within : high < 2 ^ length S
  pub high_after : high % 2 ^ (k + 1) ≡ 0
  pub left_convex : IsConvex side (at_places low S)
  pub right_convex : IsConvex side (at_places high S)
  pub stays : IsOverEdge side (at_places low S ++ at_places high S) (length (at_places low S)) (point_at S k)
      → IsMaskOf side S (low + high)
  pub comes : (new : ℕ)
      → ¬ (IsOverEdge side (at_places low S ++ at_places high S) (length (at_places low S)) (point_at S k))
      → IsPassed side (at_places low S ++ point_at S k ∷ [] ++ at_places high S) (at_places new S) → new < 2 ^ length S
      → IsMaskOf side S new

-- those of the old mask
pub beside : (side : Side) (S : List Pair) (old k low high : ℕ) → IsPointSet S → k < length S
    → IsMaskOf side (without_place k S) old → low ≡ old % 2 ^ k → high ≡ old / 2 ^ k * 2 ^ (k + 1)
    → AreBeside side S k low high
beside side S old k low high s l m e f =
    subst (λ (z : ℕ). AreBeside side S k z high) (sym e)
    (subst (AreBeside side S k (old % 2 ^ k)) (sym f) (record {
      apart = are_apart side S old k s l m;
      low_within = low_within side S old k s l m;
      high_within = high_within side S old k s l m;
      high_after = high_after side S old k s l m;
      left_convex = left_convex side S old k s l m;
      right_convex = right_convex side S old k s l m;
      stays = stays side S old k s l m;
      comes = comes side S old k s l m;
    }))
