-- The chain of points after one was removed, by the masks of the vertices before it and after it.
use Rattle.std.proofs.Common.{◌≡◌, ℕ, ◌+◌, ◌*◌, ◌%◌, ◌/◌, ◌^◌, ◌<◌, sym, ap, ◌∙◌, subst, arith, ◌⊎◌, inl, inr}
use Rattle.std.proofs.Common.{List, [], ◌∷◌, ◌++◌, length, take, drop, zero, suc}
use Rattle.std.proofs.lemmas.List.{length-take-le}
use Rattle.std.proofs.lemmas.List.Elements.{All-head, All-tail}
use Rattle.std.proofs.lemmas.Nat.{shr_split, mod_below, pow_pos, mod_low, shr-shr}
use Rattle.std.specs.List.{Contains}
use Rattle.lattice.specs.Covers.{IsPointSet}
use Rattle.lattice.specs.Plane.{Pair, IsBefore}
use Rattle.lattice.specs.declared.side.Side.{Side}
use Rattle.lattice.proofs.Order.{before_trans}
use Rattle.hull_geometry.specs.Monotone.{IsChainOf, IsInner, IsConvex}
use Rattle.hull_geometry.specs.Positions.{point_at}
use Rattle.hull_geometry.proofs.Mended.{delete_same}
use Rattle.hull_geometry.proofs.Passes.{convex_left, convex_right}
use Rattle.hull_geometry.proofs.PointLists.{all_of, append_none}
use Rattle.hull_geometry.proofs.PointSets.{set_right}
use Rattle.hull_geometry.proofs.SetLaws.{members_without}
use Rattle.hull_buckets.specs.Buckets.{AreEnds, IsAmid, IsMaskOf, WasMaskOf}
use Rattle.hull_buckets.specs.Masks.{at_places, kept_before, without_place, AreApart}
use Rattle.hull_buckets.proofs.Joined.{inner_of_two}
use Rattle.hull_buckets.proofs.Around.{around, others_set, others_count, taken_away}
use Rattle.hull_buckets.proofs.Around.{between_lists, before_place, after_place}
use Rattle.hull_buckets.proofs.Places.{separated, none_at, at_among, together}
use Rattle.hull_buckets.proofs.Words.{next_power, sum_within, power_le}

-- ---- masks around an index

-- what is before the index, of the others
pub low_left : (S : List Pair) (mask k : ℕ) → k < length S
    → at_places (mask % 2 ^ k) (without_place k S) ≡ at_places (mask % 2 ^ k) (take k S)
low_left S mask k l =
    let n : length (take k S) ≡ k = length-take-le k S (omega (arith, l)) in
    let e : mask % 2 ^ k ≡ 0 * 2 ^ length (take k S) + mask % 2 ^ k = omega arith in
    ap (λ (m : ℕ). at_places m (without_place k S)) e
    ∙ separated (take k S) (drop (k + 1) S) 0 (mask % 2 ^ k)
    (subst (λ (j : ℕ). mask % 2 ^ k < 2 ^ j) (sym n) (mod_below mask (2 ^ k) (pow_pos k)))
    ∙ ap (λ (z : List Pair). at_places (mask % 2 ^ k) (take k S) ++ z) (none_at (drop (k + 1) S))
    ∙ sym (append_none (at_places (mask % 2 ^ k) (take k S)))

-- and after it
pub high_left : (S : List Pair) (high k : ℕ) → k < length S
    → at_places (high * 2 ^ k) (without_place k S) ≡ at_places high (drop (k + 1) S)
high_left S high k l =
    let n : length (take k S) ≡ k = length-take-le k S (omega (arith, l)) in
    let e : high * 2 ^ k ≡ high * 2 ^ k + 0 = omega arith in
    ap (λ (m : ℕ). at_places m (without_place k S)) e
    ∙ ap (λ (j : ℕ). at_places (high * 2 ^ j + 0) (without_place k S)) (sym n)
    ∙ separated (take k S) (drop (k + 1) S) high 0 (pow_pos (length (take k S)))
    ∙ ap (λ (z : List Pair). z ++ at_places high (drop (k + 1) S)) (none_at (take k S))

-- the points at the indices of a mask are those of the others before the index, the one there if its bit is set, and those of the others after it,
-- whose indices are moved down
pub with_place : (S : List Pair) (mask k : ℕ) → k < length S
    → at_places mask S ≡ at_places (mask % 2 ^ k) (without_place k S)
    ++ kept_before (mask / 2 ^ k % 2) (point_at S k) (at_places (mask / 2 ^ (k + 1) * 2 ^ k) (without_place k S))
with_place S mask k l =
    let n : length (take k S) ≡ k = length-take-le k S (omega (arith, l)) in
    ap (at_places mask) (around S k l)
    ∙ ap (λ (m : ℕ). at_places m (take k S ++ point_at S k ∷ drop (k + 1) S)) (sym (shr_split mask k))
    ∙ ap (λ (j : ℕ). at_places (mask / 2 ^ k * 2 ^ j + mask % 2 ^ k) (take k S ++ point_at S k ∷ drop (k + 1) S)) (sym
    n)
    ∙ separated (take k S) (point_at S k ∷ drop (k + 1) S) (mask / 2 ^ k) (mask % 2 ^ k)
    (subst (λ (j : ℕ). mask % 2 ^ k < 2 ^ j) (sym n) (mod_below mask (2 ^ k) (pow_pos k)))
    ∙ ap (λ (z : List Pair). z ++ kept_before (mask / 2 ^ k % 2) (point_at S k) (at_places (mask / 2 ^ k / 2) (drop (k
    + 1) S)))
    (sym (low_left S mask k l))
    ∙ ap (λ (z : List Pair). at_places (mask % 2 ^ k) (without_place k S) ++ kept_before (mask / 2 ^ k % 2) (point_at S
    k) z)
    (ap (λ (m : ℕ). at_places m (drop (k + 1) S)) (shr-shr mask k 1) ∙ sym (high_left S (mask / 2 ^ (k + 1)) k l))

-- what is moved down stays within the others
pub moved_down_within : (mask k n : ℕ) → mask < 2 ^ (n + 1) → mask / 2 ^ (k + 1) * 2 ^ k < 2 ^ n
moved_down_within mask k n l =
    let s = shr_split mask (k + 1) in
    let e : mask / 2 ^ (k + 1) * 2 ^ (k + 1) ≡ mask / 2 ^ (k + 1) * 2 ^ k * 2 =
    ap (λ (z : ℕ). mask / 2 ^ (k + 1) * z) (next_power k) ∙ assoc (mask / 2 ^ (k + 1)) (2 ^ k) in
    let p = next_power n in
    omega (arith, s, e, p, l)
  where
    assoc : (a b : ℕ) → a * (b * 2) ≡ a * b * 2
    assoc a b = grind arith

-- ---- the new chain

module _ (side : Side) (S : List Pair) (old k : ℕ) (ordered : IsPointSet S) (l : k < length S)
    (mask : IsMaskOf side S old) where
  -- the others
  abbrev rest : List Pair
  rest = without_place k S

  -- the vertices before the point
  abbrev left : List Pair
  left = at_places (old % 2 ^ k) rest

  -- and those after it
  abbrev right : List Pair
  right = at_places (old / 2 ^ (k + 1) * 2 ^ k) rest

  -- there is none after it before its index
  pub high_from : (old / 2 ^ (k + 1) * 2 ^ k) % 2 ^ k ≡ 0
  high_from = let z : old / 2 ^ (k + 1) * 2 ^ k ≡ old / 2 ^ (k + 1) * 2 ^ k + 0 = omega arith in
      ap (λ (n : ℕ). n % 2 ^ k) z ∙ mod_low (old / 2 ^ (k + 1)) k 0 (pow_pos k)

  -- all indices of the one mask are before all of the other
  pub are_apart : AreApart (old % 2 ^ k) (old / 2 ^ (k + 1) * 2 ^ k)
  are_apart = (k, mod_below old (2 ^ k) (pow_pos k), high_from)

  -- and within the others
  pub low_within : old % 2 ^ k < 2 ^ length rest
  low_within = let b = mod_below old (2 ^ k) (pow_pos k) in
      let n = others_count S k l in
      let p = power_le k (length rest) (omega (arith, l, n)) in omega (arith, b, p)

  pub high_within : old / 2 ^ (k + 1) * 2 ^ k < 2 ^ length rest
  high_within = moved_down_within old k (length rest) (subst (λ (n : ℕ). old < 2 ^ n) (sym (others_count S k l))
      mask.within)

  -- the vertices before the point are before it
  before_it : (t : Pair) → Contains left t → IsBefore t (point_at S k)
  before_it t m = before_place S k t ordered l
      (at_among (old % 2 ^ k) (take k S) t (subst (λ (z : List Pair). Contains z t) (low_left S old k l) m))

  after_it : (t : Pair) → Contains right t → IsBefore (point_at S k) t
  after_it t m = after_place S k t ordered l
      (at_among (old / 2 ^ (k + 1)) (drop (k + 1) S) t
      (subst (λ (z : List Pair). Contains z t) (high_left S (old / 2 ^ (k + 1)) k l) m))

  -- the old chain, by whether the point is on it
  old_chain : IsChainOf side S (left ++ kept_before (old / 2 ^ k % 2) (point_at S k) right)
  old_chain = subst (IsChainOf side S) (with_place S old k l) mask.chain

  -- the parts are convex
  pub left_convex : IsConvex side left
  left_convex = convex_left side left (kept_before (old / 2 ^ k % 2) (point_at S k) right) old_chain.strict.convex

  pub right_convex : IsConvex side right
  right_convex = go (old / 2 ^ k % 2)
      (convex_right side left (kept_before (old / 2 ^ k % 2) (point_at S k) right) old_chain.strict.convex)
    where
      go : (n : ℕ) → IsConvex side (kept_before n (point_at S k) right) → IsConvex side right
      go zero h = h
      go (suc n) h = convex_right side (point_at S k ∷ []) right h

  -- if the point was no vertex, the chain stays
  pub stays : old / 2 ^ k % 2 ≡ 0 → IsMaskOf side rest (old % 2 ^ k + old / 2 ^ (k + 1) * 2 ^ k)
  stays none = record {
    within = sum_within (old % 2 ^ k) (old / 2 ^ (k + 1) * 2 ^ k) (length rest) are_apart low_within high_within;
    chain = subst (IsChainOf side rest)
        (sym (together rest (old % 2 ^ k) (old / 2 ^ (k + 1) * 2 ^ k) are_apart high_within low_within))
        (delete_same side rest S (left ++ right) (point_at S k) (length left) ordered
        (between_lists left right (point_at S k) before_it after_it) (taken_away S k ordered l)
        (subst (λ (n : ℕ). IsChainOf side S (left ++ kept_before n (point_at S k) right)) none old_chain));
  }

  -- otherwise the vertices before it and after it are the ends of the others
  pub ends : old / 2 ^ k % 2 ≡ 1 → AreEnds side rest (old % 2 ^ k) (old / 2 ^ (k + 1) * 2 ^ k)
  ends one = record {
    apart = are_apart;
    low_within = low_within;
    high_within = high_within;
    low_convex = left_convex;
    high_convex = right_convex;
    others = λ t m. among t
        ((members_without (point_at S k) t S ordered).0
        (subst (λ (z : List Pair). Contains z t) (taken_away S k ordered l) m));
  }
    where
      whole : IsChainOf side S (left ++ point_at S k ∷ right)
      whole = subst (λ (n : ℕ). IsChainOf side S (left ++ kept_before n (point_at S k) right)) one old_chain

      after : IsPointSet (point_at S k ∷ right)
      after = set_right left (point_at S k ∷ right) whole.strict.ordered

      among : (t : Pair) → Contains S t × ¬ (t ≡ point_at S k)
          → IsInner side left t ⊎ (IsInner side right t ⊎ IsAmid left right t)
      among t (m, n) = elim (inner_of_two side left (point_at S k ∷ right) t whole.strict.ordered (whole.inner t m)) [
        | inl i ↦ inl i
        | inr (inl i) ↦ elim (inner_of_two side (point_at S k ∷ []) right t after i) [
          | inl j ↦ absurd (elim j [ inl e ↦ n e | inr e ↦ e ])
          | inr (inl j) ↦ inr (inl j)
          | inr (inr a) ↦ inr (inr (
            all_of (λ u. IsBefore u t) left
                (λ u o. before_trans u (point_at S k) t (before_it u o)
                (All-head (λ u. IsBefore u t) (point_at S k) [] a.0)),
            a.1,
          ))
        ]
        | inr (inr a) ↦ inr (inr (a.0, All-tail (IsBefore t) (point_at S k) right a.1))
      ]

-- what is known of the masks of the vertices before a removed point and after it
pub record AreLeft (side : Side) (T : List Pair) (old k low high : ℕ) : Type 0 where
  pub ordered : IsPointSet T
  pub apart : AreApart low high
  pub stays : old / 2 ^ k % 2 ≡ 0 → IsMaskOf side T (low + high)
  pub ends : old / 2 ^ k % 2 ≡ 1 → AreEnds side T low high

-- those of the old mask
pub left_of : (side : Side) (T : List Pair) (old k low high : ℕ) → WasMaskOf side T k old → low ≡ old % 2 ^ k
    → high ≡ old / 2 ^ (k + 1) * 2 ^ k → AreLeft side T old k low high
left_of side T old k low high w e f =
    subst (λ (z : ℕ). AreLeft side T old k z high) (sym e)
    (subst (AreLeft side T old k (old % 2 ^ k)) (sym f)
    (subst (λ (z : List Pair). AreLeft side z old k (old % 2 ^ k) (old / 2 ^ (k + 1) * 2 ^ k)) (sym w.left) (record {
      ordered = others_set w.old k w.ordered w.within;
      apart = are_apart side w.old old k w.ordered w.within w.vertices;
      stays = stays side w.old old k w.ordered w.within w.vertices;
      ends = ends side w.old old k w.ordered w.within w.vertices;
    })))
