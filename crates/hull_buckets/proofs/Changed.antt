-- The value of a bucket after a point was added or removed.
use Rattle.std.proofs.lemmas.Grind.{common_steps}
use Rattle.std.proofs.Common.{◌≡◌, ℕ, ◌+◌, ◌-◌, ◌<◌, ◌≤◌, ◌⊎◌, inl, inr, sym, ap, ◌∙◌, subst, arith, refl, Err, zero}
use Rattle.std.proofs.Common.{suc}
use Rattle.std.proofs.Common.{List, [], ◌∷◌, ◌++◌, length, take, drop, slice_set, length-set, length-append}
use Rattle.std.proofs.Common.{length-drop}
use Rattle.std.proofs.lemmas.List.{length-take-le}
use Rattle.std.proofs.lemmas.List.Edits.{length-insert, length-remove}
use Rattle.std.proofs.lemmas.List.Elements.{All-append, All-cons, All-take, All-drop, All-set}
use Rattle.std.proofs.lemmas.List.Elements.{Contains-append_cases, Contains-append_left, Contains-append_right}
use Rattle.std.specs.List.{All, Contains, insert, remove}
use Rattle.lattice.specs.Bridges.{IsAllBefore}
use Rattle.lattice.specs.Covers.{IsPointSet, with_point, without_point}
use Rattle.lattice.specs.Plane.{Pair}
use Rattle.lattice.specs.declared.side.Side.{Side}
use Rattle.lattice.specs.declared.side.Side.TheVariants.{Lower, Upper}
use Rattle.hull_geometry.specs.Positions.{IsPositionOf, point_at}
use Rattle.hull_geometry.proofs.ChangedSets.{set-insert}
use Rattle.hull_geometry.proofs.PointLists.{cut, later}
use Rattle.hull_geometry.proofs.PointSets.{same_set, set_append, set_left}
use Rattle.hull_geometry.proofs.SetLaws.{members_with, ordered_with}
use Rattle.hull_buckets.specs.Buckets.{BucketValue, IsBucket, IsMaskOf, WasMaskOf, IsMultiplicity, mask_on}
use Rattle.hull_buckets.specs.Masks.{without_place}
use Rattle.hull_buckets.specs.declared.TheConstants.{BUCKET_SIZE}
use Rattle.hull_buckets.proofs.Around.{take_front, drop_past, others_set, taken_away}

-- ---- lists

-- a point inserted at its index makes a set
pub insert_is : (S : List Pair) (p : Pair) (i : ℕ) → IsPointSet S → IsPositionOf S p (Err i)
    → insert S i p ≡ with_point p S
insert_is S p i s at =
    same_set (insert S i p) (with_point p S)
    (set-insert p (take i S) (drop i S) (subst IsPointSet whole s) at.1 at.2) (ordered_with p S s)
    (λ t m. (members_with p t S).1 (there t (Contains-append_cases (take i S) (p ∷ drop i S) t m)))
    (λ t m. back t ((members_with p t S).0 m))
  where
    whole : S ≡ take i S ++ drop i S
    whole = cut S i at.0

    after : (t : Pair) → Contains (p ∷ drop i S) t → (t ≡ p) ⊎ Contains S t
    after t (zero, l, e) = inl (sym e)
    after t (suc k, l, e) = inr (subst (λ (z : List Pair). Contains z t) (sym whole)
        (Contains-append_right (take i S) (drop i S) t (k, omega (arith, l), e)))

    there : (t : Pair) → Contains (take i S) t ⊎ Contains (p ∷ drop i S) t → (t ≡ p) ⊎ Contains S t
    there t (inl m) = inr (subst (λ (z : List Pair). Contains z t) (sym whole)
        (Contains-append_left (take i S) (drop i S) t m))
    there t (inr m) = after t m

    back : (t : Pair) → (t ≡ p) ⊎ Contains S t → Contains (insert S i p) t
    back t (inl e) = Contains-append_right (take i S) (p ∷ drop i S) t (0, omega arith, sym e)
    back t (inr m) = elim (Contains-append_cases (take i S) (drop i S) t (subst (λ (z : List Pair). Contains z t) whole
        m)) [
          | inl n ↦ Contains-append_left (take i S) (p ∷ drop i S) t n
          | inr n ↦ Contains-append_right (take i S) (p ∷ drop i S) t (later p t (drop i S) n)
        ]

-- without it the list is what it was
pub insert_undone : (S : List Pair) (p : Pair) (i : ℕ) → i ≤ length S → without_place i (insert S i p) ≡ S
insert_undone S p i l =
    let n : length (take i S) ≡ i = length-take-le i S l in
    ap (λ (k : ℕ). take k (insert S i p) ++ drop (i + 1) (insert S i p)) (sym n)
    ∙ ap (λ (z : List Pair). z ++ drop (i + 1) (insert S i p)) (take_front (take i S) (p ∷ drop i S))
    ∙ ap (λ (k : ℕ). take i S ++ drop (k + 1) (insert S i p)) (sym n)
    ∙ ap (λ (z : List Pair). take i S ++ z) (drop_past (take i S) p (drop i S)) ∙ sym (cut S i l)

-- a value removed from a list at its index
pub removed : (S : List Pair) (i : ℕ) → remove S i ≡ without_place i S
removed S i = let e : suc i ≡ i + 1 = omega arith in ap (λ (k : ℕ). take i S ++ drop k S) e

-- ---- both sides

-- what is so of either mask is so of the mask on each side
pub on_both : (b : BucketValue) → IsMaskOf Lower b.points b.lower → IsMaskOf Upper b.points b.upper → (side : Side)
    → IsMaskOf side b.points (mask_on side b)
on_both b m n Lower = m
on_both b m n Upper = n

-- what makes a bucket
pub made : (P : List Pair) (T : List ℕ) (lower upper : ℕ) → 0 < length P → length P ≤ BUCKET_SIZE → IsPointSet P
    → length T ≡ length P → All IsMultiplicity T → IsMaskOf Lower P lower → IsMaskOf Upper P upper
    → IsBucket (record { points = P; multiplicities = T; lower = lower; upper = upper })
made P T lower upper some few s counted held m n = grind (arith, common_steps, some, on_both)

-- the multiplicity of one point changed
pub held_anew : (b : BucketValue) (T : List ℕ) (i multiplicity : ℕ) → IsBucket b → IsMultiplicity multiplicity
    → T ≡ slice_set b.multiplicities i multiplicity
    → IsBucket (record { points = b.points; multiplicities = T; lower = b.lower; upper = b.upper })
held_anew b T i multiplicity k held e = record {
  some = k.some;
  few = k.few;
  ordered = k.ordered;
  counted = ap (λ (z : List ℕ). length z) e ∙ length-set b.multiplicities i multiplicity ∙ k.counted;
  held = subst (All IsMultiplicity) (sym e) (All-set IsMultiplicity b.multiplicities i multiplicity held k.held);
  vertices = on_both _ (k.vertices Lower) (k.vertices Upper);
}

-- ---- a point came

-- the new points are the old ones with it
pub grown_points : (S P : List Pair) (p : Pair) (i : ℕ) → IsPointSet S → IsPositionOf S p (Err i) → P ≡ insert S i p
    → P ≡ with_point p S
grown_points S P p i s at e = e ∙ insert_is S p i s at

-- they are in order
pub grown_set : (S P : List Pair) (p : Pair) (i : ℕ) → IsPointSet S → IsPositionOf S p (Err i) → P ≡ insert S i p
    → IsPointSet P
grown_set S P p i s at e = subst IsPointSet (sym (grown_points S P p i s at e)) (ordered_with p S s)

-- the old mask is that of the others
pub grown_mask : (side : Side) (S P : List Pair) (p : Pair) (i mask : ℕ) → IsPositionOf S p (Err i) → P ≡ insert S i p
    → IsMaskOf side S mask → IsMaskOf side (without_place i P) mask
grown_mask side S P p i mask at e m =
    subst (λ (z : List Pair). IsMaskOf side z mask) (sym (ap (without_place i) e ∙ insert_undone S p i at.0)) m

-- the bucket is one
pub grown : (b : BucketValue) (P : List Pair) (T : List ℕ) (p : Pair) (i multiplicity lower upper : ℕ) → IsBucket b
    → IsPositionOf b.points p (Err i) → length b.points < BUCKET_SIZE → IsMultiplicity multiplicity → P ≡ insert b.points i p
    → T ≡ insert b.multiplicities i multiplicity → IsMaskOf Lower P lower → IsMaskOf Upper P upper
    → IsBucket (record { points = P; multiplicities = T; lower = lower; upper = upper })
grown b P T p i multiplicity lower upper k at space held e f m n = record {
  some = omega (arith, count);
  few = omega (arith, count, space);
  ordered = grown_set b.points P p i k.ordered at e;
  counted = ap (λ (z : List ℕ). length z) f
      ∙ (let a = length-insert b.multiplicities i multiplicity (omega (arith, k.counted, at.0)) in omega (arith, a, count, k.counted));
  held = subst (All IsMultiplicity) (sym f)
      (All-append IsMultiplicity (take i b.multiplicities) (multiplicity ∷ drop i b.multiplicities)
      (All-take IsMultiplicity i b.multiplicities k.held)
      (All-cons IsMultiplicity multiplicity (drop i b.multiplicities) held (All-drop IsMultiplicity i b.multiplicities k.held)));
  vertices = on_both _ m n;
}
  where
    count : length P ≡ length b.points + 1
    count = ap (λ (z : List Pair). length z) e ∙ length-insert b.points i p at.0

-- ---- a point went

-- the masks were those of the points that are left and of it
pub was_mask : (side : Side) (b : BucketValue) (P : List Pair) (i : ℕ) (mask : ℕ) → IsBucket b → i < length b.points
    → P ≡ remove b.points i → IsMaskOf side b.points mask → WasMaskOf side P i mask
was_mask side b P i mask k l e m = grind (arith, common_steps, removed)

-- the points that are left are the old ones without it
pub shrunk_points : (S P : List Pair) (i : ℕ) → IsPointSet S → i < length S → P ≡ remove S i
    → P ≡ without_point (point_at S i) S
shrunk_points S P i s l e = e ∙ removed S i ∙ taken_away S i s l

-- the bucket is one
pub shrunk : (b : BucketValue) (P : List Pair) (T : List ℕ) (i lower upper : ℕ) → IsBucket b → i < length b.points
    → 1 < length b.points → P ≡ remove b.points i → T ≡ remove b.multiplicities i → IsMaskOf Lower P lower
    → IsMaskOf Upper P upper
    → IsBucket (record { points = P; multiplicities = T; lower = lower; upper = upper })
shrunk b P T i lower upper k l others e f m n = record {
  some = omega (arith, count, others);
  few = omega (arith, count, k.few);
  ordered = subst IsPointSet (sym (e ∙ removed b.points i)) (others_set b.points i k.ordered l);
  counted = ap (λ (z : List ℕ). length z) f
      ∙ (let a = length-remove b.multiplicities i (omega (arith, k.counted, l)) in omega (arith, a, count, k.counted));
  held = subst (All IsMultiplicity) (sym f)
      (All-append IsMultiplicity (take i b.multiplicities) (drop (suc i) b.multiplicities) (All-take IsMultiplicity i b.multiplicities k.held)
      (All-drop IsMultiplicity (suc i) b.multiplicities k.held));
  vertices = on_both _ m n;
}
  where
    count : length P + 1 ≡ length b.points
    count = ap (λ (z : List Pair). length z + 1) e ∙ length-remove b.points i l

-- ---- parts

module _ {X : Type 0} where
  -- the first of the first ones
  pub first_of_first : (m n : ℕ) (xs : List X) → m ≤ n → take m (take n xs) ≡ take m xs
  first_of_first zero n xs l = refl
  first_of_first (suc m) zero xs l = absurd (omega (arith, l))
  first_of_first (suc m) (suc n) [] l = refl
  first_of_first (suc m) (suc n) (x ∷ xs) l = ap (λ (z : List X). x ∷ z) (first_of_first m n xs (omega (arith, l)))

  -- all that are from an index on
  pub all_from : (m : ℕ) (xs : List X) → take (length xs - m) (drop m xs) ≡ drop m xs
  all_from m xs = let n = length-drop m xs in
      ap (λ (k : ℕ). take k (drop m xs)) (sym n) ∙ whole (drop m xs)
    where
      whole : (ys : List X) → take (length ys) ys ≡ ys
      whole [] = refl
      whole (y ∷ ys) = ap (λ (z : List X). y ∷ z) (whole ys)

-- the points of a bucket and those after it are in order
pub merged_set : (a : BucketValue) (more P : List Pair) → IsBucket a → IsPointSet more
    → IsAllBefore (Contains a.points) (Contains more) → P ≡ a.points ++ more → IsPointSet P
merged_set a more P k s order e =
    subst IsPointSet (sym e) (set_append a.points more k.ordered s (λ t u m n. order t u m n))

-- a bucket and points after it
pub merged : (a : BucketValue) (more P : List Pair) (more_multiplicities T : List ℕ) (lower upper : ℕ) → IsBucket a
    → IsPointSet more → length more_multiplicities ≡ length more → All IsMultiplicity more_multiplicities
    → IsAllBefore (Contains a.points) (Contains more) → length a.points + length more ≤ BUCKET_SIZE
    → P ≡ a.points ++ more → T ≡ a.multiplicities ++ more_multiplicities → IsMaskOf Lower P lower → IsMaskOf Upper P upper
    → IsBucket (record { points = P; multiplicities = T; lower = lower; upper = upper })
merged a more P more_multiplicities T lower upper k s counted held order space e f m n =
    made P T lower upper (omega (arith, count, k.some)) (omega (arith, count, space)) (merged_set a more P k s order e)
    (ap (λ (z : List ℕ). length z) f
    ∙ (let t = length-append a.multiplicities more_multiplicities in omega (arith, t, count, k.counted, counted)))
    (subst (All IsMultiplicity) (sym f) (All-append IsMultiplicity a.multiplicities more_multiplicities k.held held)) m n
  where
    count : length P ≡ length a.points + length more
    count = ap (λ (z : List Pair). length z) e ∙ length-append a.points more

-- the first points of a bucket are in order
pub cut_set : (b : BucketValue) (P : List Pair) (len : ℕ) → IsBucket b → len ≤ length b.points → P ≡ take len b.points
    → IsPointSet P
cut_set b P len k within e =
    subst IsPointSet (sym e)
    (set_left (take len b.points) (drop len b.points) (subst IsPointSet (cut b.points len within) k.ordered))

-- the first points of a bucket
pub cut_short : (b : BucketValue) (P : List Pair) (T : List ℕ) (len lower upper : ℕ) → IsBucket b → 0 < len
    → len ≤ length b.points → P ≡ take len b.points → T ≡ take len b.multiplicities → IsMaskOf Lower P lower
    → IsMaskOf Upper P upper → IsBucket (record { points = P; multiplicities = T; lower = lower; upper = upper })
cut_short b P T len lower upper k some within e f m n =
    made P T lower upper (omega (arith, count, some)) (omega (arith, count, within, k.few)) (cut_set b P len k within e)
    (ap (λ (z : List ℕ). length z) f
    ∙ (let t = length-take-le len b.multiplicities (omega (arith, within, k.counted)) in omega (arith, t, count)))
    (subst (All IsMultiplicity) (sym f) (All-take IsMultiplicity len b.multiplicities k.held)) m n
  where
    count : length P ≡ len
    count = ap (λ (z : List Pair). length z) e ∙ length-take-le len b.points within
