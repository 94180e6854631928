-- Points with their multiplicities, as one list and as two.
use Rattle.std.proofs.lemmas.Grind.{common_steps}
use Rattle.std.proofs.Common.{◌≡◌, ℕ, zero, suc, ◌+◌, refl, sym, ap, ◌∙◌, subst, List, [], ◌∷◌, ◌++◌}
use Rattle.std.proofs.Common.{length, take, drop, arith, get_or, ◌<◌, append_assoc}
use Rattle.std.specs.List.{All}
use Rattle.std.proofs.lemmas.List.Elements.{All-head, All-tail, All-cons}
use Rattle.std.proofs.lemmas.List.{take_more}
use Rattle.std.proofs.lemmas.List.Sums.{sum_by-cons}
use Rattle.lattice.specs.Plane.{Pair}
use Rattle.lattice.specs.Covers.{IsPointSet}
use Rattle.hull_set.proofs.HeldMultiplicities.{same_held}
use Rattle.leaf_trees.specs.Entries.{several, IsMultiplicity, AreEntries, points_listed, multiplicity_listed}
use Rattle.leaf_trees.specs.Entries.{held_listed}
use Rattle.bucket_tree.specs.Counts.{counted}
use Rattle.bucket_tree.specs.Lists.{paired, numbers_listed}

-- they are as many as the points
pub paired_length : (S : List Pair) (T : List ℕ) → length T ≡ length S → length (paired S T) ≡ length S
paired_length [] T e = refl
paired_length (p ∷ ps) [] e = absurd (omega (arith, e))
paired_length (p ∷ ps) (t ∷ ts) e = let r = paired_length ps ts (omega (arith, e)) in omega (arith, r)

-- two concatenated lists
pub paired_row : (S U : List Pair) (T V : List ℕ) → length T ≡ length S
    → paired (S ++ U) (T ++ V) ≡ paired S T ++ paired U V
paired_row [] U [] V e = refl
paired_row [] U (t ∷ ts) V e = absurd (omega (arith, e))
paired_row (p ∷ ps) U [] V e = absurd (omega (arith, e))
paired_row (p ∷ ps) U (t ∷ ts) V e = ap (λ (z : List (Pair × ℕ)). (p, t) ∷ z) (paired_row ps U ts V (omega (arith, e)))

-- the first so many
pub paired_take : (n : ℕ) (S : List Pair) (T : List ℕ) → paired (take n S) (take n T) ≡ take n (paired S T)
paired_take zero S T = refl
paired_take (suc n) [] T = refl
paired_take (suc n) (p ∷ ps) [] = refl
paired_take (suc n) (p ∷ ps) (t ∷ ts) = ap (λ (z : List (Pair × ℕ)). (p, t) ∷ z) (paired_take n ps ts)

-- and those after them
pub paired_drop : (n : ℕ) (S : List Pair) (T : List ℕ) → length T ≡ length S
    → paired (drop n S) (drop n T) ≡ drop n (paired S T)
paired_drop zero S T e = refl
paired_drop (suc n) [] [] e = refl
paired_drop (suc n) [] (t ∷ ts) e = refl
paired_drop (suc n) (p ∷ ps) [] e = absurd (omega (arith, e))
paired_drop (suc n) (p ∷ ps) (t ∷ ts) e = paired_drop n ps ts (omega (arith, e))

-- the one at an index
pub paired_get : (S : List Pair) (T : List ℕ) (i : ℕ) (p : Pair) (d : Pair × ℕ) → i < length S → length T ≡ length S
    → get_or (paired S T) i d ≡ (get_or S i p, get_or T i 0)
paired_get [] T i p d l e = absurd (omega (arith, l))
paired_get (x ∷ xs) [] i p d l e = absurd (omega (arith, e))
paired_get (x ∷ xs) (t ∷ ts) zero p d l e = refl
paired_get (x ∷ xs) (t ∷ ts) (suc i) p d l e = paired_get xs ts i p d (omega (arith, l)) (omega (arith, e))

-- one more of them
paired_step : (S : List Pair) (T : List ℕ) (i : ℕ) (p : Pair) (n : ℕ) → i < length S → length T ≡ length S
    → p ≡ get_or S i p → n ≡ get_or T i 0
    → paired (take (i + 1) S) (take (i + 1) T) ≡ paired (take i S) (take i T) ++ (p, n) ∷ []
paired_step S T i p n l e f g =
    let k : i < length (paired S T) = omega (arith, l, paired_length S T e) in
    paired_take (i + 1) S T ∙ take_more (paired S T) i (p, n) k
    ∙ ap (λ (z : List (Pair × ℕ)). z ++ get_or (paired S T) i (p, n) ∷ []) (sym (paired_take i S T))
    ∙ ap (λ (z : Pair × ℕ). paired (take i S) (take i T) ++ z ∷ [])
    (paired_get S T i p (p, n) l e ∙ (λ k. (sym f k, sym g k)))

-- with one more pushed after those that were there
pub paired_more : (S : List Pair) (T : List ℕ) (i : ℕ) (p : Pair) (n : ℕ) (old now : List (Pair × ℕ)) → i < length S
    → length T ≡ length S → p ≡ get_or S i p → n ≡ get_or T i 0 → now ≡ old ++ paired (take i S) (take i T)
    → now ++ (p, n) ∷ [] ≡ old ++ paired (take (i + 1) S) (take (i + 1) T)
paired_more S T i p n old now l e f g h = grind (arith, common_steps, append_assoc, paired, paired_step)

-- their points
pub paired_points : (S : List Pair) (T : List ℕ) → length T ≡ length S → points_listed (paired S T) ≡ S
paired_points [] T e = refl
paired_points (p ∷ ps) [] e = absurd (omega (arith, e))
paired_points (p ∷ ps) (t ∷ ts) e = ap (λ (z : List Pair). p ∷ z) (paired_points ps ts (omega (arith, e)))

-- the set that they list
pub paired_multiplicity : (S : List Pair) (T : List ℕ) (q : Pair) → multiplicity_listed (paired S T) q ≡ counted S T q
paired_multiplicity [] T q = refl
paired_multiplicity (p ∷ ps) [] q = refl
paired_multiplicity (p ∷ ps) (t ∷ ts) q =
    sum_by-cons (λ (e : Pair × ℕ). several e.1 e.0 q) (p, t) (paired ps ts)
    ∙ ap (λ (n : ℕ). several t p q + n) (paired_multiplicity ps ts q)

-- each with a multiplicity that a point may have
pub paired_held : (S : List Pair) (T : List ℕ) → All IsMultiplicity T
    → All (λ (e : Pair × ℕ). IsMultiplicity e.1) (paired S T)
paired_held [] T a = λ k d l. absurd (omega (arith, l))
paired_held (p ∷ ps) [] a = λ k d l. absurd (omega (arith, l))
paired_held (p ∷ ps) (t ∷ ts) a = All-cons (λ (e : Pair × ℕ). IsMultiplicity e.1) (p, t) (paired ps ts)
    (All-head IsMultiplicity t ts a) (paired_held ps ts (All-tail IsMultiplicity t ts a))

-- entries are their points and their numbers
pub paired_again : (es : List (Pair × ℕ)) → paired (points_listed es) (numbers_listed es) ≡ es
paired_again [] = refl
paired_again (e ∷ es) = ap (λ (z : List (Pair × ℕ)). (e.0, e.1) ∷ z) (paired_again es)

-- the numbers are as many as the entries
pub numbers_length : (es : List (Pair × ℕ)) → length (numbers_listed es) ≡ length es
numbers_length [] = refl
numbers_length (e ∷ es) = let r = numbers_length es in omega (arith, r)

-- the numbers of entries are multiplicities that a point may have
pub numbers_held : (es : List (Pair × ℕ)) → All (λ (e : Pair × ℕ). IsMultiplicity e.1) es
    → All IsMultiplicity (numbers_listed es)
numbers_held [] a = λ k d l. absurd (omega (arith, l))
numbers_held (e ∷ es) a = All-cons IsMultiplicity e.1 (numbers_listed es)
    (All-head (λ (e : Pair × ℕ). IsMultiplicity e.1) e es a)
    (numbers_held es (All-tail (λ (e : Pair × ℕ). IsMultiplicity e.1) e es a))

-- ---- points in order, each with its multiplicity

module _ (S : List Pair) (T : List ℕ) (s : IsPointSet S) (e : length T ≡ length S) (a : All IsMultiplicity T) where
  -- they are entries
  pub paired_entries : AreEntries (paired S T)
  paired_entries = record {
    in_order = subst IsPointSet (sym (paired_points S T e)) s;
    held = paired_held S T a;
  }

  -- which list the same set as the two lists
  pub paired_hold : (f : Pair → ℕ) → ((q : Pair) → f q ≡ counted S T q)
      → held_listed (paired S T) ≡ record { points = S; multiplicities = f }
  paired_hold f g = same_held (points_listed (paired S T)) S (λ q. multiplicity_listed (paired S T) q) f (paired_points S T e)
      (λ q. paired_multiplicity S T q ∙ sym (g q))
