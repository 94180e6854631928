-- A point that is added to one of two nodes in a row.
use Rattle.std.proofs.lemmas.Grind.{common_steps}
use Rattle.std.proofs.Common.{◌≡◌, ℕ, ◌+◌, ◌<◌, true, false, Bool, refl, sym, ap, ◌∙◌, subst, List, [], ◌∷◌, ◌++◌}
use Rattle.std.proofs.Common.{length, take, ◌-◌, arith}
use Rattle.std.proofs.Common.{inl, inr, length-append}
use Rattle.std.specs.List.{All}
use Rattle.std.proofs.lemmas.List.Elements.{All-cons}
use Rattle.lattice.specs.Covers.{IsPointSet, with_point}
use Rattle.lattice.specs.Plane.{Pair, IsBefore}
use Rattle.lattice.proofs.Order.{before_trans, before_total}
use Rattle.hull_geometry.specs.Positions.{first_of}
use Rattle.hull_geometry.proofs.PointLists.{AllPairs-head, all_of}
use Rattle.hull_geometry.proofs.PointSets.{set_right, set_apart}
use Rattle.std.proofs.lemmas.List.Elements.{All-weaker}
use Rattle.hull_set.specs.Held.{once}
use Rattle.bucket_tree.specs.Counts.{counted, multiplicity_at}
use Rattle.bucket_tree.specs.declared.node.Node.{Node, Leaf, Fork', Taken}
use Rattle.bucket_tree.specs.Nodes.{points_below, multiplicities_below, HasBuckets}
use Rattle.std.specs.Prelude.{IsTrue, get_or}
use Rattle.hull_geometry.proofs.PointLists.{get_or_free}
use Rattle.bucket_tree.proofs.Rows.{counted_row}
use Rattle.std.proofs.Math.Seq.{take-length}
use Rattle.hull_geometry.proofs.FoundPositions.{below_up_to}
use Rattle.hull_geometry.proofs.PointLists.{append_none}
use Rattle.leaf_trees.proofs.Rows.{with_left, with_right}

-- ---- lists

-- what is before the first of the second list is before all of it
pub all_after : (p : Pair) (xs ys : List Pair) → IsPointSet (xs ++ ys) → IsBefore p (first_of ys)
    → All (IsBefore p) ys
all_after p xs [] s b = λ k d l. absurd (omega (arith, l))
all_after p xs (y ∷ ys) s b = All-cons (IsBefore p) y ys b
    (All-weaker (IsBefore y) (IsBefore p) (λ t c. before_trans p y t b c) ys
    (AllPairs-head y ys (set_right xs (y ∷ ys) s)))

-- what is not is after all of the first
pub all_before : (p : Pair) (xs ys : List Pair) → IsPointSet (xs ++ ys) → 0 < length ys → ¬ IsBefore p (first_of ys)
    → All (λ t. IsBefore t p) xs
all_before p xs [] s l n = absurd (omega (arith, l))
all_before p xs (y ∷ ys) s l n = all_of (λ t. IsBefore t p) xs (λ t m.
    let b = set_apart xs (y ∷ ys) t y s m (0, omega arith, refl) in
    elim (before_total p y) [
      | inl h ↦ absurd (n h)
      | inr (inl e) ↦ subst (IsBefore t) (sym e) b
      | inr (inr h) ↦ before_trans t y p b h
    ])

-- ---- nodes

-- below a node there are as many counts as points
pub counts_below : (n : Node) → HasBuckets n → length (multiplicities_below n) ≡ length (points_below n)
counts_below (Leaf b) h = h.counted
counts_below (Fork' height i left right right_ends upper left_ends lower) h = omega (
  arith,
  length-append (points_below left) (points_below right),
  length-append (multiplicities_below left) (multiplicities_below right),
  counts_below left h.0,
  counts_below right h.1,
)
counts_below Taken h = absurd h

-- what a node holds, by two in whose row its points are
pub held_row : (n l r : Node) (q : Pair) → HasBuckets l → points_below n ≡ points_below l ++ points_below r
    → multiplicities_below n ≡ multiplicities_below l ++ multiplicities_below r → multiplicity_at n q ≡ multiplicity_at l q + multiplicity_at r q
held_row n l r q h e f = grind (arith, common_steps, counted, multiplicities_below, points_below, counted_row, counts_below)

-- ---- by the words of the code

-- a point read at the first index
pub read_first : (S T : List Pair) (x : Pair) → S ≡ T → 0 < length T → x ≡ get_or S 0 x → first_of T ≡ x
read_first S T x e l f = get_or_free T 0 _ x l ∙ ap (λ z. get_or z 0 x) (sym e) ∙ sym f

-- the two answers of a test differ
true_is_no_false : true ≡ false → ⊥
true_is_no_false e = absurd (cc)

-- a test that passed
pub passed : {A : Type 0} (b : Bool) → (IsTrue b → A) → b ≡ true → A
passed b f e = f e

-- a test that failed
pub failed : {A : Type 0} (b : Bool) → (A → IsTrue b) → b ≡ false → ¬ A
failed b f e a = true_is_no_false (sym (f a) ∙ e)

-- ---- a point before or after all others

-- all points of a set are before what the last of them is before
all_before_last : (S : List Pair) (p x : Pair) → IsPointSet S → 0 < length S → x ≡ get_or S (length S - 1) x
    → IsBefore x p → All (λ t. IsBefore t p) S
all_before_last S p x s l e b =
    let n : length S - 1 + 1 ≡ length S = omega (arith, l) in
    subst (All (λ t. IsBefore t p)) (ap (λ (k : ℕ). take k S) n ∙ take-length S)
    (below_up_to S p x (length S - 1) s (omega (arith, l)) e b)

-- a point after all others comes last
pub comes_last : (S T : List Pair) (p x : Pair) → IsPointSet S → 0 < length S → T ≡ p ∷ []
    → x ≡ get_or S (length S - 1) x → IsBefore x p → S ++ T ≡ with_point p S
comes_last S T p x s l t e b =
    ap (λ (z : List Pair). S ++ z) t
    ∙ sym (ap (with_point p) (append_none S) ∙ with_right p S [] (all_before_last S p x s l e b))

-- a point before all others comes first
pub comes_first : (S T : List Pair) (p x : Pair) → IsPointSet S → 0 < length S → T ≡ p ∷ []
    → x ≡ get_or S 0 x → IsBefore p x → T ++ S ≡ with_point p S
comes_first S T p x s l t e b =
    ap (λ (z : List Pair). z ++ S) t
    ∙ sym (with_left p [] S (all_after p [] S s (subst (IsBefore p) (sym (read_first S S x refl l e)) b)))

-- with it after them they have its multiplicity more
pub held_last : (S T : List Pair) (M N : List ℕ) (p q : Pair) → length M ≡ length S → T ≡ p ∷ [] → N ≡ 1 ∷ []
    → counted (S ++ T) (M ++ N) q ≡ counted S M q + once p q
held_last S T M N p q e t n =
    ap (λ (z : List Pair). counted (S ++ z) (M ++ N) q) t ∙ ap (λ (z : List ℕ). counted (S ++ p ∷ []) (M ++ z) q) n
    ∙ (let r = counted_row S (p ∷ []) M (1 ∷ []) q e in omega (arith, r))

-- and so with it before them
pub held_first : (S T : List Pair) (M N : List ℕ) (p q : Pair) → T ≡ p ∷ [] → N ≡ 1 ∷ []
    → counted (T ++ S) (N ++ M) q ≡ counted S M q + once p q
held_first S T M N p q t n =
    ap (λ (z : List Pair). counted (z ++ S) (N ++ M) q) t ∙ ap (λ (z : List ℕ). counted (p ∷ [] ++ S) (z ++ M) q) n
    ∙ (let r = counted_row (p ∷ []) S (1 ∷ []) M q refl in omega (arith, r))
