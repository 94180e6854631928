-- A point that is added to one of two concatenated lists.
use Rattle.std.proofs.Common.{refl, ◌≡◌, ℕ, zero, suc, ◌+◌, ◌≤◌, sym, ap, ◌∙◌, List, [], ◌∷◌, ◌++◌, length}
use Rattle.std.proofs.Common.{arith}
use Rattle.std.specs.List.{insert}
use Rattle.lattice.specs.Covers.{IsPointSet, with_point}
use Rattle.lattice.specs.Plane.{Pair}
use Rattle.std.specs.Prelude.{Err}
use Rattle.hull_set.specs.Held.{once}
use Rattle.hull_geometry.specs.Positions.{IsPositionOf, point_at}
use Rattle.hull_buckets.proofs.Changed.{insert_is}
use Rattle.bucket_tree.specs.Counts.{counted}
use Rattle.leaf_trees.specs.Entries.{several}

-- what two lists in a row hold
pub counted_row : (xs ys : List Pair) (us vs : List ℕ) (q : Pair) → length us ≡ length xs
    → counted (xs ++ ys) (us ++ vs) q ≡ counted xs us q + counted ys vs q
counted_row [] ys [] vs q e = omega arith
counted_row [] ys (u ∷ us) vs q e = absurd (omega (arith, e))
counted_row (x ∷ xs) ys [] vs q e = absurd (omega (arith, e))
counted_row (x ∷ xs) ys (u ∷ us) vs q e =
    let r = counted_row xs ys us vs q (omega (arith, e)) in omega (arith, r)

-- what a list holds with one more entry
pub counted_insert : (S : List Pair) (T : List ℕ) (i n : ℕ) (p q : Pair) → length T ≡ length S → i ≤ length S
    → counted (insert S i p) (insert T i n) q ≡ counted S T q + several n p q
counted_insert S T zero n p q e l = omega arith
counted_insert [] T (suc i) n p q e l = absurd (omega (arith, l))
counted_insert (x ∷ xs) [] (suc i) n p q e l = absurd (omega (arith, e))
counted_insert (x ∷ xs) (t ∷ ts) (suc i) n p q e l =
    let r = counted_insert xs ts i n p q (omega (arith, e)) (omega (arith, l)) in omega (arith, r)

-- a new point counts once
pub counted_put : (S P : List Pair) (T U : List ℕ) (i : ℕ) (p q : Pair) → IsPointSet S → length T ≡ length S
    → IsPositionOf S p (Err i) → P ≡ with_point p S → U ≡ insert T i 1 → counted P U q ≡ counted S T q + once p q
counted_put S P T U i p q s e at f g =
    ap (λ z. counted z U q) (f ∙ sym (insert_is S p i s at)) ∙ ap (λ z. counted (insert S i p) z q) g
    ∙ counted_insert S T i 1 p q e at.0

-- a point that is inserted at an index is there
pub inserted_there : (S : List Pair) (p : Pair) (i : ℕ) → i ≤ length S → point_at (insert S i p) i ≡ p
inserted_there S p zero l = refl
inserted_there [] p (suc i) l = absurd (omega (arith, l))
inserted_there (x ∷ xs) p (suc i) l = inserted_there xs p i (omega (arith, l))
