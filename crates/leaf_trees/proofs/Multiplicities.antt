-- Points with a multiplicity.
use Rattle.std.proofs.Common.{◌≡◌, ℕ, refl, sym, ◌∙◌, Bool, true, false}
use Rattle.std.specs.Prelude.{not}
use Rattle.lattice.specs.Plane.{Pair}
use Rattle.hull_set.specs.PointLists.{is_same_pair}
use Rattle.hull_set.proofs.HeldMultiplicities.{same_true, same_false, returned_same}
use Rattle.leaf_trees.specs.Entries.{several}

-- in the set that contains only p, n times, the multiplicity of p is n
pub several_there : (n : ℕ) (p : Pair) → several n p p ≡ n
several_there n p = rw (same_true p) refl

-- and that of any other point is 0
pub several_elsewhere : (n : ℕ) (p q : Pair) → ¬ (p ≡ q) → several n p q ≡ 0
several_elsewhere n p q d = rw (same_false p q d) refl

-- two points are the same if the test did not return that they differ
pub same_point : {r : Bool} (p q : Pair) → r ≡ not (is_same_pair p q) → r ≡ false → p ≡ q
same_point p q e f = returned_same p q (not_false _ (sym e ∙ f))
  where
    not_false : (b : Bool) → not b ≡ false → b ≡ true
    not_false true h = refl
    not_false false h = sym h
