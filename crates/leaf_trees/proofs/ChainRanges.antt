-- The entries from a start on.
use Rattle.std.proofs.lemmas.Grind.{common_steps}
use Rattle.std.proofs.Common.{◌≡◌, refl, sym, ap, subst, arith, ℕ, zero, suc, ◌+◌, ◌≤◌, List, [], ◌∷◌, ◌++◌}
use Rattle.std.proofs.Common.{Bool, true, false, take, min, length, cond, inl, inr}
use Rattle.std.specs.List.{All}
use Rattle.std.proofs.Math.Decide.{dec_le}
use Rattle.std.proofs.Math.Logic.{dite}
use Rattle.std.proofs.Math.Nat.{le-min, min-eq_left}
use Rattle.std.proofs.lemmas.List.Elements.{All-head, All-tail}
use Rattle.lattice.specs.Plane.{Pair, IsBefore}
use Rattle.lattice.specs.Covers.{is_before}
use Rattle.lattice.proofs.Order.{before_trans, before_total, is_before-true}
use Rattle.leaf_trees.specs.Entries.{points_listed}
use Rattle.leaf_trees.specs.ChainRanges.{entries_from}

-- those of two concatenated lists are those of the first and then those of the second
from_cons : (b : Bool) (e : Pair × ℕ) (es fs gs : List (Pair × ℕ)) → gs ≡ es ++ fs
    → cond b gs (e ∷ gs) ≡ cond b es (e ∷ es) ++ fs
from_cons true e es fs gs h = h
from_cons false e es fs gs h = ap (λ (z : List (Pair × ℕ)). e ∷ z) h

pub from_append : (s : Pair) (es fs : List (Pair × ℕ)) → entries_from s (es ++ fs) ≡ entries_from s es ++ entries_from s fs
from_append s [] fs = refl
from_append s (e ∷ es) fs =
    from_cons (is_before e.0 s) e (entries_from s es) (entries_from s fs) (entries_from s (es ++ fs)) (from_append s es fs)

-- there are none if all points are before the start
pub none_from : (s : Pair) (es : List (Pair × ℕ)) → All (λ p. IsBefore p s) (points_listed es) → entries_from s es ≡ []
none_from s [] a = refl
none_from s (e ∷ es) a =
    rw (is_before-true e.0 s (All-head (λ p. IsBefore p s) e.0 (points_listed es) a))
    (none_from s es (All-tail (λ p. IsBefore p s) e.0 (points_listed es) a))

-- a point that is not after one before the start is before the start
pub early : (p l s : Pair) → (IsBefore l p → ⊥) → IsBefore l s → IsBefore p s
early p l s h b =
    elim (before_total p l) [
      | inl k ↦ before_trans p l s k b
      | inr (inl e) ↦ subst (λ (z : Pair). IsBefore z s) (sym e) b
      | inr (inr k) ↦ absurd (h k)
    ]

-- the first m of a list that was already cut there
pub take_more : {A : Type 0} (m : ℕ) (xs ys : List A) → take m (take m xs ++ ys) ≡ take m (xs ++ ys)
take_more zero xs ys = refl
take_more (suc m) [] ys = refl
take_more (suc m) (x ∷ xs) ys = ap (λ z. x ∷ z) (take_more m xs ys)

-- a list that is no longer than m
pub take_all : {A : Type 0} (m : ℕ) (xs : List A) → length xs ≤ m → take m xs ≡ xs
take_all zero [] l = refl
take_all (suc m) [] l = refl
take_all zero (x ∷ xs) l = absurd (omega (arith, l))
take_all (suc m) (x ∷ xs) l = ap (λ z. x ∷ z) (take_all m xs (omega (arith, l)))

-- no more of a list than it has: the first so many, or all
pub take_least : {A : Type 0} (m k : ℕ) (xs : List A) → length xs ≤ k → take (min m k) xs ≡ take m xs
take_least m k xs l = grind (arith, common_steps, dite, dec_le, min-eq_left, take_all, min, le-min)

-- no more than there are
cut_shorter : (b : Bool) (e : Pair × ℕ) (es gs : List (Pair × ℕ)) → length gs ≤ length es
    → length (cond b gs (e ∷ gs)) ≤ length es + 1
cut_shorter true e es gs h = omega (arith, h)
cut_shorter false e es gs h = omega (arith, h)

pub from_shorter : (s : Pair) (es : List (Pair × ℕ)) → length (entries_from s es) ≤ length es
from_shorter s [] = omega arith
from_shorter s (e ∷ es) = omega (arith, cut_shorter (is_before e.0 s) e es (entries_from s es) (from_shorter s es))
