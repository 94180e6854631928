-- The multiplicities of the points of an ordered map, as those of the contents of a set.
use Rattle.std.proofs.Common.{◌≡◌, ℕ, inl, inr, refl, sym, ap, ◌∙◌, subst, List, arith, ◌+◌, ◌-◌, ◌≤◌, [], ◌∷◌, false}
use Rattle.std.proofs.Common.{cond, Option, Some, None, add-zero}
use Rattle.std.specs.Option.{unwrap_or, IfSome, IsSome}
use Rattle.std.specs.List.{All, Contains}
use Rattle.std.specs.BTreeMap.{is_at}
use Rattle.std.specs.Map.{lookup, keys_of, values_of}
use Rattle.std.proofs.lemmas.Bool.{false≢true}
use Rattle.std.proofs.lemmas.Map.Views.{tells_apart, IfSome-lookup_from_All}
use Rattle.lattice.specs.Plane.{Pair}
use Rattle.hull_set.specs.Held.{raised, lowered}
use Rattle.hull_plain.specs.Sets.{multiplicity_in}
use Rattle.hull_set.proofs.OrderedMaps.{point_cmp, equal, exact, found_iff}
use Rattle.hull_set.proofs.HeldMultiplicities.{fails, same_true, same_false, same_or_other, once_same, once_other}

-- a look-up for a point does not stop at another one
not_at : (p q : Pair) → ¬ (p ≡ q) → is_at (point_cmp p) q ≡ false
not_at p q n = fails (is_at (point_cmp p) q) (λ t. n (tells_apart exact p q t))

-- the multiplicity of a point is the result of its look-up, and 0 if that finds nothing
pub multiplicity_is : (es : List (Pair × ℕ)) (q : Pair) → multiplicity_in es q ≡ unwrap_or (lookup (is_at (point_cmp q)) es) 0
multiplicity_is [] q = refl
multiplicity_is ((p, n) ∷ es) q =
    elim (same_or_other p q) [
      | inl e ↦ rw (e, same_true q, equal q) refl
      | inr other ↦ rw (same_false p q other, not_at q p (λ e. other (sym e))) (multiplicity_is es q)
    ]

-- a change of the map that puts w at p, and changes no other entry, by its look-ups
abbrev pub PutsAt : Pair → Option ℕ → List (Pair × ℕ) → List (Pair × ℕ) → Type 0
PutsAt p w es fs = (q : Pair)
    → lookup (is_at (point_cmp q)) fs ≡ cond (is_at (point_cmp p) q) w (lookup (is_at (point_cmp q)) es)

-- after the change the multiplicity of p is w
at_point : (p : Pair) (w : Option ℕ) (es fs : List (Pair × ℕ)) → PutsAt p w es fs → multiplicity_in fs p ≡ unwrap_or w 0
at_point p w es fs h = multiplicity_is fs p ∙ ap (λ (o : Option ℕ). unwrap_or o 0) (rw (equal p) at (h p))

-- after the change the multiplicity of any other point is unchanged
elsewhere : (p q : Pair) (w : Option ℕ) (es fs : List (Pair × ℕ)) → is_at (point_cmp p) q ≡ false → PutsAt p w es fs
    → multiplicity_in fs q ≡ multiplicity_in es q
elsewhere p q w es fs b h = multiplicity_is fs q ∙ ap (λ (o : Option ℕ). unwrap_or o 0) (rw b at (h q)) ∙ sym (multiplicity_is es q)

-- if w is one more than the multiplicity of p, that multiplicity is raised by one
pub raised_is : (p : Pair) (w : Option ℕ) (es fs : List (Pair × ℕ)) → PutsAt p w es fs
    → unwrap_or w 0 ≡ multiplicity_in es p + 1 → (q : Pair) → multiplicity_in fs q ≡ raised p (multiplicity_in es) q
raised_is p w es fs h n q =
    elim (same_or_other p q) [
      | inl e ↦ subst (λ (z : Pair). multiplicity_in fs z ≡ raised p (multiplicity_in es) z) e
          (rw (once_same p) (at_point p w es fs h ∙ n))
      | inr other ↦ rw (once_other p q other) (elsewhere p q w es fs (not_at p q other) h ∙ sym (add-zero _))
    ]

-- if w is one less than the multiplicity of p, that multiplicity is lowered by one
pub lowered_is : (p : Pair) (w : Option ℕ) (es fs : List (Pair × ℕ)) → PutsAt p w es fs
    → multiplicity_in es p ≡ unwrap_or w 0 + 1 → (q : Pair) → multiplicity_in fs q ≡ lowered p (multiplicity_in es) q
lowered_is p w es fs h n q =
    elim (same_or_other p q) [
      | inl e ↦ subst (λ (z : Pair). multiplicity_in fs z ≡ lowered p (multiplicity_in es) z) e
          (rw (once_same p) (at_point p w es fs h ∙ omega (arith, n)))
      | inr other ↦ rw (once_other p q other) (elsewhere p q w es fs (not_at p q other) h ∙ sym (minus_zero _))
    ]
  where
    minus_zero : (m : ℕ) → m - 0 ≡ m
    minus_zero m = omega arith

-- the multiplicity of a point that a look-up finds is the result
pub multiplicity_found : (es : List (Pair × ℕ)) (p : Pair) (n : ℕ) → Some n ≡ lookup (is_at (point_cmp p)) es
    → multiplicity_in es p ≡ n
multiplicity_found es p n e = multiplicity_is es p ∙ ap (λ (o : Option ℕ). unwrap_or o 0) (sym e)

-- the multiplicity of a point that no look-up finds is 0
pub multiplicity_none : (es : List (Pair × ℕ)) (p : Pair) → None ≡ lookup (is_at (point_cmp p)) es → multiplicity_in es p ≡ 0
multiplicity_none es p e = multiplicity_is es p ∙ ap (λ (o : Option ℕ). unwrap_or o 0) (sym e)

-- a point that a look-up finds is one of the points
pub live : (es : List (Pair × ℕ)) (p : Pair) (n : ℕ) → Some n ≡ lookup (is_at (point_cmp p)) es
    → Contains (keys_of es) p
live es p n e = (found_iff es p).0 (subst IsSome e refl)

-- a point that no look-up finds is not one of the points
pub not_live : (es : List (Pair × ℕ)) (p : Pair) → None ≡ lookup (is_at (point_cmp p)) es → ¬ Contains (keys_of es) p
not_live es p e m = false≢true (subst IsSome (sym e) ((found_iff es p).1 m))

-- if each multiplicity is at least 1, a look-up that finds something returns at least 1
pub held_found : (es : List (Pair × ℕ)) (p : Pair) (n : ℕ) → All (λ m. 1 ≤ m) (values_of es)
    → Some n ≡ lookup (is_at (point_cmp p)) es → 1 ≤ n
held_found es p n a e = subst (λ (o : Option ℕ). IfSome o (λ m. 1 ≤ m)) (sym e)
    (IfSome-lookup_from_All (λ m. 1 ≤ m) (is_at (point_cmp p)) es a)
