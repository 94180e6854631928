-- The contribution of a point to a multiplicity.
use Rattle.std.proofs.Common.{◌≡◌, ◌⊎◌, inl, inr, refl, sym, ap, ◌∙◌, subst, Bool, true, false, List, ℕ, ◌+◌, ◌<◌, length, take, get_or}
use Rattle.std.proofs.lemmas.List.Sums.{sum_by_more}
use Rattle.std.specs.Bool.{Decides}
use Rattle.std.proofs.lemmas.Bool.Decides.{Decides-and, Decides-int_eq}
use Rattle.lattice.specs.Plane.{Pair, IsBefore}
use Rattle.lattice.proofs.Order.{before_total, before_irrefl}
use Rattle.hull_set.specs.Held.{Held, once, multiplicity_among}
use Rattle.hull_set.specs.PointLists.{is_same_pair}

-- the test decides whether both coordinates are equal
returned : (p q : Pair) → Decides (is_same_pair p q) ((p.x ≡ q.x) × (p.y ≡ q.y))
returned p q = Decides-and _ _ (Decides-int_eq p.x q.x) (Decides-int_eq p.y q.y)

-- a point is equal to itself
pub same_true : (p : Pair) → is_same_pair p p ≡ true
same_true p = (returned p p).1 (refl, refl)

-- a test that cannot be true is false
pub fails : (b : Bool) → ¬ (b ≡ true) → b ≡ false
fails true n = absurd (n refl)
fails false n = refl

-- no test is both true and false
true_not_false : true ≡ false → ⊥
true_not_false e = absurd (cc)

-- a different point is not equal
pub same_false : (p q : Pair) → ¬ (p ≡ q) → is_same_pair p q ≡ false
same_false p q n = fails (is_same_pair p q)
    (λ t. n (λ i. record { x = ((returned p q).0 t).0 i; y = ((returned p q).0 t).1 i }))

-- a point counts once at itself
pub once_same : (p : Pair) → once p p ≡ 1
once_same p = rw (same_true p) refl

-- a point does not count at a different one
pub once_other : (p q : Pair) → ¬ (p ≡ q) → once p q ≡ 0
once_other p q n = rw (same_false p q n) refl

-- two points are equal, or they are not
pub same_or_other : (p q : Pair) → (p ≡ q) ⊎ ¬ (p ≡ q)
same_or_other p q =
    elim (before_total p q) [
      | inl b ↦ inr (λ e. before_irrefl q (subst (λ (z : Pair). IsBefore z q) e b))
      | inr (inl e) ↦ inl e
      | inr (inr b) ↦ inr (λ e. before_irrefl q (subst (λ (z : Pair). IsBefore q z) e b))
    ]

-- points that the test finds equal are equal
pub returned_same : (p q : Pair) → is_same_pair p q ≡ true → p ≡ q
returned_same p q t = elim (same_or_other p q) [ inl h ↦ h | inr d ↦ absurd (true_not_false (sym t ∙ same_false p q d)) ]

-- points that the test does not find equal are different
pub returned_other : (p q : Pair) → is_same_pair p q ≡ false → ¬ (p ≡ q)
returned_other p q f s =
    true_not_false (sym (subst (λ z. is_same_pair p z ≡ true) s (same_true p)) ∙ f)

-- a point is once more among the first i + 1 points than among the first i, if it is the one at i
pub among_more : (xs : List Pair) (i : ℕ) (p q : Pair) → p ≡ get_or xs i p → i < length xs
    → multiplicity_among (take (i + 1) xs) q ≡ multiplicity_among (take i xs) q + once p q
among_more xs i p q e l =
    sum_by_more (λ p. once p q) xs i p l ∙ ap (λ z. multiplicity_among (take i xs) q + once z q) (sym e)

-- two contents are equal if the points are and each point has the same multiplicity in both
pub same_held : (S T : List Pair) (f g : Pair → ℕ) → S ≡ T → ((q : Pair) → f q ≡ g q)
    → ◌≡◌ {A = Held} (record { points = S; multiplicities = f }) (record { points = T; multiplicities = g })
same_held S T f g e h = λ i. record { points = e i; multiplicities = λ q. h q i }
