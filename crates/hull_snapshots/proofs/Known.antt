-- Vertices that are known after changes.
use Rattle.std.proofs.Common.{◌≡◌, ◌≢◌, ◌≤◌, ◌||◌, ◌∙◌, ◌∷◌, ◌++◌, ℕ, Bool, false, List, [], length, not, true, IsTrue, MatchBool, Option, Some, None, IfSome, IsSomeAnd, ap, arith, refl, rules, sym, subst, take_all}
use Rattle.std.proofs.lemmas.List.{take-append-le}
use mathlib.Core.Logic.{∥∥₁_elim, ∥∥₁_map}
use Rattle.lattice.specs.Plane.{Pair}
use Rattle.lattice.specs.Covers.{IsPointSet}
use Rattle.lattice.specs.Vertices.{IsVertexList}
use Rattle.hull_geometry.proofs.SetLaws.{ordered_with, ordered_without}
use Rattle.hull_set.specs.Held.{Held, nothing_held}
use Rattle.hull_snapshots.specs.Changes.{changed, changed_by, held_at, held_after_changes}
use Rattle.hull_snapshots.specs.Lists.{StayThrough}
use Rattle.hull_snapshots.specs.declared.change.Change.{Change}
use Rattle.hull_snapshots.specs.declared.change.Change.TheVariants.{Came, CameAgain, WentOnce, Went, Nothing}
use Rattle.hull_snapshots.proofs.Changed.{changed_by-one_more}

-- a truncated truncation is a truncation
pub flatten : {P : Type 0} → ∥ ∥ P ∥₁ ∥₁ → ∥ P ∥₁
flatten t = ∥∥₁_elim t squash₁ (λ p. p)

-- a change leaves the points in order
ordered_change : (held : Held) (c : Change) → IsPointSet held.points → IsPointSet (changed held c).points
ordered_change held (Came p) h = ordered_with p held.points h
ordered_change held (CameAgain p) h = h
ordered_change held (WentOnce p) h = h
ordered_change held (Went p) h = ordered_without p held.points h
ordered_change held Nothing h = h

-- changes leave the points in order
ordered_by : (held : Held) (changes : List Change) → IsPointSet held.points → IsPointSet (changed_by held changes).points
unfolding changed_by
ordered_by held [] h = h
ordered_by held (c ∷ changes) h = ordered_by (changed held c) changes (ordered_change held c h)

-- the points of the set after changes are in order
pub ordered_behind : (changes : List Change) → IsPointSet (held_after_changes changes).points
ordered_behind changes = ordered_by nothing_held changes (search rules)

-- if the set after the first n changes is the set after all of them, it is so after one change more that changes
-- nothing
pub shown_on : (n : ℕ) (old new : List Change) (c : Change) (was behind matters is : Bool)
    → ∥ (was ≡ false → behind ≡ false → held_at n old ≡ held_after_changes old) ∥₁
    → was ≡ false → n ≤ length old → (is ≡ false → new ≡ old ++ c ∷ [])
    → MatchBool matters (c ≢ Nothing) (c ≡ Nothing)
    → ∥ (is ≡ false → behind || matters ≡ false → held_at n new ≡ held_after_changes new) ∥₁
shown_on n old new c was true matters is t speaks within more m = ∥∥₁_map t (λ _ yes e. absurd (search rules))
shown_on n old new c was false true is t speaks within more m = ∥∥₁_map t (λ _ yes e. absurd (search rules))
shown_on n old new c was false false is t speaks within more m = ∥∥₁_map t (λ g yes _.
    ap (held_at n) (more yes)
    ∙ ap held_after_changes (take-append-le n old (c ∷ []) within)
    ∙ g speaks refl
    ∙ sym (ap (changed (held_after_changes old)) m)
    ∙ sym (changed_by-one_more nothing_held old c)
    ∙ sym (ap held_after_changes (more yes)))

module _ {A : Type 0} (vertices : A → List Pair) where
  -- vertices that stay through a change are known after it
  pub known_on : (old new : List Change) (c : Change) (was is : Bool) (known kept : Option A)
      → ∥ (was ≡ false → IfSome known (λ k. IsVertexList (held_after_changes old).points (vertices k))) ∥₁
      → was ≡ false → (is ≡ false → new ≡ old ++ c ∷ [])
      → IfSome kept (λ l. (known ≡ Some l) × StayThrough (vertices l) c)
      → ∥ (is ≡ false → IfSome kept (λ k. IsVertexList (held_after_changes new).points (vertices k))) ∥₁
  known_on old new c was is known None t speaks more q = ∥∥₁_map t (λ g _. tt)
  known_on old new c was is known (Some l) t speaks more q = ∥∥₁_map t (λ g yes.
      let here = subst (λ o. IfSome o (λ k. IsVertexList (held_after_changes old).points (vertices k))) (q.0) (g speaks) in
      let on = q.1 (held_after_changes old) (ordered_behind old) here in
      subst (λ ls. IsVertexList (held_after_changes ls).points (vertices l)) (sym (more yes))
      (subst (λ h. IsVertexList h.points (vertices l)) (sym (changed_by-one_more nothing_held old c)) on))

-- if a list is known, so is each list that equals it
pub known_here : {A B : Type 0} (value : B → A) (vertices : A → List Pair) (changes : List Change) (silent : Bool)
    (known : Option B) (l : B)
    → ∥ (silent ≡ false → IfSome known (λ k. IsVertexList (held_after_changes changes).points (vertices (value k)))) ∥₁
    → silent ≡ false → IsSomeAnd known (λ k. value k ≡ value l)
    → ∥ IsVertexList (held_after_changes changes).points (vertices (value l)) ∥₁
known_here value vertices changes silent None l t speaks e = absurd e
known_here value vertices changes silent (Some k) l t speaks e =
    ∥∥₁_map t (λ g. subst (λ v. IsVertexList (held_after_changes changes).points (vertices v)) e (g speaks))

-- the set as of the last change is the set after all of them
pub all_shown : (n : ℕ) (changes : List Change) → n ≡ length changes → held_at n changes ≡ held_after_changes changes
all_shown n changes e = ap held_after_changes (take_all n changes (omega (arith, e)))

-- if the publisher is not silent after a step, the step raised the word
pub raised : (b : Bool) → not b ≡ false → IsTrue b
raised true e = search rules
raised false e = absurd (search rules)

-- if the publisher is silent after a step, the step did not raise the word
pub fallen : (b : Bool) → not b ≡ true → b ≡ false
fallen true e = absurd (search rules)
fallen false e = refl

-- a publisher that speaks is not silent
pub speaking : (silent : Bool) → IsTrue (not silent) → silent ≡ false
speaking true e = absurd (search rules)
speaking false e = refl
