-- The exchange that raises the word of the snapshot slots preserves its rule.
use Rattle.std.proofs.Common.{◌≡◌, ℕ, ◌-◌, ◌<◌, ◌≤◌, ◌==◌, Bool, true, false, List, [], ◌∷◌, ◌++◌, length, refl}
use Rattle.std.proofs.Common.{ap, sym, subst, arith, inl, None}
use Rattle.std.proofs.lemmas.Bool.Decides.{nat_tests}
use Rattle.std.proofs.lemmas.List.{append-nil}
use Rattle.std.proofs.lemmas.List.Sums.{sum_by-append}
use mathlib.Core.List.{IsPrefix}
use prog.Atomic.{either}
use Rattle.logbook.specs.Pages.{Cell, cell, keeps, no_nib, step, Moves, Goes}
use Rattle.published_snapshots.specs.Numbers.{IsRaised, RaisesOrObserves, height}
use Rattle.published_snapshots.specs.declared.newest.Rise.{Rise}
use Rattle.published_snapshots.proofs.AddedLines.{shown, moved}

-- the exchange raises the word, or leaves it unchanged
raises_goes : (log v : List Rise) (e : Rise) (from to : ℕ) → from ≤ to → e.by ≡ to - from → IsPrefix v log
    → (b : Bool) → (height log == from) ≡ b
    → Goes IsRaised shown moved 0 (v, (no_nib, None)) (λ n. either (n == from) to n)
    (RaisesOrObserves (step 0 from to e) (v, (no_nib, None))) ((height log, true) ∷ (0, true) ∷ []) log
raises_goes log v e from to le by pre true is =
    let here : height log ≡ from = grind (arith, nat_tests) in
    let sum : height (log ++ e ∷ []) ≡ to = omega (arith, sum_by-append (λ (r : Rise). r.by) log (e ∷ []), here, le, by) in
    let n : either (height log == from) to (height log) ≡ height (log ++ e ∷ []) = rw is (sym sum) in (
      keeps,
      e ∷ [],
      None,
      tt,
      record { words = ap (λ (k : ℕ). (k, true) ∷ (0, true) ∷ []) n },
      inl (refl, refl),
      rw is sum,
    )
raises_goes log v e from to le by pre false is =
    let all : log ++ [] ≡ log = append-nil log in
    let n : either (height log == from) to (height log) ≡ height (log ++ []) = rw is (ap height (sym all)) in (
      keeps,
      [],
      None,
      tt,
      record { words = ap (λ (k : ℕ). (k, true) ∷ (0, true) ∷ []) n },
      inl (refl, refl),
      rw is (ap height all),
    )

-- for any word, the exchange raises it from the expected value, or finds the value that it has
pub raises_moves : (v : List Rise) (e : Rise) (from to : ℕ) → from ≤ to → e.by ≡ to - from
    → Moves IsRaised shown moved 0 (v, (no_nib, None)) (λ n. either (n == from) to n)
    (RaisesOrObserves (step 0 from to e) (v, (no_nib, None)))
raises_moves v e from to le by cs log kept pre away =
    let P : List Cell → Type 0 =
    λ c. (0 < length c) × ((cell c 0).1 ≡ true)
    × Goes IsRaised shown moved 0 (v, (no_nib, None)) (λ n. either (n == from) to n)
    (RaisesOrObserves (step 0 from to e) (v, (no_nib, None))) c log in
    subst P (sym kept.words) (omega arith, refl, raises_goes log v e from to le by pre (height log == from) refl)
