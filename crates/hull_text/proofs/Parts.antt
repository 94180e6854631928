-- The phases of a script.
use Rattle.std.proofs.Common.{◌≡◌, ◌<◌, ◌≤◌, ◌+◌, ℕ, zero, suc, List, [], ◌∷◌, length, map, get_or, take, drop, Some}
use Rattle.std.proofs.Common.{None, Bool, true, false, refl, ◌∙◌, arith, All}
use Rattle.std.specs.Prelude.{◌==◌}
use Rattle.std.specs.List.{onto_first}
use Rattle.std.proofs.lemmas.List.{length-append}
use Rattle.std.proofs.lemmas.List.Elements.{All-cons, All-nil}
use Rattle.std.proofs.lemmas.List.Sums.{sum_by-cons, sum_by_push}
use Rattle.std.proofs.lemmas.Bool.{eqb-true, ne_eqb}
use Rattle.hull_set.specs.declared.call.Call.{Call}
use Rattle.hull_book.specs.Scripts.{IsScript, calls_in, calls_in_all}
use Rattle.hull_text.specs.Item.{Item}
use Rattle.hull_text.specs.ScriptValue.{calls_by, jobs_below, parts, workers_in}
use Rattle.hull_text.proofs.Workers.{workers_least}

-- If the first join is after some items, these are the first phase's.
pub part_at : (items : List Item) (i : ℕ) → i < length items → get_or items i None ≡ None
    → ((k : ℕ) → k < i → get_or items k None ≡ None → ⊥) → parts items ≡ take i items ∷ parts (drop 1 (drop i items))
part_at [] i lt here before = absurd (omega arith)
part_at (x ∷ xs) zero lt here before = rw here refl
part_at (None ∷ xs) (suc i) lt here before = absurd (before 0 (omega arith) refl)
part_at (Some o ∷ xs) (suc i) lt here before =
    rw (part_at xs i (omega arith) here (λ k h. before (suc k) (omega arith))) refl

-- If no join is left, the items are the last phase's.
pub part_last : (items : List Item) → ((k : ℕ) → k < length items → get_or items k None ≡ None → ⊥)
    → parts items ≡ items ∷ []
part_last [] none = refl
part_last (None ∷ xs) none = absurd (none 0 (omega arith) refl)
part_last (Some o ∷ xs) none = rw (part_last xs (λ k h. none (suc k) (omega arith))) refl

-- A phase has a list for each worker.
pub jobs_long : (n : ℕ) (items : List Item) → length (jobs_below n items) ≡ n
unfolding jobs_below
jobs_long zero items = refl
jobs_long (suc n) items = omega (arith, jobs_long n items, length-append (jobs_below n items) (calls_by n items ∷ []))

-- Each phase has a list for each worker.
phases_long : (n : ℕ) (ps : List (List Item)) → All (λ phase. length phase ≡ n) (map (jobs_below n) ps)
phases_long n [] = All-nil (λ phase. length phase ≡ n)
phases_long n (p ∷ ps) =
    All-cons (λ phase. length phase ≡ n) (jobs_below n p) (map (jobs_below n) ps) (jobs_long n p) (phases_long n ps)

-- A phase of one worker more.
jobs_more : (n : ℕ) (items : List Item)
    → calls_in (jobs_below (suc n) items) ≡ calls_in (jobs_below n items) + length (calls_by n items)
unfolding jobs_below
jobs_more n items = sum_by_push length (jobs_below n items) (calls_by n items)

-- No items, no calls.
jobs_none : (n : ℕ) → calls_in (jobs_below n []) ≡ 0
unfolding jobs_below calls_by
jobs_none zero = refl
jobs_none (suc n) = sum_by_push length (jobs_below n []) [] ∙ omega (arith, jobs_none n)

-- The call of another worker is none of this one's.
calls_other : (k : ℕ) (o : ℕ × Call) (items : List Item) → (o.0 == k) ≡ false
    → length (calls_by k (Some o ∷ items)) ≡ length (calls_by k items)
unfolding calls_by
calls_other k o items e = rw e refl

-- A call of this worker is one more.
calls_own : (k : ℕ) (o : ℕ × Call) (items : List Item) → (o.0 == k) ≡ true
    → length (calls_by k (Some o ∷ items)) ≡ suc (length (calls_by k items))
unfolding calls_by
calls_own k o items e = rw e refl

-- A call of a worker beyond a phase is none of the phase's.
jobs_beyond : (n : ℕ) (o : ℕ × Call) (items : List Item) → n ≤ o.0
    → calls_in (jobs_below n (Some o ∷ items)) ≡ calls_in (jobs_below n items)
unfolding jobs_below
jobs_beyond zero o items le = refl
jobs_beyond (suc n) o items le =
    let other = calls_other n o items (ne_eqb o.0 n (λ e. omega (arith, e))) in
    omega (arith, jobs_more n (Some o ∷ items), jobs_more n items, jobs_beyond n o items (omega arith), other)

-- A call more is at most one more in a phase.
jobs_call : (n : ℕ) (o : ℕ × Call) (items : List Item)
    → calls_in (jobs_below n (Some o ∷ items)) ≤ calls_in (jobs_below n items) + 1
unfolding jobs_below
jobs_call zero o items = omega arith
jobs_call (suc n) o items = step (o.0 == n) refl (jobs_call n o items)
  where
    step : (b : Bool) → (o.0 == n) ≡ b → calls_in (jobs_below n (Some o ∷ items)) ≤ calls_in (jobs_below n items) + 1
        → calls_in (jobs_below (suc n) (Some o ∷ items)) ≤ calls_in (jobs_below (suc n) items) + 1
    step true e less = omega (
      arith,
      jobs_more n (Some o ∷ items),
      jobs_more n items,
      jobs_beyond n o items
          (omega (arith, eqb-true o.0 n e)),
      calls_own n o items e,
    )
    step false e less = omega (arith, jobs_more n (Some o ∷ items), jobs_more n items, less, calls_other n o items e)

-- A call more is at most one more in all phases.
parts_call : (n : ℕ) (o : ℕ × Call) (ps : List (List Item))
    → calls_in_all (map (jobs_below n) (onto_first (Some o) ps)) ≤ calls_in_all (map (jobs_below n) ps) + 1
parts_call n o [] = omega (arith, sum_by-cons calls_in (jobs_below n (Some o ∷ [])) [], jobs_call n o [], jobs_none n)
parts_call n o (p ∷ ps) = omega (
  arith,
  sum_by-cons calls_in (jobs_below n (Some o ∷ p)) (map (jobs_below n) ps),
  sum_by-cons calls_in (jobs_below n p) (map (jobs_below n) ps),
  jobs_call n o p,
)

-- There are no more calls than items.
calls_few : (n : ℕ) (items : List Item) → calls_in_all (map (jobs_below n) (parts items)) ≤ length items
calls_few n [] = omega (arith, sum_by-cons calls_in (jobs_below n []) [], jobs_none n)
calls_few n (None ∷ is) =
    omega (arith, sum_by-cons calls_in (jobs_below n []) (map (jobs_below n) (parts is)), jobs_none n, calls_few n is)
calls_few n (Some o ∷ is) = omega (arith, parts_call n o (parts is), calls_few n is)

-- Items of 64 workers at most, and as many as a text has lines at most, make a script.
pub items_make_script : (items : List Item) → workers_in items ≤ 64 → length items ≤ 33554432
    → IsScript (workers_in items) (map (jobs_below (workers_in items)) (parts items))
items_make_script items low few = record {
  workers_low = workers_least 1 items;
  workers_high = low;
  jobs = phases_long (workers_in items) (parts items);
  calls = omega (arith, calls_few (workers_in items) items);
}
