-- A script with workers that have no calls.
use Rattle.std.proofs.Common.{◌≡◌, ◌≤◌, ◌<◌, ◌+◌, ◌-◌, ◌∙◌, ℕ, zero, suc, List, [], ◌∷◌, ◌++◌, length, map, replicate}
use Rattle.std.proofs.Common.{get_or, refl, ap, arith, append_assoc, length-append, Vec}
use Rattle.std.specs.List.{All}
use Rattle.std.proofs.lemmas.List.{length-replicate, map-append, replicate-append-replicate}
use Rattle.std.proofs.lemmas.List.Sums.{sum_by-append, sum_by-cons}
use Rattle.hull_set.specs.declared.call.Call.{Call}
use Rattle.hull_book.specs.Scripts.{IsScript, PhaseValue, calls_in, calls_in_all, lists_of, with_idle}

-- an empty list at the end of some is one more of them
one_idle : (n : ℕ) → replicate {A = List Call} n [] ++ [] ∷ [] ≡ replicate (n + 1) []
one_idle n = replicate-append-replicate n 1 []

-- a list without calls, pushed
pub idle_pushed : {A : Type 0} (jobs pushed : List (Vec Call A)) (none : Vec Call A) (phase : PhaseValue) (counter : ℕ)
    → pushed ≡ jobs ++ none ∷ [] → none.items ≡ []
    → lists_of jobs ≡ phase ++ replicate (counter - length phase) [] → length phase ≤ counter
    → lists_of pushed ≡ phase ++ replicate (counter + 1 - length phase) []
idle_pushed jobs pushed none phase counter e empty so low =
    ap lists_of e ∙ (map-append (λ (v : Vec Call _). v.items) jobs (none ∷ []) ∙ rw (so, empty, append_assoc) (
    ap (λ (z : PhaseValue). phase ++ z)
    (one_idle (counter - length phase) ∙ ap (λ (n : ℕ). replicate {A = List Call} n []) (omega (arith, low)))))

-- they have no calls
idle_calls : (n : ℕ) → calls_in (replicate n []) ≡ 0
idle_calls zero = refl
idle_calls (suc n) = omega (arith, sum_by-cons (λ (calls : List Call). length calls) [] (replicate n []), idle_calls n)

-- so a phase has as many with them
same_calls : (workers : ℕ) (phase : PhaseValue) → calls_in (with_idle workers phase) ≡ calls_in phase
same_calls workers phase =
    omega (
      arith,
      sum_by-append (λ (calls : List Call). length calls) phase (replicate (workers - length phase) []),
      idle_calls (workers - length phase),
    )

-- and so have all
same_calls_in_all : (workers : ℕ) (phases : List PhaseValue)
    → calls_in_all (map (with_idle workers) phases) ≡ calls_in_all phases
same_calls_in_all workers [] = refl
same_calls_in_all workers (phase ∷ phases) =
    omega (
      arith,
      sum_by-cons calls_in (with_idle workers phase) (map (with_idle workers) phases),
      sum_by-cons calls_in phase phases,
      same_calls workers phase,
      same_calls_in_all workers phases,
    )

-- each has a list for each worker
all_wide : (own workers : ℕ) (phases : List PhaseValue) → own ≤ workers → All (λ phase. length phase ≡ own) phases
    → All (λ phase. length phase ≡ workers) (map (with_idle workers) phases)
all_wide own workers [] wide all k d l = absurd (omega (arith, l))
all_wide own workers (phase ∷ phases) wide all zero d l =
    let h : length phase ≡ own = all 0 d (omega arith) in
    omega (
      arith,
      h,
      wide,
      length-append phase (replicate (workers - length phase) []),
      length-replicate {A = List Call} (workers - length phase) [],
    )
all_wide own workers (phase ∷ phases) wide all (suc k) d l =
    all_wide own workers phases wide (λ j e m. all (suc j) e (omega (arith, m))) k d (omega (arith, l))

-- phases place by place
pub each_idle : (workers : ℕ) (old new : List PhaseValue) → length new ≡ length old
    → ((k : ℕ) (d : PhaseValue) → k < length old → get_or new k d ≡ with_idle workers (get_or old k d))
    → new ≡ map (with_idle workers) old
each_idle workers [] [] long each = refl
each_idle workers [] (p ∷ new) long each = absurd (omega (arith, long))
each_idle workers (q ∷ old) [] long each = absurd (omega (arith, long))
each_idle workers (q ∷ old) (p ∷ new) long each =
    let rest : new ≡ map (with_idle workers) old =
    each_idle workers old new (omega (arith, long)) (λ k d l. each (suc k) d (omega (arith, l))) in
    ap (λ (z : PhaseValue). z ∷ new) (each 0 q (omega arith)) ∙ ap (λ (z : List PhaseValue). with_idle workers q ∷ z) rest

-- the limits of a script hold with them
pub wide_script : (own workers : ℕ) (old new : List PhaseValue) → own ≤ workers → workers ≤ 64 → IsScript own old
    → new ≡ map (with_idle workers) old → IsScript workers new
wide_script own workers old new wide high is e = rw e (record {
  workers_low = let l = is.workers_low in omega (arith, l, wide);
  workers_high = high;
  jobs = all_wide own workers old wide is.jobs;
  calls = let c = is.calls in omega (arith, c, same_calls_in_all workers old);
})
