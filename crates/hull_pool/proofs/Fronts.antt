-- A phase among all phases: the calls of a worker in it, and that it may be run.
use Rattle.std.proofs.Common.{◌≡◌, ◌<◌, ◌≤◌, ◌+◌, ℕ, zero, suc, List, [], ◌∷◌, ◌++◌, length, refl, sym, ap, ◌∙◌}
use Rattle.std.proofs.Common.{arith, length-append, map, take, drop, take-append-drop, drop-cons}
use Rattle.std.specs.Prelude.{slice_index_or, Result, Ok, Err, OnOk}
use Rattle.std.proofs.lemmas.List.Sums.{sum_by-cons}
use Rattle.hull_set.specs.declared.call.Call.{Call}
use Rattle.hull_book.specs.declared.limits.TheConstants.{TEXT_LINE_LIMIT}
use Rattle.hull_book.specs.Books.{BookValue}
use Rattle.hull_book.specs.Scripts.{PhaseValue, calls_in, calls_in_all, calls_of}
use Rattle.hull_book.specs.Answers.{Answer}
use Rattle.hull_pool.specs.Answers.{WorkersValue, shown}
use Rattle.hull_pool.specs.Runs.{job, MayRunAll}
use Rattle.hull_pool.proofs.Phases.{AnswerVec}
use Rattle.hull_pool.proofs.Chained.{may_front}
use Rattle.hull_set.specs.declared.set.HullSet.{Ghosts}

-- a worker has no more calls in a phase than all have
job_le : (phase : PhaseValue) (k : ℕ) → length (job phase k) ≤ calls_in phase
job_le [] k = omega arith
job_le (calls ∷ phase) zero = omega (arith, sum_by-cons (λ (c : List Call). length c) calls phase)
job_le (calls ∷ phase) (suc k) = omega (arith, sum_by-cons (λ (c : List Call). length c) calls phase, job_le phase k)

-- nor over all phases
pub calls_le : (phases : List PhaseValue) (k : ℕ) → length (calls_of k phases) ≤ calls_in_all phases
calls_le [] k = omega arith
calls_le (phase ∷ phases) k =
    omega (
      arith,
      sum_by-cons (λ (p : PhaseValue). calls_in p) phase phases,
      job_le phase k,
      calls_le phases k,
      length-append (job phase k) (calls_of k phases),
    )

-- so if all have no more than a text has lines, no worker has
pub few_each : (phases : List PhaseValue) (k : ℕ) → calls_in_all phases ≤ TEXT_LINE_LIMIT
    → length (calls_of k phases) ≤ TEXT_LINE_LIMIT
few_each phases k few = omega (arith, calls_le phases k, few)

module _ {S : Type 0} {K : Ghosts S} where
  -- if all phases may be run, the first may be
  pub may_first : (b : BookValue S) (w : WorkersValue) (phases : List PhaseValue) (d : PhaseValue)
      → MayRunAll K b w phases → 0 < length phases → MayRunAll K b w (slice_index_or phases 0 d ∷ [])
  may_first b w [] d may some = absurd (omega arith)
  may_first b w (phase ∷ phases) d may some = may_front b w (phase ∷ []) phases may

-- the phases before one, that one, and the phases after it
pub separated : (phases : List PhaseValue) (i : ℕ) (d : PhaseValue) → i < length phases
    → phases ≡ take i phases ++ slice_index_or phases i d ∷ drop (suc i) phases
separated phases i d lt =
    sym (take-append-drop i phases) ∙ ap (λ (xs : List PhaseValue). take i phases ++ xs) (drop-cons phases i d lt)

-- one phase more was counted
pub counted_more : (k count total : ℕ) (rest after : List PhaseValue) (phase : PhaseValue) (calls : List Call)
    → rest ≡ phase ∷ after → calls ≡ slice_index_or phase k [] → count + length (calls_of k rest) ≡ total
    → count + length calls + length (calls_of k after) ≡ total
counted_more k count total rest after phase calls split are so_far =
    omega (
      arith,
      so_far,
      ap (λ (xs : List PhaseValue). length (calls_of k xs)) split,
      length-append (job phase k) (calls_of k after),
      ap length are,
    )

-- what is promised of an end that was no refusal
pub of_ok : {T E : Type 0} → (r : Result T E) (P : Type 0) → ((e : E) → r ≡ Err e → ⊥) → OnOk r P → P
of_ok (Ok t) P not_err p = p
of_ok (Err e) P not_err p = absurd (not_err e refl)

-- the answers that vectors show are those in them
pub shown_answers : (vs : List AnswerVec) → map (λ v. v.items) vs ≡ map (λ a. a.answers) (map (λ v. shown v) vs)
shown_answers [] = refl
shown_answers (v ∷ vs) = ap (λ (xs : List (List Answer)). v.items ∷ xs) (shown_answers vs)
