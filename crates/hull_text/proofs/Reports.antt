-- The text of a report, piece by piece.
use Rattle.std.proofs.lemmas.Grind.{common_steps}
use Rattle.std.proofs.Common.{◌≡◌, ◌<◌, ◌≤◌, ◌+◌, ◌++◌, ℕ, zero, suc, List, [], ◌∷◌, length, take, drop, get_or}
use Rattle.std.proofs.Common.{refl, sym, ap, subst, ◌∙◌, arith, add-one, append_assoc, drop-cons, All}
use Rattle.std.specs.Prelude.{slice_index, slice_index_or, Vec}
use Rattle.std.proofs.lemmas.List.{drop_all, length-append}
use Rattle.hull_set.specs.declared.call.Call.{Call}
use Rattle.hull_book.specs.Scripts.{PhaseValue, calls_of}
use Rattle.hull_book.specs.Answers.{Answer, answers_in}
use Rattle.hull_text.specs.Answers.{answer_line, answers_text}
use Rattle.hull_text.specs.ReportText.{ledger_line, ledgers_text, workers_text}

-- A line comes before the others.
pub answers_cons : (worker : ℕ) (call : Call) (answer : Answer) (calls more_calls : List Call)
    (answers more_answers : List Answer) → calls ≡ call ∷ more_calls → answers ≡ answer ∷ more_answers
    → answers_text worker calls answers ≡ answer_line worker call answer
    ++ answers_text worker more_calls more_answers
unfolding answers_text
answers_cons worker call answer calls more_calls answers more_answers e f =
    rw (e, f) refl

-- No call, no line.
pub answers_no_call : (worker : ℕ) (calls : List Call) (answers : List Answer) → length calls ≡ 0
    → answers_text worker calls answers ≡ []
unfolding answers_text
answers_no_call worker [] answers e = refl
answers_no_call worker (call ∷ calls) answers e = absurd (omega (arith, e))

-- No answer, no line.
pub answers_no_answer : (worker : ℕ) (calls : List Call) (answers : List Answer) → length answers ≡ 0
    → answers_text worker calls answers ≡ []
unfolding answers_text
answers_no_answer worker [] answers e = refl
answers_no_answer worker (call ∷ calls) [] e = refl
answers_no_answer worker (call ∷ calls) (answer ∷ answers) e = absurd (omega (arith, e))

-- The lines of some calls, and those of the calls after them.
pub answers_split : (worker : ℕ) (calls more : List Call) (answers : List Answer)
    → answers_text worker (calls ++ more) answers ≡ answers_text worker calls (take (length calls) answers)
    ++ answers_text worker more (drop (length calls) answers)
unfolding answers_text
answers_split worker [] more answers = refl
answers_split worker (call ∷ calls) more [] = sym (nothing worker more)
  where
    nothing : (worker : ℕ) (more : List Call) → answers_text worker more [] ≡ []
    nothing worker [] = refl
    nothing worker (call ∷ calls) = refl
answers_split worker (call ∷ calls) more (answer ∷ answers) =
    ap (λ (t : List ℕ). answer_line worker call answer ++ t) (answers_split worker calls more answers)
    ∙ sym (append_assoc (answer_line worker call answer) (answers_text worker calls (take (length calls) answers))
    (answers_text worker more (drop (length calls) answers)))

-- The calls of a worker in the first phase come before the others.
pub phases_cons : (worker : ℕ) (phase : PhaseValue) (rest after : List PhaseValue) (answers : List Answer)
    (calls : List Call) → rest ≡ phase ∷ after → calls ≡ slice_index_or phase worker []
    → answers_text worker (calls_of worker rest) answers ≡ answers_text worker calls (take (length calls) answers)
    ++ answers_text worker (calls_of worker after)
    (drop (length calls) answers)
phases_cons worker phase rest after answers calls e f = grind (arith, common_steps, answers_text, calls_of, answers_split, calls)

-- The lines of a worker come before those of the workers after it.
pub workers_more : (k : ℕ) (phases : List PhaseValue) (all : List (List Answer)) → k < length all
    → workers_text k phases (drop k all) ≡ answers_text k (calls_of k phases)
    (slice_index_or all k []) ++ workers_text (k + 1) phases (drop (k + 1) all)
unfolding workers_text
workers_more k phases all lt = grind (arith, common_steps, drop-cons, answers_text, calls_of, slice_index_or, workers_text, add-one)

-- No worker is left.
pub workers_none : (k : ℕ) (phases : List PhaseValue) (all : List (List Answer)) → length all ≤ k
    → workers_text k phases (drop k all) ≡ []
unfolding workers_text
workers_none k phases all le = rw (drop_all k all le) refl

-- The line of a ledger comes before those after it.
pub ledgers_more : (k : ℕ) (all : List ℕ) → k < length all
    → ledgers_text k (drop k all) ≡ ledger_line k (slice_index all k) ++ ledgers_text (k + 1) (drop (k + 1) all)
unfolding ledgers_text
ledgers_more k all lt = grind (arith, common_steps, drop-cons, ledger_line, slice_index, ledgers_text, add-one)

-- No ledger is left.
pub ledgers_none : (k : ℕ) (all : List ℕ) → length all ≤ k → ledgers_text k (drop k all) ≡ []
unfolding ledgers_text
ledgers_none k all le = rw (drop_all k all le) refl

-- A property of all is one of the rest.
pub all_after : {X : Type 0} (P : X → Type 0) (x : X) (after rest : List X) → rest ≡ x ∷ after → All P rest
    → All P after
all_after P x after rest e all = λ k d lt.
    let whole : All P (x ∷ after) = subst (All P) e all in
    whole (suc k) d (omega (arith, lt))

-- The calls of a worker are those of the first phase and of the others.
pub calls_long : (worker : ℕ) (phase : PhaseValue) (rest after : List PhaseValue) (calls : List Call)
    → rest ≡ phase ∷ after → calls ≡ slice_index_or phase worker []
    → length (calls_of worker rest) ≡ length calls + length (calls_of worker after)
calls_long worker phase rest after calls e f =
    rw e (length-append (slice_index_or phase worker []) (calls_of worker after) ∙ rw (← f) refl)

-- No phase, no call.
pub calls_none : (worker : ℕ) (rest : List PhaseValue) → length rest ≡ 0 → length (calls_of worker rest) ≡ 0
calls_none worker [] e = refl
calls_none worker (phase ∷ rest) e = absurd (omega (arith, e))

-- The answers of a worker among all.
pub answers_at : {A : Type 0} (vectors : List (Vec Answer A)) (k : ℕ) (v : Vec Answer A) (answers : List Answer)
    → k < length vectors → v ≡ get_or vectors k v → answers ≡ v.items
    → answers ≡ slice_index_or (answers_in vectors) k []
answers_at [] k v answers lt is same = absurd (omega (arith, lt))
answers_at (w ∷ ws) zero v answers lt is same = same ∙ ap (λ (x : Vec Answer _). x.items) is
answers_at (w ∷ ws) (suc k) v answers lt is same = answers_at ws k v answers (omega (arith, lt)) is same

-- A list of answers for each vector.
pub answers_each : {A : Type 0} (vectors : List (Vec Answer A)) → length (answers_in vectors) ≡ length vectors
answers_each [] = refl
answers_each (v ∷ vs) = omega (arith, answers_each vs)
