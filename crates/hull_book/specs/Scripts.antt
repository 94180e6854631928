-- Scripts as contracts see them.
use Rattle.std.specs.Prelude.{◌≡◌, ◌≤◌, ℕ, List, [], ◌∷◌, length, map, max, replicate, sum_by}
use Rattle.std.specs.Prelude.{slice_index_or, ◌++◌, ◌-◌, Vec}
use Rattle.std.specs.List.{All}
use Rattle.hull_set.specs.declared.call.Call.{Call}
use Rattle.hull_book.specs.declared.limits.TheConstants.{SEAT_LIMIT, TEXT_LINE_LIMIT}

-- the calls of a phase: a list for each worker
abbrev pub PhaseValue : Type 0
PhaseValue = List (List Call)

-- a number of workers, and the phases in order
pub record ScriptValue : Type 0 where
  pub workers : ℕ
  pub phases : List PhaseValue

-- the lists in these vectors
abbrev pub lists_of : {A : Type 0} → List (Vec Call A) → PhaseValue
lists_of vectors = map (λ v. v.items) vectors

-- how many calls a phase has
abbrev pub calls_in : PhaseValue → ℕ
calls_in jobs = sum_by (λ calls. length calls) jobs

-- how many calls the phases have
abbrev pub calls_in_all : List PhaseValue → ℕ
calls_in_all phases = sum_by calls_in phases

-- the limits of a script: one to 64 workers, a list of calls for each worker in each phase, and no more calls than a text has lines
pub record IsScript (workers : ℕ) (phases : List PhaseValue) : Type 0 where
  pub workers_low : 1 ≤ workers
  pub workers_high : workers ≤ SEAT_LIMIT
  pub jobs : All (λ phase. length phase ≡ workers) phases
  pub calls : calls_in_all phases ≤ TEXT_LINE_LIMIT

-- the calls of a phase, with an empty list for each further worker
abbrev pub with_idle : ℕ → PhaseValue → PhaseValue
with_idle workers phase = phase ++ replicate (workers - length phase) []

-- the same calls for this many workers, if that is more: the new ones have no calls
abbrev pub widened : ℕ → ScriptValue → ScriptValue
widened workers script =
    record { workers = max script.workers workers; phases = map (with_idle (max script.workers workers)) script.phases }

-- the calls of a worker over all phases, in their order
abbrev pub calls_of : ℕ → List PhaseValue → List Call
calls_of worker [] = []
calls_of worker (phase ∷ rest) = slice_index_or phase worker [] ++ calls_of worker rest
