-- How many lines a phase adds: as many as it has calls, or as the journal had space.
use Rattle.std.proofs.Common.{◌≡◌, ◌<◌, ◌≤◌, ◌+◌, ℕ, zero, suc, List, length, ap, subst, arith, ◌⊎◌}
use Rattle.std.proofs.lemmas.Grind.{common_steps}
use Rattle.std.proofs.Common.{inl, inr, length-append, take}
use Rattle.std.specs.Prelude.{min}
use Rattle.std.proofs.lemmas.Bool.{cases_lt}
use Rattle.std.proofs.lemmas.List.{take_all, take_more}
use Rattle.std.proofs.lemmas.List.Sums.{sum_by-append, sum_by-cons}
use Rattle.hull_set.specs.declared.call.Call.{Call}
use Rattle.hull_book.specs.declared.line.Line.{Line}
use Rattle.hull_book.specs.declared.head.BookHead.{BookHead}
use Rattle.hull_book.specs.Books.{BookValue, IsLawful}
use Rattle.hull_book.specs.Ledgers.{count_of}
use Rattle.hull_book.specs.Scripts.{PhaseValue, calls_in}
use Rattle.hull_book.proofs.Counts.{below, below_more, below_none, below_all}
use Rattle.hull_pool.specs.Runs.{job}
use Rattle.hull_book.specs.Answers.{Answer}
use Rattle.hull_pool.specs.Work.{HasWorked, lines_of, capacity_of, workers_of}
use Rattle.hull_pool.proofs.Called.{count-lines_of}
use Rattle.hull_set.specs.declared.set.HullSet.{Ghosts}

-- a worker has as many lines more as it was served
count_grown : (k cap done : ℕ) (calls : List Call) (before lines : List Line) (old new : List Answer)
    (h : HasWorked k cap done calls before lines old new) → count_of k lines ≡ count_of k before + length h.served
count_grown k cap done calls before lines old new h =
    omega (
      arith,
      count-lines_of k lines,
      count-lines_of k before,
      ap length h.own_lines,
      length-append (lines_of k before) h.served,
    )

-- the calls of the first w + 1 workers
first_jobs : (phase : PhaseValue) (w : ℕ) → w < length phase
    → calls_in (take (w + 1) phase) ≡ calls_in (take w phase) + length (job phase w)
first_jobs phase w lt = grind (arith, common_steps, take_more, sum_by-append, sum_by-cons)

-- the calls of all workers
all_jobs : (phase : PhaseValue) → calls_in (take (length phase) phase) ≡ calls_in phase
all_jobs phase = ap (λ (xs : PhaseValue). calls_in xs) (take_all (length phase) phase (omega arith))

-- the lines of the first w workers: no more than their calls were added, and fewer only if the journal is full
pub record Grows (cap : ℕ) (phase : PhaseValue) (before lines : List Line) (w : ℕ) : Type 0 where
  pub most : below w lines ≤ below w before + calls_in (take w phase)
  pub all : (cap ≤ length lines) ⊎ (below w lines ≡ below w before + calls_in (take w phase))

-- the first w workers added this many, each having worked
grows : (cap : ℕ) (phase : PhaseValue) (before lines : List Line) (olds news : ℕ → List Answer) (w : ℕ)
    → w ≤ length phase → ((k : ℕ) → k < w
    → HasWorked k cap (length (job phase k)) (job phase k) before lines (olds k) (news k))
    → Grows cap phase before lines w
grows cap phase before lines olds news zero le each = grind (arith, common_steps, below_none)
grows cap phase before lines olds news (suc w) le each =
    let less = grows cap phase before lines olds news w (omega arith) (λ k lt. each k (omega arith)) in
    let h = each w (omega arith) in
    let more : count_of w lines ≡ count_of w before + length h.served = count_grown w cap _ _ before lines _ _ h in
    let jobs = first_jobs phase w (omega arith) in
    let one = below_more w lines in
    let two = below_more w before in
    subst (Grows cap phase before lines) add-one' (record {
      most = omega (arith, less.most, more, jobs, one, two, h.few);
      all = elim less.all [
        | inl full ↦ inl full
        | inr same ↦ elim (cases_lt (length h.served) (length (job phase w))) [
          | inl lt ↦ inl (h.full lt)
          | inr ge ↦ inr (omega (arith, same, more, jobs, one, two, h.few))
        ]
      ];
    })
  where
    add-one' : {w : ℕ} → w + 1 ≡ suc w
    add-one' {w} = omega arith

module _ {S : Type 0} {K : Ghosts S} where
  -- the journal has grown by the calls of the phase, or to its capacity
  pub grown_to : (b c : BookValue S) (phase : PhaseValue) (olds news : ℕ → List Answer) → IsLawful K b → IsLawful K c
      → c.head ≡ b.head → length phase ≡ workers_of b
      → ((k : ℕ) → k < workers_of b
      → HasWorked k (capacity_of b) (length (job phase k)) (job phase k) b.lines c.lines (olds k) (news k))
      → length c.lines ≡ min (length b.lines + calls_in phase) (capacity_of b)
  grown_to b c phase olds news law still same long each =
      let g = grows (capacity_of b) phase b.lines c.lines olds news (length phase) (omega arith)
      (λ k lt. each k (omega arith)) in
      let all_b : below (length phase) b.lines ≡ length b.lines =
      rw long (below_all (workers_of b) b.lines law.seats) in
      let all_c : below (length phase) c.lines ≡ length c.lines =
      rw (long, ← ap (λ (h : BookHead). h.workers) same) (below_all (workers_of c) c.lines still.seats) in
      let jobs = all_jobs phase in
      let within : length c.lines ≤ capacity_of b =
      rw (ap (λ (h : BookHead). h.journal.capacity) same) at still.within in
      elim g.all [
        | inl full ↦ omega (arith, g.most, all_b, all_c, jobs, within, full)
        | inr equal ↦ omega (arith, equal, all_b, all_c, jobs, within)
      ]
