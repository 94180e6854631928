-- A phase: from the lists from which its worker set is assembled to the lists into which it is disbanded.
use Rattle.std.proofs.Common.{◌≡◌, ◌<◌, ◌≤◌, ◌+◌, ◌-◌, ℕ, zero, suc, List, [], ◌∷◌, ◌++◌, length, refl, sym, ap, subst}
use Rattle.std.proofs.lemmas.Grind.{common_steps}
use Rattle.std.proofs.Common.{◌∙◌, arith, reverse, map, length-append, append-nil}
use Rattle.std.specs.Prelude.{All, slice_index_or, slice_get, Option, Some, None, IfSome, Vec, vec_len, vec_capacity}
use Rattle.std.specs.Global.{Global}
use Rattle.std.specs.List.{AllZip}
use Rattle.std.proofs.lemmas.List.{length-map, length-replicate, length-reverse}
use Rattle.std.proofs.Common.{Ok, Err}
use Rattle.std.proofs.lemmas.List.Elements.{All-cons, All-head, All-tail}
use Rattle.std.proofs.lemmas.List.Sums.{sum_by-cons}
use mathlib.Core.List.{IsPrefix}
use Rattle.hull_set.specs.declared.call.Call.{Call}
use Rattle.hull_book.specs.declared.limits.TheConstants.{TEXT_LINE_LIMIT}
use Rattle.hull_book.specs.declared.head.BookHead.{BookHead}
use Rattle.hull_book.specs.declared.line.Line.{Line}
use Rattle.hull_book.specs.Books.{BookValue, IsLawful}
use Rattle.hull_book.specs.Ledgers.{LedgerValue, IsLedger, IsLedgerOf, count_of}
use Rattle.hull_book.specs.Scripts.{PhaseValue, calls_in, calls_in_all, calls_of}
use Rattle.ticket_lock.specs.declared.lock.TicketLock.{TicketLock}
use Rattle.ticket_lock.specs.declared.seat.Seat.{Seat}
use Rattle.ticket_lock.specs.Tokens.{IsSeatOf, seat_number, seat_seen}
use Rattle.hull_pool.specs.declared.worker.Worker.{Worker}
use Rattle.hull_book.specs.Answers.{Answer}
use Rattle.hull_pool.specs.Answers.{AnswersValue, shown, shown_workers, no_answers}
use Rattle.hull_pool.specs.Crews.{Boxed, book_head, team, worker_of, IsReady, HasRun}
use Rattle.hull_pool.specs.Runs.{job, answers_of, MayRunAll, HasRunAll}
use Rattle.hull_pool.proofs.Growth.{grown_to}
use Rattle.hull_pool.specs.Work.{HasWorked, lines_of, capacity_of, workers_of, replies_of, fulls}
use base.Growing.{prefix_trans}
use Rattle.hull_pool.proofs.Called.{same_count}
use Rattle.hull_set.specs.declared.set.HullSet.{Ghosts}

-- a seat of a lock around a book on the heap
abbrev pub BookSeat : Type 0 → Type 0
BookSeat S = Seat (Boxed S) BookHead Line

-- a worker's answers, in memory
abbrev pub AnswerVec : Type 0
AnswerVec = Vec Answer Global

module _ {B : Type 0} where
  -- the seats are numbered from j on
  abbrev pub Numbered : ℕ → List (Seat B BookHead Line) → Type 0
  Numbered j [] = Unit {0}
  Numbered j (s ∷ ss) = (seat_number s ≡ j) × Numbered (suc j) ss

  -- seats that each have the number of their place are numbered so
  pub numbered_from : (j : ℕ) (ss : List (Seat B BookHead Line))
      → ((i : ℕ) (s : Seat B BookHead Line) → slice_get ss i ≡ Some s → seat_number s ≡ i + j) → Numbered j ss
  numbered_from j [] h = tt
  numbered_from j (s ∷ ss) h =
      (h 0 s refl ∙ omega arith, numbered_from (suc j) ss (λ i t e. h (suc i) t e ∙ omega arith))

-- nothing and j is j
zero_plus : (j : ℕ) → 0 + j ≡ j
zero_plus j = omega arith

-- space that is left is space after what is there
vec_space : (v : AnswerVec) (n : ℕ) → n ≤ vec_capacity v - length v.items → vec_len v + n ≤ vec_capacity v
vec_space v n h = omega (arith, v.ok.0, v.ok.1)

module _ {S : Type 0} where
  -- what is true of the ledgers, the jobs and the capacities of the workers from j on
  pub record Fits (b : BookValue S) (phase : PhaseValue) (j : ℕ) (vs : List AnswerVec)
      (ls : List LedgerValue) : Type 0 where
    pub ledgers : (i : ℕ) (d : LedgerValue) → i < length ls → IsLedger b (i + j) (slice_index_or ls i d)
    pub few : (i : ℕ) → i < length ls → length (job phase (i + j)) ≤ TEXT_LINE_LIMIT
    pub jobs : length ls + j ≤ length phase
    pub space : (i : ℕ) (d : AnswerVec) → i < length vs
        → length (job phase (i + j)) ≤ vec_capacity (slice_index_or vs i d) - length (slice_index_or vs i d).items

  -- what fits the workers from j on fits those from j + 1 on
  fits_rest : (b : BookValue S) (phase : PhaseValue) (j : ℕ) (v : AnswerVec) (vs : List AnswerVec) (l : LedgerValue)
      (ls : List LedgerValue) → Fits b phase j (v ∷ vs) (l ∷ ls) → Fits b phase (suc j) vs ls
  fits_rest b phase j v vs l ls f = record {
    ledgers = λ i d lt. subst (λ (n : ℕ). IsLedger b n (slice_index_or ls i d)) (omega arith)
        (f.ledgers (suc i) d (omega arith));
    few = λ i lt. subst (λ (n : ℕ). length (job phase n) ≤ TEXT_LINE_LIMIT) (omega arith) (f.few (suc i) (omega arith));
    jobs = omega (arith, f.jobs);
    space = λ i d lt. subst
        (λ (n : ℕ). length (job phase n) ≤ vec_capacity (slice_index_or vs i d) - length (slice_index_or vs i d).items)
        (omega arith) (f.space (suc i) d (omega arith));
  }

  -- every worker of a set is ready
  pub ready_from : (lock : TicketLock (Boxed S) BookHead Line) (b : BookValue S) (phase : PhaseValue) (j : ℕ)
      (ss : List (BookSeat S)) (vs : List AnswerVec) (ls : List LedgerValue) → length vs ≡ length ss
      → length ls ≡ length ss → Numbered j ss → All (IsSeatOf book_head lock) ss
      → All (λ s. seat_seen s ≡ b.lines) ss → Fits b phase j vs ls
      → All (IsReady lock b phase) (team worker_of ss vs ls)
  ready_from lock b phase j [] vs ls lv ll num own seen f = λ k d lt. absurd (omega arith)
  ready_from lock b phase j (s ∷ ss) [] ls lv ll num own seen f = absurd (omega arith)
  ready_from lock b phase j (s ∷ ss) (v ∷ vs) [] lv ll num own seen f = absurd (omega arith)
  ready_from lock b phase j (s ∷ ss) (v ∷ vs) (l ∷ ls) lv ll num own seen f =
      let mine : IsLedger b j l = subst (λ (n : ℕ). IsLedger b n l) (zero_plus j) (f.ledgers 0 l (omega arith)) in
      let is_seen : seat_seen s ≡ b.lines = All-head (λ t. seat_seen t ≡ b.lines) s ss seen in
      let ledger : IsLedgerOf (seat_number s) (seat_seen s) l =
      subst (λ (n : ℕ). IsLedgerOf n (seat_seen s) l) (sym num.0)
      (mine.seat_is, mine.count_is ∙ ap (λ (xs : List Line). count_of j xs) (sym is_seen)) in
      All-cons (IsReady lock b phase) (worker_of s v l) (team worker_of ss vs ls) (record {
        seated = refl;
        own = (All-head (IsSeatOf book_head lock) s ss own, refl, is_seen, ledger);
        below = subst (λ (n : ℕ). n < workers_of b) (sym num.0) mine.below;
        job = subst (λ (n : ℕ). n < length phase) (sym num.0) (omega (arith, f.jobs));
        few = subst (λ (n : ℕ). length (job phase n) ≤ TEXT_LINE_LIMIT) (zero_plus j ∙ sym num.0)
            (f.few 0 (omega arith));
        space = vec_space v (length (job phase (seat_number s)))
            (subst (λ (n : ℕ). length (job phase n) ≤ vec_capacity v - length v.items) (zero_plus j ∙ sym num.0)
            (f.space 0 v (omega arith)));
      }) (ready_from lock b phase (suc j) ss vs ls (omega arith) (omega arith) num.1
      (All-tail (IsSeatOf book_head lock) s ss own) (All-tail (λ t. seat_seen t ≡ b.lines) s ss seen)
      (fits_rest b phase j v vs l ls f))

  -- the result of the worker n: its share of the new journal, its ledger, and the same memory for its answers
  pub record Outcome (b c : BookValue S) (phase : PhaseValue) (n : ℕ) (v w : AnswerVec) (l : LedgerValue) : Type 0 where
    pub worked : HasWorked n (capacity_of b) (length (job phase n)) (job phase n) b.lines c.lines v.items w.items
    pub ledger : IsLedgerOf n c.lines l
    pub space : vec_capacity w ≡ vec_capacity v
    pub begins : IsPrefix b.lines c.lines

  -- the journal of the closed book has what the seat saw
  abbrev pub IsSeenIn : BookValue S → BookSeat S → Type 0
  IsSeenIn c s = IsPrefix (seat_seen s) c.lines
      × (lines_of (seat_number s) c.lines ≡ lines_of (seat_number s) (seat_seen s))

-- what a worker did stays true when the journal grew by other seats' lines
worked_on : (n cap done : ℕ) (calls : List Call) (before seen lines : List Line) (old new : List Answer)
    → IsPrefix seen lines → lines_of n lines ≡ lines_of n seen → HasWorked n cap done calls before seen old new
    → HasWorked n cap done calls before lines old new
worked_on n cap done calls before seen lines old new begins own h = grind (arith, common_steps, longer_by)
  where
    longer_by : (xs ys : List Line) → IsPrefix xs ys → length xs ≤ length ys
    longer_by xs ys p = omega (arith, length-append xs p.0, ap length p.1)

module _ {S : Type 0} where
  -- the result of one worker
  outcome : (lock : TicketLock (Boxed S) BookHead Line) (b c : BookValue S) (phase : PhaseValue) (n : ℕ)
      (s t : BookSeat S) (v w : AnswerVec) (l m : LedgerValue) → seat_number s ≡ n → IsSeenIn c t
      → HasRun lock b phase (worker_of s v l) (worker_of t w m) → Outcome b c phase n v w m
  outcome lock b c phase n s t v w l m num seen run =
      let e : seat_number t ≡ n = run.number ∙ num in
      subst (λ (k : ℕ). Outcome b c phase k v w m) e (record {
        worked = worked_on (seat_number t) _ _ _ _ (seat_seen t) c.lines _ _ seen.0 seen.1 run.own.4;
        ledger = (run.own.3.0, run.own.3.1 ∙ sym (same_count (seat_number t) c.lines (seat_seen t) seen.1));
        space = run.space;
        begins = prefix_trans b.lines (seat_seen t) c.lines run.own.2 seen.0;
      })

  -- the result of each worker of a set
  pub outcomes : (lock : TicketLock (Boxed S) BookHead Line) (b c : BookValue S) (phase : PhaseValue) (j : ℕ)
      (ss ts : List (BookSeat S)) (vs ws : List AnswerVec) (ls ms : List LedgerValue) → length vs ≡ length ss
      → length ls ≡ length ss → length ts ≡ length ss → length ws ≡ length ss → length ms ≡ length ss
      → Numbered j ss → All (IsSeenIn c) ts
      → AllZip (HasRun lock b phase) (team worker_of ss vs ls) (team worker_of ts ws ms)
      → (k : ℕ) (d e : AnswerVec) (f : LedgerValue) → k < length ss
      → Outcome b c phase (k + j) (slice_index_or vs k d) (slice_index_or ws k e)
      (slice_index_or ms k f)
  outcomes lock b c phase j (s ∷ ss) (t ∷ ts) (v ∷ vs) (w ∷ ws) (l ∷ ls)
      (m ∷ ms) lv ll lt lw lm num seen runs zero d e f lt0 =
      subst (λ (n : ℕ). Outcome b c phase n v w m) (sym (zero_plus j))
      (outcome lock b c phase j s t v w l m num.0 (All-head (IsSeenIn c) t ts seen) runs.0)
  outcomes lock b c phase j (s ∷ ss) (t ∷ ts) (v ∷ vs) (w ∷ ws) (l ∷ ls) (m ∷ ms) lv ll lt lw lm num seen runs
      (suc k) d e f lt0 =
      subst (λ (n : ℕ). Outcome b c phase n (slice_index_or vs k d) (slice_index_or ws k e) (slice_index_or ms k f))
      (omega arith)
      (outcomes lock b c phase (suc j) ss ts vs ws ls ms (omega arith) (omega arith) (omega arith) (omega arith)
      (omega arith) num.1 (All-tail (IsSeenIn c) t ts seen) runs.1 k d e f (omega arith))
  outcomes lock b c phase j [] ts vs ws ls ms lv ll lt lw lm num seen runs k d e f lt0 = absurd (omega arith)
  outcomes lock b c phase j (s ∷ ss) [] vs ws ls ms lv ll lt lw lm num seen runs k d e f lt0 = absurd (omega arith)
  outcomes lock b c phase j (s ∷ ss) (t ∷ ts) [] ws ls ms lv ll lt lw lm num seen runs k d e f lt0 =
      absurd (omega arith)
  outcomes lock b c phase j (s ∷ ss) (t ∷ ts) (v ∷ vs) [] ls ms lv ll lt lw lm num seen runs k d e f lt0 =
      absurd (omega arith)
  outcomes lock b c phase j (s ∷ ss) (t ∷ ts) (v ∷ vs) (w ∷ ws) [] ms lv ll lt lw lm num seen runs k d e f lt0 =
      absurd (omega arith)
  outcomes lock b c phase j (s ∷ ss) (t ∷ ts) (v ∷ vs) (w ∷ ws) (l ∷ ls) [] lv ll lt lw lm num seen runs k d e f lt0 =
      absurd (omega arith)

-- a team has as many members as each list
pub team-length : {A B C D : Type 0} → (make : A → B → C → D) (xs : List A) (ys : List B) (zs : List C)
    → length ys ≡ length xs → length zs ≡ length xs → length (team make xs ys zs) ≡ length xs
team-length make [] [] [] e f = refl
team-length make (x ∷ xs) (y ∷ ys) (z ∷ zs) e f = omega (arith, team-length make xs ys zs (omega arith) (omega arith))
team-length make [] (y ∷ ys) zs e f = absurd (omega arith)
team-length make [] [] (z ∷ zs) e f = absurd (omega arith)
team-length make (x ∷ xs) [] zs e f = absurd (omega arith)
team-length make (x ∷ xs) (y ∷ ys) [] e f = absurd (omega arith)

-- what follows from a relation holds of every member on its right
pub zip_all : {A B : Type 0} → (R : A → B → Type 0) (P : B → Type 0) (xs : List A) (ys : List B)
    → ((x : A) (y : B) → R x y → P y) → AllZip R xs ys → All P ys
zip_all R P [] [] f z = λ k d lt. absurd (omega arith)
zip_all R P [] (y ∷ ys) f z = absurd z
zip_all R P (x ∷ xs) [] f z = absurd z
zip_all R P (x ∷ xs) (y ∷ ys) f z = All-cons P y ys (f x y z.0) (zip_all R P xs ys f z.1)

module _ {S : Type 0} where
  -- the seats of a team that has run are the lock's
  pub seats_back : (lock : TicketLock (Boxed S) BookHead Line) (b : BookValue S) (phase : PhaseValue)
      (olds : List (Worker (Boxed S) BookHead Line)) (ts : List (BookSeat S)) (ws : List AnswerVec)
      (ms : List LedgerValue) → length ws ≡ length ts → length ms ≡ length ts
      → AllZip (HasRun lock b phase) olds (team worker_of ts ws ms) → All (IsSeatOf book_head lock) ts
  seats_back lock b phase olds [] ws ms e f z = λ k d lt. absurd (omega arith)
  seats_back lock b phase olds (t ∷ ts) [] ms e f z = absurd (omega arith)
  seats_back lock b phase olds (t ∷ ts) (w ∷ ws) [] e f z = absurd (omega arith)
  seats_back lock b phase [] (t ∷ ts) (w ∷ ws) (m ∷ ms) e f z = absurd z
  seats_back lock b phase (old ∷ olds) (t ∷ ts) (w ∷ ws) (m ∷ ms) e f z =
      All-cons (IsSeatOf book_head lock) t ts z.0.own.0
      (seats_back lock b phase olds ts ws ms (omega arith) (omega arith) z.1)

-- the member at a place, and what it shows
shown_at : (vs : List AnswerVec) (k : ℕ) → k < length vs
    → (v : AnswerVec) × (slice_index_or (map (λ v. shown v) vs) k no_answers ≡ shown v)
    × ((d : AnswerVec) → slice_index_or vs k d ≡ v)
shown_at [] k lt = absurd (omega arith)
shown_at (v ∷ vs) zero lt = (v, refl, λ d. refl)
shown_at (v ∷ vs) (suc k) lt = shown_at vs k (omega arith)

-- k and nothing is k
plus_zero : (k : ℕ) → k + 0 ≡ k
plus_zero k = omega arith

-- a worker's calls in a list of one phase are those in the phase
pub calls_of-one : (phase : PhaseValue) (k : ℕ) → calls_of k (phase ∷ []) ≡ job phase k
calls_of-one phase k = append-nil (job phase k)

-- so are the calls of all workers
calls_in-one : (phase : PhaseValue) → calls_in_all (phase ∷ []) ≡ calls_in phase
calls_in-one phase = sum_by-cons (λ (p : PhaseValue). calls_in p) phase [] ∙ omega arith

module _ {S : Type 0} {K : Ghosts S} where
  -- what the workers may run fits them
  pub fits_all : (b : BookValue S) (phase : PhaseValue) (vs : List AnswerVec) (ls : List LedgerValue)
      → MayRunAll K b (shown_workers vs ls) (phase ∷ []) → length vs ≡ length ls → Fits b phase 0 vs ls
  fits_all b phase vs ls may long = record {
    ledgers = λ i d lt. subst (λ (n : ℕ). IsLedger b n (slice_index_or ls i d)) (sym (plus_zero i))
        (may.ledgers.each i d lt);
    few = λ i lt. subst (λ (n : ℕ). length (job phase n) ≤ TEXT_LINE_LIMIT) (sym (plus_zero i))
        (rw (calls_of-one phase i) at (may.few i (omega (arith, may.ledgers.number))));
    jobs = omega (arith, All-head (λ p. length p ≡ workers_of b) phase [] may.jobs, may.ledgers.number);
    space = λ i d lt.
        let at = shown_at vs i lt in
        let space : length (job phase i) ≤ (answers_of (shown_workers vs ls) i).space =
        rw (calls_of-one phase i) at (may.space i (omega (arith, may.ledgers.number))) in
        let enough : length (job phase i) ≤ vec_capacity at.0 - length (at.0).items =
        subst (λ (a : AnswersValue). length (job phase i) ≤ a.space) at.1 space in
        subst (λ (n : ℕ). length (job phase n)
        ≤ vec_capacity (slice_index_or vs i d) - length (slice_index_or vs i d).items) (sym (plus_zero i))
        (subst (λ (v : AnswerVec). length (job phase i) ≤ vec_capacity v - length v.items) (sym (at.2 d)) enough);
  }

module _ {S : Type 0} where
  -- the result of the worker k, and the indices of its answers and its ledger
  pub record CameOut (b c : BookValue S) (phase : PhaseValue) (vs ws : List AnswerVec) (ms : List LedgerValue)
      (k : ℕ) : Type 0 where
    pub old : AnswerVec
    pub new : AnswerVec
    pub old_shown : slice_index_or (map (λ v. shown v) vs) k no_answers ≡ shown old
    pub new_shown : slice_index_or (map (λ v. shown v) ws) k no_answers ≡ shown new
    pub outcome_is : (f : LedgerValue) → Outcome b c phase k old new (slice_index_or ms k f)

  -- the result of the worker k of a set
  pub came_out : (lock : TicketLock (Boxed S) BookHead Line) (b c : BookValue S) (phase : PhaseValue)
      (ss ts : List (BookSeat S)) (vs ws : List AnswerVec) (ls ms : List LedgerValue) → length vs ≡ length ss
      → length ls ≡ length ss → length ts ≡ length ss → length ws ≡ length ss → length ms ≡ length ss
      → Numbered 0 ss → All (IsSeenIn c) ts
      → AllZip (HasRun lock b phase) (team worker_of ss vs ls) (team worker_of ts ws ms) → (k : ℕ)
      → k < length ss → CameOut b c phase vs ws ms k
  came_out lock b c phase ss ts vs ws ls ms lv ll lt lw lm num seen runs k below =
      let v = shown_at vs k (omega arith) in
      let w = shown_at ws k (omega arith) in record {
        old = v.0;
        new = w.0;
        old_shown = v.1;
        new_shown = w.1;
        outcome_is = λ f. subst (λ (n : ℕ). Outcome b c phase n v.0 w.0 (slice_index_or ms k f)) (plus_zero k)
            (subst (λ (x : AnswerVec). Outcome b c phase (k + 0) x w.0 (slice_index_or ms k f)) (v.2 v.0)
            (subst (λ (y : AnswerVec). Outcome b c phase (k + 0) (slice_index_or vs k v.0) y
            (slice_index_or ms k f)) (w.2 w.0)
            (outcomes lock b c phase 0 ss ts vs ws ls ms lv ll lt lw lm num seen runs k v.0 w.0 f below)));
      }

  -- the worker's share, as the definition of the phase states it
  came_worked : (b c : BookValue S) (phase : PhaseValue) (vs ws : List AnswerVec) (ls ms : List LedgerValue) (k : ℕ)
      (f : LedgerValue) → CameOut b c phase vs ws ms k
      → HasWorked k (capacity_of b) (length (job phase k)) (job phase k) b.lines c.lines
      (answers_of (shown_workers vs ls) k).answers (answers_of (shown_workers ws ms) k).answers
  came_worked b c phase vs ws ls ms k f out =
      subst (λ (a : AnswersValue). HasWorked k (capacity_of b) (length (job phase k))
      (job phase k) b.lines c.lines a.answers (answers_of (shown_workers ws ms) k).answers) (sym out.old_shown)
      (subst (λ (a : AnswersValue). HasWorked k (capacity_of b) (length (job phase k))
      (job phase k) b.lines c.lines out.old.items a.answers) (sym out.new_shown) (out.outcome_is f).worked)

-- as many answers more as there were calls
answers_grown : (k cap : ℕ) (calls : List Call) (before lines : List Line) (old new : List Answer)
    → HasWorked k cap (length calls) calls before lines old new → length new ≡ length old + length calls
answers_grown k space calls before lines old new h =
    omega (
      arith,
      ap length h.answers,
      length-append (old ++ replies_of h.served) (fulls (length calls - length h.served)),
      length-append old (replies_of h.served),
      length-map {B = Answer} h.served (λ (line : Line). Ok line.reply),
      length-replicate {A = Answer} (length calls - length h.served) (Err (record {})),
      h.few,
    )

module _ {S : Type 0} where
  -- the space that is left is less by the worker's calls
  came_space : (b c : BookValue S) (phase : PhaseValue) (vs ws : List AnswerVec) (ls ms : List LedgerValue) (k : ℕ)
      (f : LedgerValue) → CameOut b c phase vs ws ms k
      → length (job phase k) ≤ (answers_of (shown_workers vs ls) k).space
      → (answers_of (shown_workers ws ms) k).space + length (job phase k)
      ≡ (answers_of (shown_workers vs ls) k).space
  came_space b c phase vs ws ls ms k f out space =
      let grown : length out.new.items ≡ length out.old.items + length (job phase k) =
      answers_grown k (capacity_of b) (job phase k) b.lines c.lines out.old.items out.new.items
      (out.outcome_is f).worked in
      let same : vec_capacity out.new ≡ vec_capacity out.old = (out.outcome_is f).space in
      let enough : length (job phase k) ≤ vec_capacity out.old - length out.old.items =
      subst (λ (a : AnswersValue). length (job phase k) ≤ a.space) out.old_shown space in
      let one : (answers_of (shown_workers vs ls) k).space ≡ vec_capacity out.old - length out.old.items =
      ap (λ (a : AnswersValue). a.space) out.old_shown in
      let two : (answers_of (shown_workers ws ms) k).space ≡ vec_capacity out.new - length out.new.items =
      ap (λ (a : AnswersValue). a.space) out.new_shown in
      omega (arith, grown, same, enough, one, two, out.old.ok.1)

module _ {S : Type 0} {K : Ghosts S} where
  -- the phase was run
  pub phase_ran : (lock : TicketLock (Boxed S) BookHead Line) (b c : BookValue S) (phase : PhaseValue)
      (ss ts : List (BookSeat S)) (vs ws : List AnswerVec) (ls ms : List LedgerValue) → 1 ≤ length ss
      → length ss ≡ workers_of b → length vs ≡ length ss → length ls ≡ length ss → length ts ≡ length ss
      → length ws ≡ length ss → length ms ≡ length ss → MayRunAll K b (shown_workers vs ls) (phase ∷ []) → Numbered 0 ss
      → IsLawful K c → c.head ≡ b.head → All (IsSeenIn c) ts
      → AllZip (HasRun lock b phase) (team worker_of ss vs ls) (team worker_of ts ws ms)
      → HasRunAll K b (shown_workers vs ls) (phase ∷ []) c (shown_workers ws ms)
  phase_ran lock b c phase ss ts vs ws ls ms some n lv ll lt lw lm may num law head seen runs = record {
    lawful = law;
    head = head;
    begins = ((out 0 (omega arith)).outcome_is none).begins;
    as_many = rw (calls_in-one phase)
        (grown_to b c phase (λ k. (answers_of (shown_workers vs ls) k).answers)
        (λ k. (answers_of (shown_workers ws ms) k).answers) may.lawful law head
        (All-head (λ p. length p ≡ workers_of b) phase [] may.jobs)
        (λ k below. came_worked b c phase vs ws ls ms k none (out k below)));
    each = λ k below. rw (calls_of-one phase k) (came_worked b c phase vs ws ls ms k none (out k below));
    ledgers = record {
      number = lm ∙ n ∙ sym (ap (λ (h : BookHead). h.workers) head);
      each = λ k d below. ledger k d _ _ (omega arith) ((out k (omega arith)).outcome_is d);
    };
    answers = length-map ws (λ (v : AnswerVec). shown v) ∙ lw ∙ n;
    space = λ k below. rw (calls_of-one phase k)
        (came_space b c phase vs ws ls ms k none (out k below) (rw (calls_of-one phase k) at (may.space k below)));
  }
    where
      none : LedgerValue
      none = record { seat = 0; count = 0 }

      out : (k : ℕ) → k < workers_of b → CameOut b c phase vs ws ms k
      out k below = came_out lock b c phase ss ts vs ws ls ms lv ll lt lw lm num seen runs k (omega arith)

      ledger : (k : ℕ) (d : LedgerValue) (v w : AnswerVec) → k < workers_of b
          → Outcome b c phase k v w (slice_index_or ms k d) → IsLedger c k (slice_index_or ms k d)
      ledger k d v w below o = grind (arith, common_steps)

module _ {S : Type 0} where
  -- a worker that has run has its seat's number
  pub numbered_worker : (lock : TicketLock (Boxed S) BookHead Line) (b : BookValue S) (phase : PhaseValue)
      (x y : Worker (Boxed S) BookHead Line) → HasRun lock b phase x y → IfSome y.seat (λ s. seat_number s ≡ y.number)
  numbered_worker lock b phase x y run = numbered y.seat y.number _ (λ s h. h.1) run.own
    where
      numbered : (o : Option (BookSeat S)) (n : ℕ) (P : BookSeat S → Type 0)
          → ((s : BookSeat S) → P s → seat_number s ≡ n) → IfSome o P → IfSome o (λ s. seat_number s ≡ n)
      numbered None n P f h = h
      numbered (Some s) n P f h = f s h

  -- the lists from which a worker set is assembled are as long as the book has workers
  pub record AreLong (b : BookValue S) (ss : List (BookSeat S)) (vs : List AnswerVec)
      (ls : List LedgerValue) : Type 0 where
    pub seats : length ss ≡ workers_of b
    pub answers : length vs ≡ length ss
    pub ledgers : length ls ≡ length ss

  -- and so is the worker set
  pub record IsWorkerSet (b : BookValue S) (worker_set : List (Worker (Boxed S) BookHead Line)) (ss : List (BookSeat S))
      (vs : List AnswerVec) (ls : List LedgerValue) : Type 0 where
    pub long : AreLong b ss vs ls
    pub many : length worker_set ≡ workers_of b

module _ {S : Type 0} {K : Ghosts S} where
  -- a worker set for what may be run, assembled in reverse order from lists with a seat for each worker, is that long
  pub is_worker_set : (b : BookValue S) (phase : PhaseValue) (worker_set : List (Worker (Boxed S) BookHead Line))
      (seats : Vec (BookSeat S) Global) (vs : List AnswerVec) (ls : List LedgerValue) (count : ℕ)
      → count ≡ workers_of b → vec_len seats ≡ count → MayRunAll K b (shown_workers vs ls) (phase ∷ [])
      → reverse worker_set ≡ team worker_of seats.items vs ls → IsWorkerSet b worker_set seats.items vs ls
  is_worker_set b phase worker_set seats vs ls count workers some may is = grind (arith, common_steps, length-map, length-reverse, team-length)

-- the lists into which a worker set is disbanded are as long as those from which it was assembled
as_long : {A B C : Type 0} → (left : Vec A Global) (worker_set ran : Vec B Global) (made : List C) (n : ℕ)
    → length worker_set.items ≡ n → length made ≡ n → vec_len ran ≡ vec_len worker_set → vec_len left ≡ vec_len ran
    → length left.items ≡ length made
as_long left worker_set ran made n long many same back = omega (arith, long, many, same, back, left.ok.0, worker_set.ok.0)

-- so are all three lists that it left
pub all_long : {A B C D E : Type 0} → (ts : Vec A Global) (ws : Vec B Global) (ms : Vec C Global) (worker_set ran : Vec D Global)
    (made : List E) (n : ℕ) → length worker_set.items ≡ n → length made ≡ n → vec_len ran ≡ vec_len worker_set
    → (vec_len ts ≡ vec_len ran) × (vec_len ws ≡ vec_len ran) × (vec_len ms ≡ vec_len ran)
    → (length ts.items ≡ length made) × (length ws.items ≡ length made) × (length ms.items ≡ length made)
all_long ts ws ms worker_set ran made n long many same back = grind (arith, common_steps, as_long)
