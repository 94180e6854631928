-- Phases one after the other.
use Rattle.std.proofs.Common.{◌≡◌, ◌<◌, ◌≤◌, ◌+◌, ◌-◌, ℕ, suc, List, [], ◌∷◌, ◌++◌, length, refl, sym, ap, subst, ◌∙◌}
use Rattle.std.proofs.lemmas.Grind.{common_steps}
use Rattle.std.proofs.Common.{arith, append_assoc, append-nil, length-append, map, take, take_all, inl, inr, All, Ok}
use Rattle.std.proofs.Common.{Err}
use Rattle.std.proofs.lemmas.Bool.{cases_lt}
use Rattle.std.proofs.lemmas.List.{map-append, replicate-append-replicate, take-append-le}
use Rattle.std.proofs.lemmas.List.Sums.{sum_by-append}
use Rattle.std.proofs.lemmas.List.Elements.{All-cons, All-head, All-tail}
use mathlib.Core.List.{IsPrefix}
use Rattle.hull_set.specs.declared.call.Call.{Call}
use Rattle.hull_book.specs.declared.line.Line.{Line}
use Rattle.hull_book.specs.declared.head.BookHead.{BookHead}
use Rattle.hull_book.specs.Books.{BookValue}
use Rattle.hull_book.specs.Scripts.{PhaseValue, calls_in, calls_in_all, calls_of}
use Rattle.hull_book.specs.Answers.{Answer}
use Rattle.hull_pool.specs.Answers.{WorkersValue}
use Rattle.hull_pool.specs.Runs.{job, answers_of, MayRunAll, HasRunAll}
use Rattle.hull_pool.specs.Scripts.{HasRunPhases}
use Rattle.hull_pool.specs.Work.{HasWorked, lines_of, capacity_of, workers_of, replies_of, fulls}
use base.Growing.{prefix_trans}
use Rattle.hull_pool.proofs.Worked.{not_begun}
use Rattle.hull_set.specs.declared.set.HullSet.{Ghosts}

-- lines that begin with as many lines are those lines
same_lines : (before lines : List Line) → IsPrefix before lines → length lines ≤ length before → lines ≡ before
same_lines before lines p le = none p.0 (omega (arith, length-append before p.0, ap length p.1)) p.1
  where
    none : (rest : List Line) → length rest ≡ 0 → before ++ rest ≡ lines → lines ≡ before
    none [] e is = sym is ∙ append-nil before
    none (l ∷ rest) e is = absurd (omega arith)

-- nothing is served if the lines are the same
none_served : (k : ℕ) (before lines served : List Line) → lines ≡ before
    → lines_of k lines ≡ lines_of k before ++ served → served ≡ []
none_served k before lines [] same own = refl
none_served k before lines (l ∷ served) same own =
    absurd (omega (
      arith,
      ap length own,
      ap (λ (xs : List Line). length (lines_of k xs)) same,
      length-append (lines_of k before) (l ∷ served),
    ))

-- all of the first list, and this many of the second
take_both : (xs ys : List Call) (n : ℕ) → take (length xs + n) (xs ++ ys) ≡ xs ++ take n ys
take_both [] ys n = ap (λ (m : ℕ). take m ys) (let e : 0 + n ≡ n = omega arith in e)
take_both (x ∷ xs) ys n =
    ap (λ (m : ℕ). take m ((x ∷ xs) ++ ys)) (let e : length (x ∷ xs) + n ≡ suc (length xs + n) = omega arith in e)
    ∙ ap (λ (zs : List Call). x ∷ zs) (take_both xs ys n)

-- fulls after fulls
fulls_both : (m n k : ℕ) → k ≡ m + n → fulls m ++ fulls n ≡ fulls k
fulls_both m n k e = replicate-append-replicate m n (Err (record {})) ∙ ap (λ (j : ℕ). fulls j) (sym e)

-- the work of two phases in a row, if the journal was not full before the second
more_work : (k space : ℕ) (one two : List Call) (before between lines : List Line) (old mid new : List Answer)
    → (h : HasWorked k space (length one) one before between old mid)
    → (g : HasWorked k space (length two) two between lines mid new) → length h.served ≡ length one
    → HasWorked k space (length (one ++ two)) (one ++ two) before lines old new
more_work k space one two before between lines old mid new h g all =
    let long : length (h.served ++ g.served) ≡ length one + length g.served =
    length-append h.served g.served ∙ ap (λ (n : ℕ). n + length g.served) all in
    let calls : length (one ++ two) ≡ length one + length two = length-append one two in
    let whole : take (length h.served) one ≡ one = take_all (length h.served) one (omega (arith, all)) in record {
      served = h.served ++ g.served;
      own_lines = g.own_lines ∙ ap (λ (xs : List Line). xs ++ g.served) h.own_lines
          ∙ append_assoc (lines_of k before) h.served g.served;
      in_order = map-append (λ (l : Line). l.call) h.served g.served
          ∙ ap (λ (xs : List Call). xs ++ map (λ (l : Line). l.call) g.served) (h.in_order ∙ whole)
          ∙ ap (λ (xs : List Call). one ++ xs) g.in_order ∙ sym (take_both one two (length g.served))
          ∙ sym (ap (λ (n : ℕ). take n (one ++ two)) long);
      few = omega (arith, long, calls, g.few);
      answers = answers (length one - length h.served) (omega (arith, all)) h.answers g.answers
          (omega (arith, long, calls, g.few));
      full = λ lt. g.full (omega (arith, long, calls));
    }
  where
    answers : (n : ℕ) → n ≡ 0 → mid ≡ old ++ replies_of h.served ++ fulls n
        → new ≡ mid ++ replies_of g.served ++ fulls (length two - length g.served)
        → length two - length g.served ≡ length (one ++ two) - length (h.served ++ g.served)
        → new ≡ old ++ replies_of (h.served ++ g.served)
        ++ fulls (length (one ++ two) - length (h.served ++ g.served))
    answers n e a c same =
        c ∙ ap (λ (xs : List Answer). xs ++ replies_of g.served ++ fulls (length two - length g.served))
        (a ∙ ap (λ (m : ℕ). old ++ replies_of h.served ++ fulls m) e
        ∙ append-nil (old ++ replies_of h.served))
        ∙ ap (λ (xs : List Answer). xs ++ fulls (length two - length g.served))
        (append_assoc old (replies_of h.served) (replies_of g.served)
        ∙ ap (λ (xs : List Answer). old ++ xs) (sym (map-append (λ (l : Line). Ok l.reply) h.served g.served)))
        ∙ ap (λ (m : ℕ). old ++ replies_of (h.served ++ g.served) ++ fulls m) same

-- and if it was
no_more_work : (k space : ℕ) (one two : List Call) (before between lines : List Line) (old mid new : List Answer)
    → (h : HasWorked k space (length one) one before between old mid)
    → (g : HasWorked k space (length two) two between lines mid new) → lines ≡ between → length h.served < length one
    → HasWorked k space (length (one ++ two)) (one ++ two) before lines old new
no_more_work k space one two before between lines old mid new h g same short =
    let none : g.served ≡ [] = none_served k between lines g.served same g.own_lines in
    let calls : length (one ++ two) ≡ length one + length two = length-append one two in record {
      served = h.served;
      own_lines = ap (lines_of k) same ∙ h.own_lines;
      in_order = h.in_order ∙ sym (front one two (length h.served) h.few);
      few = omega (arith, calls, h.few);
      answers = g.answers ∙ ap (λ (s : List Line). mid ++ replies_of s ++ fulls (length two - length s)) none
          ∙ ap (λ (n : ℕ). mid ++ [] ++ fulls n) (let e : length two - 0 ≡ length two = omega arith in e)
          ∙ ap (λ (xs : List Answer). xs ++ fulls (length two)) (append-nil mid)
          ∙ ap (λ (xs : List Answer). xs ++ fulls (length two)) h.answers
          ∙ append_assoc (old ++ replies_of h.served) (fulls (length one - length h.served)) (fulls (length two))
          ∙ ap (λ (xs : List Answer). old ++ replies_of h.served ++ xs)
          (fulls_both (length one - length h.served) (length two) (length (one ++ two) - length h.served)
          (omega (arith, calls, h.few)));
      full = λ lt. let full : space ≤ length between = h.full short in omega (arith, ap length same);
    }
  where
    front : (xs ys : List Call) (n : ℕ) → n ≤ length xs → take n (xs ++ ys) ≡ take n xs
    front xs ys n le = take-append-le n xs ys le

-- the work of two phases in a row
pub works_on : (k space : ℕ) (one two : List Call) (before between lines : List Line) (old mid new : List Answer)
    → IsPrefix between lines → length lines ≤ space → HasWorked k space (length one) one before between old mid
    → HasWorked k space (length two) two between lines mid new
    → HasWorked k space (length (one ++ two)) (one ++ two) before lines old new
works_on k space one two before between lines old mid new begins within h g =
    elim (cases_lt (length h.served) (length one)) [
      | inl lt ↦ no_more_work k space one two before between lines old mid new h g
          (same_lines between lines begins (let full : space ≤ length between = h.full lt in omega arith)) lt
      | inr ge ↦ more_work k space one two before between lines old mid new h g (omega (arith, h.few))
    ]

-- ---- some phases, and the phases after them

-- the calls of some phases and of those after them
pub calls_both : (front back : List PhaseValue)
    → calls_in_all (front ++ back) ≡ calls_in_all front + calls_in_all back
calls_both front back = sum_by-append (λ (p : PhaseValue). calls_in p) front back

-- a worker's calls in two runs of phases are those in the first and then those in the second
pub calls_of-append : (k : ℕ) (front back : List PhaseValue)
    → calls_of k (front ++ back) ≡ calls_of k front ++ calls_of k back
calls_of-append k [] back = refl
calls_of-append k (phase ∷ front) back =
    ap (λ (xs : List Call). job phase k ++ xs) (calls_of-append k front back)
    ∙ sym (append_assoc (job phase k) (calls_of k front) (calls_of k back))

-- they are this many
pub count_both : (k : ℕ) (front back : List PhaseValue)
    → length (calls_of k (front ++ back)) ≡ length (calls_of k front) + length (calls_of k back)
count_both k front back = ap length (calls_of-append k front back)
    ∙ length-append (calls_of k front) (calls_of k back)

-- what holds of all phases holds of the first ones
all_front : (P : PhaseValue → Type 0) (front back : List PhaseValue) → All P (front ++ back) → All P front
all_front P [] back all = λ k d lt. absurd (omega arith)
all_front P (phase ∷ front) back all =
    All-cons P phase front (All-head P phase (front ++ back) all)
    (all_front P front back (All-tail P phase (front ++ back) all))

-- and of those after them
all_back : (P : PhaseValue → Type 0) (front back : List PhaseValue) → All P (front ++ back) → All P back
all_back P [] back all = all
all_back P (phase ∷ front) back all = all_back P front back (All-tail P phase (front ++ back) all)

module _ {S : Type 0} {K : Ghosts S} where
  -- no phase was run
  run_none : (b : BookValue S) (w : WorkersValue) → MayRunAll K b w [] → HasRunAll K b w [] b w
  run_none b w may = grind (arith, common_steps, not_begun, append-nil)

  -- the result of some phases and of the phases after them
  run_on : (b m c : BookValue S) (w x v : WorkersValue) (front back : List PhaseValue)
      → HasRunAll K b w front m x → HasRunAll K m x back c v → HasRunAll K b w (front ++ back) c v
  run_on b m c w x v front back one rest =
      let heads : capacity_of m ≡ capacity_of b = ap (λ (h : BookHead). h.journal.capacity) one.head in
      let worker_set : workers_of m ≡ workers_of b = ap (λ (h : BookHead). h.workers) one.head in
      let within : length c.lines ≤ capacity_of b =
      rw (ap (λ (h : BookHead). h.journal.capacity) (rest.head ∙ one.head)) at (rest.lawful).within in record {
        lawful = rest.lawful;
        head = rest.head ∙ one.head;
        begins = prefix_trans b.lines m.lines c.lines one.begins rest.begins;
        as_many = omega (arith, one.as_many, rest.as_many, calls_both front back, heads);
        each = λ k below. subst (λ (calls : List Call). HasWorked k (capacity_of b) (length calls) calls b.lines
            c.lines (answers_of w k).answers (answers_of v k).answers) (sym (calls_of-append k front back))
            (works_on k (capacity_of b) (calls_of k front) (calls_of k back) b.lines m.lines c.lines
            (answers_of w k).answers (answers_of x k).answers (answers_of v k).answers rest.begins within
            (one.each k below)
            (subst (λ (n : ℕ). HasWorked k n (length (calls_of k back)) (calls_of k back) m.lines c.lines
            (answers_of x k).answers (answers_of v k).answers) heads (rest.each k (omega (arith, worker_set)))));
        ledgers = rest.ledgers;
        answers = rest.answers ∙ worker_set;
        space = λ k below. let a = one.space k below in let d = rest.space k (omega (arith, worker_set)) in
            omega (arith, a, d, count_both k front back);
      }

  -- the phases of a prefix may be run
  pub may_front : (b : BookValue S) (w : WorkersValue) (front back : List PhaseValue)
      → MayRunAll K b w (front ++ back) → MayRunAll K b w front
  may_front b w front back may = record {
    lawful = may.lawful;
    ledgers = may.ledgers;
    answers = may.answers;
    jobs = all_front (λ p. length p ≡ workers_of b) front back may.jobs;
    few = λ k below. let f = may.few k below in omega (arith, f, count_both k front back);
    space = λ k below. let r = may.space k below in omega (arith, r, count_both k front back);
  }

  -- the phases after some may be run after them
  may_back : (b m : BookValue S) (w x : WorkersValue) (front back : List PhaseValue)
      → MayRunAll K b w (front ++ back) → HasRunAll K b w front m x → MayRunAll K m x back
  may_back b m w x front back may one =
      let worker_set : workers_of m ≡ workers_of b = ap (λ (h : BookHead). h.workers) one.head in record {
        lawful = one.lawful;
        ledgers = one.ledgers;
        answers = one.answers ∙ sym worker_set;
        jobs = subst (λ (n : ℕ). All (λ p. length p ≡ n) back) (sym worker_set)
            (all_back (λ p. length p ≡ workers_of b) front back may.jobs);
        few = λ k below. let f = may.few k (omega (arith, worker_set)) in omega (arith, f, count_both k front back);
        space = λ k below. let a = one.space k (omega (arith, worker_set)) in let d = may.space k (omega (arith, worker_set)) in
            omega (arith, a, d, count_both k front back);
      }

  -- the result of phases that were run one after the other
  pub run_all : (b : BookValue S) (w : WorkersValue) (phases : List PhaseValue) (c : BookValue S) (v : WorkersValue)
      → MayRunAll K b w phases → HasRunPhases K b w phases c v → HasRunAll K b w phases c v
  run_all b w [] c v may chain =
      subst (λ (z : WorkersValue). HasRunAll K b w [] c z) (sym chain.1)
      (subst (λ (d : BookValue S). HasRunAll K b w [] d w) (sym chain.0) (run_none b w may))
  run_all b w (phase ∷ phases) c v may chain =
      run_on b chain.0 c w chain.1 v (phase ∷ []) phases chain.2
      (run_all chain.0 chain.1 phases c v (may_back b chain.0 w chain.1 (phase ∷ []) phases may chain.2) chain.3)

  -- after the phases before it, the next may be run
  pub may_next : (b : BookValue S) (w : WorkersValue) (front : List PhaseValue) (phase : PhaseValue)
      (back : List PhaseValue) (m : BookValue S) (x : WorkersValue) → MayRunAll K b w (front ++ phase ∷ back)
      → HasRunPhases K b w front m x → MayRunAll K m x (phase ∷ [])
  may_next b w front phase back m x may chain =
      may_front m x (phase ∷ []) back (may_back b m w x front (phase ∷ back) may
      (run_all b w front m x (may_front b w front (phase ∷ back) may) chain))

  -- one phase more at the end
  pub run_one_more : (b : BookValue S) (w : WorkersValue) (phases : List PhaseValue) (m : BookValue S)
      (x : WorkersValue) (phase : PhaseValue) (c : BookValue S) (v : WorkersValue) → HasRunPhases K b w phases m x
      → HasRunAll K m x (phase ∷ []) c v → HasRunPhases K b w (phases ++ phase ∷ []) c v
  run_one_more b w [] m x phase c v chain one = (
    c,
    v,
    subst (λ (y : WorkersValue). HasRunAll K b y (phase ∷ []) c v) chain.1
        (subst (λ (d : BookValue S). HasRunAll K d x (phase ∷ []) c v) chain.0 one),
    (refl, refl),
  )
  run_one_more b w (p ∷ phases) m x phase c v chain one =
      (chain.0, chain.1, chain.2, run_one_more chain.0 chain.1 phases m x phase c v chain.3 one)
