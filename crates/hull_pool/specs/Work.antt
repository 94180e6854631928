-- The work of a worker: its lines, and the answers that it got.
use Rattle.std.specs.Prelude.{◌≡◌, ◌==◌, ◌-◌, ◌<◌, ◌≤◌, ℕ, List, ◌++◌, length, map, filter, take, replicate}
use Rattle.std.specs.Prelude.{Ok, Err}
use Rattle.hull_set.specs.declared.call.Call.{Call}
use Rattle.hull_book.specs.declared.line.Line.{Line}
use Rattle.hull_book.specs.Books.{BookValue}
use Rattle.hull_book.specs.Answers.{Answer}

-- the lines of a seat
abbrev pub lines_of : ℕ → List Line → List Line
lines_of seat lines = filter (λ line. line.seat == seat) lines

-- the answers in these lines
abbrev pub replies_of : List Line → List Answer
replies_of lines = map (λ line. Ok line.reply) lines

-- this many answers that the journal is full
abbrev pub fulls : ℕ → List Answer
fulls n = replicate n (Err (record {}))

-- The worker has made the first `done` of its calls, while the journal grew from `before` to `lines`. Its new lines are a prefix of those calls in
-- their order; its new answers are those lines' replies and then, for each call that has no line, that the journal is full; and if there is such a
-- call, the journal has its capacity.
pub record HasWorked (seat capacity done : ℕ) (calls : List Call) (before lines : List Line)
    (old new : List Answer) : Type 0 where
  pub served : List Line
  pub own_lines : lines_of seat lines ≡ lines_of seat before ++ served
  pub in_order : map (λ line. line.call) served ≡ take (length served) calls
  pub few : length served ≤ done
  pub answers : new ≡ old ++ replies_of served ++ fulls (done - length served)
  pub full : length served < done → capacity ≤ length lines

-- how many lines a book's journal may have
abbrev pub capacity_of : {S : Type 0} → BookValue S → ℕ
capacity_of b = b.head.journal.capacity

-- how many workers a book was opened for
abbrev pub workers_of : {S : Type 0} → BookValue S → ℕ
workers_of b = b.head.workers
