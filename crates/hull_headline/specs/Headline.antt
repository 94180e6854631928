-- The promises of a book over a set that many seats share, sentence by sentence, for every order of their single steps.
use Rattle.std.specs.Prelude.{◌≡◌, ◌+◌, ◌++◌, ◌%◌, ◌^◌, ℕ, zero, suc, true, List, [], ◌∷◌, length, slice_get, Some, Box}
use Rattle.std.specs.Global.{Global}
use mathlib.Core.Option.{some}
use lib.ListN.{get_elem?}
use Rattle.hull_book.specs.declared.head.BookHead.{BookHead}
use Rattle.hull_book.specs.declared.line.Line.{Line}
use Rattle.hull_book.specs.declared.marked_line.MarkedLine.{MarkedLine}
use Rattle.hull_book.specs.Books.{BookValue}
use Rattle.hull_book.specs.Kinds.{Kind}
use Rattle.hull_book.specs.Kinds as kinds
use Rattle.hull_book.specs.LongBooks.{LongValue}
use Rattle.hull_book.specs.Marks.{held_of, joined, segments_of}
use Rattle.hull_book.specs.History.{IsLegal, held_after, live}
use Rattle.hull_book.specs.Ledgers.{LedgerValue, AreAllLedgers, sum_of_counts}
use Rattle.bucket_tree.specs.Roots as roots
use Rattle.bucket_tree.specs.Sets.{bucket_set}
use Rattle.bucket_tree.specs.Sets as buckets
use Rattle.hull_set.specs.declared.set.HullSet as hull_set
use Rattle.hull_tree.specs.Roots.{points_of_root, IsWellBuiltRoot}
use Rattle.hull_tree.specs.Sets.{LimitedTree, hull_tree}
use Rattle.lattice.specs.Plane.{Pair}
use Rattle.ticket_lock.specs.World.{World, Event, hands_on}
use Rattle.ticket_lock.specs.GoodWorld.{Holds}
use Rattle.ticket_lock.specs.Forms.{partitioned_form}
use Rattle.ticket_lock.specs.Linearizable.{Call}
use Rattle.ticket_lock.specs.Schedule.{Opened, Runs, takers, enterers}

-- a book over a tree on the heap, as the lock that runs has it: it keeps all its lines
abbrev pub kept : Kind LimitedTree (Box (BookValue LimitedTree) Global) BookHead Line
kept = kinds.kept hull_tree

-- the same over a tree over buckets, as `hullbook run --bucketed` opens it
abbrev pub bucketed : Kind buckets.LimitedTree (Box (BookValue buckets.LimitedTree) Global) BookHead Line
bucketed = kinds.kept bucket_set

-- one that may be drained: every statement about it is about its whole journal
abbrev pub drained : Kind LimitedTree (Box (LongValue LimitedTree) Global) BookHead MarkedLine
drained = kinds.drained hull_tree

module _ {S B H L : Type 0} (kind : Kind S B H L) where
  -- The steps, in this order, lead from the opened lock to this moment; the lock was opened for this many seats around this book
  abbrev pub Leads : ℕ → B → World B H L → List (Event B) → World B H L → Type 0
  Leads seats book opening steps now = Opened kind.says partitioned_form seats book opening
      × Runs kind.says partitioned_form steps opening now

  -- True at every moment: however many seats a lock was opened for, around whatever lawful book, and whichever steps of its seats were made since, in
  -- whatever order.
  abbrev pub Always : (World B H L → Type 0) → Type 0
  Always P = (seats : ℕ) (book : B) (opening now : World B H L) (steps : List (Event B))
      → Leads seats book opening steps now → P now

  -- True whenever the lock is free, of the book that it protects.
  abbrev pub WheneverFree : (BookValue S → Type 0) → Type 0
  WheneverFree P = Always (λ now. now.home ≡ true → P (kind.whole now.current))

  -- First come, first served: the k-th entry is by the seat that made the k-th take.
  abbrev pub FirstComeFirstServed : Type 0
  FirstComeFirstServed = (seats : ℕ) (book : B) (opening now : World B H L) (steps : List (Event B))
      → Leads seats book opening steps now
      → (k seat : ℕ) → get_elem? (enterers steps) k ≡ some seat → get_elem? (takers steps) k ≡ some seat

-- how many calls ended with this step: one with a hand on, and none with another
abbrev pub ends : {B : Type 0} → Event B → ℕ
ends (hands_on j c) = 1
ends _ = 0

-- how many calls ended with the first r steps
abbrev pub ended_in : {B : Type 0} → ℕ → List (Event B) → ℕ
ended_in zero steps = 0
ended_in (suc r) [] = 0
ended_in (suc r) (step ∷ steps) = ends step + ended_in r steps

module _ {S B H L : Type 0} (kind : Kind S B H L) where
  -- Tickets go up in the order of the calls: the line of the call that ended with step r has the ticket that was served first plus the number of
  -- calls that had ended before, whether they had found space or not, modulo 2 ^ 64. (The number of a line for the lock is its ticket.)
  abbrev pub TicketsCountTheCalls : Type 0
  TicketsCountTheCalls = (seats : ℕ) (book : B) (opening now : World B H L) (steps : List (Event B))
      → Leads kind seats book opening steps now
      → (seat began r place : ℕ) (line : L) → Call kind.says book steps seat began r place line
      → kind.says.line_number line ≡ (kind.says.turn book + ended_in r steps) % (2 ^ 64)

-- No two seats hold the book.
abbrev pub AtMostOneHolds : {B H L : Type 0} → World B H L → Type 0
AtMostOneHolds now = (one other t u : ℕ) → Holds now one t → Holds now other u → one ≡ other

-- Each bridge that a tree stores is that of the points below it, and all these are the points.
abbrev pub StoresBridgesOf : LimitedTree → List Pair → Type 0
StoresBridgesOf tree points = IsWellBuiltRoot tree.root × (points_of_root tree.root ≡ points)

-- Each bridge that a tree over buckets stores is that of the points below it, each bucket has the vertices of its own points, and all these are the
-- points.
abbrev pub StoresBridgesInBuckets : buckets.LimitedTree → List Pair → Type 0
StoresBridgesInBuckets tree points = roots.IsWellBuiltRoot tree.root × (roots.points_of_root tree.root ≡ points)

-- The data that the book's set stores is sound, as the set defines it.
abbrev pub IsOfSoundSet : {S : Type 0} → hull_set.Ghosts S → BookValue S → Type 0
IsOfSoundSet set book = set.sound book.set

module _ {S : Type 0} (stores : S → List Pair → Type 0) where
  -- The data that a set stores is that of the live points: of those that the journal's calls left.
  abbrev pub StoresThatOfLivePoints : BookValue S → Type 0
  StoresThatOfLivePoints book = stores book.set (live book.lines)

-- Each stored bridge is that of the points below it, and these are the live points: those that the journal's calls
-- left.
abbrev pub StoresBridgesOfLivePoints : BookValue LimitedTree → Type 0
StoresBridgesOfLivePoints = StoresThatOfLivePoints StoresBridgesOf

-- The multiplicity of each point is the one that the journal's calls left.
abbrev pub HoldsEachPointAsOften : {S : Type 0} → hull_set.Ghosts S → BookValue S → Type 0
HoldsEachPointAsOften set book = set.held book.set ≡ held_after book.lines

-- The journal is a legal history from the empty set.
abbrev pub HasLegalJournal : {S : Type 0} → BookValue S → Type 0
HasLegalJournal book = IsLegal book.head.journal book.lines

-- The calls are in the order of their numbers: line k has the first number plus k, modulo 2 ^ 64.
abbrev pub IsInOrderOfNumbers : {S : Type 0} → BookValue S → Type 0
IsInOrderOfNumbers book = (k : ℕ) (line : Line) → slice_get book.lines k ≡ Some line
    → line.number ≡ (book.head.journal.first + k) % (2 ^ 64)

-- All its ledgers, once they are gathered, sum to the length of the journal.
abbrev pub LedgersSumToLength : {S : Type 0} → BookValue S → Type 0
LedgersSumToLength book = (ledgers : List LedgerValue) → AreAllLedgers book ledgers
    → sum_of_counts ledgers ≡ length book.lines

-- The segments that were taken out, in their order, and then the lines that the book has are the journal of the book that the lock protects, whenever
-- the lock is free: for a kind of books whose lines are marked.
abbrev pub SegmentsAndHeldAreTheJournal : {S B H : Type 0} → Kind S B H MarkedLine → Type 0
SegmentsAndHeldAreTheJournal kind = Always kind (λ now. now.home ≡ true
    → joined (segments_of (kind.says.lines now.current)) ++ held_of (kind.says.lines now.current)
    ≡ (kind.whole now.current).lines)
