-- The lock of a shared hull, and the book that it was opened round.
use Rattle.std.specs.Prelude.{◌≡◌, ℕ, Box, List, box_value}
use Rattle.std.specs.Global.{Global}
use Rattle.std.specs.Arc.{arc_value}
use Rattle.std.specs.Mem.{manually_drop_value}
use Rattle.std.specs.declared.sync.Arc.{Arc}
use Rattle.std.specs.declared.mem.ManuallyDrop.{ManuallyDrop}
use Rattle.hull_book.specs.Books.{BookValue, IsLawful}
use Rattle.hull_book.specs.Kinds.{Kind, kind_of}
use Rattle.hull_book.specs.LongBooks.{whole}
use Rattle.hull_book.specs.Marks.{plain}
use Rattle.hull_book.specs.declared.marked_line.MarkedLine.{MarkedLine}
use Rattle.bucket_tree.specs.Roots.{IsWellBuiltRoot, points_of_root}
use Rattle.bucket_tree.specs.Sets.{LimitedTree, bucket_set}
use Rattle.lattice.specs.Plane.{Pair}
use Rattle.ticket_lock.specs.declared.chronicle.Chronicle as chronicle
use Rattle.ticket_lock.specs.declared.lock.TicketLock.{TicketLock}
use Rattle.ticket_lock.specs.Tokens.{opening_book}
use Rattle.hull_shared.specs.SharedHullBooks.{SharedHullValue, shared_hull_head}
use Rattle.hull_shared.specs.declared.book.SharedHullHead.{SharedHullHead}

-- the lock that an owner owns
abbrev pub lock_of : {X Z : Type 0} → Arc (ManuallyDrop X) Z → X
lock_of owner = manually_drop_value (arc_value owner)

-- the book of a shared hull on the heap, as contracts see it
abbrev pub SharedHullBoxed : Type 0
SharedHullBoxed = Box SharedHullValue Global

-- what no call changes of it
abbrev pub boxed_head : SharedHullBoxed → SharedHullHead
boxed_head b = shared_hull_head (box_value b)

-- the book of all its lines, including those that were drained
abbrev pub whole_of : SharedHullBoxed → BookValue LimitedTree
whole_of b = whole (box_value b).book

-- all its lines, with their marks
abbrev pub lines_at : SharedHullBoxed → List MarkedLine
lines_at b = (box_value b).book.lines

-- the kind of such books
abbrev pub shared_hull : Kind LimitedTree SharedHullBoxed SharedHullHead MarkedLine
shared_hull = kind_of (record {
  head = shared_hull_head;
  lines = λ b. b.book.lines;
  capacity = λ b. (whole b.book).head.journal.capacity;
  turn = λ b. b.book.turn;
  lawful = λ b. IsLawful bucket_set (whole b.book);
  line_seat = λ l. l.line.seat;
  line_number = λ l. l.ticket;
}) (λ b. whole b.book) plain

-- the ghosts of the lock's trait `Chronicle` for such books
abbrev pub says_shared_hull : chronicle.Ghosts SharedHullBoxed SharedHullHead MarkedLine
says_shared_hull = shared_hull.says

-- Each bridge that a tree over buckets stores is that of the points below it, each bucket has the vertices of its own
-- points, and all these are the points.
abbrev pub StoresBridgesOf : LimitedTree → List Pair → Type 0
StoresBridgesOf tree points = IsWellBuiltRoot tree.root × (points_of_root tree.root ≡ points)

-- a lock round such a book
abbrev pub HullLock : Type 0
HullLock = TicketLock SharedHullBoxed SharedHullHead MarkedLine

-- the book as it was when the lock was opened round it
abbrev pub book_of : HullLock → SharedHullValue
book_of lock = box_value (opening_book lock)

-- what no call changes: the first number, the limit, the capacity in lines, and whether lines are kept
abbrev pub head_of : HullLock → SharedHullHead
head_of lock = shared_hull_head (book_of lock)

-- how many seats the book was opened for
abbrev pub seats_of : HullLock → ℕ
seats_of lock = (head_of lock).book.workers

-- the greatest number of lines that the book may contain
abbrev pub capacity_of : HullLock → ℕ
capacity_of lock = (head_of lock).book.journal.capacity
