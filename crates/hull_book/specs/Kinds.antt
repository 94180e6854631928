-- Kinds of books on the heap that a lock protects: those that keep all their lines, and those that may be drained.
use Rattle.std.specs.Prelude.{List, Box, box_value}
use Rattle.std.specs.Global.{Global}
use Rattle.hull_set.specs.declared.set.HullSet.{Ghosts}
use Rattle.ticket_lock.specs.declared.chronicle.Chronicle as lock
use Rattle.hull_book.specs.Books.{BookValue, says_book}
use Rattle.hull_book.specs.LongBooks as long
use Rattle.hull_book.specs.LongBooks.{LongValue, says_long}
use Rattle.hull_book.specs.Marks as marks
use Rattle.hull_book.specs.declared.head.BookHead.{BookHead}
use Rattle.hull_book.specs.declared.line.Line.{Line}
use Rattle.hull_book.specs.declared.marked_line.MarkedLine.{MarkedLine}

-- the ghosts of a kind of books: what the lock knows of one, the book of all lines that it ever journaled, and those lines, if the lock knows more of
-- each
pub record Kind (S B H L : Type 0) : Type 1 where
  pub says : lock.Ghosts B H L
  pub whole : B → BookValue S
  pub plain : List L → List Line

-- books of a type, on the heap
abbrev pub kind_of : {S B H L : Type 0} → lock.Ghosts B H L → (B → BookValue S) → (List L → List Line)
    → Kind S (Box B Global) H L
kind_of book whole plain = record {
  says = record {
    head = λ b. book.head (box_value b);
    lines = λ b. book.lines (box_value b);
    capacity = λ b. book.capacity (box_value b);
    turn = λ b. book.turn (box_value b);
    lawful = λ b. book.lawful (box_value b);
    line_seat = book.line_seat;
    line_number = book.line_number;
  };
  whole = λ b. whole (box_value b);
  plain = plain;
}

-- books that keep all their lines
abbrev pub kept : {S : Type 0} → Ghosts S → Kind S (Box (BookValue S) Global) BookHead Line
kept K = kind_of (says_book K) (λ b. b) (λ lines. lines)

-- books that may be drained
abbrev pub drained : {S : Type 0} → Ghosts S → Kind S (Box (LongValue S) Global) BookHead MarkedLine
drained K = kind_of (says_long K) long.whole marks.plain
