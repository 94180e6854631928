-- whatever was served, the book is lawful and its ledgers are its own
use Rattle.hull_plain.specs.Sets.{plain_set}
use Rattle.hull_book.specs.Books.{IsLawful}
use Rattle.hull_book.specs.Ledgers.{AreLedgers}
use Rattle.book_tests.proofs.book.serve_lines.Given as goal

abbrev pub invariant-loop-line : goal.invariant-loop-line
invariant-loop-line g l = record {
  lawful : IsLawful plain_set l.book;
  ledgers : AreLedgers l.book l.ledgers.items;
}
