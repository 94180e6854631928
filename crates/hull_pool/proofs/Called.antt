-- One call of a worker, from what the lock found to what it handed on.
use Rattle.std.proofs.Common.{◌≡◌, ◌<◌, ℕ, List, [], ◌∷◌, ◌++◌, length, refl, sym, ap, subst, ◌∙◌}
use Rattle.std.proofs.Common.{arith}
use Rattle.std.proofs.lemmas.Grind.{common_steps}
use Rattle.std.proofs.Common.{eq-eqb}
use Rattle.std.specs.Prelude.{◌==◌}
use Rattle.std.proofs.lemmas.List.Elements.{filter-append}
use Rattle.std.proofs.lemmas.List.Sums.{length-filter}
use Rattle.hull_book.specs.declared.line.Line.{Line}
use Rattle.hull_book.specs.Books.{BookValue}
use Rattle.hull_book.specs.Ledgers.{LedgerValue, IsLedger, IsLedgerOf, count_of}
use Rattle.hull_pool.specs.Work.{lines_of, workers_of}

-- a seat's lines are as many as its ledger counts
pub count-lines_of : (k : ℕ) (lines : List Line) → count_of k lines ≡ length (lines_of k lines)
count-lines_of k lines = sym (length-filter (λ (line : Line). line.seat == k) lines)

-- lists with the same lines of a seat have as many of them
pub same_count : (k : ℕ) (lines others : List Line) → lines_of k lines ≡ lines_of k others
    → count_of k lines ≡ count_of k others
same_count k lines others e = count-lines_of k lines ∙ ap length e ∙ sym (count-lines_of k others)

module _ {S : Type 0} where
  -- the ledger of a seat of the book is that of the book that it finds
  pub found_ledger_of : (b : BookValue S) (k : ℕ) (seen : List Line) (ledger : LedgerValue) → k < workers_of b
      → lines_of k b.lines ≡ lines_of k seen → IsLedgerOf k seen ledger → IsLedger b k ledger
  found_ledger_of b k seen ledger below own is = grind (arith, common_steps, same_count)

-- a line of a seat is one of its lines
pub lines_of-own : (k : ℕ) (line : Line) → line.seat ≡ k → lines_of k (line ∷ []) ≡ line ∷ []
lines_of-own k line e = rw (eq-eqb line.seat k e) refl

-- one more line of its own
pub lines_of-append_own : (k : ℕ) (lines : List Line) (line : Line) → line.seat ≡ k
    → lines_of k (lines ++ line ∷ []) ≡ lines_of k lines ++ line ∷ []
lines_of-append_own k lines line e = grind (arith, common_steps, lines_of-own, filter-append)

-- the same lines of a seat, whichever way its number is given
pub same_own : (k n : ℕ) (lines others : List Line) → n ≡ k → lines_of n lines ≡ lines_of n others
    → lines_of k lines ≡ lines_of k others
same_own k n lines others e same = subst (λ (m : ℕ). lines_of m lines ≡ lines_of m others) e same
