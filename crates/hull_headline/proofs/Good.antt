-- Each sentence of the headline, from the good world that every schedule leads to.
use Rattle.std.proofs.Common.{◌≡◌, ◌+◌, ◌%◌, ◌^◌, ℕ, zero, suc, List, [], ◌∷◌, Some, ap, subst, arith}
use Rattle.std.specs.Prelude.{slice_get}
use Rattle.hull_set.specs.Held.{Held, nothing_held}
use Rattle.hull_set.specs.declared.set.HullSet.{Ghosts}
use Rattle.hull_set.specs.Replies.{after}
use Rattle.hull_book.specs.Kinds.{Kind}
use Rattle.hull_book.specs.declared.head.Head.{Head}
use Rattle.hull_book.specs.declared.line.Line.{Line}
use Rattle.hull_book.specs.History.{AreRight}
use Rattle.hull_book.specs.Books.{IsLawful}
use Rattle.hull_book.proofs.Counts.{all_counts}
use Rattle.lattice.specs.Plane.{Pair}
use Rattle.ticket_lock.specs.Forms.{partitioned_form}
use Rattle.ticket_lock.specs.Schedule.{SchedulesHold}
use Rattle.hull_headline.specs.Headline.{Always, WheneverFree, AtMostOneHolds, StoresThatOfLivePoints}
use Rattle.hull_headline.specs.Headline.{HoldsEachPointAsOften, HasLegalJournal, IsInOrderOfNumbers, LedgersSumToLength}
use Rattle.hull_headline.specs.Headline.{FirstComeFirstServed, IsOfSoundSet}

-- a right line has its number: of the lines that begin with line k, line i has the first number plus k and i
numbered : (head : Head) (k : ℕ) (S : Held) (lines : List Line) → AreRight head k S lines → (i : ℕ) (line : Line)
    → slice_get lines i ≡ Some line → line.number ≡ (head.first + (k + i)) % (2 ^ 64)
unfolding AreRight
numbered head k S [] right i line e = cc
numbered head k S (m ∷ lines) right zero line e = let same : m ≡ line = cc in
    subst (λ (l : Line). l.number ≡ (head.first + (k + 0)) % (2 ^ 64)) same
    (subst (λ (n : ℕ). m.number ≡ (head.first + n) % (2 ^ 64)) (omega arith) right.0.number)
numbered head k S (m ∷ lines) right (suc i) line e =
    subst (λ (n : ℕ). line.number ≡ (head.first + n) % (2 ^ 64)) (omega arith)
    (numbered head (suc k) (after S m.call m.reply) lines right.1 i line e)

module _ {S B H L : Type 0} (set : Ghosts S) (kind : Kind S B H L) where
  -- what a sound set stores is that of the live points, if it is that of the points that it contains
  pub bridges_of : (stores : S → List Pair → Type 0) → ((t : S) → set.sound t → stores t (set.held t).points)
      → WheneverFree kind (IsOfSoundSet set) → WheneverFree kind (HoldsEachPointAsOften set)
      → WheneverFree kind (StoresThatOfLivePoints stores)
  bridges_of stores sound safe held seats book opening now steps led free =
      subst (λ (points : List Pair). stores (kind.whole now.current).set points)
      (ap (λ (h : Held). h.points) (held seats book opening now steps led free))
      (sound (kind.whole now.current).set (safe seats book opening now steps led free))

module _ {S B H L : Type 0} (set : Ghosts S) (kind : Kind S B H L)
    (reports : (b : B) → kind.says.lawful b → IsLawful set (kind.whole b)) where
  -- the law of the lock, at such a book over a set
  abbrev pub Law : Type 0
  Law = SchedulesHold kind.says partitioned_form

  -- no two seats hold
  pub one_holder : Law → Always kind AtMostOneHolds
  one_holder law seats book opening now steps led = (law seats book opening now steps led.0 led.1).0.one_holder

  -- what the set stores is that of the live points, if a sound set stores that of the points that it contains
  pub bridges : (stores : S → List Pair → Type 0) → ((t : S) → set.sound t → stores t (set.held t).points) → Law
      → WheneverFree kind (StoresThatOfLivePoints stores)
  bridges stores sound law seats book opening now steps led free = let lawful =
      reports now.current (law seats book opening now steps led.0 led.1).0.lawful in
      subst (λ (points : List Pair). stores (kind.whole now.current).set points)
      (ap (λ (h : Held). h.points) lawful.set) (sound (kind.whole now.current).set lawful.sound)

  -- the multiplicity of each point is the one that the journal's calls left
  pub multiplicities : Law → WheneverFree kind (HoldsEachPointAsOften set)
  multiplicities law seats book opening now steps led free =
      (reports now.current (law seats book opening now steps led.0 led.1).0.lawful).set

  -- the journal is legal
  pub legal : Law → WheneverFree kind HasLegalJournal
  legal law seats book opening now steps led free =
      (reports now.current (law seats book opening now steps led.0 led.1).0.lawful).legal

  -- and in the order of its numbers
  pub in_order : Law → WheneverFree kind IsInOrderOfNumbers
  in_order law seats book opening now steps led free k line at =
      subst (λ (n : ℕ). line.number ≡ ((kind.whole now.current).head.journal.first + n) % (2 ^ 64)) (omega arith)
      (numbered (kind.whole now.current).head.journal 0 nothing_held (kind.whole now.current).lines
      (reports now.current (law seats book opening now steps led.0 led.1).0.lawful).legal k line at)

  -- the ledgers sum to its length
  pub ledgers : Law → WheneverFree kind LedgersSumToLength
  ledgers law seats book opening now steps led free all are =
      all_counts (kind.whole now.current) all
      (reports now.current (law seats book opening now steps led.0 led.1).0.lawful) are

  -- entries are in the order of takes
  pub first_come : Law → FirstComeFirstServed kind
  first_come law seats book opening now steps led = (law seats book opening now steps led.0 led.1).1
