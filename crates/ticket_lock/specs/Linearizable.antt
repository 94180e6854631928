-- Linearizability (Herlihy and Wing, 1990) of the calls that seats make on the book.
use Rattle.std.specs.Prelude.{◌≡◌, ℕ, zero, suc, ◌<◌, ◌≤◌, ◌⊎◌, List, [], ◌∷◌, ◌++◌, length}
use mathlib.Core.Option.{some}
use mathlib.Core.List.{IsPrefix}
use lib.ListN.{get_elem?}
use Rattle.ticket_lock.specs.declared.chronicle.Chronicle.{Ghosts}
use Rattle.ticket_lock.specs.World.{Form, World, Event, takes, hands_on}
use Rattle.ticket_lock.specs.Schedule.{Opened, Runs}

-- the book after the event, if it was b before
abbrev pub book_after : {B : Type 0} → Event B → B → B
book_after (hands_on j c) b = c
book_after _ b = b

module _ {B H L : Type 0} (K : Ghosts B H L) where
  -- the journal after the first r of the events es, if the book was b before them
  abbrev pub journal_after : B → List (Event B) → ℕ → List L
  journal_after b es zero = K.lines b
  journal_after b [] (suc r) = K.lines b
  journal_after b (e ∷ es) (suc r) = journal_after (book_after e b) es r

  -- A call of the seat k in the events es: it begins with the event at i, a take, and ends with the event at r, the seat's next hand on, which puts
  -- the line l at index p of the journal
  pub record Call (b : B) (es : List (Event B)) (k i r p : ℕ) (l : L) : Type 0 where
    pub begins : get_elem? es i ≡ some (takes k)
    pub later : i < r
    pub ends : (c : B) × (get_elem? es r ≡ some (hands_on k c))
    pub next_end : (a : ℕ) (c : B) → i < a → a < r → get_elem? es a ≡ some (hands_on k c) → ⊥
    pub adds : journal_after b es (suc r) ≡ journal_after b es r ++ l ∷ []
    pub place : length (journal_after b es r) ≡ p

  -- A call of the seat k that found the journal full: it begins with the take at i and ends with the event at r, the seat's next hand on, which left
  -- the journal as it was, since it had no space
  pub record FoundFull (b : B) (es : List (Event B)) (k i r : ℕ) : Type 0 where
    pub begins : get_elem? es i ≡ some (takes k)
    pub later : i < r
    pub next_end : (a : ℕ) (c : B) → i < a → a < r → get_elem? es a ≡ some (hands_on k c) → ⊥
    pub same : journal_after b es (suc r) ≡ journal_after b es r
    pub full : (c : B) × (get_elem? es r ≡ some (hands_on k c)) × (K.capacity c ≤ length (journal_after b es r))

  -- books with one head have one capacity
  abbrev pub HeadReturnsCapacity : Type 0
  HeadReturnsCapacity = (b c : B) → K.head b ≡ K.head c → K.capacity b ≡ K.capacity c

  -- The journal xs is a sequential history of the calls in the events es: it begins with the lines at opening; each call has its line, or found the
  -- journal full; each line is that of just one call; if one call ended before another began, the line of the first comes before that of the second;
  -- and if the capacity is part of the head, a call that found the journal full comes after every line. If it is not, a call may have its line after
  -- one that found the journal full, if the book that it handed on has a greater capacity than the one that was full.
  pub record IsSequentialHistory (b : B) (es : List (Event B)) (xs : List L) : Type 0 where
    pub opening : IsPrefix (K.lines b) xs
    pub each_call : (k i r p : ℕ) (l : L) → Call b es k i r p l → (get_elem? xs p ≡ some l) × (K.line_seat l ≡ k)
    pub each_line : (p : ℕ) (l : L) → length (K.lines b) ≤ p → get_elem? xs p ≡ some l
        → (k : ℕ) × (i : ℕ) × (r : ℕ) × Call b es k i r p l
    pub one_call : (k i r p : ℕ) (l : L) (j a s : ℕ) (m : L) → Call b es k i r p l → Call b es j a s p m → r ≡ s
    pub each_end : (k r : ℕ) (c : B) → get_elem? es r ≡ some (hands_on k c)
        → ((i : ℕ) × (p : ℕ) × (l : L) × Call b es k i r p l) ⊎ ((i : ℕ) × FoundFull b es k i r)
    pub in_order : (k i r p : ℕ) (l : L) (j a s q : ℕ) (m : L) → Call b es k i r p l → Call b es j a s q m → r < a
        → p < q
    pub full_last : HeadReturnsCapacity → (k i r j a s p : ℕ) (l : L) → FoundFull b es k i r → Call b es j a s p l → s < r
    pub space_grew : (k i r j a s p : ℕ) (l : L) (f : FoundFull b es k i r) (c : Call b es j a s p l) → r < s
        → K.capacity f.full.0 < K.capacity c.ends.0

  -- the events es, which ended in the world u of a lock that was opened around the book b, are linearizable
  abbrev pub HasLinearized : B → List (Event B) → World B H L → Type 0
  HasLinearized b es u = K.lawful u.current × IsSequentialHistory b es (K.lines u.current)

  -- Every list of events from every opened world is linearizable: the journal that it leaves is lawful, and is a
  -- sequential history of its calls in an order that keeps the order of calls that do not overlap
  abbrev pub Linearizable : Form → Type 0
  Linearizable F = (n : ℕ) (b : B) (w u : World B H L) (es : List (Event B)) → Opened K F n b w → Runs K F es w u
      → HasLinearized b es u
