-- Each step on the table keeps the rule.
use Rattle.std.proofs.lemmas.Grind.{common_steps}
use Rattle.std.proofs.Common.{◌≡◌, ℕ, ◌+◌, ◌%◌, ◌^◌, Bool, true, false, List, [], ◌∷◌, ◌++◌, get_or, set, sym, refl, ap}
use Rattle.std.proofs.Common.{◌∙◌, subst, arith}
use Rattle.std.specs.Prelude as std
use mathlib.Core.Logic.{dite}
use mathlib.Core.Option.{Option, some, none}
use native.Mathlib.Decide.{ℕ_discrete}
use lib.ListN.{get_elem?}
use Rattle.atomic_table.specs.Table.{State, Me, step, keeps, takes, gives, rest, Allows}
use Rattle.ticket_lock.specs.declared.seat_state.Memo.{Memo}
use Rattle.ticket_lock.specs.declared.chronicle.Chronicle.{Ghosts}
use Rattle.ticket_lock.specs.declared.seat_state.SeatState.{SeatState}
use Rattle.ticket_lock.specs.declared.seat_state.SeatState.TheVariants.{Keeper, Idle, Waiting, Holding}
use Rattle.ticket_lock.specs.World.{Form, wrap, World, memo, shown, HandsOn, Good}
use Rattle.ticket_lock.specs.Standing.{stage_of, seat_of, number_of, looks_of, seen_of, heads_of, after_take}
use Rattle.ticket_lock.specs.Standing.{after_hand, shelf, world_of, Standing, took, looked, gave}
use Rattle.ticket_lock.proofs.Machine.{FormLaws, served, good_take, good_miss, good_enter, good_hand}

module _ {H L : Type 0} where
  -- the same seat
  abbrev pub Stays : SeatState H L → SeatState H L → Type 0
  Stays v w = (seat_of w ≡ seat_of v) × (heads_of w ≡ heads_of v)

  -- a view before and after a take
  pub record Took (v w : SeatState H L) : Type 0 where
    pub same : Stays v w
    pub seen : seen_of w ≡ seen_of v
    pub looks : looks_of w ≡ 0

  -- a view before and after a hand on, after which the seat has seen xs
  pub record Sees (xs : List L) (v w : SeatState H L) : Type 0 where
    pub same : Stays v w
    pub seen : seen_of w ≡ xs

module _ {B : Type 0} where
  -- the book, or d
  abbrev book_or : B → std.Option B → B
  book_or d (std.Some b) = b
  book_or d std.None = d

  -- the book that was taken last, or d
  abbrev first_book : B → List (ℕ × std.Option B) → B
  first_book d [] = d
  first_book d (x ∷ xs) = book_or d x.1

  -- a seat that has taken one book has taken that one
  pub one_book : (b c : B) → ◌≡◌ {A = List (ℕ × std.Option B)} ((0, std.Some b) ∷ []) ((0, std.Some c) ∷ []) → b ≡ c
  one_book b c e = ap (first_book b) e

module _ {B H L : Type 0} (K : Ghosts B H L) (F : Form) (laws : FormLaws F) (n : ℕ) (opening : B) where
  -- the rule of the table
  abbrev Rule : State (std.Option B) (SeatState H L) → Type 0
  Rule = Standing K F n opening

  -- what the table is
  abbrev St : Type 0
  St = State (std.Option B) (SeatState H L)

  -- a fetch-and-add on word 0 by an idle seat is an event take
  pub takes_ok : (slots id : ℕ) (v : SeatState H L) (cs : List (ℕ × std.Option B)) → stage_of v ≡ 1
      → Allows Rule slots id (v, cs) 0 (λ x. (x + 1) % 2 ^ 64) (took (step slots 0 1 0 none) (v, cs))
  takes_ok slots id (Keeper ms) cs is = absurd (omega arith)
  takes_ok slots id (Waiting m t looks) cs is = absurd (omega arith)
  takes_ok slots id (Holding m t) cs is = absurd (omega arith)
  takes_ok slots id (Idle m) cs is = λ s r sized at small. (
    Waiting m (get_or s.words 0 0) 0,
    keeps,
    tt,
    record {
      next = wrap (r.next + 1);
      serving = r.serving;
      home = r.home;
      current = r.current;
      queue = r.queue ++ id ∷ [];
      good = good_take K F laws n opening (world_of s r.next r.serving r.home r.current) r.queue id m r.good at;
      shelved = r.shelved;
    },
    refl,
  )

  -- a step that changes no word
  unmoved : (s : St) (next serving : ℕ) (home : Bool) (current : B) (q : List ℕ) (homes : List (Option (std.Option B)))
      (views : List (SeatState H L)) (i : ℕ)
      → Good K F n opening
      (record { words = s.words; next = next; serving = serving; seats = views; home = home; current = current }) q
      → homes ≡ shelf home current
      → Rule record { words = set s.words i (get_or s.words i 0); homes = homes; views = views }
  unmoved s next serving home current q homes views i good shelved = grind (arith, common_steps)

  -- a load of its serving word by a seat that waits is an event enter if it finds its number, and an event miss if it does not
  pub looks_ok : (slots id : ℕ) (v : SeatState H L) (cs : List (ℕ × std.Option B)) → stage_of v ≡ 2
      → Allows Rule slots id (v, cs) (F.serving_word (number_of v)) (λ x. x)
      (looked K (step slots (F.serving_word (number_of v)) 0 0 none) (v, cs))
  looks_ok slots id (Keeper ms) cs is = absurd (omega arith)
  looks_ok slots id (Idle m) cs is = absurd (omega arith)
  looks_ok slots id (Holding m t) cs is = absurd (omega arith)
  looks_ok slots id (Waiting m t looks) cs is = λ s r sized at small.
      let found : ℕ = get_or s.words (F.serving_word t) 0 in
      let w : World B H L = world_of s r.next r.serving r.home r.current in dite (ℕ_discrete found t)
      (λ hit.
      let front = served K F laws n opening w r.queue id m t looks r.good at hit in
      let home : s.homes ≡ shelf true r.current = r.shelved ∙ ap (λ (z : Bool). shelf z r.current) front.2 in
      let mine = r.good.seats.each_seat id (Waiting m t looks) at in (
        Holding (shown m (K.lines r.current)) t,
        takes 0 (std.Some r.current),
        ap (λ (z : List (Option (std.Option B))). get_elem? z 0) home,
        unmoved s r.next r.serving false r.current r.queue (set s.homes 0 none)
            (set s.views id (Holding (shown m (K.lines r.current)) t)) (F.serving_word t)
            (good_enter K F laws n opening w r.queue id m t looks r.good at hit)
            (ap (λ (z : List (Option (std.Option B))). set z 0 none) home),
        (
          λ e. (
            r.current,
            refl,
            record {
              lawful = r.good.book.lawful;
              head = ap (λ (z : H). z ∷ []) (mine.0.head ∙ sym r.good.book.head);
              turn = r.good.book.turn ∙ sym front.1;
              begins = mine.0.begins;
              own_lines = mine.0.own_lines;
            },
          ),
          λ ne. absurd (ne hit),
        ),
      ))
      (λ off. (
        Waiting m t (looks + 1),
        keeps,
        tt,
        unmoved s r.next r.serving r.home r.current r.queue s.homes (set s.views id (Waiting m t (looks + 1)))
            (F.serving_word t) (good_miss K F laws n opening w r.queue id m t looks r.good at) r.shelved,
        (λ e. absurd (off e), λ _. refl),
      ))

  -- the same of a number that is known by an equation
  pub looks_from : (slots id t : ℕ) (v : SeatState H L) (cs : List (ℕ × std.Option B)) → stage_of v ≡ 2
      → number_of v ≡ t → Allows Rule slots id (v, cs) (F.serving_word t) (λ x. x)
      (looked K (step slots (F.serving_word t) 0 0 none) (v, cs))
  looks_from slots id t v cs is number =
      subst (λ (z : ℕ). Allows Rule slots id (v, cs) (F.serving_word z) (λ x. x)
      (looked K (step slots (F.serving_word z) 0 0 none) (v, cs))) number (looks_ok slots id v cs is)

  -- a store of the number after its own by the seat that holds the book is an event hand on
  gives_at : (slots id : ℕ) (m : Memo H L) (t : ℕ) (b : B) → m.head ≡ K.head opening
      → HandsOn K (memo m.seat (K.head opening) m.seen) t b
      → Allows Rule slots id (Holding m t, (0, std.Some b) ∷ []) (F.serving_word (wrap (t + 1))) (λ _. wrap (t + 1))
      (λ _. gave K (step slots (F.serving_word (wrap (t + 1))) (wrap (t + 1)) 0 none)
      (Holding m t, (0, std.Some b) ∷ []) (wrap (t + 1)))
  gives_at slots id m t b head hands = λ s r sized at small.
      let w : World B H L = world_of s r.next r.serving r.home r.current in
      let mine = r.good.seats.each_seat id (Holding m t) at in
      let went : s.homes ≡ shelf false r.current = r.shelved ∙ ap (λ (z : Bool). shelf z r.current) mine.3 in
      let does : HandsOn K m t b = subst (λ (z : H). HandsOn K (memo m.seat z m.seen) t b) (sym head) hands in
      let after = good_hand K F laws n opening w r.queue id m t b r.good at does in (
        Idle (shown m (K.lines b)),
        gives,
        tt,
        record {
          next = r.next;
          serving = wrap (t + 1);
          home = true;
          current = b;
          queue = after.0;
          good = after.2;
          shelved = ap (λ (z : List (Option (std.Option B))). set z 0 (some (std.Some b))) went;
        },
        λ c e. let same : b ≡ c = one_book b c e in ap (λ (z : B). (Idle (shown m (K.lines z)), [])) same,
      )

  -- the same of any view of that kind
  pub gives_ok : (slots id : ℕ) (v : SeatState H L) (cs : List (ℕ × std.Option B)) (b : B) (new : ℕ) → stage_of v ≡ 3
      → cs ≡ (0, std.Some b) ∷ [] → heads_of v ≡ K.head opening ∷ []
      → new ≡ wrap (number_of v + 1) → HandsOn K (memo (seat_of v) (K.head opening) (seen_of v)) (number_of v) b
      → Allows Rule slots id (v, cs) (F.serving_word new) (λ _. new)
      (λ _. gave K (step slots (F.serving_word new) new 0 none) (v, cs) new)
  gives_ok slots id (Keeper ms) cs b new is has head to hands = absurd (omega arith)
  gives_ok slots id (Idle m) cs b new is has head to hands = absurd (omega arith)
  gives_ok slots id (Waiting m t looks) cs b new is has head to hands = absurd (omega arith)
  gives_ok slots id (Holding m t) cs b new is has head to hands =
      let P : List (ℕ × std.Option B) × ℕ → Type 0 =
      λ z. Allows Rule slots id (Holding m t, z.0) (F.serving_word z.1) (λ _. z.1)
      (λ _. gave K (step slots (F.serving_word z.1) z.1 0 none) (Holding m t, z.0) z.1) in
      let one : m.head ≡ K.head opening = cc in
      subst P (λ i. (sym has i, sym to i)) (gives_at slots id m t b one hands)

module _ {H L : Type 0} where
  -- the seat is idle after it handed on
  pub handed_stage : (xs : List L) (v : SeatState H L) → stage_of v ≡ 3 → stage_of (after_hand xs v) ≡ 1
  handed_stage xs (Keeper ms) is = absurd (omega arith)
  handed_stage xs (Idle m) is = refl
  handed_stage xs (Waiting m t looks) is = absurd (omega arith)
  handed_stage xs (Holding m t) is = refl

  -- it is the same seat
  pub handed_seat : (xs : List L) (v : SeatState H L) → seat_of (after_hand xs v) ≡ seat_of v
  handed_seat xs (Keeper ms) = refl
  handed_seat xs (Idle m) = refl
  handed_seat xs (Waiting m t looks) = refl
  handed_seat xs (Holding m t) = refl

module _ {B H L : Type 0} (K : Ghosts B H L) (F : Form) (laws : FormLaws F) where
  -- the seat with the book back in its slot
  abbrev Back : Me (std.Option B) (SeatState H L) → Me (std.Option B) (SeatState H L) → B → Type 0
  Back old new b = new ≡ (old.0, (0, std.Some b) ∷ rest old.1)

  -- the store keeps the rule, after the book was laid back
  pub gives_from : (n : ℕ) (opening : B) (slots id k t word : ℕ) (old new : Me (std.Option B) (SeatState H L)) (b : B)
      → Back old new b
      → (stage_of old.0 ≡ 3) × (seat_of old.0 ≡ k) × (number_of old.0 ≡ t) × (old.1 ≡ (0, std.None) ∷ [])
      → heads_of old.0 ≡ K.head opening ∷ []
      → HandsOn K (memo k (K.head opening) (seen_of old.0)) t b → word ≡ wrap (t + 1)
      → Allows (Rule K F laws n opening) slots id new (F.serving_word word) (λ _. word)
      (λ _. gave K (step slots (F.serving_word word) word 0 none) new word)
  gives_from n opening slots id k t word old new b back is head hands to =
      let P : Me (std.Option B) (SeatState H L) → Type 0 =
      λ z. Allows (Rule K F laws n opening) slots id z (F.serving_word word) (λ _. word)
      (λ _. gave K (step slots (F.serving_word word) word 0 none) z word) in
      let carried : (0, std.Some b) ∷ rest old.1 ≡ (0, std.Some b) ∷ [] =
      ap (λ (z : List (ℕ × std.Option B)). (0, std.Some b) ∷ rest z) is.3 in
      let Q : ℕ × ℕ → Type 0 = λ z. HandsOn K (memo z.0 (K.head opening) (seen_of old.0)) z.1 b in
      subst P (sym back) (gives_ok K F laws n opening slots id old.0
      ((0, std.Some b) ∷ rest old.1) b word is.0 carried head (to ∙ ap (λ (z : ℕ). wrap (z + 1)) (sym is.2))
      (subst Q (λ i. (sym is.1 i, sym is.2 i)) hands))

  -- what the store establishes for the seat, after the book was put back
  pub gave_from : (old new after : Me (std.Option B) (SeatState H L)) (b : B) → Back old new b
      → old.1 ≡ (0, std.None) ∷ []
      → ((c : B) → new.1 ≡ (0, std.Some c) ∷ [] → after ≡ (after_hand (K.lines c) new.0, []))
      → after ≡ (after_hand (K.lines b) old.0, [])
  gave_from old new after b back is returned =
      let carried : new.1 ≡ (0, std.Some b) ∷ [] =
      ap (λ (z : Me (std.Option B) (SeatState H L)). z.1) back
      ∙ ap (λ (z : List (ℕ × std.Option B)). (0, std.Some b) ∷ rest z) is in
      returned b carried ∙ ap (λ (z : Me (std.Option B) (SeatState H L)). (after_hand (K.lines b) z.0, [])) back

  -- the seat that is returned is idle and has taken no slot
  pub handed_is : (old after : Me (std.Option B) (SeatState H L)) (xs : List L) (k : ℕ) → stage_of old.0 ≡ 3
      → seat_of old.0 ≡ k → after ≡ (after_hand xs old.0, [])
      → (stage_of after.0 ≡ 1) × (seat_of after.0 ≡ k) × (after.1 ≡ [])
  handed_is old after xs k is seat e = grind (arith, common_steps, stage_of, seat_of, handed_stage, handed_seat)

module _ {H L : Type 0} where
  -- what a take changes in a view
  took_at : (t : ℕ) (v : SeatState H L) → stage_of v ≡ 1 → Took v (after_take t v)
  took_at t (Keeper ms) is = absurd (omega arith)
  took_at t (Idle m) is = record { same = (refl, refl); seen = refl; looks = refl }
  took_at t (Waiting m u k) is = absurd (omega arith)
  took_at t (Holding m u) is = absurd (omega arith)

  -- what a hand on changes in a view
  given_at : (xs : List L) (v : SeatState H L) → stage_of v ≡ 3 → Sees xs v (after_hand xs v)
  given_at xs (Keeper ms) is = absurd (omega arith)
  given_at xs (Idle m) is = absurd (omega arith)
  given_at xs (Waiting m u k) is = absurd (omega arith)
  given_at xs (Holding m u) is = record { same = (refl, refl); seen = refl }

  -- the same of a view that is known by an equation
  pub took_is : (t : ℕ) (v w : SeatState H L) → stage_of v ≡ 1 → w ≡ after_take t v → Took v w
  took_is t v w is e = subst (Took v) (sym e) (took_at t v is)

  -- the same of a view that is known by an equation
  pub given_is : (xs : List L) (v w : SeatState H L) → stage_of v ≡ 3 → w ≡ after_hand xs v → Sees xs v w
  given_is xs v w is e = subst (Sees xs v) (sym e) (given_at xs v is)
