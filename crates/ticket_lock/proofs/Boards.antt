-- Each step of the running lock is an event, or happens outside the time in which it is open.
use Rattle.std.proofs.lemmas.Grind.{common_steps}
use Rattle.std.proofs.Common.{◌≡◌, ◌≢◌, ℕ, zero, suc, ◌+◌, ◌<◌, ◌⊎◌, Bool, true, false, List, [], ◌∷◌, ◌++◌, length}
use Rattle.std.proofs.Common.{get_or, set, sym, refl, ap, ◌∙◌, subst, inl, inr, ⊎_elim, arith}
use Rattle.std.specs.Prelude as std
use mathlib.Core.Logic.{dite}
use native.Mathlib.Decide.{ℕ_discrete}
use mathlib.Core.Option.{Option, none, some, some-injective, some-ne-none}
use lib.ListN.{get_elem?}
use lib.Seq.{set-get_or}
use Rattle.atomic_table.specs.Table.{Act, keeps, gives, chain, Valid, carried_after, homes_after, put_back, rest}
use Rattle.atomic_table.specs.Table as table
use Rattle.atomic_table.specs.Table.{State, Me, Step}
use Rattle.atomic_table.proofs.Lists.{at_set, set_else}
use Rattle.ticket_lock.specs.declared.chronicle.Chronicle.{Ghosts}
use Rattle.ticket_lock.specs.declared.seat_state.Memo.{Memo}
use Rattle.ticket_lock.specs.declared.seat_state.SeatState.{SeatState}
use Rattle.ticket_lock.specs.declared.seat_state.SeatState.TheVariants.{Keeper, Idle, Waiting, Holding}
use Rattle.ticket_lock.specs.World.{Form, World, Event, takes, misses, enters, hands_on, wrap, memo, memos, shown}
use Rattle.ticket_lock.specs.World.{weigh, HandsOn, Happens}
use Rattle.ticket_lock.specs.Standing.{stage_of, looks_of}
use Rattle.ticket_lock.specs.Standing.{nobody, shelf, Standing, took, looked}
use Rattle.ticket_lock.specs.Standing.{gave}
use Rattle.ticket_lock.specs.Boards.{Board, Location, Steps, IsJust, shows, LeadsBy, TakesAreEvents}
use Rattle.ticket_lock.specs.Boards.{LooksAreEvents, HandOnsAreEvents, IsOpen, CutsComeBefore, JoinsComeAfter}
use Rattle.ticket_lock.specs.Boards.{NobodyComesIn, EventsStayInside, NothingHappensOutside, PeeksChangeNothing}
use Rattle.ticket_lock.specs.Boards.{WordZeroIsTurn}
use Rattle.ticket_lock.proofs.Sums.{wrap_small, set_at, total_two, span_all}
use Rattle.ticket_lock.proofs.Machine.{FormLaws, served, same_there, is_true, good_take, good_miss, good_enter, good_hand}
use Rattle.ticket_lock.proofs.Seats.{ones, splits_ok, joins_ok, nobody_stands}
use Rattle.ticket_lock.proofs.Steps.{one_book}

-- a word that is written over by itself
set_own : (ws : List ℕ) (i : ℕ) → i < length ws → set ws i (get_or ws i 0) ≡ ws
set_own [] i inside = absurd (omega arith)
set_own (w ∷ ws) zero inside = refl
set_own (w ∷ ws) (suc i) inside = ap (λ (z : List ℕ). w ∷ z) (set_own ws i (omega arith))

-- One slot, and the seat that has it
module _ {S : Type 0} (y : S) where
  -- the one slot is at home with y, or the seat has it
  abbrev OneSlot : List (Option S) → List (ℕ × S) → Type 0
  OneSlot hs c = ((hs ≡ some y ∷ []) × (c ≡ [])) ⊎ ((hs ≡ none ∷ []) × (c ≡ (0, y) ∷ []))

  -- what is taken from the one slot is y
  taken_one : (k : ℕ) (z : S) → get_elem? (some y ∷ []) k ≡ some (some z) → (k ≡ 0) × (y ≡ z)
  taken_one zero z e = (refl, some-injective y z (some-injective (some y) (some z) e))
  taken_one (suc k) z e = absurd (some-ne-none (some z) (sym e))

  -- nothing is taken if the slot is out
  taken_none : (k : ℕ) (z : S) → get_elem? (none ∷ []) k ≡ some (some z) → ⊥
  taken_none zero z e = some-ne-none z (sym (some-injective none (some z) e))
  taken_none (suc k) z e = some-ne-none (some z) (sym e)

  -- an act moves the slot to the seat or back
  moves : (hs : List (Option S)) (c : List (ℕ × S)) (a : Act S) → OneSlot hs c → Valid hs c a
      → OneSlot (homes_after hs c a) (carried_after c a)
  moves hs c keeps one valid = one
  moves hs c gives one valid = grind (arith, common_steps, put_back, rest)
  moves hs c (table.takes k z) one valid = grind (arith, common_steps, taken_one, taken_none)
  moves hs c (chain a b) one valid =
      moves (homes_after hs c a) (carried_after c a) b (moves hs c a one valid.0) valid.1

module _ {S : Type 0} where
  -- if the slot is out and not with the seat, no act moves it
  stays_out : (hs : List (Option S)) (c : List (ℕ × S)) (a : Act S) → hs ≡ none ∷ [] → c ≡ [] → Valid hs c a
      → (homes_after hs c a ≡ none ∷ []) × (carried_after c a ≡ [])
  stays_out hs c keeps gone bare valid = (gone, bare)
  stays_out hs c gives gone bare valid = (ap (put_back hs) bare ∙ gone, ap rest bare)
  stays_out hs c (table.takes k z) gone bare valid = absurd (taken_none z k z
      (subst (λ (x : List (Option S)). get_elem? x k ≡ some (some z)) gone valid))
  stays_out hs c (chain a b) gone bare valid = let one = stays_out hs c a gone bare valid.0 in
      stays_out (homes_after hs c a) (carried_after c a) b one.0 one.1 valid.1

  -- a seat that has the slot does not have none
  has_one : (x : ℕ × S) → x ∷ [] ≡ [] → ⊥
  has_one x e = let n = ap length e in omega arith

module _ {B : Type 0} where
  -- if the seat had no slot and has none, the slot is as it was
  bare_before : (home : Bool) (b : B) (hs : List (Option (std.Option B))) (c d : List (ℕ × std.Option B))
      (a : Act (std.Option B)) → hs ≡ shelf home b → c ≡ [] → Valid hs c a → d ≡ carried_after c a → d ≡ []
      → homes_after hs c a ≡ hs
  bare_before true b hs c d a shelved bare valid carries none_left = ⊎_elim
      (λ (t : (homes_after hs c a ≡ some (std.Some b) ∷ []) × (carried_after c a ≡ [])). t.0 ∙ sym shelved)
      (λ (t : (homes_after hs c a ≡ none ∷ []) × (carried_after c a ≡ (0, std.Some b) ∷ [])).
      absurd (has_one (0, std.Some b) (sym t.1 ∙ (sym carries ∙ none_left))))
      (moves (std.Some b) hs c a (inl (shelved, bare)) valid)
  bare_before false b hs c d a shelved bare valid carries none_left =
      (stays_out hs c a shelved bare valid).0 ∙ sym shelved

  -- if the seat has taken the book from the slot, the slot is empty, and the seat has that book
  took_it : (b c : B) (hs : List (Option (std.Option B))) (had has : List (ℕ × std.Option B)) (a : Act (std.Option B))
      → hs ≡ shelf true b → had ≡ [] → Valid hs had a → has ≡ carried_after had a → has ≡ (0, std.Some c) ∷ []
      → (homes_after hs had a ≡ none ∷ []) × (b ≡ c)
  took_it b c hs had has a shelved bare valid carries one = ⊎_elim
      (λ (t : (homes_after hs had a ≡ some (std.Some b) ∷ []) × (carried_after had a ≡ [])).
      absurd (has_one (0, std.Some c) (sym one ∙ (carries ∙ t.1))))
      (λ (t : (homes_after hs had a ≡ none ∷ []) × (carried_after had a ≡ (0, std.Some b) ∷ [])).
      (t.0, one_book b c (sym t.1 ∙ (sym carries ∙ one))))
      (moves (std.Some b) hs had a (inl (shelved, bare)) valid)

  -- if the seat put the book back, the slot has it
  gave_it : (b : B) (hs : List (Option (std.Option B))) (had has : List (ℕ × std.Option B)) (a : Act (std.Option B))
      → hs ≡ none ∷ [] → had ≡ (0, std.Some b) ∷ [] → Valid hs had a → has ≡ carried_after had a → has ≡ []
      → homes_after hs had a ≡ some (std.Some b) ∷ []
  gave_it b hs had has a gone one valid carries bare = ⊎_elim
      (λ (t : (homes_after hs had a ≡ some (std.Some b) ∷ []) × (carried_after had a ≡ [])). t.0)
      (λ (t : (homes_after hs had a ≡ none ∷ []) × (carried_after had a ≡ (0, std.Some b) ∷ [])).
      absurd (has_one (0, std.Some b) (sym t.1 ∙ (sym carries ∙ bare))))
      (moves (std.Some b) hs had a (inr (gone, one)) valid)

-- Events are distinguished by what they change

-- the event of the seat j that goes from the view v to the view w, after which the book is b
abbrev event_of : {B H L : Type 0} → ℕ → SeatState H L → SeatState H L → B → Event B
event_of j (Idle m) w b = takes j
event_of j (Waiting m t k) (Waiting x u i) b = misses j
event_of j (Waiting m t k) w b = enters j
event_of j v w b = hands_on j b

module _ {B H L : Type 0} (K : Ghosts B H L) (F : Form) where
  -- what an event changes: one view
  record Changes (e : Event B) (w u : World B H L) : Type 0 where
    place : ℕ
    old : SeatState H L
    new : SeatState H L
    there : get_elem? w.seats place ≡ some old
    sets : u.seats ≡ set w.seats place new
    differs : old ≡ new → ⊥
    bare : (stage_of old ≡ 0 → ⊥) × (stage_of new ≡ 0 → ⊥)
    event : e ≡ event_of place old new u.current

  -- each event changes one
  changes : (e : Event B) (w u : World B H L) → Happens K F e w u → Changes e w u
  changes (takes j) w u h = grind (arith, common_steps, stage_of)
  changes (misses j) w u h = grind (arith, common_steps, looks_of)
  changes (enters j) w u h = grind (arith, common_steps, shown, stage_of)
  changes (hands_on j b) w u h = grind (arith, common_steps, shown, stage_of, hands_on)

  -- two changes from one world to one world are of the same seat
  one_seat : (e d : Event B) (w u : World B H L) (x : Changes e w u) (y : Changes d w u) → x.place ≡ y.place
  one_seat e d w u x y = grind (arith, common_steps, set_at, set_else, same_there)

  -- so they are one event
  one_event : (e d : Event B) (w u : World B H L) → Happens K F e w u → Happens K F d w u → d ≡ e
  one_event e d w u h i =
      let x = changes e w u h in
      let y = changes d w u i in
      let same : x.place ≡ y.place = one_seat e d w u x y in
      let old : x.old ≡ y.old = same_there w.seats x.place x.old y.old x.there
      (subst (λ (z : ℕ). get_elem? w.seats z ≡ some y.old) (sym same) y.there) in
      let new : x.new ≡ y.new = same_there u.seats x.place x.new y.new
      (ap (λ (z : List (SeatState H L)). get_elem? z x.place) x.sets ∙ set_at w.seats x.place x.new x.old x.there)
      (subst (λ (z : ℕ). get_elem? u.seats z ≡ some y.new) (sym same)
      (ap (λ (z : List (SeatState H L)). get_elem? z y.place) y.sets ∙ set_at w.seats y.place y.new y.old y.there)) in
      y.event ∙ ((λ k. event_of (sym same k) (sym old k) (sym new k) u.current) ∙ sym x.event)

  -- what happens is just that
  just : (e : Event B) (w u : World B H L) → Happens K F e w u → IsJust K F e w u
  just e w u h = record { happens = h; alone = λ d i. one_event e d w u h i }

  -- The three plays

  module _ (laws : FormLaws F) (n : ℕ) (opening : B) where
    -- a take by an idle seat
    pub take_of : (s u : Board B H L) (r : Standing K F n opening s) (id : ℕ) (m : Memo H L)
        (cs : List (ℕ × std.Option B)) (after : Location B H L) (st : Step (std.Option B)) → cs ≡ []
        → Steps id 0 (λ x. wrap (x + 1)) (took st (Idle m, cs)) (Idle m, cs) after s u
        → LeadsBy K F n opening (takes id) (shows K F s r) u
    take_of s u r id m cs after st bare p =
        let w : World B H L = shows K F s r in
        let found : ℕ = get_or s.words 0 0 in
        let view : after.0 ≡ Waiting m found 0 = ap (λ (z : Location B H L). z.0) p.reports in
        let left : after.1 ≡ [] = ap (λ (z : Location B H L). z.1) p.reports ∙ bare in
        let homes : homes_after s.homes cs p.act ≡ s.homes =
        bare_before r.home r.current s.homes cs after.1 p.act r.shelved bare p.valid p.carries left in
        let stood : Board B H L = record {
          words = set s.words 0 (wrap (found + 1));
          homes = s.homes;
          views = set s.views id (Waiting m found 0);
        } in
        let is : u ≡ stood = p.leaves ∙ (λ i. record {
          words = set s.words 0 (wrap (found + 1));
          homes = homes i;
          views = set s.views id (view i);
        }) in
        let stands : Standing K F n opening stood = record {
          next = wrap (r.next + 1);
          serving = r.serving;
          home = r.home;
          current = r.current;
          queue = r.queue ++ id ∷ [];
          good = good_take K F laws n opening w r.queue id m r.good p.there;
          shelved = r.shelved;
        } in
        subst (LeadsBy K F n opening (takes id) w) (sym is)
        (stands, just (takes id) w (shows K F stood stands) (m, p.there, refl))

    -- a look that finds its number
    enter_of : (s u : Board B H L) (r : Standing K F n opening s) (id : ℕ) (m : Memo H L) (t looks : ℕ)
        (cs : List (ℕ × std.Option B)) (after : Location B H L) (st : Step (std.Option B)) → cs ≡ []
        → Steps id (F.serving_word t) (λ x. x) (looked K st (Waiting m t looks, cs)) (Waiting m t looks, cs) after s u
        → get_or s.words (F.serving_word t) 0 ≡ t → LeadsBy K F n opening (enters id) (shows K F s r) u
    enter_of s u r id m t looks cs after st bare p hit =
        let w : World B H L = shows K F s r in
        let returned = p.reports.0 hit in
        let b : B = returned.0 in
        let front = served K F laws n opening w r.queue id m t looks r.good p.there hit in
        let home : s.homes ≡ shelf true r.current = r.shelved ∙ ap (λ (z : Bool). shelf z r.current) front.2 in
        let one : after.1 ≡ (0, std.Some b) ∷ [] = ap (λ (z : Location B H L). z.1) returned.1
        ∙ ap (λ (z : List (ℕ × std.Option B)). (0, std.Some b) ∷ z) bare in
        let took_this = took_it r.current b s.homes cs after.1 p.act home bare p.valid p.carries one in
        let view : after.0 ≡ Holding (shown m (K.lines r.current)) t = ap (λ (z : Location B H L). z.0) returned.1
        ∙ ap (λ (z : B). Holding (shown m (K.lines z)) t) (sym took_this.1) in
        let stood : Board B H L = record {
          words = s.words;
          homes = none ∷ [];
          views = set s.views id (Holding (shown m (K.lines r.current)) t);
        } in
        let is : u ≡ stood = p.leaves ∙ (λ i. record {
          words = set-get_or s.words (F.serving_word t) 0 i;
          homes = took_this.0 i;
          views = set s.views id (view i);
        }) in
        let stands : Standing K F n opening stood = record {
          next = r.next;
          serving = r.serving;
          home = false;
          current = r.current;
          queue = r.queue;
          good = good_enter K F laws n opening w r.queue id m t looks r.good p.there hit;
          shelved = refl;
        } in
        subst (LeadsBy K F n opening (enters id) w) (sym is)
        (stands, just (enters id) w (shows K F stood stands) (m, t, looks, p.there, hit, refl))

    -- a look that does not
    miss_of : (s u : Board B H L) (r : Standing K F n opening s) (id : ℕ) (m : Memo H L) (t looks : ℕ)
        (cs : List (ℕ × std.Option B)) (after : Location B H L) (st : Step (std.Option B)) → cs ≡ []
        → Steps id (F.serving_word t) (λ x. x) (looked K st (Waiting m t looks, cs)) (Waiting m t looks, cs) after s u
        → get_or s.words (F.serving_word t) 0 ≢ t → LeadsBy K F n opening (misses id) (shows K F s r) u
    miss_of s u r id m t looks cs after st bare p off =
        let w : World B H L = shows K F s r in
        let returned = p.reports.1 off in
        let view : after.0 ≡ Waiting m t (looks + 1) = ap (λ (z : Location B H L). z.0) returned in
        let left : after.1 ≡ [] = ap (λ (z : Location B H L). z.1) returned ∙ bare in
        let homes : homes_after s.homes cs p.act ≡ s.homes =
        bare_before r.home r.current s.homes cs after.1 p.act r.shelved bare p.valid p.carries left in
        let stood : Board B H L = record {
          words = s.words;
          homes = s.homes;
          views = set s.views id (Waiting m t (looks + 1));
        } in
        let is : u ≡ stood = p.leaves ∙ (λ i. record {
          words = set-get_or s.words (F.serving_word t) 0 i;
          homes = homes i;
          views = set s.views id (view i);
        }) in
        let stands : Standing K F n opening stood = record {
          next = r.next;
          serving = r.serving;
          home = r.home;
          current = r.current;
          queue = r.queue;
          good = good_miss K F laws n opening w r.queue id m t looks r.good p.there;
          shelved = r.shelved;
        } in
        subst (LeadsBy K F n opening (misses id) w) (sym is)
        (stands, just (misses id) w (shows K F stood stands) (m, t, looks, p.there, off, refl))

    -- a hand on by the seat that holds the book
    hand_on_of : (s u : Board B H L) (r : Standing K F n opening s) (id : ℕ) (m : Memo H L) (t : ℕ)
        (cs : List (ℕ × std.Option B)) (after : Location B H L) (st : Step (std.Option B)) (b : B)
        → cs ≡ (0, std.Some b) ∷ [] → HandsOn K (memo m.seat (K.head opening) m.seen) t b
        → Steps id (F.serving_word (wrap (t + 1))) (λ _. wrap (t + 1)) (gave K st (Holding m t, cs)) (Holding m t, cs)
        after s u → LeadsBy K F n opening (hands_on id b) (shows K F s r) u
    hand_on_of s u r id m t cs after st b one hands p =
        let w : World B H L = shows K F s r in
        let mine = r.good.seats.each_seat id (Holding m t) p.there in
        let does : HandsOn K m t b = subst (λ (z : H). HandsOn K (memo m.seat z m.seen) t b) (sym mine.0.head) hands in
        let returned = p.reports b one in
        let view : after.0 ≡ Idle (shown m (K.lines b)) = ap (λ (z : Location B H L). z.0) returned in
        let bare : after.1 ≡ [] = ap (λ (z : Location B H L). z.1) returned in
        let gone : s.homes ≡ none ∷ [] = r.shelved ∙ ap (λ (z : Bool). shelf z r.current) mine.3 in
        let homes : homes_after s.homes cs p.act ≡ some (std.Some b) ∷ [] =
        gave_it b s.homes cs after.1 p.act gone one p.valid p.carries bare in
        let next = good_hand K F laws n opening w r.queue id m t b r.good p.there does in
        let stood : Board B H L = record {
          words = set s.words (F.serving_word (wrap (t + 1))) (wrap (t + 1));
          homes = some (std.Some b) ∷ [];
          views = set s.views id (Idle (shown m (K.lines b)));
        } in
        let is : u ≡ stood = p.leaves ∙ (λ i. record {
          words = set s.words (F.serving_word (wrap (t + 1))) (wrap (t + 1));
          homes = homes i;
          views = set s.views id (view i);
        }) in
        let stands : Standing K F n opening stood = record {
          next = r.next;
          serving = wrap (t + 1);
          home = true;
          current = b;
          queue = next.0;
          good = next.2;
          shelved = refl;
        } in
        subst (LeadsBy K F n opening (hands_on id b) w) (sym is)
        (stands, just (hands_on id b) w (shows K F stood stands) (m, t, p.there, does, refl))

  module _ (laws : FormLaws F) where
    -- each take is an event
    pub takes_are : TakesAreEvents K F
    takes_are n opening s u r id (Idle m, cs) after st is bare p = take_of laws n opening s u r id m cs after st bare p
    takes_are n opening s u r id (Keeper ms, cs) after st is bare p = absurd (omega arith)
    takes_are n opening s u r id (Waiting m t k, cs) after st is bare p = absurd (omega arith)
    takes_are n opening s u r id (Holding m t, cs) after st is bare p = absurd (omega arith)

    -- each look is an event
    pub looks_are : LooksAreEvents K F
    looks_are n opening s u r id (Waiting m t k, cs) after st is bare p = (
      enter_of laws n opening s u r id m t k cs after st bare p,
      miss_of laws n opening s u r id m t k cs after st bare p,
    )
    looks_are n opening s u r id (Keeper ms, cs) after st is bare p = absurd (omega arith)
    looks_are n opening s u r id (Idle m, cs) after st is bare p = absurd (omega arith)
    looks_are n opening s u r id (Holding m t, cs) after st is bare p = absurd (omega arith)

    -- each hand on is an event
    pub hand_ons_are : HandOnsAreEvents K F
    hand_ons_are n opening s u r id (Holding m t, cs) after st b is one hands p =
        hand_on_of laws n opening s u r id m t cs after st b one hands p
    hand_ons_are n opening s u r id (Keeper ms, cs) after st b is one hands p = absurd (omega arith)
    hand_ons_are n opening s u r id (Idle m, cs) after st b is one hands p = absurd (omega arith)
    hand_ons_are n opening s u r id (Waiting m t k, cs) after st b is one hands p = absurd (omega arith)

  -- The other steps

  -- an open lock has no keeper with a seat
  not_open : (w : World B H L) (j : ℕ) (m : Memo H L) (ms : List (Memo H L))
      → get_elem? w.seats j ≡ some (Keeper (m ∷ ms)) → IsOpen K F w → ⊥
  not_open w j m ms at handed = let n = ap length (handed j (m ∷ ms) at) in omega arith

  -- each cut comes before
  pub cuts_come : CutsComeBefore K F
  cuts_come n opening s r id (Keeper (m ∷ ms)) at at_zero is = (
    not_open (shows K F s r) id m ms at,
    (splits_ok K F n opening id m ms s r at, refl, refl, refl, refl, refl),
  )
  cuts_come n opening s r id (Keeper []) at at_zero is = absurd (omega arith)
  cuts_come n opening s r id (Idle m) at at_zero is = absurd (omega arith)
  cuts_come n opening s r id (Waiting m t k) at at_zero is = absurd (omega arith)
  cuts_come n opening s r id (Holding m t) at at_zero is = absurd (omega arith)

  -- each join comes after
  pub joins_come : JoinsComeAfter K F
  joins_come n opening s r id other (Keeper ms) (Idle m) at none_has apart there is =
      let first : List (SeatState H L) = set s.views id (Keeper (m ∷ ms)) in
      let beside : get_elem? first other ≡ some (Idle m) = set_else s.views id other (Keeper (m ∷ ms)) apart ∙ there in
      let after = joins_ok K F n opening id other m ms s r at apart beside in
      let kept : get_elem? (set first other nobody) id ≡ some (Keeper (m ∷ ms)) =
      set_else first other id nobody (λ e. apart (sym e)) ∙ set_at s.views id (Keeper (m ∷ ms)) (Keeper ms) at in
      ((after, refl, refl, refl, refl, refl), not_open (shows K F _ after) id m ms kept)
  joins_come n opening s r id other (Keeper ms) (Keeper ns) at none_has apart there is = absurd (omega arith)
  joins_come n opening s r id other (Keeper ms) (Waiting m t k) at none_has apart there is = absurd (omega arith)
  joins_come n opening s r id other (Keeper ms) (Holding m t) at none_has apart there is = absurd (omega arith)
  joins_come n opening s r id other (Idle m) x at none_has apart there is = absurd (omega arith)
  joins_come n opening s r id other (Waiting m t k) x at none_has apart there is = absurd (omega arith)
  joins_come n opening s r id other (Holding m t) x at none_has apart there is = absurd (omega arith)

  -- a keeper is at the stage 0
  no_keeper : (v : SeatState H L) (ms : List (Memo H L)) → (stage_of v ≡ 0 → ⊥) → v ≡ Keeper ms → ⊥
  no_keeper v ms bare e = bare (ap stage_of e)

  -- each event stays inside
  pub events_stay : EventsStayInside K F
  events_stay e w u h = let x = changes e w u h in (
    λ handed j ms at. ⊎_elim
        (λ (t : (j ≡ x.place) × (x.new ≡ Keeper ms)). absurd (no_keeper x.new ms x.bare.1 t.1))
        (λ (t : (j ≢ x.place) × (get_elem? w.seats j ≡ some (Keeper ms))). handed j ms t.1)
        (at_set w.seats x.place j x.new (Keeper ms)
        (subst (λ (z : List (SeatState H L)). get_elem? z j ≡ some (Keeper ms)) x.sets at)),
    λ handed j ms at. dite (ℕ_discrete j x.place)
        (λ same. absurd (no_keeper x.old ms x.bare.0 (same_there w.seats x.place x.old (Keeper ms) x.there
        (subst (λ (z : ℕ). get_elem? w.seats z ≡ some (Keeper ms)) same at))))
        (λ apart. handed j ms (ap (λ (z : List (SeatState H L)). get_elem? z j) x.sets
        ∙ (set_else w.seats x.place j x.new apart ∙ at))),
  )

  -- a seat that is no keeper has a memo
  weighs_one : (v : SeatState H L) → (stage_of v ≡ 0 → ⊥) → weigh (λ _. 1) (memos v) ≡ 1
  weighs_one (Keeper ms) bare = absurd (bare refl)
  weighs_one (Idle m) bare = omega arith
  weighs_one (Waiting m t k) bare = omega arith
  weighs_one (Holding m t) bare = omega arith

  -- nothing happens while one keeper has all seats
  pub nothing_happens : NothingHappensOutside K F
  nothing_happens n opening s r id ms e u at long h =
      let x = changes e (shows K F s r) u h in
      let apart : id ≢ x.place = λ same. no_keeper x.old ms x.bare.0 (same_there s.views x.place x.old (Keeper ms)
      x.there (subst (λ (z : ℕ). get_elem? s.views z ≡ some (Keeper ms)) same at)) in
      let two = total_two (λ v. weigh (λ _. 1) (memos v)) s.views id x.place (Keeper ms) x.old apart at x.there in
      let all = r.good.seats.parts (λ _. 1) in
      let count = span_all 0 n in
      let kept = ones ms in
      let one = weighs_one x.old x.bare.0 in omega arith

  -- a queue without a seat is empty
  nobody_queued : (q : List ℕ) → ((j : ℕ) → get_elem? q 0 ≡ some j → ⊥) → length q ≡ 0
  nobody_queued [] h = refl
  nobody_queued (j ∷ q) h = absurd (h j refl)

  -- if no seat has a number, the book is in its slot and word 0 is its turn
  pub word_zero : FormLaws F → (n : ℕ) (opening : B) → WordZeroIsTurn K F n opening
  word_zero laws n opening s r none_out =
      let g = r.good in
      let empty : length r.queue ≡ 0 = nobody_queued r.queue (λ j e. let v = g.seats.queued 0 j e in
      none_out j (wrap (r.serving + 0)) v) in
      let home : r.home ≡ true = is_true r.home (λ out. let a = g.seats.away out in
      none_out a.0 a.2 (Holding a.1 a.2, a.3, refl)) in
      let next : r.next ≡ r.serving = g.words.next_is ∙ (ap (λ (z : ℕ). wrap (r.serving + z)) empty
      ∙ (ap wrap (omega arith) ∙ wrap_small r.serving g.words.small)) in (
        r.shelved ∙ ap (λ (z : Bool). shelf z r.current) home,
        laws.next_shown r.next r.serving s.words g.words.shows ∙ (next ∙ sym g.book.turn),
      )

  -- a load changes nothing
  pub peeks_change_nothing : PeeksChangeNothing K F
  peeks_change_nothing s i inside = let same = set_own s.words i inside in
      ap (λ (z : List ℕ). let t : Board B H L = record { words = z; homes = s.homes; views = s.views } in t) same

  -- a keeper with no seat changes nothing
  pub nobody_comes : NobodyComesIn K F
  nobody_comes n opening s r = (nobody_stands K F n opening s r, refl, refl, refl, refl, refl)
