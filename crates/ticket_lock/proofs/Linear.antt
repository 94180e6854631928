-- Every list of events from an opened world is linearizable.
use Rattle.std.proofs.Common.{◌≡◌, ◌≢◌, ℕ, zero, suc, ◌+◌, ◌<◌, ◌≤◌, ◌⊎◌, List, [], ◌∷◌, ◌++◌, length, get_or, set, sym}
use Rattle.std.proofs.Common.{refl, ap, ◌∙◌, subst, inl, inr, ⊎_elim, arith, length-append}
use mathlib.Core.Logic.{dite}
use native.Mathlib.Decide.{dec_le}
use mathlib.Core.Option.{none, some, some-injective, some-ne-none}
use mathlib.Core.List.{IsPrefix, append-nil, append_assoc}
use lib.ListN.{get_elem?}
use base.Growing.{prefix_refl, prefix_trans}
use Rattle.atomic_table.proofs.Lists.{at_longer, at_last}
use Rattle.ticket_lock.specs.declared.chronicle.Chronicle.{Ghosts}
use Rattle.ticket_lock.specs.declared.seat_state.Memo.{Memo}
use Rattle.ticket_lock.specs.declared.seat_state.SeatState.{SeatState}
use Rattle.ticket_lock.specs.declared.seat_state.SeatState.TheVariants.{Keeper, Idle, Waiting, Holding}
use Rattle.ticket_lock.specs.World.{Form, World, Event, takes, misses, enters, hands_on, memo, shown, out, HandsOn}
use Rattle.ticket_lock.specs.World.{taken, missed, entered, handed, Happens, Good}
use Rattle.ticket_lock.specs.Schedule.{idle_from, nobodies, Opened, Runs}
use Rattle.ticket_lock.specs.Linearizable.{book_after, journal_after, Call, FoundFull, HeadReturnsCapacity, Linearizable}
use Rattle.ticket_lock.proofs.Sums.{snoc_at, at_below}
use Rattle.ticket_lock.proofs.Schedules.{each_idle, good_opened}
use Rattle.ticket_lock.proofs.Machine.{FormLaws, seats_stay, good_take, good_miss, good_enter, good_hand}

module _ {A : Type 0} where
  -- an element of the longer list before the end of the shorter is in the shorter
  at_shorter : (l m : List A) (i : ℕ) (a : A) → i < length l → get_elem? (l ++ m) i ≡ some a → get_elem? l i ≡ some a
  at_shorter [] m i a h e = absurd (omega arith)
  at_shorter (x ∷ xs) m zero a h e = e
  at_shorter (x ∷ xs) m (suc i) a h e = at_shorter xs m i a (omega arith) e

  -- two lists that are one and one more have the same last
  same_last : (xs : List A) (x y : A) → xs ++ x ∷ [] ≡ xs ++ y ∷ [] → x ≡ y
  same_last xs x y e = some-injective x y (sym (at_last xs x (length xs) refl)
      ∙ (ap (λ (z : List A). get_elem? z (length xs)) e ∙ at_last xs y (length xs) refl))

  -- nothing is at the end of a list
  at_end : (xs : List A) → get_elem? xs (length xs) ≡ none
  at_end [] = refl
  at_end (x ∷ xs) = at_end xs

  -- a list is not the same with one more
  no_longer : (xs : List A) (x : A) → xs ≡ xs ++ x ∷ [] → ⊥
  no_longer xs x e = some-ne-none x (sym (at_last xs x (length xs) refl) ∙ (ap (λ (z : List A).
      get_elem? z (length xs)) (sym e) ∙ at_end xs))

module _ {H L : Type 0} where
  -- which seat it is, and for a keeper j
  abbrev seat_or : ℕ → SeatState H L → ℕ
  seat_or j (Keeper ms) = j
  seat_or j (Idle m) = m.seat
  seat_or j (Waiting m t looks) = m.seat
  seat_or j (Holding m t) = m.seat

  -- a seat of an opened world is the one of its place, and has no number
  idle_named : (h : H) (xs : List L) (c d j : ℕ) (v : SeatState H L)
      → get_elem? (idle_from h xs 0 c ++ nobodies d) j ≡ some v → (seat_or j v ≡ j) × (out v ≡ 0)
  idle_named h xs c d j v e = ⊎_elim
      (λ (i : (i : ℕ) × (Idle (memo i h xs) ≡ v) × (i ≡ 0 + j)).
      (ap (seat_or j) (sym i.1) ∙ (i.2 ∙ omega arith), ap out (sym i.1)))
      (λ (s : Keeper [] ≡ v). (ap (seat_or j) (sym s), ap out (sym s)))
      (each_idle h xs 0 c d j v e)

module _ {B H L : Type 0} (K : Ghosts B H L) where
  -- the book after all events
  abbrev last_book : B → List (Event B) → B
  last_book b [] = b
  last_book b (e ∷ es) = last_book (book_after e b) es

  -- and after one more
  last_more : (b : B) (es : List (Event B)) (e : Event B) → last_book b (es ++ e ∷ []) ≡ book_after e (last_book b es)
  last_more b [] e = refl
  last_more b (x ∷ es) e = last_more (book_after x b) es e

  -- the journal after all events is that of the last book
  after_all : (b : B) (es : List (Event B)) → journal_after K b es (length es) ≡ K.lines (last_book b es)
  after_all b [] = refl
  after_all b (e ∷ es) = after_all (book_after e b) es

  -- the journal after some of the events is the same if more follow
  after_some : (b : B) (es more : List (Event B)) (r : ℕ) → r ≤ length es
      → journal_after K b (es ++ more) r ≡ journal_after K b es r
  after_some b es more zero h = refl
  after_some b [] more (suc r) h = absurd (omega arith)
  after_some b (e ∷ es) more (suc r) h = after_some (book_after e b) es more r (omega arith)

  -- the journal after all events and one more
  after_next : (b : B) (es : List (Event B)) (e : Event B)
      → journal_after K b (es ++ e ∷ []) (suc (length es)) ≡ K.lines (book_after e (last_book b es))
  after_next b [] e = refl
  after_next b (x ∷ es) e = after_next (book_after x b) es e

  -- the seat j has taken a number that it has not handed on
  abbrev Begun : List (Event B) → ℕ → Type 0
  Begun es j = (i : ℕ) × (get_elem? es i ≡ some (takes j)) × ((a : ℕ) (c : B) → i < a
      → get_elem? es a ≡ some (hands_on j c) → ⊥)

  -- it has, after an event that is no hand on of its own
  begun_more : (es : List (Event B)) (e : Event B) (j : ℕ) → ((c : B) → e ≡ hands_on j c → ⊥) → Begun es j
      → Begun (es ++ e ∷ []) j
  begun_more es e j other b = (
    b.0,
    at_longer es (e ∷ []) b.0 (takes j) b.1,
    λ a c past at. ⊎_elim (λ old. b.2 a c past old) (λ (t : (a ≡ length es) × (e ≡ hands_on j c)).
        other c t.1) (snoc_at es e (hands_on j c) a at),
  )

  -- a seat has begun that takes a number last
  begun_last : (es : List (Event B)) (j : ℕ) → Begun (es ++ takes j ∷ []) j
  begun_last es j = (
    length es,
    at_last es (takes j) (length es) refl,
    λ a c past at. let below = at_below (es ++ takes j ∷ []) a (hands_on j c) at in let l =
        length-append es (takes j ∷ []) in absurd (omega arith),
  )

  -- a call is also one if more events follow
  call_more : (b : B) (es more : List (Event B)) (k i r p : ℕ) (l : L) → Call K b es k i r p l
      → Call K b (es ++ more) k i r p l
  call_more b es more k i r p l c =
      let ends : r < length es = at_below es r (hands_on k c.ends.0) c.ends.1 in record {
        begins = at_longer es more i (takes k) c.begins;
        later = c.later;
        ends = (c.ends.0, at_longer es more r (hands_on k c.ends.0) c.ends.1);
        next_end = λ a d past before at. c.next_end a d past before
            (at_shorter es more a (hands_on k d) (omega arith) at);
        adds = after_some b es more (suc r) (omega arith) ∙ (c.adds ∙ ap (λ (z : List L).
            z ++ l ∷ []) (sym (after_some b es more r (omega arith))));
        place = ap length (after_some b es more r (omega arith)) ∙ c.place;
      }

  -- a call that ends among the first events is one of those
  call_less : (b : B) (es more : List (Event B)) (k i r p : ℕ) (l : L) → r < length es
      → Call K b (es ++ more) k i r p l → Call K b es k i r p l
  call_less b es more k i r p l ends c =
      let later = c.later in record {
        begins = at_shorter es more i (takes k) (omega arith) c.begins;
        later = c.later;
        ends = (c.ends.0, at_shorter es more r (hands_on k c.ends.0) ends c.ends.1);
        next_end = λ a d past before at. c.next_end a d past before (at_longer es more a (hands_on k d) at);
        adds = sym (after_some b es more (suc r) (omega arith)) ∙ (c.adds ∙ ap (λ (z : List L).
            z ++ l ∷ []) (after_some b es more r (omega arith)));
        place = ap length (sym (after_some b es more r (omega arith))) ∙ c.place;
      }

  -- a full journal that was found is also found if more events follow
  full_more : (b : B) (es more : List (Event B)) (k i r : ℕ) → FoundFull K b es k i r
      → FoundFull K b (es ++ more) k i r
  full_more b es more k i r f =
      let c = f.full.0 in
      let ends : r < length es = at_below es r (hands_on k c) f.full.1 in record {
        begins = at_longer es more i (takes k) f.begins;
        later = f.later;
        next_end = λ a d past before at. f.next_end a d past before
            (at_shorter es more a (hands_on k d) (omega arith) at);
        same = after_some b es more (suc r) (omega arith) ∙ (f.same ∙ sym (after_some b es more r (omega arith)));
        full = (
          c,
          at_longer es more r (hands_on k c) f.full.1,
          subst (λ (z : List L).
              K.capacity c ≤ length z) (sym (after_some b es more r (omega arith))) f.full.2,
        );
      }

  -- and one that was found among the first events was found there
  full_less : (b : B) (es more : List (Event B)) (k i r : ℕ) → r < length es → FoundFull K b (es ++ more) k i r
      → FoundFull K b es k i r
  full_less b es more k i r ends f = let later = f.later in record {
    begins = at_shorter es more i (takes k) (omega arith) f.begins;
    later = f.later;
    next_end = λ a d past before at. f.next_end a d past before (at_longer es more a (hands_on k d) at);
    same = sym (after_some b es more (suc r) (omega arith)) ∙ (f.same ∙ after_some b es more r (omega arith));
    full = (
      f.full.0,
      at_shorter es more r (hands_on k f.full.0) ends f.full.1,
      subst (λ (z : List L). K.capacity f.full.0 ≤ length z) (after_some b es more r (omega arith)) f.full.2,
    );
  }

module _ {B H L : Type 0} (K : Ghosts B H L) (F : Form) (laws : FormLaws F) (n : ℕ) (b : B) where
  -- what is known of the events so far, which led from the opened world to the world w
  record Past (es : List (Event B)) (w : World B H L) : Type 0 where
    good : (q : List ℕ) × Good K F n b w q
    book : last_book K b es ≡ w.current
    named : (j : ℕ) (v : SeatState H L) → get_elem? w.seats j ≡ some v → seat_or j v ≡ j
    begun : (j : ℕ) (v : SeatState H L) → get_elem? w.seats j ≡ some v → out v ≡ 1 → Begun K es j
    each_call : (k i r p : ℕ) (l : L) → Call K b es k i r p l → (get_elem? (K.lines w.current) p ≡ some l)
        × (K.line_seat l ≡ k)
    each_line : (p : ℕ) (l : L) → length (K.lines b) ≤ p → get_elem? (K.lines w.current) p ≡ some l → (k : ℕ)
        × (i : ℕ) × (r : ℕ) × Call K b es k i r p l
    each_end : (k r : ℕ) (c : B) → get_elem? es r ≡ some (hands_on k c) → ((i : ℕ) × (p : ℕ) × (l : L)
        × Call K b es k i r p l) ⊎ ((i : ℕ) × FoundFull K b es k i r)
    in_order : (k i r p : ℕ) (l : L) (j a s q : ℕ) (m : L) → Call K b es k i r p l → Call K b es j a s q m → r < s
        → p < q
    stays : IsPrefix (K.lines b) (K.lines w.current)
    filled : HeadReturnsCapacity K → (k i r : ℕ) → FoundFull K b es k i r → K.capacity b ≤ length (K.lines w.current)
    full_last : HeadReturnsCapacity K → (k i r j a s p : ℕ) (l : L) → FoundFull K b es k i r → Call K b es j a s p l
        → s < r
    reached : (k i r : ℕ) (f : FoundFull K b es k i r) → K.capacity f.full.0 ≤ length (K.lines w.current)
    space_grew : (k i r j a s p : ℕ) (l : L) (f : FoundFull K b es k i r) (c : Call K b es j a s p l) → r < s
        → K.capacity f.full.0 < K.capacity c.ends.0

  -- an event that is no hand on adds no call
  quiet : (es : List (Event B)) (e : Event B) (w v : World B H L) → ((k : ℕ) (c : B) → e ≡ hands_on k c → ⊥)
      → ((c : B) → book_after e c ≡ c) → v.current ≡ w.current → Past es w
      → (q : List ℕ) → Good K F n b v q → ((j : ℕ) (x : SeatState H L) → get_elem? v.seats j ≡ some x → seat_or j x ≡ j)
      → ((j : ℕ) (x : SeatState H L) → get_elem? v.seats j ≡ some x → out x ≡ 1 → Begun K (es ++ e ∷ []) j)
      → Past (es ++ e ∷ []) v
  unfolding call_less full_less
  quiet es e w v none_given still same p q good named begun =
      let more : List (Event B) = e ∷ [] in
      let ends : (k i r p : ℕ) (l : L) → Call K b (es ++ e ∷ []) k i r p l → r < length es =
      λ k i r p l c. ⊎_elim (λ old. at_below es r (hands_on k c.ends.0) old)
      (λ (t : (r ≡ length es) × (e ≡ hands_on k c.ends.0)).
      absurd (none_given k c.ends.0 t.1)) (snoc_at es e (hands_on k c.ends.0) r c.ends.1) in
      let less : (k i r p : ℕ) (l : L) → Call K b (es ++ e ∷ []) k i r p l → Call K b es k i r p l =
      λ k i r p l c. call_less K b es more k i r p l (ends k i r p l c) c in
      let full_ends : (k i r : ℕ) → FoundFull K b (es ++ e ∷ []) k i r → r < length es =
      λ k i r f. ⊎_elim (λ old. at_below es r (hands_on k f.full.0) old)
      (λ (t : (r ≡ length es) × (e ≡ hands_on k f.full.0)).
      absurd (none_given k f.full.0 t.1)) (snoc_at es e (hands_on k f.full.0) r f.full.1) in
      let fuller : (k i r : ℕ) → FoundFull K b (es ++ e ∷ []) k i r → FoundFull K b es k i r =
      λ k i r f. full_less K b es more k i r (full_ends k i r f) f in
      let lines : K.lines v.current ≡ K.lines w.current = ap K.lines same in record {
        good = (q, good);
        book = last_more K b es e ∙ (still (last_book K b es) ∙ (p.book ∙ sym same));
        named = named;
        begun = begun;
        each_call = λ k i r a l c. let o = p.each_call k i r a l (less k i r a l c) in (
          ap (λ (z : List L).
              get_elem? z a) lines ∙ o.0,
          o.1,
        );
        each_line = λ a l past at. let o = p.each_line a l past (ap (λ (z : List L). get_elem? z a) (sym lines)
            ∙ at) in (o.0, o.1, o.2, call_more K b es more o.0 o.1 o.2 a l o.3);
        each_end = λ k r c at. ⊎_elim
            (λ old. ⊎_elim (λ (t : (i : ℕ) × (a : ℕ) × (l : L) × Call K b es k i r a l). inl (
              t.0,
              t.1,
              t.2,
              call_more K b es more k t.0 r t.1 t.2 t.3,
            )) (λ f. inr (f.0, full_more K b es more k f.0 r f.1)) (p.each_end k r c old))
            (λ (t : (r ≡ length es) × (e ≡ hands_on k c)).
            absurd (none_given k c t.1)) (snoc_at es e (hands_on k c) r at);
        in_order = λ k i r a l j d s z m c o before. p.in_order k i r a l j d s z m (less k i r a l c)
            (less j d s z m o) before;
        stays = subst (IsPrefix (K.lines b)) (sym lines) p.stays;
        filled = λ reports k i r f. subst (λ (z : List L). K.capacity b ≤ length z) (sym lines)
            (p.filled reports k i r (fuller k i r f));
        full_last = λ reports k i r j a s q m f c. p.full_last reports k i r j a s q m (fuller k i r f) (less j a s q m c);
        reached = λ k i r f. subst (λ (z : List L). K.capacity f.full.0 ≤ length z) (sym lines)
            (p.reached k i r (fuller k i r f));
        space_grew = λ k i r j a s q m f c. p.space_grew k i r j a s q m (fuller k i r f) (less j a s q m c);
      }

  -- a seat keeps its number if another view of that seat takes its index
  named_stays : (w : World B H L) (j : ℕ) (new : SeatState H L) → seat_or j new ≡ j → ((k : ℕ) (v : SeatState H L)
      → get_elem? w.seats k ≡ some v → seat_or k v ≡ k)
      → (k : ℕ) (v : SeatState H L) → get_elem? (set w.seats j new) k ≡ some v → seat_or k v ≡ k
  named_stays w j new is all =
      seats_stay (λ k v. seat_or k v ≡ k) (λ k v. seat_or k v ≡ k) w.seats j new is (λ k v _ _ same. same) all

  -- each seat that has a number has begun, after an event of the seat j that is no hand on of another
  begun_stays : (es : List (Event B)) (e : Event B) (w : World B H L) (j : ℕ) (new : SeatState H L) → (out new ≡ 1
      → Begun K (es ++ e ∷ []) j) → ((k : ℕ) (c : B) → k ≢ j → e ≡ hands_on k c → ⊥)
      → ((k : ℕ) (v : SeatState H L) → get_elem? w.seats k ≡ some v → out v ≡ 1 → Begun K es k)
      → (k : ℕ) (v : SeatState H L) → get_elem? (set w.seats j new) k ≡ some v → out v ≡ 1
      → Begun K (es ++ e ∷ []) k
  begun_stays es e w j new mine others all = seats_stay (λ k v. out v ≡ 1 → Begun K es k) (λ k v. out v ≡ 1
      → Begun K (es ++ e ∷ []) k) w.seats j new mine
      (λ k v apart _ was is. begun_more K es e k (λ c. others k c apart) (was is)) all

  -- after a take
  past_take : (es : List (Event B)) (w : World B H L) (j : ℕ) (m : Memo H L) → Past es w
      → get_elem? w.seats j ≡ some (Idle m) → Past (es ++ takes j ∷ []) (taken K F j m w)
  past_take es w j m p at =
      let found : ℕ = get_or w.words 0 0 in
      let other : (k : ℕ) (c : B) → takes j ≡ hands_on k c → ⊥ = λ k c e. cc in
      quiet es (takes j) w (taken K F j m w) other (λ c. refl) refl p (p.good.0 ++ j ∷ [])
      (good_take K F laws n b w p.good.0 j m p.good.1 at)
      (named_stays w j (Waiting m found 0) (p.named j (Idle m) at) p.named)
      (begun_stays es (takes j) w j (Waiting m found 0) (λ _. begun_last K es j) (λ k c _. other k c) p.begun)

  -- after a miss
  past_miss : (es : List (Event B)) (w : World B H L) (j : ℕ) (m : Memo H L) (t looks : ℕ) → Past es w
      → get_elem? w.seats j ≡ some (Waiting m t looks) → Past (es ++ misses j ∷ []) (missed K F j m t looks w)
  past_miss es w j m t looks p at =
      let other : (k : ℕ) (c : B) → misses j ≡ hands_on k c → ⊥ = λ k c e. cc in
      quiet es (misses j) w (missed K F j m t looks w) other (λ c. refl) refl p p.good.0
      (good_miss K F laws n b w p.good.0 j m t looks p.good.1 at)
      (named_stays w j (Waiting m t (looks + 1)) (p.named j (Waiting m t looks) at) p.named)
      (begun_stays es (misses j) w j (Waiting m t (looks + 1))
      (λ _. begun_more K es (misses j) j (λ c. other j c) (p.begun j (Waiting m t looks) at refl))
      (λ k c _. other k c) p.begun)

  -- after an entry
  past_enter : (es : List (Event B)) (w : World B H L) (j : ℕ) (m : Memo H L) (t looks : ℕ) → Past es w
      → get_elem? w.seats j ≡ some (Waiting m t looks) → get_or w.words (F.serving_word t) 0 ≡ t
      → Past (es ++ enters j ∷ []) (entered K F j m t w)
  past_enter es w j m t looks p at found =
      let other : (k : ℕ) (c : B) → enters j ≡ hands_on k c → ⊥ = λ k c e. cc in
      let new : SeatState H L = Holding (shown m (K.lines w.current)) t in
      quiet es (enters j) w (entered K F j m t w) other (λ c. refl) refl p p.good.0
      (good_enter K F laws n b w p.good.0 j m t looks p.good.1 at found)
      (named_stays w j new (p.named j (Waiting m t looks) at) p.named)
      (begun_stays es (enters j) w j new
      (λ _. begun_more K es (enters j) j (λ c. other j c) (p.begun j (Waiting m t looks) at refl))
      (λ k c _. other k c) p.begun)

  -- the calls, after the seat j has handed the book c on: `now` says that its journal is that of the book before with this seat's line, or that
  -- book's if it was full
  record Handed (es : List (Event B)) (w : World B H L) (j : ℕ) (c : B) : Type 0 where
    past : Past es w
    begun : Begun K es j
    now : ((l : L) × (K.lines c ≡ K.lines w.current ++ l ∷ []) × (K.line_seat l ≡ j))
        ⊎ ((K.lines c ≡ K.lines w.current) × (K.capacity c ≤ length (K.lines w.current)))
    head : K.head c ≡ K.head b
    space : (l : L) → K.lines c ≡ K.lines w.current ++ l ∷ [] → length (K.lines w.current) < K.capacity c

  module _ (es : List (Event B)) (w : World B H L) (j : ℕ) (c : B) (h : Handed es w j c) where
    -- the events with the hand on
    abbrev Longer : List (Event B)
    Longer = es ++ hands_on j c ∷ []

    -- the journal before the hand on
    before : journal_after K b Longer (length es) ≡ K.lines w.current
    before = after_some K b es (hands_on j c ∷ []) (length es) (omega arith) ∙ (after_all K b es
        ∙ ap K.lines h.past.book)

    -- the journal after it
    after : journal_after K b Longer (suc (length es)) ≡ K.lines c
    after = after_next K b es (hands_on j c)

    -- what is in the journal before is in it afterwards
    stays : (p : ℕ) (l : L) → get_elem? (K.lines w.current) p ≡ some l → get_elem? (K.lines c) p ≡ some l
    stays p l at = ⊎_elim
        (λ (t : (x : L) × (K.lines c ≡ K.lines w.current ++ x ∷ []) × (K.line_seat x ≡ j)). ap (λ (z : List L).
        get_elem? z p) t.1 ∙ at_longer (K.lines w.current) (t.0 ∷ []) p l at)
        (λ (t : (K.lines c ≡ K.lines w.current) × (K.capacity c ≤ length (K.lines w.current))). ap (λ (z : List L).
        get_elem? z p) t.0 ∙ at) h.now

    -- a hand on is one of the earlier ones, or the one of j
    which : (k r : ℕ) (d : B) → get_elem? Longer r ≡ some (hands_on k d) → (get_elem? es r ≡ some (hands_on k d))
        ⊎ ((r ≡ length es) × (j ≡ k))
    which k r d at = ⊎_elim inl (λ (t : (r ≡ length es) × (hands_on j c ≡ hands_on k d)). let same = t.1 in inr (
      t.0,
      cc,
    )) (snoc_at es (hands_on j c) (hands_on k d) r at)

    -- the line of the last call is the last of the journal
    last_line : (k i r p : ℕ) (l : L) → Call K b Longer k i r p l → r ≡ length es
        → (K.lines c ≡ K.lines w.current ++ l ∷ []) × (length (K.lines w.current) ≡ p)
    last_line k i r p l x is = let Q : ℕ → Type 0 =
        λ z. (journal_after K b Longer (suc z) ≡ journal_after K b Longer z ++ l ∷ [])
        × (length (journal_after K b Longer z) ≡ p) in
        let q : Q (length es) = subst Q is (x.adds, x.place) in
        (sym after ∙ (q.0 ∙ ap (λ (z : List L). z ++ l ∷ []) before), ap length (sym before) ∙ q.1)

    -- it is in the name of the seat j
    last_seat : (l : L) → K.lines c ≡ K.lines w.current ++ l ∷ [] → K.line_seat l ≡ j
    last_seat l is = ⊎_elim
        (λ (t : (x : L) × (K.lines c ≡ K.lines w.current ++ x ∷ []) × (K.line_seat x ≡ j)).
        ap K.line_seat (same_last (K.lines w.current) l t.0 (sym is ∙ t.1)) ∙ t.2)
        (λ (t : (K.lines c ≡ K.lines w.current) × (K.capacity c ≤ length (K.lines w.current))).
        absurd (no_longer (K.lines w.current) l (sym t.0 ∙ is))) h.now

    -- the call that has ended, if it added the line l
    ended : (l : L) → K.lines c ≡ K.lines w.current ++ l ∷ []
        → Call K b Longer j h.begun.0 (length es) (length (K.lines w.current)) l
    ended l is = let b0 = h.begun in record {
      begins = at_longer es (hands_on j c ∷ []) b0.0 (takes j) b0.1;
      later = at_below es b0.0 (takes j) b0.1;
      ends = (c, at_last es (hands_on j c) (length es) refl);
      next_end = λ a d past below at. b0.2 a d past (at_shorter es (hands_on j c ∷ []) a (hands_on j d) below at);
      adds = after ∙ (is ∙ ap (λ (z : List L). z ++ l ∷ []) (sym before));
      place = ap length before;
    }

    -- each call has its line
    calls : (k i r p : ℕ) (l : L) → Call K b Longer k i r p l → (get_elem? (K.lines c) p ≡ some l) × (K.line_seat l ≡ k)
    calls k i r p l x = ⊎_elim
        (λ old. let o = h.past.each_call k i r p l
        (call_less K b es (hands_on j c ∷ []) k i r p l (at_below es r (hands_on k x.ends.0) old) x) in
        (stays p l o.0, o.1))
        (λ (t : (r ≡ length es) × (j ≡ k)). let last = last_line k i r p l x t.0 in (
          ap (λ (z : List L). get_elem? z p) last.0 ∙ at_last (K.lines w.current) l p last.1,
          last_seat l last.0
              ∙ t.1,
        )) (which k r x.ends.0 x.ends.1)

    -- each line is that of a call
    lines : (p : ℕ) (l : L) → length (K.lines b) ≤ p → get_elem? (K.lines c) p ≡ some l → (k : ℕ) × (i : ℕ)
        × (r : ℕ) × Call K b Longer k i r p l
    lines p l past at =
        let old : get_elem? (K.lines w.current) p ≡ some l → (k : ℕ) × (i : ℕ) × (r : ℕ) × Call K b Longer k i r p l =
        λ was.
        let o = h.past.each_line p l past was in (
          o.0,
          o.1,
          o.2,
          call_more K b es (hands_on j c ∷ []) o.0 o.1 o.2 p l o.3,
        ) in ⊎_elim
        (λ (t : (x : L) × (K.lines c ≡ K.lines w.current ++ x ∷ []) × (K.line_seat x ≡ j)). ⊎_elim old
        (λ (s : (p ≡ length (K.lines w.current)) × (t.0 ≡ l)).
        let Q : ℕ × L → Type 0 = λ z. Call K b Longer j h.begun.0 (length es) z.0 z.1 in (
          j,
          h.begun.0,
          length es,
          subst Q (λ i. (sym s.0 i, s.1 i)) (ended t.0 t.1),
        ))
        (snoc_at (K.lines w.current) t.0 l p (ap (λ (z : List L). get_elem? z p) (sym t.1) ∙ at)))
        (λ (t : (K.lines c ≡ K.lines w.current) × (K.capacity c ≤ length (K.lines w.current))).
        old (ap (λ (z : List L). get_elem? z p) (sym t.0) ∙ at)) h.now

    -- the last hand on ends a call, or found the journal full
    last_end : ((i : ℕ) × (p : ℕ) × (l : L) × Call K b Longer j i (length es) p l)
        ⊎ ((i : ℕ) × FoundFull K b Longer j i (length es))
    last_end = ⊎_elim
        (λ (t : (x : L) × (K.lines c ≡ K.lines w.current ++ x ∷ []) × (K.line_seat x ≡ j)). inl (
          h.begun.0,
          length (K.lines w.current),
          t.0,
          ended t.0 t.1,
        ))
        (λ (t : (K.lines c ≡ K.lines w.current) × (K.capacity c ≤ length (K.lines w.current))). inr (
          h.begun.0,
          record {
            begins = at_longer es (hands_on j c ∷ []) h.begun.0 (takes j) h.begun.1;
            later = at_below es h.begun.0 (takes j) h.begun.1;
            next_end = λ a d past below at. h.begun.2 a d past
                (at_shorter es (hands_on j c ∷ []) a (hands_on j d) below at);
            same = after ∙ (t.0 ∙ sym before);
            full = (
              c,
              at_last es (hands_on j c) (length es) refl,
              subst (λ (z : List L).
                  K.capacity c ≤ length z) (sym before) t.1,
            );
          },
        ))
        h.now

    -- so does each
    ends : (k r : ℕ) (d : B) → get_elem? Longer r ≡ some (hands_on k d) → ((i : ℕ) × (p : ℕ) × (l : L)
        × Call K b Longer k i r p l) ⊎ ((i : ℕ) × FoundFull K b Longer k i r)
    ends k r d at = ⊎_elim
        (λ old. ⊎_elim (λ (t : (i : ℕ) × (p : ℕ) × (l : L) × Call K b es k i r p l). inl (
          t.0,
          t.1,
          t.2,
          call_more K b es (hands_on j c ∷ []) k t.0 r t.1 t.2 t.3,
        )) (λ f. inr (f.0, full_more K b es (hands_on j c ∷ []) k f.0 r f.1)) (h.past.each_end k r d old))
        (λ (t : (r ≡ length es) × (j ≡ k)). let Q : ℕ × ℕ → Type 0 = λ z. ((i : ℕ) × (p : ℕ) × (l : L)
        × Call K b Longer z.0 i z.1 p l) ⊎ ((i : ℕ) × FoundFull K b Longer z.0 i z.1) in
        subst Q (λ i. (t.1 i, sym t.0 i)) last_end) (which k r d at)

    -- a call that ended before another has its line before it
    order : (k i r p : ℕ) (l : L) (k' i' r' p' : ℕ) (l' : L) → Call K b Longer k i r p l
        → Call K b Longer k' i' r' p' l' → r < r' → p < p'
    order k i r p l k' i' r' p' l' x y less =
        let shorter : (k i r p : ℕ) (l : L) → r < length es → Call K b Longer k i r p l → Call K b es k i r p l =
        λ k i r p l. call_less K b es (hands_on j c ∷ []) k i r p l in ⊎_elim
        (λ old. let below : r' < length es = at_below es r' (hands_on k' y.ends.0) old in
        h.past.in_order k i r p l k' i' r' p' l' (shorter k i r p l (omega arith) x)
        (shorter k' i' r' p' l' below y) less)
        (λ (t : (r' ≡ length es) × (j ≡ k')). let last = (last_line k' i' r' p' l' y t.0).1 in
        let first = at_below (K.lines w.current) p l
        (h.past.each_call k i r p l (shorter k i r p l (omega arith) x)).0 in omega arith)
        (which k' r' y.ends.0 y.ends.1)

    -- the opening lines stay
    opening_stays : IsPrefix (K.lines b) (K.lines c)
    opening_stays = prefix_trans (K.lines b) (K.lines w.current) (K.lines c) h.past.stays (⊎_elim
        (λ (t : (x : L) × (K.lines c ≡ K.lines w.current ++ x ∷ []) × (K.line_seat x ≡ j)). (t.0 ∷ [], sym t.1))
        (λ (t : (K.lines c ≡ K.lines w.current) × (K.capacity c ≤ length (K.lines w.current))).
        ([], append-nil (K.lines w.current) ∙ sym t.0)) h.now)

    -- the journal does not shrink
    grows : length (K.lines w.current) ≤ length (K.lines c)
    grows = ⊎_elim
        (λ (t : (x : L) × (K.lines c ≡ K.lines w.current ++ x ∷ []) × (K.line_seat x ≡ j)).
        let long = ap length t.1 in let one = length-append (K.lines w.current) (t.0 ∷ []) in omega arith)
        (λ (t : (K.lines c ≡ K.lines w.current) × (K.capacity c ≤ length (K.lines w.current))).
        let long = ap length t.0 in omega arith) h.now

    -- a full journal was found before this hand on, or by it
    which_full : (k i r : ℕ) → FoundFull K b Longer k i r → FoundFull K b es k i r ⊎ (r ≡ length es)
    which_full k i r f = ⊎_elim
        (λ old. inl (full_less K b es (hands_on j c ∷ []) k i r (at_below es r (hands_on k f.full.0) old) f))
        (λ (t : (r ≡ length es) × (j ≡ k)). inr t.0) (which k r f.full.0 f.full.1)

    -- if it was found by this hand on, this added no line
    found_now : (k i r : ℕ) → FoundFull K b Longer k i r → r ≡ length es → K.lines c ≡ K.lines w.current
    found_now k i r f is = sym after ∙ (subst (λ (z : ℕ). journal_after K b Longer (suc z) ≡ journal_after K b Longer z)
        is f.same ∙ before)

    -- so the journal has its capacity
    full_now : HeadReturnsCapacity K → (k i r : ℕ) → FoundFull K b Longer k i r → K.capacity b ≤ length (K.lines c)
    full_now reports k i r f = ⊎_elim
        (λ old. let was = h.past.filled reports k i r old in let more = grows in omega arith)
        (λ (is : r ≡ length es). let same = found_now k i r f is in
        let big = reports c b h.head in ⊎_elim
        (λ (t : (x : L) × (K.lines c ≡ K.lines w.current ++ x ∷ []) × (K.line_seat x ≡ j)).
        absurd (no_longer (K.lines w.current) t.0 (sym same ∙ t.1)))
        (λ (t : (K.lines c ≡ K.lines w.current) × (K.capacity c ≤ length (K.lines w.current))).
        let more = grows in let enough = t.1 in omega arith) h.now) (which_full k i r f)

    -- a call that has a line ended before one that found the journal full
    full_after : HeadReturnsCapacity K → (k i r k' i' r' p' : ℕ) (l' : L) → FoundFull K b Longer k i r
        → Call K b Longer k' i' r' p' l' → r' < r
    full_after reports k i r k' i' r' p' l' f y = ⊎_elim
        (λ old. let below : r' < length es = at_below es r' (hands_on k' y.ends.0) old in
        let was = call_less K b es (hands_on j c ∷ []) k' i' r' p' l' below y in ⊎_elim
        (λ full. h.past.full_last reports k i r k' i' r' p' l' full was)
        (λ (is : r ≡ length es). omega arith) (which_full k i r f))
        (λ (t : (r' ≡ length es) × (j ≡ k')). let last = (last_line k' i' r' p' l' y t.0).0 in ⊎_elim
        (λ full. let was = h.past.filled reports k i r full in let space = h.space l' last in
        let same = reports c b h.head in absurd (omega arith))
        (λ (is : r ≡ length es). absurd (no_longer (K.lines w.current) l' (sym (found_now k i r f is) ∙ last)))
        (which_full k i r f))
        (which k' r' y.ends.0 y.ends.1)

    -- a full journal that was found had no more capacity than there are lines now
    reached_now : (k i r : ℕ) (f : FoundFull K b Longer k i r) → K.capacity f.full.0 ≤ length (K.lines c)
    unfolding full_less
    reached_now k i r f = ⊎_elim
        (λ old. let ends = at_below es r (hands_on k f.full.0) old in
        let was : K.capacity f.full.0 ≤ length (K.lines w.current) =
        h.past.reached k i r (full_less K b es (hands_on j c ∷ []) k i r ends f) in
        let more = grows in omega arith)
        (λ (t : (r ≡ length es) × (j ≡ k)).
        let Q : ℕ → Type 0 = λ z. K.capacity f.full.0 ≤ length (journal_after K b Longer z) in
        let was = subst (λ (z : List L). K.capacity f.full.0 ≤ length z) before (subst Q t.0 f.full.2) in
        let more = grows in omega arith) (which k r f.full.0 f.full.1)

    -- a call that has its line later handed on a book with a greater capacity
    grew_now : (k i r k' i' r' p' : ℕ) (l' : L) (f : FoundFull K b Longer k i r) (y : Call K b Longer k' i' r' p' l')
        → r < r' → K.capacity f.full.0 < K.capacity y.ends.0
    unfolding call_less full_less
    grew_now k i r k' i' r' p' l' f y later = ⊎_elim
        (λ old. let ends : r' < length es = at_below es r' (hands_on k' y.ends.0) old in
        h.past.space_grew k i r k' i' r' p' l' (full_less K b es (hands_on j c ∷ []) k i r (omega arith) f)
        (call_less K b es (hands_on j c ∷ []) k' i' r' p' l' ends y) later)
        (λ (t : (r' ≡ length es) × (hands_on j c ≡ hands_on k' y.ends.0)). let same = t.1 in
        let own : c ≡ y.ends.0 = cc in let last = (last_line k' i' r' p' l' y t.0).0 in
        let was = h.past.reached k i r (full_less K b es (hands_on j c ∷ []) k i r (omega (arith, t.0)) f) in
        let space = h.space l' last in let cap = ap K.capacity own in omega arith)
        (snoc_at es (hands_on j c) (hands_on k' y.ends.0) r' y.ends.1)

  -- after a hand on
  past_hand : (es : List (Event B)) (w : World B H L) (j : ℕ) (m : Memo H L) (t : ℕ) (c : B) → Past es w
      → get_elem? w.seats j ≡ some (Holding m t) → HandsOn K m t c
      → Past (es ++ hands_on j c ∷ []) (handed K F j m t c w)
  past_hand es w j m t c p at does =
      let mine = p.good.1.seats.each_seat j (Holding m t) at in
      let seat : m.seat ≡ j = p.named j (Holding m t) at in
      let good = good_hand K F laws n b w p.good.0 j m t c p.good.1 at does in
      let h : Handed es w j c = record {
        past = p;
        begun = p.begun j (Holding m t) at refl;
        now = ⊎_elim
            (λ (o : (l : L) × (K.lines c ≡ m.seen ++ l ∷ []) × (K.line_seat l ≡ m.seat) × (K.line_number l ≡ t)
            × (length m.seen < K.capacity c)).
            inl (o.0, o.1 ∙ ap (λ (z : List L). z ++ o.0 ∷ []) mine.4, o.2 ∙ seat))
            (λ (o : (K.lines c ≡ m.seen) × (K.capacity c ≤ length m.seen)). inr (
              o.0 ∙ mine.4,
              subst (λ (z : List L).
                  K.capacity c ≤ length z) mine.4 o.1,
            ))
            does.lines;
        head = does.head ∙ mine.0.head;
        space = λ x is. ⊎_elim
            (λ (o : (l : L) × (K.lines c ≡ m.seen ++ l ∷ []) × (K.line_seat l ≡ m.seat) × (K.line_number l ≡ t)
            × (length m.seen < K.capacity c)).
            subst (λ (z : List L). length z < K.capacity c) mine.4 o.4)
            (λ (o : (K.lines c ≡ m.seen) × (K.capacity c ≤ length m.seen)).
            absurd (no_longer (K.lines w.current) x (sym (o.0 ∙ mine.4) ∙ is)))
            does.lines;
      } in record {
        good = (good.0, good.2);
        book = last_more K b es (hands_on j c);
        named = named_stays w j (Idle (shown m (K.lines c))) seat p.named;
        begun = begun_stays es (hands_on j c) w j (Idle (shown m (K.lines c))) (λ is. absurd (omega arith))
            (λ k d apart e. let same : j ≡ k = cc in apart (sym same)) p.begun;
        each_call = calls es w j c h;
        each_line = lines es w j c h;
        each_end = ends es w j c h;
        in_order = order es w j c h;
        stays = opening_stays es w j c h;
        filled = full_now es w j c h;
        full_last = full_after es w j c h;
        reached = reached_now es w j c h;
        space_grew = grew_now es w j c h;
      }

  -- after an event
  past_event : (es : List (Event B)) (e : Event B) (w v : World B H L) → Past es w → Happens K F e w v
      → Past (es ++ e ∷ []) v
  past_event es (takes j) w v p h = subst (Past (es ++ takes j ∷ [])) (sym h.2) (past_take es w j h.0 p h.1)
  past_event es (misses j) w v p h = subst (Past (es ++ misses j ∷ [])) (sym h.5) (past_miss es w j h.0 h.1 h.2 p h.3)
  past_event es (enters j) w v p h =
      subst (Past (es ++ enters j ∷ [])) (sym h.5) (past_enter es w j h.0 h.1 h.2 p h.3 h.4)
  past_event es (hands_on j c) w v p h =
      subst (Past (es ++ hands_on j c ∷ [])) (sym h.4) (past_hand es w j h.0 h.1 c p h.2 h.3)

  -- after a list of events
  past_events : (es more : List (Event B)) (w u : World B H L) → Past es w → Runs K F more w u → Past (es ++ more) u
  past_events es [] w u p r = let Q : List (Event B) × World B H L → Type 0 =
      λ z. Past z.0 z.1 in subst Q (λ i. (sym (append-nil es) i, sym r i)) p
  past_events es (e ∷ more) w u p r = subst (λ (z : List (Event B)).
      Past z u) (append_assoc es (e ∷ []) more)
      (past_events (es ++ e ∷ []) more r.0 u (past_event es e w r.0 p r.1) r.2)

  -- before any event
  past_none : (w : World B H L) → Opened K F n b w → Past [] w
  past_none w o = record {
    good = ([], good_opened K F laws n b w o);
    book = sym o.current;
    named = λ j v at. (idle_named (K.head b) (K.lines b) n o.keepers j v (subst (λ (z : List (SeatState H L)).
        get_elem? z j ≡ some v) o.seats at)).0;
    begun = λ j v at is. let i = idle_named (K.head b) (K.lines b) n o.keepers j v (subst (λ (z : List (SeatState H L)).
        get_elem? z j ≡ some v) o.seats at) in let none_out = i.1 in absurd (omega arith);
    each_call = λ k i r p l c. absurd (some-ne-none (hands_on k c.ends.0) (sym c.ends.1));
    each_line = λ p l past at. let below = at_below (K.lines w.current) p l at in let same = ap (λ (z : B).
        length (K.lines z)) o.current in absurd (omega arith);
    each_end = λ k r c at. absurd (some-ne-none (hands_on k c) (sym at));
    in_order = λ k i r p l j a s q m c d less. absurd (some-ne-none (hands_on k c.ends.0) (sym c.ends.1));
    stays = subst (λ (z : B). IsPrefix (K.lines b) (K.lines z)) (sym o.current) (prefix_refl (K.lines b));
    filled = λ reports k i r f. absurd (some-ne-none (hands_on k f.full.0) (sym f.full.1));
    full_last = λ reports k i r j a s p l f c. absurd (some-ne-none (hands_on k f.full.0) (sym f.full.1));
    reached = λ k i r f. absurd (some-ne-none (hands_on k f.full.0) (sym f.full.1));
    space_grew = λ k i r j a s p l f c later. absurd (some-ne-none (hands_on k f.full.0) (sym f.full.1));
  }

-- the law, in every form
pub linearizable : {B H L : Type 0} (K : Ghosts B H L) (F : Form) → FormLaws F → Linearizable K F
linearizable K F laws n b w u es o r = let p = past_events K F laws n b [] es w u (past_none K F laws n b w o) r in (
  p.good.1.book.lawful,
  record {
    opening = p.stays;
    full_last = p.full_last;
    space_grew = p.space_grew;
    each_call = p.each_call;
    each_line = p.each_line;
    one_call = λ k i r p' l j a s m c d. dite (dec_le r s)
        (λ le. dite (dec_le s r) (λ ge. omega arith) (λ less. let no =
        p.in_order k i r p' l j a s p' m c d (omega arith) in absurd (omega arith)))
        (λ more. let no = p.in_order j a s p' m k i r p' l d c (omega arith) in absurd (omega arith));
    each_end = p.each_end;
    in_order = λ k i r p' l j a s q m c d less. let later =
        d.later in p.in_order k i r p' l j a s q m c d (omega arith);
  },
)
