-- A keeper's seats are cut off, and joined again.
use Rattle.std.proofs.lemmas.Grind.{common_steps}
use Rattle.std.proofs.Common.{◌≡◌, ℕ, zero, suc, ◌+◌, ◌-◌, ◌^◌, ◌<◌, ◌≤◌, Bool, true, List, [], ◌∷◌, ◌++◌, map, length}
use Rattle.std.proofs.Common.{set, sym, refl, ap, ◌∙◌, subst, ⊎_elim, arith, true≢false}
use Rattle.std.specs.Prelude as std
use mathlib.Core.Option.{Option, some, some-injective, some-ne-none}
use lib.ListN.{get_elem?}
use base.Growing.{prefix_refl}
use Rattle.atomic_table.proofs.Lists.{set_else, at_longer}
use Rattle.atomic_table.specs.Table.{State, Me, opening, Enters, Splits, Joins, Final, Seen}
use Rattle.ticket_lock.specs.declared.chronicle.Chronicle.{Ghosts}
use Rattle.ticket_lock.specs.declared.seat_state.Memo.{Memo}
use Rattle.ticket_lock.specs.declared.seat_state.SeatState.{SeatState}
use Rattle.ticket_lock.specs.declared.seat_state.SeatState.TheVariants.{Keeper, Idle, Waiting, Holding}
use Rattle.ticket_lock.specs.World.{Form, World, wrap, memo, memos, out, HasNumber, total, weigh, span, Remembers}
use Rattle.ticket_lock.specs.World.{Knows, GoodSeats, Good}
use Rattle.ticket_lock.specs.Schedule.{idle_from}
use Rattle.ticket_lock.specs.Standing.{stage_of, seat_of, left_of, right_of, joined, nobody, memos_of, memos_from}
use Rattle.ticket_lock.specs.Standing.{idles, keeper_of, shelf, Standing}
use Rattle.ticket_lock.proofs.Sums.{snoc_at, wrap_small, total_set, total_at, total_two, span_all}
use Rattle.ticket_lock.proofs.Machine.{apart_from, queue_beside, holder_beside, seats_stay, is_true}

module _ {H L : Type 0} where
  -- the sum over two lists of views
  pub total_append : (f : SeatState H L → ℕ) (vs ws : List (SeatState H L)) → total f (vs ++ ws) ≡ total f vs + total f ws
  total_append f [] ws = omega arith
  total_append f (v ∷ vs) ws = let p = total_append f vs ws in omega arith

  -- each memo counts one
  pub ones : (ms : List (Memo H L)) → weigh (λ _. 1) ms ≡ length ms
  ones [] = refl
  ones (m ∷ ms) = let p = ones ms in omega arith

  -- a seat with a number has a memo
  numbered_weighs : (v : SeatState H L) (u : ℕ) → HasNumber v u → 1 ≤ weigh (λ _. 1) (memos v)
  numbered_weighs (Keeper ms) u h = absurd h
  numbered_weighs (Idle m) u h = absurd h
  numbered_weighs (Waiting m t k) u h = omega arith
  numbered_weighs (Holding m t) u h = omega arith

  -- the memos of the seats from k on weigh as those seats do
  weigh_from : (f : ℕ → ℕ) (h : H) (xs : List L) (k c : ℕ) → weigh f (memos_from h xs k c) ≡ span f k c
  weigh_from f h xs k zero = refl
  weigh_from f h xs k (suc c) = let p = weigh_from f h xs (suc k) c in omega arith

  -- each of those memos is of one of the seats, and has seen the lines
  memo_from : (h : H) (xs : List L) (k c a : ℕ) (m : Memo H L) → get_elem? (memos_from h xs k c) a ≡ some m
      → (i : ℕ) × (memo i h xs ≡ m)
  memo_from h xs k zero a m e = absurd (some-ne-none m (sym e))
  memo_from h xs k (suc c) zero m e = (k, some-injective (memo k h xs) m e)
  memo_from h xs k (suc c) (suc a) m e = memo_from h xs (suc k) c a m e

  -- one idle seat more, at the end
  pub idle_snoc : (h : H) (xs : List L) (k c : ℕ)
      → idle_from h xs k (suc c) ≡ idle_from h xs k c ++ Idle (memo (k + c) h xs) ∷ []
  idle_snoc h xs k zero = let e : k ≡ k + 0 = omega arith in
      ap (λ (z : ℕ). let v : SeatState H L = Idle (memo z h xs) in v ∷ []) e
  idle_snoc h xs k (suc c) = let e : suc k + c ≡ k + suc c = omega arith in
      ap (λ (vs : List (SeatState H L)). Idle (memo k h xs) ∷ vs)
      (idle_snoc h xs (suc k) c ∙ ap (λ (z : ℕ). idle_from h xs (suc k) c ++ Idle (memo z h xs) ∷ []) e)

-- the value, or d
abbrev held_or : {B : Type 0} → B → std.Option B → B
held_or d (std.Some b) = b
held_or d std.None = d

-- two values that are equal when wrapped are equal
pub unwrapped : {B : Type 0} (x y : B) → ◌≡◌ {A = std.Option B} (std.Some x) (std.Some y) → x ≡ y
unwrapped x y e = ap (held_or x) e

-- a queue with no first is empty
empty : (q : List ℕ) → ((k : ℕ) → get_elem? q 0 ≡ some k → ⊥) → q ≡ []
empty [] h = refl
empty (k ∷ q) h = absurd (h k refl)

module _ {H L : Type 0} where
  -- a keeper of the seats from k to c has the seat k first
  pub keeper_step : (h : H) (xs : List L) (k c : ℕ) → k < c
      → keeper_of h xs k (c - k) ≡ Keeper (memo k h xs ∷ memos_from h xs (k + 1) (c - (k + 1)))
  keeper_step h xs k c less = grind (arith, common_steps, suc, keeper_of, memo, memos_from)

-- the working form of a lock's end, with the seats that were returned and the words of the table
abbrev pub Ended : {B H L : Type 0} → Ghosts B H L → Form → ℕ → B → List (SeatState H L) → B → List ℕ → Type 0
Ended {B} {H} {L} K F n opening given b ws =
    (w : World B H L) × Good K F n opening w [] × (w.home ≡ true) × (w.current ≡ b) × (w.next ≡ K.turn b)
    × (w.seats ≡ given) × (w.words ≡ ws)

module _ {H L : Type 0} where
  -- idle seats have no number
  idles_out : (ms : List (Memo H L)) → total out (idles ms) ≡ 0
  idles_out [] = refl
  idles_out (m ∷ ms) = let p = idles_out ms in omega arith

  -- they weigh what their memos do
  idles_weigh : (h : ℕ → ℕ) (ms : List (Memo H L)) → total (λ v. weigh h (memos v)) (idles ms) ≡ weigh h ms
  idles_weigh h [] = refl
  idles_weigh h (m ∷ ms) = let p = idles_weigh h ms in omega arith

  -- each of them has its memo
  idle_there : (ms : List (Memo H L)) (j : ℕ) (v : SeatState H L) → get_elem? (idles ms) j ≡ some v
      → (m : Memo H L) × (get_elem? ms j ≡ some m) × (Idle m ≡ v)
  idle_there [] j v e = absurd (some-ne-none v (sym e))
  idle_there (m ∷ ms) zero v e = (m, refl, some-injective (Idle m) v e)
  idle_there (m ∷ ms) (suc j) v e = idle_there ms j v e

  -- no memos weigh nothing
  weigh_none : (h : ℕ → ℕ) (ms : List (Memo H L)) → weigh (λ _. 1) ms ≡ 0 → weigh h ms ≡ 0
  weigh_none h [] e = refl
  weigh_none h (m ∷ ms) e = absurd (omega arith)

  -- nor do views without memos
  total_none : (h : ℕ → ℕ) (vs : List (SeatState H L)) → total (λ v. weigh (λ _. 1) (memos v)) vs ≡ 0
      → total (λ v. weigh h (memos v)) vs ≡ 0
  total_none h [] e = refl
  total_none h (v ∷ vs) e = let p = weigh_none h (memos v) (omega arith) in let q =
      total_none h vs (omega arith) in omega arith

  -- if one view has all memos, it weighs what all do
  has_all : (h : ℕ → ℕ) (vs : List (SeatState H L)) (id : ℕ) (v : SeatState H L) → get_elem? vs id ≡ some v
      → total (λ v. weigh (λ _. 1) (memos v)) vs ≡ weigh (λ _. 1) (memos v)
      → total (λ v. weigh h (memos v)) vs ≡ weigh h (memos v)
  has_all h [] id v at e = absurd (some-ne-none v (sym at))
  has_all h (x ∷ vs) zero v at e =
      let same : x ≡ v = some-injective x v at in
      let one = ap (λ (z : SeatState H L). weigh (λ _. 1) (memos z)) same in
      let mine = ap (λ (z : SeatState H L). weigh h (memos z)) same in
      let others = total_none h vs (omega arith) in omega arith
  has_all h (x ∷ vs) (suc id) v at e =
      let one = total_at (λ v. weigh (λ _. 1) (memos v)) vs id v at in
      let none = weigh_none h (memos x) (omega arith) in
      let rest = has_all h vs id v at (omega arith) in omega arith

module _ {B H L : Type 0} (K : Ghosts B H L) (F : Form) (n : ℕ) (opened : B) where
  -- the rule of the table
  abbrev Rule : State (std.Option B) (SeatState H L) → Type 0
  Rule = Standing K F n opened

  -- the rule is satisfied if the seats changed, and are good
  abbrev pub with_views : (s : State (std.Option B) (SeatState H L)) (vs : List (SeatState H L)) (r : Rule s)
      → GoodSeats K n opened r.current r.home r.serving vs r.queue
      → Rule (record { words = s.words; homes = s.homes; views = vs })
  with_views s vs r seats = record {
    next = r.next;
    serving = r.serving;
    home = r.home;
    current = r.current;
    queue = r.queue;
    good = record { size = r.good.size; words = r.good.words; seats = seats; book = r.good.book };
    shelved = r.shelved;
  }

  -- a keeper that becomes its first seat, and gives the others to another one, keeps the rule
  abbrev pub splits_ok : (id : ℕ) (m : Memo H L) (ms : List (Memo H L)) → Splits Rule id (Keeper (m ∷ ms)) (Idle m) (Keeper ms)
  splits_ok id m ms s r at =
      let old : SeatState H L = Keeper (m ∷ ms) in
      let new : SeatState H L = Idle m in
      let g = r.good in
      let mine = g.seats.each_seat id old at in
      let right : List (SeatState H L) = Keeper ms ∷ [] in with_views s (set s.views id new ++ right) r record {
        queued = λ i k e. let v = queue_beside s.views r.serving r.queue id old new tt at g.seats.queued i k e in
            (v.0, at_longer (set s.views id new) right k v.0 v.1, v.2);
        counted = let p = total_set out s.views id old new at in let q =
            total_append out (set s.views id new) right in let c = g.seats.counted in omega arith;
        parts = λ h. let p = total_set (λ v. weigh h (memos v)) s.views id old new at in let q =
            total_append (λ v. weigh h (memos v)) (set s.views id new) right in let c = g.seats.parts h in omega arith;
        each_seat = λ j v e. ⊎_elim
            (λ (t : get_elem? (set s.views id new) j ≡ some v). seats_stay
            (Knows K opened r.current r.home r.serving r.queue)
            (Knows K opened r.current r.home r.serving r.queue) s.views id new (mine 0 m refl)
            (λ k u _ _ same. same) g.seats.each_seat j v t)
            (λ (t : (j ≡ length (set s.views id new)) × (Keeper ms ≡ v)). subst
            (Knows K opened r.current r.home r.serving r.queue j) t.1 (λ a x e. mine (suc a) x e))
            (snoc_at (set s.views id new) (Keeper ms) v j e);
        away = λ out. let a = holder_beside s.views id old new tt at (g.seats.away out) in
            (a.0, a.1, a.2, at_longer (set s.views id new) right a.0 (Holding a.1 a.2) a.3);
      }

  -- the table with one keeper of no seats more
  abbrev pub WithNobody : State (std.Option B) (SeatState H L) → State (std.Option B) (SeatState H L)
  WithNobody s = record { words = s.words; homes = s.homes; views = s.views ++ nobody ∷ [] }

  -- it satisfies the rule
  abbrev pub nobody_stands : (s : State (std.Option B) (SeatState H L)) → Rule s → Rule (WithNobody s)
  nobody_stands s r =
      let g = r.good in
      let new : List (SeatState H L) = nobody ∷ [] in with_views s (s.views ++ new) r record {
        queued = λ i k e. let v = g.seats.queued i k e in (v.0, at_longer s.views new k v.0 v.1, v.2);
        counted = let q = total_append out s.views new in let c = g.seats.counted in omega arith;
        parts = λ h. let q = total_append (λ v. weigh h (memos v)) s.views new in let c = g.seats.parts h in omega arith;
        each_seat = λ j v e. ⊎_elim (g.seats.each_seat j v)
            (λ (t : (j ≡ length s.views) × (nobody ≡ v)). subst
            (Knows K opened r.current r.home r.serving r.queue j) t.1
            (λ a x none_there. absurd (some-ne-none x (sym none_there)))) (snoc_at s.views nobody v j e);
        away = λ out. let a = g.seats.away out in (a.0, a.1, a.2, at_longer s.views new a.0 (Holding a.1 a.2) a.3);
      }

  -- a keeper of no seats arrives
  pub arrives_ok : (slots i : ℕ)
      → Enters Rule slots i (λ found v. ◌≡◌ {A = Me (std.Option B) (SeatState H L)} (v, []) (nobody, []))
  arrives_ok slots i s r _ _ = (nobody, nobody_stands s r, refl)

  -- the next seat of the keeper of those from k to c
  pub splits_from : (id k c : ℕ) (h : H) (xs : List L) (v : SeatState H L) → v ≡ keeper_of h xs k (c - k) → k < c
      → Splits Rule id v (left_of v) (right_of v)
  splits_from id k c h xs v is less = let P : SeatState H L → Type 0 = λ z. Splits Rule id z (left_of z) (right_of z) in
      subst P (sym (is ∙ keeper_step h xs k c less))
      (splits_ok id (memo k h xs) (memos_from h xs (k + 1) (c - (k + 1))))

  -- one memo more is remembered
  pub more : (m : Memo H L) (ms : List (Memo H L)) (current : B) → Remembers K opened current m
      → ((a : ℕ) (x : Memo H L) → get_elem? ms a ≡ some x → Remembers K opened current x)
      → (a : ℕ) (x : Memo H L) → get_elem? (m ∷ ms) a ≡ some x → Remembers K opened current x
  more m ms current one rest zero x e = subst (Remembers K opened current) (some-injective m x e) one
  more m ms current one rest (suc a) x e = rest a x e

  -- a keeper that takes in an idle seat keeps the rule
  abbrev pub joins_ok : (id other : ℕ) (m : Memo H L) (ms : List (Memo H L))
      → Joins Rule id (Keeper ms) other (Idle m) (Keeper (m ∷ ms)) (Keeper [])
  joins_ok id other m ms s r at apart there =
      let both : SeatState H L = Keeper (m ∷ ms) in
      let spent : SeatState H L = Keeper [] in
      let first : List (SeatState H L) = set s.views id both in
      let g = r.good in
      let beside : get_elem? s.views other ≡ some (Idle m) = sym (set_else s.views id other both apart) ∙ there in
      let K' : ℕ → SeatState H L → Type 0 = Knows K opened r.current r.home r.serving r.queue in
      let mine = g.seats.each_seat id (Keeper ms) at in
      let its = g.seats.each_seat other (Idle m) beside in
      let go : (a : ℕ) (x : Memo H L) → get_elem? (m ∷ ms) a ≡ some x → Remembers K opened r.current x =
      λ a. more m ms r.current its mine a in with_views s (set first other spent) r record {
        queued = queue_beside first r.serving r.queue other (Idle m) spent tt there
            (queue_beside s.views r.serving r.queue id (Keeper ms) both tt at g.seats.queued);
        counted = let p = total_set out s.views id (Keeper ms) both at in let q =
            total_set out first other (Idle m) spent there in let c = g.seats.counted in omega arith;
        parts = λ h. let p = total_set (λ v. weigh h (memos v)) s.views id (Keeper ms) both at in let q =
            total_set (λ v. weigh h (memos v)) first other (Idle m) spent there in let c = g.seats.parts h in omega arith;
        each_seat = seats_stay K' K' first other spent (λ a x e. absurd (some-ne-none x (sym e)))
            (λ k u _ _ same. same) (seats_stay K' K' s.views id both go (λ k u _ _ same. same) g.seats.each_seat);
        away = λ out. holder_beside first other (Idle m) spent tt there
            (holder_beside s.views id (Keeper ms) both tt at (g.seats.away out));
      }

  -- the same of any two views of these kinds
  pub joins_from : (id other : ℕ) (v w : SeatState H L) → stage_of v ≡ 0 → stage_of w ≡ 1
      → Joins Rule id v other w (joined v w) nobody
  joins_from id other (Keeper ms) (Idle m) is there = joins_ok id other m ms
  joins_from id other (Keeper ms) (Keeper ns) is there = absurd (omega arith)
  joins_from id other (Keeper ms) (Waiting m t k) is there = absurd (omega arith)
  joins_from id other (Keeper ms) (Holding m t) is there = absurd (omega arith)
  joins_from id other (Idle m) w is there = absurd (omega arith)
  joins_from id other (Waiting m t k) w is there = absurd (omega arith)
  joins_from id other (Holding m t) w is there = absurd (omega arith)

  -- the first view of the table is the keeper of all seats
  one_keeper : (j : ℕ) (v : SeatState H L) → get_elem? (keeper_of (K.head opened) (K.lines opened) 0 n ∷ []) j ≡ some v
      → Knows K opened opened true (K.turn opened) [] j v
  one_keeper zero v e =
      subst (Knows K opened opened true (K.turn opened) [] 0)
      (some-injective (keeper_of (K.head opened) (K.lines opened) 0 n) v e)
      (λ a m e. let i = memo_from (K.head opened) (K.lines opened) 0 n a m e in
      subst (Remembers K opened opened) i.1 record
      { head = refl; begins = prefix_refl (K.lines opened); own_lines = refl })
  one_keeper (suc j) v e = absurd (some-ne-none v (sym e))

  -- the table at the start
  pub opens_ok : (ws : List ℕ) → F.Shows (K.turn opened) (K.turn opened) ws → n ≤ 64 → K.lawful opened
      → K.turn opened < 2 ^ 64
      → Rule (opening ws (std.Some opened ∷ []) (keeper_of (K.head opened) (K.lines opened) 0 n))
  opens_ok ws shows size lawful small = grind (arith, common_steps, true, wrap_small, wrap, weigh_from, one_keeper, true≢false, out)

  -- a keeper of all seats at the end: the book is at home, and its turn is the next number
  pub closes_ok : (id : ℕ) (ms : List (Memo H L)) (ws : List ℕ) (xs : List (std.Option B)) → length ms ≡ n
      → Final (Seen Rule id (Keeper ms)) ws xs
      → (b : B) × (get_elem? xs 0 ≡ some (std.Some b)) × K.lawful b × (K.head b ≡ K.head opened)
      × Ended K F n opened (idles ms) b ws
      × ((a : ℕ) (m : Memo H L) → get_elem? ms a ≡ some m → Remembers K opened b m)
  closes_ok id ms ws xs long f =
      let s = f.0 in
      let r = f.1.0 in
      let g = r.good in
      let at = f.1.1 in
      let mine = g.seats.each_seat id (Keeper ms) at in
      let all : (λ (v : SeatState H L). weigh (λ _. 1) (memos v)) (Keeper ms) ≡ n = ones ms ∙ long in
      let sum : total (λ v. weigh (λ _. 1) (memos v)) s.views ≡ n = g.seats.parts (λ _. 1) ∙ span_all 0 n in
      let nobody_else : (j : ℕ) (v : SeatState H L) (u : ℕ) → get_elem? s.views j ≡ some v → HasNumber v u → ⊥ =
      λ j v u e has.
      let two = total_two (λ v. weigh (λ _. 1) (memos v)) s.views id j (Keeper ms) v
      (λ same. apart_from s.views id j (Keeper ms) v u tt at e has (sym same)) at e in
      let one = numbered_weighs v u has in omega arith in
      let home : r.home ≡ true =
      is_true r.home (λ out. let a = g.seats.away out in nobody_else a.0 (Holding a.1 a.2) a.2 a.3 refl) in
      let none_out : r.queue ≡ [] =
      empty r.queue (λ k e. let v = g.seats.queued 0 k e in nobody_else k v.0 (wrap (r.serving + 0)) v.1 v.2) in
      let homes : s.homes ≡ shelf true r.current = r.shelved ∙ ap (λ (z : Bool). shelf z r.current) home in
      let next : r.next ≡ r.serving =
      g.words.next_is ∙ (ap (λ (q : List ℕ). wrap (r.serving + length q)) none_out
      ∙ (ap wrap (omega arith) ∙ wrap_small r.serving g.words.small)) in (
        r.current,
        f.4 0 (std.Some r.current) (ap (λ (z : List (Option (std.Option B))). get_elem? z 0) homes),
        g.book.lawful,
        g.book.head,
        (
          record {
            words = s.words;
            next = r.next;
            serving = r.serving;
            seats = idles ms;
            home = true;
            current =
                r.current;
          },
          record {
            size = g.size;
            words = record {
              shows = g.words.shows;
              small = g.words.small;
              next_is = g.words.next_is ∙ ap (λ (q : List ℕ). wrap (r.serving + length q)) none_out;
            };
            seats = record {
              queued = λ i k e. absurd (some-ne-none k (sym e));
              counted = idles_out ms;
              parts = λ h. idles_weigh h ms ∙ (sym (has_all h s.views id (Keeper ms) at (sum ∙ sym all)) ∙ g.seats.parts h);
              each_seat = λ j v e. let m = idle_there ms j v e in
                  subst (Knows K opened r.current true r.serving [] j) m.2 (mine j m.0 m.1);
              away = λ out. absurd (true≢false out);
            };
            book = g.book;
          },
          refl,
          refl,
          next ∙ sym g.book.turn,
          refl,
          f.2,
        ),
        mine,
      )

  -- the same of any keeper, and of what came out of the slot
  pub closes_from : (id seats : ℕ) (v : SeatState H L) (ws : List ℕ) (xs : List (std.Option B)) (r : std.Option B)
      → stage_of v ≡ 0 → length (memos_of v) ≡ n → Final (Seen Rule id v) ws xs → get_elem? xs 0 ≡ some r
      → (b : B) × (r ≡ std.Some b) × K.lawful b × (K.head b ≡ K.head opened) × Ended K F n opened (idles (memos_of v)) b ws
      × ((a : ℕ) (m : Memo H L) → get_elem? (memos_of v) a ≡ some m → Remembers K opened b m)
  closes_from id seats (Keeper ms) ws xs r is long f at = let c = closes_ok id ms ws xs long f in
      (c.0, some-injective r (std.Some c.0) (sym at ∙ c.1), c.2, c.3, c.4, c.5)
  closes_from id seats (Idle m) ws xs r is long f at = absurd (omega arith)
  closes_from id seats (Waiting m t k) ws xs r is long f at = absurd (omega arith)
  closes_from id seats (Holding m t) ws xs r is long f at = absurd (omega arith)

  -- the same of the book that is taken out
  pub closed_book : (id seats : ℕ) (v : SeatState H L) (ws : List ℕ) (xs : List (std.Option B)) (r : std.Option B)
      (b : B) → stage_of v ≡ 0 → length (memos_of v) ≡ n → Final (Seen Rule id v) ws xs → get_elem? xs 0 ≡ some r
      → r ≡ std.Some b
      → K.lawful b × (K.head b ≡ K.head opened) × Ended K F n opened (idles (memos_of v)) b ws
      × ((a : ℕ) (m : Memo H L) → get_elem? (memos_of v) a ≡ some m → Remembers K opened b m)
  closed_book id seats v ws xs r b is long f at found = let c = closes_from id seats v ws xs r is long f at in
      let same : c.0 ≡ b = unwrapped c.0 b (sym c.1 ∙ found) in
      subst (λ (z : B). K.lawful z × (K.head z ≡ K.head opened) × Ended K F n opened (idles (memos_of v)) z ws
      × ((a : ℕ) (m : Memo H L) → get_elem? (memos_of v) a ≡ some m → Remembers K opened z m)) same
      (c.2, c.3, c.4, c.5)

  -- the table as `open` makes it satisfies the rule
  pub opens_from : (turn seats : ℕ) (ws : List ℕ) (value : B) (items : List (std.Option B)) → F.Shows turn turn ws
      → n ≤ 64 → K.lawful opened → turn < 2 ^ 64 → turn ≡ K.turn opened → seats ≡ n → value ≡ opened
      → items ≡ std.Some opened ∷ []
      → Standing K F seats value (opening ws items (keeper_of (K.head value) (K.lines value) 0 seats))
  opens_from turn seats ws value items shows size lawful small is count same laid = grind (arith, common_steps, opening, keeper_of, opens_ok)

module _ {S H L : Type 0} where
  -- the keeper of the seats that are left, after one was cut
  pub cut_keeper : (h : H) (xs : List L) (k c : ℕ) (old new : Me S (SeatState H L))
      → old ≡ (keeper_of h xs k (c - k), []) → k < c → new ≡ (right_of old.0, [])
      → new ≡ (keeper_of h xs (k + 1) (c - (k + 1)), [])
  cut_keeper h xs k c old new is less returned = grind (arith, common_steps, right_of, keeper_step)

  -- the seat that the keeper became
  pub cut_seat : (h : H) (xs : List L) (k c : ℕ) (old new : Me S (SeatState H L)) → old ≡ (keeper_of h xs k (c - k), [])
      → k < c → new ≡ (left_of old.0, old.1) → new ≡ (Idle (memo k h xs), [])
  cut_seat h xs k c old new is less returned = grind (arith, common_steps, left_of, keeper_step)

  -- a view that is an idle seat of number k
  pub is_idle : (m : Memo H L) (k : ℕ) (me : Me S (SeatState H L)) → me ≡ (Idle m, []) → m.seat ≡ k
      → (stage_of me.0 ≡ 1) × (seat_of me.0 ≡ k) × (me.1 ≡ [])
  is_idle m k me e seat = let P : Me S (SeatState H L) → Type 0 =
      λ z. (stage_of z.0 ≡ 1) × (seat_of z.0 ≡ k) × (z.1 ≡ []) in subst P (sym e) (refl, seat, refl)

-- the seats cut off so far and one more
pub seats_snoc : {A H L : Type 0} (f : A → SeatState H L) (all new : List A) (a : A) (h : H) (xs : List L) (k : ℕ)
    → new ≡ all ++ a ∷ [] → map f all ≡ idle_from h xs 0 k → f a ≡ Idle (memo k h xs)
    → map f new ≡ idle_from h xs 0 (k + 1)
seats_snoc f all new a h xs k is before last = grind (arith, common_steps, suc, before, idle_from, memo, idle_snoc)
