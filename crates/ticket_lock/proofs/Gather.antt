-- The seats of a lock that is closed.
use Rattle.std.proofs.lemmas.Grind.{common_steps}
use Rattle.std.proofs.Common.{◌≡◌, ℕ, zero, suc, ◌+◌, List, [], ◌∷◌, ◌++◌, map, length, sym, refl, ap, ◌∙◌, subst}
use Rattle.std.proofs.Common.{arith, All, Some, slice_get}
use Rattle.std.specs.Prelude as std
use mathlib.Core.List.{append-nil}
use mathlib.Core.Option.{some}
use lib.ListN.{get_elem?}
use Rattle.ticket_lock.specs.declared.chronicle.Chronicle.{Ghosts}
use Rattle.ticket_lock.specs.declared.seat_state.Memo.{Memo}
use Rattle.ticket_lock.specs.declared.seat_state.SeatState.{SeatState}
use Rattle.ticket_lock.specs.declared.seat_state.SeatState.TheVariants.{Keeper, Idle, Waiting, Holding}
use Rattle.ticket_lock.specs.World.{memo, Remembers}
use Rattle.ticket_lock.specs.Schedule.{idle_from}
use Rattle.ticket_lock.specs.Standing.{stage_of, seat_of, heads_of, seen_of, memos_of, idles, joined}
use Rattle.ticket_lock.specs.Tokens.{Stands}

-- the value, or d
abbrev value_or : {A : Type 0} → A → std.Option A → A
value_or d (std.Some a) = a
value_or d std.None = d

-- nothing added on the left
pub zero_add : (i : ℕ) → 0 + i ≡ i
zero_add i = omega arith

module _ {A : Type 0} (P : A → Type 0) where
  -- what holds of each element holds of the last
  pub all_last : (xs : List A) (x : A) → All P (xs ++ x ∷ []) → P x
  all_last [] x h = h 0 x (omega arith)
  all_last (y ∷ ys) x h = all_last ys x (λ k d l. h (suc k) d (omega arith))

  -- and of each of those before it
  pub all_front : (xs : List A) (x : A) → All P (xs ++ x ∷ []) → All P xs
  all_front [] x h k d l = absurd (omega arith)
  all_front (y ∷ ys) x h zero d l = h 0 d (omega arith)
  all_front (y ∷ ys) x h (suc k) d l = all_front ys x (λ i e b. h (suc i) e (omega arith)) k d (omega arith)

  -- what holds of each element and of one more holds of each of the longer list
  pub all_snoc : (xs : List A) (x : A) → All P xs → P x → All P (xs ++ x ∷ [])
  all_snoc [] x h p zero d l = p
  all_snoc [] x h p (suc k) d l = absurd (omega arith)
  all_snoc (y ∷ ys) x h p zero d l = h 0 d (omega arith)
  all_snoc (y ∷ ys) x h p (suc k) d l = all_snoc ys x (λ i e b. h (suc i) e (omega arith)) p k d (omega arith)

  -- the same of a list that is known by an equation
  pub all_push : (xs new : List A) (x : A) → new ≡ xs ++ x ∷ [] → All P xs → P x → All P new
  all_push xs new x e h p = subst (All P) (sym e) (all_snoc xs x h p)

  -- the same of the last of a list that is known by an equation
  pub last_of : (all xs : List A) (x : A) → all ≡ xs ++ x ∷ [] → All P all → P x
  last_of all xs x e h = all_last xs x (subst (All P) e h)

  -- the same of those before the last
  pub front_of : (all xs : List A) (x : A) → all ≡ xs ++ x ∷ [] → All P all → All P xs
  front_of all xs x e h = all_front xs x (subst (All P) e h)

-- what holds of each element holds of the one at a place
pub at_place : {A : Type 0} (P : A → Type 0) (xs : List A) (i : ℕ) (a : A) → All P xs → slice_get xs i ≡ Some a → P a
at_place P [] i a h at = cc
at_place P (x ∷ xs) zero a h at = subst P (ap (value_or x) at) (h 0 x (omega arith))
at_place P (x ∷ xs) (suc i) a h at = at_place P xs i a (λ k d l. h (suc k) d (omega arith)) at

module _ {H L : Type 0} where
  -- a list of no length is empty
  nothing : (ms : List (Memo H L)) → length ms ≡ 0 → ms ≡ []
  nothing [] e = refl
  nothing (m ∷ ms) e = absurd (omega arith)

  -- a keeper with no memos adds no idle seat
  pub no_memos : (f : List (SeatState H L)) (v : SeatState H L) → length (memos_of v) ≡ 0 → f ≡ f ++ idles (memos_of v)
  no_memos f v e = sym (append-nil f) ∙ ap (λ (z : List (Memo H L)). f ++ idles z) (sym (nothing (memos_of v) e))

  -- a keeper that took in an idle seat is a keeper
  pub joined_stage : (v w : SeatState H L) → stage_of v ≡ 0 → stage_of w ≡ 1 → stage_of (joined v w) ≡ 0
  joined_stage (Keeper ms) (Idle m) v w = refl
  joined_stage (Keeper ms) (Keeper ns) v w = absurd (omega arith)
  joined_stage (Keeper ms) (Waiting m t k) v w = absurd (omega arith)
  joined_stage (Keeper ms) (Holding m t) v w = absurd (omega arith)
  joined_stage (Idle m) u v w = absurd (omega arith)
  joined_stage (Waiting m t k) u v w = absurd (omega arith)
  joined_stage (Holding m t) u v w = absurd (omega arith)

  -- the same of a view that is known by an equation
  pub stays_keeper : (v w after : SeatState H L) → stage_of v ≡ 0 → stage_of w ≡ 1 → after ≡ joined v w
      → stage_of after ≡ 0
  stays_keeper v w after is there returned = ap stage_of returned ∙ joined_stage v w is there

  -- it has that seat before those that it had
  joined_more : (v w : SeatState H L) → stage_of v ≡ 0 → stage_of w ≡ 1
      → w ∷ idles (memos_of v) ≡ idles (memos_of (joined v w))
  joined_more (Keeper ms) (Idle m) v w = refl
  joined_more (Keeper ms) (Keeper ns) v w = absurd (omega arith)
  joined_more (Keeper ms) (Waiting m t k) v w = absurd (omega arith)
  joined_more (Keeper ms) (Holding m t) v w = absurd (omega arith)
  joined_more (Idle m) u v w = absurd (omega arith)
  joined_more (Waiting m t k) u v w = absurd (omega arith)
  joined_more (Holding m t) u v w = absurd (omega arith)

  -- the seats that are left and those that were joined are all seats, also after one more is joined
  pub gathered : {A : Type 0} (f : A → SeatState H L) (all items new : List A) (a : A) (v after : SeatState H L)
      → stage_of v ≡ 0 → stage_of (f a) ≡ 1 → items ≡ new ++ a ∷ [] → after ≡ joined v (f a)
      → map f all ≡ map f items ++ idles (memos_of v) → map f all ≡ map f new ++ idles (memos_of after)
  gathered f all items new a v after is there split returned before = grind (arith, common_steps, before, idles, memos_of, joined_more)

  -- as many idle seats as memos
  length_idles : (ms : List (Memo H L)) → length (idles ms) ≡ length ms
  length_idles [] = refl
  length_idles (m ∷ ms) = let p = length_idles ms in omega arith

  -- as many views as seats
  length_of_map : {A : Type 0} (f : A → SeatState H L) (xs : List A) → length (map f xs) ≡ length xs
  length_of_map f [] = refl
  length_of_map f (x ∷ xs) = let p = length_of_map f xs in omega arith

  -- as many memos as seats were joined
  pub as_many : {A : Type 0} (f : A → SeatState H L) (items : List A) (ms : List (Memo H L)) → map f items ≡ idles ms
      → length ms ≡ length items
  as_many f items ms e = sym (length_idles ms) ∙ (ap length (sym e) ∙ length_of_map f items)

  -- the first view, or d
  abbrev first_or : SeatState H L → List (SeatState H L) → SeatState H L
  first_or d [] = d
  first_or d (x ∷ xs) = x

  -- all views but the first
  abbrev others : List (SeatState H L) → List (SeatState H L)
  others [] = []
  others (x ∷ xs) = xs

  -- what the keeper remembers of each memo is true of the seat that it came from
  pub all_stand : {A B : Type 0} (K : Ghosts B H L) (opened b : B) (f : A → SeatState H L) (items : List A)
      (ms : List (Memo H L)) → map f items ≡ idles ms
      → ((a : ℕ) (m : Memo H L) → get_elem? ms a ≡ some m → Remembers K opened b m)
      → All (λ s. Stands K (seat_of (f s)) (seen_of (f s)) b) items
  all_stand K opened b f [] ms e r k d l = absurd (omega arith)
  all_stand K opened b f (x ∷ xs) [] e r k d l = absurd (let n = ap length e in omega arith)
  all_stand K opened b f (x ∷ xs) (m ∷ ms) e r zero d l = let one = r 0 m refl in let same : Idle m ≡ f x =
      ap (first_or (Idle m)) (sym e) in
      subst (λ (v : SeatState H L). Stands K (seat_of v) (seen_of v) b) same record
      { begins = one.begins; own_lines = one.own_lines }
  all_stand K opened b f (x ∷ xs) (m ∷ ms) e r (suc k) d l =
      all_stand K opened b f xs ms (ap others e) (λ a. r (suc a)) k d (omega arith)

  -- each of the idle seats that were cut off remembers the head and the lines at opening
  pub all_idle : {A : Type 0} (f : A → SeatState H L) (items : List A) (h : H) (xs : List L) (k c : ℕ)
      → map f items ≡ idle_from h xs k c → All (λ s. (heads_of (f s) ≡ h ∷ []) × (seen_of (f s) ≡ xs)) items
  all_idle f [] h xs k c e i d l = absurd (omega arith)
  all_idle f (x ∷ items) h xs k zero e i d l = absurd (let n = ap length e in omega arith)
  all_idle f (x ∷ items) h xs k (suc c) e zero d l = grind (arith, common_steps, memo, heads_of, seen_of)
  all_idle f (x ∷ items) h xs k (suc c) e (suc i) d l = all_idle f items h xs (suc k) c (ap others e) i d (omega arith)

  -- each seat's number is its place
  pub numbers_from : {A : Type 0} (f : A → SeatState H L) (all : List A) (h : H) (xs : List L) (k c : ℕ)
      → map f all ≡ idle_from h xs k c → (i : ℕ) (a : A) → slice_get all i ≡ Some a → seat_of (f a) ≡ k + i
  numbers_from f [] h xs k c e i a at = cc
  numbers_from f (x ∷ all) h xs k zero e i a at = absurd (let n = ap length e in omega arith)
  numbers_from f (x ∷ all) h xs k (suc c) e zero a at = grind (arith, common_steps, memo, seat_of)
  numbers_from f (x ∷ all) h xs k (suc c) e (suc i) a at = let p =
      numbers_from f all h xs (suc k) c (ap others e) i a at in omega arith
