-- A world that satisfies the invariant is good.
use Rattle.std.proofs.Common.{◌≡◌, ℕ, zero, suc, ◌+◌, ◌<◌, List, [], ◌∷◌, length, sym, refl, ap, ◌∙◌}
use Rattle.std.proofs.Common.{get_or, subst, arith, true≢false}
use mathlib.Core.Logic.{dite}
use mathlib.Core.Option.{some, some-injective, some-ne-none}
use native.Mathlib.Decide.{ℕ_discrete}
use lib.ListN.{get_elem?}
use Rattle.ticket_lock.specs.declared.chronicle.Chronicle.{Ghosts}
use Rattle.ticket_lock.specs.declared.seat_state.Memo.{Memo}
use Rattle.ticket_lock.specs.declared.seat_state.SeatState.{SeatState}
use Rattle.ticket_lock.specs.declared.seat_state.SeatState.TheVariants.{Keeper, Idle, Waiting, Holding}
use Rattle.ticket_lock.specs.World.{Form, World, wrap, memos, HasNumber, Remembers, Knows, Good}
use Rattle.ticket_lock.specs.GoodWorld.{Owns, GoodWorld, Shut}
use Rattle.ticket_lock.specs.Standing.{RestingTablesAreGood, world_of}
use Rattle.ticket_lock.proofs.Seats.{Ended}
use Rattle.ticket_lock.proofs.Sums.{wrap_small, one_place, at_below}
use Rattle.ticket_lock.proofs.Machine.{FormLaws, few, strangers}

-- each index below the length of the queue has a seat
pub at_of : (q : List ℕ) (i : ℕ) → i < length q → (j : ℕ) × (get_elem? q i ≡ some j)
at_of [] i h = absurd (omega arith)
at_of (x ∷ xs) zero h = (x, refl)
at_of (x ∷ xs) (suc i) h = at_of xs i (omega arith)

module _ {B H L : Type 0} (K : Ghosts B H L) (F : Form) (laws : FormLaws F) (n : ℕ) (opening : B) (w : World B H L)
    (q : List ℕ) (g : Good K F n opening w q) where
  -- a seat with a number is in the queue at the index of that number
  place_of : (k t : ℕ) (v : SeatState H L) → Knows K opening w.current w.home w.serving q k v → HasNumber v t
      → (i : ℕ) × (get_elem? q i ≡ some k) × (t ≡ wrap (w.serving + i))
  place_of k t (Keeper ms) know has = absurd has
  place_of k t (Idle m) know has = absurd has
  place_of k t (Waiting m u looks) know has = (know.1.0, know.1.1, sym has ∙ know.1.2)
  place_of k t (Holding m u) know has =
      (0, know.1, sym has ∙ (know.2 ∙ (sym (wrap_small w.serving g.words.small) ∙ ap wrap (omega arith))))

  -- the same of the owner of a number
  pub owner : (k t : ℕ) → Owns w k t → (i : ℕ) × (get_elem? q i ≡ some k) × (t ≡ wrap (w.serving + i))
  owner k t o = place_of k t o.0 (g.seats.each_seat k o.0 o.1) o.2

  -- a seat has one memo
  only_one : (x m : Memo H L) (a : ℕ) → Remembers K opening w.current x → get_elem? (x ∷ []) a ≡ some m
      → Remembers K opening w.current m
  only_one x m zero r e = subst (Remembers K opening w.current) (some-injective x m e) r
  only_one x m (suc a) r e = absurd (some-ne-none m (sym e))

  -- each memo of a seat is remembered
  remembered : (j a : ℕ) (m : Memo H L) (v : SeatState H L) → Knows K opening w.current w.home w.serving q j v
      → get_elem? (memos v) a ≡ some m → Remembers K opening w.current m
  remembered j a m (Keeper ms) know e = know a m e
  remembered j a m (Idle x) know e = only_one x m a know e
  remembered j a m (Waiting x t looks) know e = only_one x m a know.0 e
  remembered j a m (Holding x t) know e = only_one x m a know.0 e

  -- the working form implies that the world is good
  pub good_world : GoodWorld K F opening w
  good_world = let most = few K F laws n opening w q g in record {
    words = g.words.shows;
    out = length q;
    few = most;
    next_is = g.words.next_is;
    each_number = λ i below. let j = at_of q i below in (
      j.0,
      g.seats.queued i j.0 j.1,
      λ k o. let p = owner k (wrap (w.serving + i)) o in let inside = at_below q p.0 k p.1 in
          let same : i ≡ p.0 = one_place w.serving i p.0 (omega arith) (omega arith) p.2 in
          some-injective k j.0 (sym p.1 ∙ (ap (get_elem? q) (sym same) ∙ j.1)),
    );
    each_owner = λ j t o. let p = owner j t o in (p.0, at_below q p.0 j p.1, p.2);
    apart = λ j k m x one other same. dite (ℕ_discrete j k) (λ e. e)
        (λ off. absurd (strangers K F laws n opening w q j k one.1 other.1 one.0 other.0 m x g off one.2 other.2 one.3
        other.3 (sym same)));
    holder = λ j t h. (g.seats.each_seat j (Holding h.0 t) h.1).2;
    one_holder = λ j k t u h i. some-injective j k
        (sym (g.seats.each_seat j (Holding h.0 t) h.1).1 ∙ (g.seats.each_seat k (Holding i.0 u) i.1).1);
    home = λ is j t h. true≢false (sym is ∙ (g.seats.each_seat j (Holding h.0 t) h.1).3);
    away = λ is. let a = g.seats.away is in (a.0, a.2, (a.1, a.3));
    lawful = g.book.lawful;
    head = g.book.head;
    turn = g.book.turn;
    begins = λ j m s. (remembered j s.1 m s.0 (g.seats.each_seat j s.0 s.2) s.3).begins;
    own_lines = λ j m s. (remembered j s.1 m s.0 (g.seats.each_seat j s.0 s.2) s.3).own_lines;
  }

-- the first of some words
first_word : (ws : List ℕ) (t : ℕ) → get_elem? ws 0 ≡ some t → get_or ws 0 0 ≡ t
first_word [] t there = absurd (some-ne-none t (sym there))
first_word (w ∷ ws) t there = some-injective w t there

module _ {B H L : Type 0} (K : Ghosts B H L) (F : Form) (laws : FormLaws F) where
  -- a lock that ends in the working form has ended well
  pub shut : (n : ℕ) (opening : B) (given back : List (SeatState H L)) (b : B) (ws : List ℕ) (t : ℕ)
      → Ended K F n opening given b ws → back ≡ given → get_elem? ws 0 ≡ some t → Shut K F opening back b t
  shut n opening given back b ws t e same there =
      let found : t ≡ e.0.next = sym (first_word ws t there)
      ∙ (ap (λ (z : List ℕ). get_or z 0 0) (sym e.6) ∙ laws.next_shown e.0.next e.0.serving e.0.words e.1.words.shows) in
      record {
        world = e.0;
        good = good_world K F laws n opening e.0 [] e.1;
        seats = e.5 ∙ sym same;
        none_out = λ j t o. let p = owner K F laws n opening e.0 [] e.1 j t o in some-ne-none j (sym p.1);
        home = e.2;
        current = e.3;
        word = ap (λ (z : List ℕ). get_or z 0 0) e.6 ∙ first_word ws t there;
        next = found ∙ e.4;
      }

  -- every table under the rule shows a good world
  pub resting : RestingTablesAreGood K F
  resting n opening s r =
      (good_world K F laws n opening (world_of s r.next r.serving r.home r.current) r.queue r.good, r.shelved)
