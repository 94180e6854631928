-- The tickets of the lines, from the good worlds that every step leads through.
use Rattle.std.proofs.Common.{◌≡◌, ◌∙◌, ◌+◌, ℕ, zero, suc, List, [], ◌∷◌, ◌++◌, ap, arith, length}
use Rattle.std.proofs.Common.{length-append, subst, sym}
use Rattle.std.proofs.lemmas.Grind.{common_steps}
use Rattle.std.proofs.lemmas.List.{append_cancel_left}
use mathlib.Core.Option.{some, some-injective, some-ne-none}
use lib.ListN.{get_elem?}
use Rattle.hull_book.specs.Kinds.{Kind}
use Rattle.ticket_lock.specs.declared.chronicle.Chronicle.{Ghosts}
use Rattle.ticket_lock.specs.declared.seat_state.Memo.{Memo}
use Rattle.ticket_lock.specs.declared.seat_state.SeatState.TheVariants.{Holding}
use Rattle.ticket_lock.specs.Forms.{partitioned_form}
use Rattle.ticket_lock.specs.Linearizable.{journal_after}
use Rattle.ticket_lock.specs.Schedule.{Runs}
use Rattle.ticket_lock.specs.World.{Event, Form, Good, HandsOn, World, enters, hands_on, misses, takes, wrap}
use Rattle.ticket_lock.proofs.FormsKept.{partitioned_laws}
use Rattle.ticket_lock.proofs.Machine.{FormLaws, good_enter, good_hand, good_miss, good_take}
use Rattle.ticket_lock.proofs.Schedules.{good_opened}
use Rattle.ticket_lock.proofs.Sums.{wrap_small}
use Rattle.hull_headline.specs.Headline.{TicketsCountTheCalls, ended_in}

-- two lists that are one and one more have the same last
same_last : {A : Type 0} (xs : List A) (x y : A) → xs ++ x ∷ [] ≡ xs ++ y ∷ [] → x ≡ y
same_last xs x y e = let last = append_cancel_left xs (x ∷ []) (y ∷ []) e in cc

-- a list is not the same with one more
no_longer : {A : Type 0} (xs : List A) (x : A) → xs ≡ xs ++ x ∷ [] → ⊥
no_longer xs x e = let long = ap (λ (l : List _). length l) e in let one = length-append xs (x ∷ []) in omega arith

-- one more call ended
one_more : (t n : ℕ) → wrap (wrap (t + 1) + n) ≡ wrap (t + (1 + n))
one_more t n = omega arith

module _ {B H L : Type 0} (K : Ghosts B H L) (F : Form) (laws : FormLaws F) (n : ℕ) (b : B) where
  -- the line that a seat hands on with the number t has it as its ticket
  handed_ticket : (m : Memo H L) (t : ℕ) (c : B) (l : L) → HandsOn K m t c → K.lines c ≡ m.seen ++ l ∷ []
      → K.line_number l ≡ t
  handed_ticket m t c l hands adds = grind (arith, common_steps, no_longer, same_last)

  -- from a good world, the line that the step at r adds has the ticket that is served plus the number of calls that end before
  ticket_from : (es : List (Event B)) (w u : World B H L) (q : List ℕ) (now : B) (r k : ℕ) (c : B) (l : L)
      → Good K F n b w q → Runs K F es w u → w.current ≡ now → get_elem? es r ≡ some (hands_on k c)
      → journal_after K now es (suc r) ≡ journal_after K now es r ++ l ∷ []
      → K.line_number l ≡ wrap (w.serving + ended_in r es)
  ticket_from [] w u q now r k c l g run is at adds = absurd (some-ne-none (hands_on k c) (sym at))
  ticket_from (takes j ∷ es) w u q now zero k c l g run is at adds =
      absurd (let no : takes j ≡ hands_on k c = some-injective (takes j) (hands_on k c) at in cc)
  ticket_from (misses j ∷ es) w u q now zero k c l g run is at adds =
      absurd (let no : misses j ≡ hands_on k c = some-injective (misses j) (hands_on k c) at in cc)
  ticket_from (enters j ∷ es) w u q now zero k c l g run is at adds =
      absurd (let no : enters j ≡ hands_on k c = some-injective (enters j) (hands_on k c) at in cc)
  ticket_from (hands_on j d ∷ es) w u q now zero k c l g run is at adds =
      let m = run.1.0 in let t = run.1.1 in
      let knows = g.seats.each_seat j (Holding m t) run.1.2 in
      let found : K.lines now ≡ m.seen = ap K.lines (sym is) ∙ sym knows.4 in
      let grown : K.lines d ≡ m.seen ++ l ∷ [] = adds ∙ ap (λ (ls : List L). ls ++ l ∷ []) found in
      handed_ticket m t d l run.1.3 grown ∙ knows.2 ∙ sym (wrap_small w.serving g.words.small) ∙ ap wrap (omega arith)
  ticket_from (takes j ∷ es) w u q now (suc r) k c l g run is at adds =
      let v = run.0 in let e = run.1.2 in
      let good : Good K F n b v (q ++ j ∷ []) =
      subst (λ (z : World B H L). Good K F n b z (q ++ j ∷ [])) (sym e) (good_take K F laws n b w q j run.1.0 g run.1.1) in
      ticket_from es v u (q ++ j ∷ []) now r k c l good run.2 (ap (λ (z : World B H L). z.current) e ∙ is) at adds
      ∙ ap (λ (s : ℕ). wrap (s + ended_in r es)) (ap (λ (z : World B H L). z.serving) e) ∙ ap wrap (omega arith)
  ticket_from (misses j ∷ es) w u q now (suc r) k c l g run is at adds =
      let v = run.0 in let e = run.1.5 in
      let good : Good K F n b v q =
      subst (λ (z : World B H L). Good K F n b z q) (sym e)
      (good_miss K F laws n b w q j run.1.0 run.1.1 run.1.2 g run.1.3) in
      ticket_from es v u q now r k c l good run.2 (ap (λ (z : World B H L). z.current) e ∙ is) at adds
      ∙ ap (λ (s : ℕ). wrap (s + ended_in r es)) (ap (λ (z : World B H L). z.serving) e) ∙ ap wrap (omega arith)
  ticket_from (enters j ∷ es) w u q now (suc r) k c l g run is at adds =
      let v = run.0 in let e = run.1.5 in
      let good : Good K F n b v q =
      subst (λ (z : World B H L). Good K F n b z q) (sym e)
      (good_enter K F laws n b w q j run.1.0 run.1.1 run.1.2 g run.1.3 run.1.4) in
      ticket_from es v u q now r k c l good run.2 (ap (λ (z : World B H L). z.current) e ∙ is) at adds
      ∙ ap (λ (s : ℕ). wrap (s + ended_in r es)) (ap (λ (z : World B H L). z.serving) e) ∙ ap wrap (omega arith)
  ticket_from (hands_on j d ∷ es) w u q now (suc r) k c l g run is at adds =
      let v = run.0 in let e = run.1.4 in let t = run.1.1 in
      let knows = g.seats.each_seat j (Holding run.1.0 t) run.1.2 in
      let h = good_hand K F laws n b w q j run.1.0 t d g run.1.2 run.1.3 in
      let good : Good K F n b v h.0 = subst (λ (z : World B H L). Good K F n b z h.0) (sym e) h.2 in
      ticket_from es v u h.0 d r k c l good run.2 (ap (λ (z : World B H L). z.current) e) at adds
      ∙ ap (λ (s : ℕ). wrap (s + ended_in r es)) (ap (λ (z : World B H L). z.serving) e)
      ∙ ap (λ (s : ℕ). wrap (wrap (s + 1) + ended_in r es)) knows.2 ∙ one_more w.serving (ended_in r es)

-- so it is from the opened world on
pub tickets : {S B H L : Type 0} (kind : Kind S B H L) → TicketsCountTheCalls kind
tickets kind seats book opening now steps led seat began r place line call =
    let o = led.0 in let good = good_opened kind.says partitioned_form partitioned_laws seats book opening o in
    ticket_from kind.says partitioned_form partitioned_laws seats book steps opening now [] book r seat call.ends.0 line good
    led.1 o.current call.ends.1 call.adds
    ∙ ap (λ (s : ℕ). wrap (s + ended_in r steps)) o.serving
