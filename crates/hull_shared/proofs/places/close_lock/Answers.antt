-- the seat of the last remaining slot has the number after those that are gathered
use Rattle.std.proofs.Common.{rules, ◌≡◌, ◌<◌, ◌+◌, ◌-◌, ℕ, List, [], ◌∷◌, ◌++◌, length, IsSome, Some}
use Rattle.std.proofs.Common.{slice_get, sym, ap, subst, ◌∙◌, arith, length-append, inl, inr, vec_len}
use Rattle.std.specs.Prelude.{Option}
use Rattle.std.proofs.lemmas.Option.{slice_get_within}
use Rattle.hull_book.specs.Ledgers.{IsLedgerOf}
use Rattle.hull_pool.specs.Work.{lines_of}
use Rattle.hull_pool.proofs.Pushed.{numbered_push, zipped_push}
use Rattle.ticket_lock.specs.Tokens.{IsSeatOf, seat_count, seat_number, seat_seen}
use Rattle.ticket_lock.proofs.Gather.{all_push, at_place, front_of}
use mathlib.Core.List.{IsPrefix}
use Rattle.hull_book.specs.Marks.{plain}
use Rattle.hull_shared.specs.Locks.{boxed_head}
use Rattle.hull_shared.specs.Places.{HasAt, IsAtHome}
use Rattle.hull_shared.specs.declared.place.SeatPlace.{SeatPlace}
use Rattle.hull_shared.proofs.Homes.{home_front}
use Rattle.hull_shared.proofs.Lists.{get_before, get_front, get_last, same_or_more}
use Rattle.hull_shared.proofs.places.close_lock.Goals as goal

pub loop-place-preserved : goal.loop-place-preserved
loop-place-preserved c =
    let inv = c.loop-place.invariant in let lock = c.args.lock in let n = seat_count lock in
    let list = c.pop.new.self.items in let seats = c.loop-place.seats.items in
    let p = c.unwrap-seat.result in
    let e : c.loop-place.list.items ≡ list ++ c.in-Some.place ∷ [] = c.in-Some.ensures.items in
    let more : c.push_reserved.new.self.items ≡ seats ++ p.seat ∷ [] = c.push_reserved.ensures.items in
    let more2 : c.push_reserved-in-Some.new.self.items ≡ c.loop-place.ledgers.items ++ p.ledger ∷ [] =
    c.push_reserved-in-Some.ensures.items in
    let long : length c.loop-place.list.items ≡ length list + 1 =
    ap length e ∙ length-append list (c.in-Some.place ∷ []) in
    let longer : length c.push_reserved.new.self.items ≡ length seats + 1 =
    ap length more ∙ length-append seats (p.seat ∷ []) in
    let longer2 : length c.push_reserved-in-Some.new.self.items ≡ length c.loop-place.ledgers.items + 1 =
    ap length more2 ∙ length-append c.loop-place.ledgers.items (p.ledger ∷ []) in
    let last : slice_get c.loop-place.list.items (length list) ≡ Some c.in-Some.place =
    subst (λ (z : List (Option SeatPlace)). slice_get z (length list) ≡ Some c.in-Some.place) (sym e)
    (get_last list c.in-Some.place) in
    let was : HasAt c.loop-place.list.items (length list) p =
    last ∙ ap (λ (o : Option SeatPlace). Some o) c.unwrap-seat.ensures in
    let is : IsAtHome lock n (length list) p = inv.at_home (length list) p was in
    let number : seat_number p.seat ≡ length seats = omega (arith, is.home, inv.all) in
    record {
      at_home = home_front lock n c.loop-place.list.items list c.in-Some.place e inv.at_home;
      all_in = front_of IsSome c.loop-place.list.items list c.in-Some.place e inv.all_in;
      all = omega (arith, inv.all);
      as_many = omega (arith, inv.as_many);
      storage = search rules;
      own = all_push (IsSeatOf boxed_head lock) seats c.push_reserved.new.self.items p.seat more inv.own is.own;
      numbers = numbered_push (λ s. seat_number s) seats c.push_reserved.new.self.items p.seat more inv.numbers number;
      counts = zipped_push
          (λ s k. IsLedgerOf (seat_number s)
          (plain (seat_seen s)) k) seats c.push_reserved.new.self.items c.loop-place.ledgers.items
          c.push_reserved-in-Some.new.self.items p.seat p.ledger more more2 inv.counts is.counts;
      left = λ j q at lt. get_before list c.in-Some.place j (Some q)
          (subst (λ (z : List (Option SeatPlace)). HasAt z j q) e (inv.left j q at (omega (arith, long)))) lt;
      gathered = λ i j q at le sum. elim (same_or_more (length list) j le) as
          (λ _. slice_get c.push_reserved.new.self.items i ≡ Some q.seat) [
            | inl here ↦
                let there : HasAt c.loop-place.list.items (length list) q =
                subst (λ (k : ℕ). HasAt c.loop-place.list.items k q) here
                (inv.left j q at (omega (arith, long, here))) in
                let same : p ≡ q = (let o : Some (Some p) ≡ Some (Some q) = sym was ∙ there in cc) in
                let at_end : i ≡ length seats = omega (arith, sum, here, inv.all, long) in
                subst (λ (k : ℕ). slice_get c.push_reserved.new.self.items k ≡ Some q.seat) (sym at_end)
                (subst (λ (z : List _). slice_get z (length seats) ≡ Some q.seat) (sym more)
                (get_last seats p.seat ∙ ap (λ (x : SeatPlace). Some x.seat) same))
            | inr state_after ↦ subst (λ (z : List _). slice_get z i ≡ Some q.seat) (sym more)
                (get_front seats p.seat i q.seat (inv.gathered i j q at (omega (arith, long, state_after)) sum))
          ];
    }

pub returns-clause-seen : goal.returns-clause-seen
returns-clause-seen c = λ j p at.
    let inv = c.loop-place.invariant in let n = seat_count c.args.lock in
    let within : j < length c.args.places.list.items = slice_get_within c.args.places.list.items j (Some p) at in
    let each : vec_len c.args.places.list ≡ n = c.requires.laid_out.each in
    let none : length c.loop-place.list.items ≡ 0 =
    omega (arith, c.in_default.ensures.cases.0, c.loop-place.list.ok.0) in
    let back : (n - 1 - j) + j + 1 ≡ n = omega (arith, each, within, c.args.places.list.ok.0) in
    at_place (λ s. IsPrefix (seat_seen s) c.close_book.result.0.book.lines) c.loop-place.seats.items
    (n - 1 - j) p.seat c.close_book.ensures.seen
    (inv.gathered (n - 1 - j) j p at (omega (arith, none)) back)

pub returns-clause-own_lines : goal.returns-clause-own_lines
returns-clause-own_lines c = λ j p at.
    let inv = c.loop-place.invariant in let n = seat_count c.args.lock in
    let within : j < length c.args.places.list.items = slice_get_within c.args.places.list.items j (Some p) at in
    let each : vec_len c.args.places.list ≡ n = c.requires.laid_out.each in
    let none : length c.loop-place.list.items ≡ 0 =
    omega (arith, c.in_default.ensures.cases.0, c.loop-place.list.ok.0) in
    let back : (n - 1 - j) + j + 1 ≡ n = omega (arith, each, within, c.args.places.list.ok.0) in
    at_place (λ s. lines_of (seat_number s) (plain c.close_book.result.0.book.lines) ≡ lines_of (seat_number s) (plain (seat_seen s)))
    c.loop-place.seats.items (n - 1 - j) p.seat c.close_book.ensures.own_lines
    (inv.gathered (n - 1 - j) j p at (omega (arith, none)) back)
