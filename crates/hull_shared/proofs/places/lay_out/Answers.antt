-- the last remaining seat, with its ledger, goes after those that are laid out
use Rattle.std.proofs.Common.{rules, ◌≡◌, ◌+◌, ℕ, List, [], ◌∷◌, ◌++◌, length, IsSome, Some, slice_get}
use Rattle.std.proofs.Common.{refl, sym, ap, subst, ◌∙◌, arith, length-append, inl, inr}
use Rattle.std.specs.Prelude.{Option, option_to_list}
use Rattle.hull_book.specs.Ledgers.{LedgerValue, IsLedger, count_of}
use Rattle.hull_book.specs.declared.marked_line.MarkedLine.{MarkedLine}
use Rattle.ticket_lock.specs.Tokens.{IsSeatOf, seat_count, seat_number, seat_seen}
use Rattle.ticket_lock.proofs.Gather.{all_push, front_of, last_of}
use Rattle.hull_book.specs.LongBooks.{whole}
use Rattle.hull_book.specs.Marks.{plain}
use Rattle.hull_shared.specs.Locks.{book_of, boxed_head}
use Rattle.hull_shared.specs.Places.{HasAt, IsAtHome}
use Rattle.hull_shared.specs.declared.place.SeatPlace.{SeatPlace}
use Rattle.hull_shared.proofs.Homes.{home_more}
use Rattle.hull_shared.proofs.Lists.{get_front, get_last, get_pushed}
use Rattle.hull_shared.proofs.places.lay_out.Goals as goal

pub loop-seat-preserved : goal.loop-seat-preserved
loop-seat-preserved c =
    let inv = c.loop-seat.invariant in let lock = c.args.lock in let n = seat_count lock in
    let seats = c.pop.new.self.items in let ledgers = c.pop-in-Some.new.self.items in let list =
    c.loop-seat.list.items in
    let s = c.in-Some.seat in let l = c.unwrap-ledger.result in
    let e : c.loop-seat.seats.items ≡ seats ++ s ∷ [] = c.in-Some.ensures.items in
    let e2 : c.loop-seat.ledgers.items ≡ ledgers ++ l ∷ [] =
    subst (λ (o : Option LedgerValue). c.loop-seat.ledgers.items ≡ ledgers
    ++ option_to_list o) c.unwrap-ledger.ensures c.pop-in-Some.ensures.items in
    let more : c.push_reserved.new.self.items ≡ list ++ Some (record { seat = s; ledger = l }) ∷ [] =
    c.push_reserved.ensures.items in
    let long : length c.loop-seat.seats.items ≡ length seats + 1 = ap length e ∙ length-append seats (s ∷ []) in
    let long2 : length c.loop-seat.ledgers.items ≡ length ledgers + 1 = ap length e2 ∙ length-append ledgers (l ∷ []) in
    let longer : length c.push_reserved.new.self.items ≡ length list + 1 =
    ap length more ∙ length-append list (Some (record { seat = s; ledger = l }) ∷ []) in
    let number : seat_number s ≡ length seats =
    inv.numbers (length seats) s
    (subst (λ (z : List _). slice_get z (length seats) ≡ Some s) (sym e) (get_last seats s)) in
    let own_ledger : IsLedger (whole (book_of lock).book) (length ledgers) l =
    inv.ledgers (length ledgers) l
    (subst (λ (z : List LedgerValue). slice_get z (length ledgers) ≡ Some l) (sym e2) (get_last ledgers l)) in
    let lines = (book_of lock).book.lines in
    let seen : seat_seen s ≡ lines = last_of (λ x. seat_seen x ≡ lines) c.loop-seat.seats.items seats s e inv.seen in
    let many : length ledgers ≡ length seats = omega (arith, inv.as_many) in
    let same : length ledgers ≡ seat_number s = many ∙ sym number in
    let count : l.count ≡ count_of (seat_number s) (plain (seat_seen s)) =
    own_ledger.count_is ∙ ap (λ (k : ℕ). count_of k (plain lines)) same
    ∙ sym (ap (λ (xs : List MarkedLine). count_of (seat_number s) (plain xs)) seen) in
    let home : IsAtHome lock n (length list) (record { seat = s; ledger = l }) = record {
      own = last_of (IsSeatOf boxed_head lock) c.loop-seat.seats.items seats s e inv.own;
      counts = (own_ledger.seat_is ∙ many ∙ sym number, count);
      home = omega (arith, inv.all);
    } in
    record {
      own = front_of (IsSeatOf boxed_head lock) c.loop-seat.seats.items seats s e inv.own;
      numbers = λ i x at. inv.numbers i x
          (subst (λ (z : List _). slice_get z i ≡ Some x) (sym e) (get_front seats s i x at));
      seen = front_of (λ x. seat_seen x ≡ lines) c.loop-seat.seats.items seats s e inv.seen;
      as_many = many;
      ledgers = λ k d at. inv.ledgers k d
          (subst (λ (z : List LedgerValue). slice_get z k ≡ Some d) (sym e2) (get_front ledgers l k d at));
      all = omega (arith, inv.all);
      storage = search rules;
      at_home = home_more lock n list c.push_reserved.new.self.items
          (record { seat = s; ledger = l }) more inv.at_home home;
      all_in = all_push IsSome list c.push_reserved.new.self.items
          (Some (record { seat = s; ledger = l })) more inv.all_in refl;
      all_seen = λ j p at. elim
          (get_pushed list (Some (record { seat = s; ledger = l })) j (Some p)
          (subst (λ (z : List (Option SeatPlace)). HasAt z j p) more at)) as (λ _. seat_seen p.seat ≡ lines) [
            | inl old ↦ inv.all_seen j p old
            | inr new ↦ let same : p ≡ record { seat = s; ledger = l } =
                (let o : Some p ≡ Some (record { seat = s; ledger = l }) = new.1 in cc) in
                ap (λ (q : SeatPlace). seat_seen q.seat) same ∙ seen
          ];
    }
