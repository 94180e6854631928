-- the service served the call at the journal of the book found
use Rattle.std.proofs.Common.{refl, rules, subst, sym}
use Rattle.ticket_lock.specs.Tokens.{guard_book, seat_seen}
use Rattle.hull_shared.specs.declared.book.SharedHullHead.{SharedHullHead}
use Rattle.hull_shared.proofs.Found.{found_ledger, has_found}
use Rattle.hull_shared.proofs.looking.look_once.Goals as goal

pub serve_and_hand_on-seat-requires-clause-may : goal.serve_and_hand_on-seat-requires-clause-may
serve_and_hand_on-seat-requires-clause-may g c =
    let t = c.args.taken in let is = c.requires.taken in
    let ledger = found_ledger t c.args.lock.now c.args.number _ _ (guard_book c.in-Entered.guard) c.in-Entered.ensures.finds is.numbered
    _ c.requires.below is.counts in
    search rules

pub serve_and_hand_on-seat-requires-clause-fits : goal.serve_and_hand_on-seat-requires-clause-fits
serve_and_hand_on-seat-requires-clause-fits g c =
    subst (λ (h : SharedHullHead). g.S.Service.fits c.args.service h) (sym c.in-Entered.ensures.finds.same_head) c.requires.fits

pub returns-in-None-clause-looked : goal.returns-in-None-clause-looked
returns-in-None-clause-looked g c =
    let same = c.in-NotYet.ensures.not_yet in
    ((_, (c.replace-none.ensures.after, c.requires.out.0), (refl, same.2, same.3, c.in-NotYet.ensures.one_more), refl), refl)

pub returns-in-None-none-clause-looked : goal.returns-in-None-none-clause-looked
returns-in-None-none-clause-looked g c =
    let t = c.args.taken in let after = c.serve_and_hand_on-seat.result in (
      after.0,
      (c.replace-none-in-Entered.ensures.after, c.requires.out.1),
      has_found t c.args.lock.now c.args.number _ _ (guard_book c.in-Entered.guard) c.in-Entered.ensures.finds c.requires.taken.numbered
          _ (λ h u found. g.S.Service.served c.args.service h u c.args.number t.call found (seat_seen after.0) after.1 after.2)
          c.in-Entered.ensures.entered.2 c.serve_and_hand_on-seat.ensures.served,
    )
