-- every worker of the set has run, was separated into its fields, and is in the closed journal
use Rattle.std.proofs.Common.{arith, ◌≡◌, ◌∙◌, sym}
use Rattle.std.proofs.lemmas.Grind.{common_steps}
use Rattle.std.specs.Prelude.{box_value, IsSome, IfSome}
use Rattle.hull_book.specs.Books.{BookValue}
use Rattle.ticket_lock.specs.Tokens.{opening_book, seat_number}
use Rattle.hull_pool.proofs.Reversed.{all_unreverse}
use Rattle.hull_pool.proofs.Phases.{numbered_from, ready_from, fits_all, zip_all, seats_back, phase_ran}
use Rattle.hull_pool.proofs.Phases.{numbered_worker, all_long, is_worker_set}
use Rattle.hull_pool.proofs.phase.run_locked.Goals as goal

pub work_all-requires-clause-some : goal.work_all-requires-clause-some
work_all-requires-clause-some g c κs within =
    let b : BookValue _ = box_value (opening_book c.args.lock) in
    let made = is_worker_set b c.args.phase.now c.assemble.new.worker_set.items c.args.seats _ _ _ c.requires.seats.0
    c.requires.seats.1 c.requires.may c.assemble.ensures.worker_set in
    omega (arith, made.many, made.long.seats, c.requires.some, c.args.seats.ok.0, c.assemble.new.worker_set.ok.0)

pub work_all-requires-clause-ready : goal.work_all-requires-clause-ready
work_all-requires-clause-ready g c κs within =
    let b : BookValue _ = box_value (opening_book c.args.lock) in
    let made = is_worker_set b c.args.phase.now c.assemble.new.worker_set.items c.args.seats _ _ _ c.requires.seats.0
    c.requires.seats.1 c.requires.may c.assemble.ensures.worker_set in
    rw c.assemble.ensures.worker_set
    (ready_from c.args.lock b c.args.phase.now 0 _ _ _ made.long.answers made.long.ledgers
    (numbered_from 0 _ (λ i s e. c.requires.seats.4 i s e ∙ omega arith)) c.requires.seats.3 c.requires.seats.5
    (fits_all b c.args.phase.now _ _ c.requires.may (made.long.answers ∙ sym made.long.ledgers)))

pub disband-requires-clause-seated : goal.disband-requires-clause-seated
disband-requires-clause-seated g c =
    all_unreverse (λ w. IsSome w.seat) _
    (zip_all _ (λ w. IsSome w.seat) _ _ (λ x y run. run.seated) c.work_all.ensures.ran)

pub disband-requires-clause-numbered : goal.disband-requires-clause-numbered
disband-requires-clause-numbered g c =
    all_unreverse (λ w. IfSome w.seat (λ s. seat_number s ≡ w.number)) _
    (zip_all _ (λ w. IfSome w.seat (λ s. seat_number s ≡ w.number)) _ _
    (numbered_worker _ _ _) c.work_all.ensures.ran)

pub disband-requires-clause-space : goal.disband-requires-clause-space
disband-requires-clause-space g c =
    let b : BookValue _ = box_value (opening_book c.args.lock) in
    let made = is_worker_set b c.args.phase.now c.assemble.new.worker_set.items c.args.seats _ _ _ c.requires.seats.0
    c.requires.seats.1 c.requires.may c.assemble.ensures.worker_set in
    let same = c.work_all.ensures.many in
    let spaces = c.assemble.ensures.space in (
      omega (
        arith,
        made.many,
        made.long.seats,
        same,
        spaces.0,
        c.requires.seats.2,
        c.assemble.new.worker_set.ok.0,
        c.args.seats.ok.0,
      ),
      omega (
        arith,
        made.many,
        made.long.seats,
        same,
        spaces.1,
        made.long.answers,
        c.assemble.new.worker_set.ok.0,
        c.args.answers.now.ok.0,
        c.args.answers.now.ok.1,
      ),
      omega (
        arith,
        made.many,
        made.long.seats,
        same,
        spaces.2,
        made.long.ledgers,
        c.assemble.new.worker_set.ok.0,
        c.args.ledgers.now.ok.0,
        c.args.ledgers.now.ok.1,
      ),
    )

pub close-requires-clause-all : goal.close-requires-clause-all
close-requires-clause-all g c =
    let b : BookValue _ = box_value (opening_book c.args.lock) in
    let made = is_worker_set b c.args.phase.now c.assemble.new.worker_set.items c.args.seats _ _ _ c.requires.seats.0
    c.requires.seats.1 c.requires.may c.assemble.ensures.worker_set in
    omega (
      arith,
      made.many,
      c.disband.ensures.long.0,
      c.work_all.ensures.many,
      c.requires.seats.0,
      c.assemble.new.worker_set.ok.0,
    )

pub close-requires-clause-own : goal.close-requires-clause-own
close-requires-clause-own g c = grind (arith, common_steps, all_long, is_worker_set, seats_back)

pub returns : goal.returns
returns g c =
    let b : BookValue _ = box_value (opening_book c.args.lock) in
    let made = is_worker_set b c.args.phase.now c.assemble.new.worker_set.items c.args.seats _ _ _ c.requires.seats.0
    c.requires.seats.1 c.requires.may c.assemble.ensures.worker_set in
    let left = all_long c.disband.new.seats c.disband.new.answers c.disband.new.ledgers c.assemble.new.worker_set c.work_all.new.worker_set
    c.args.seats.items _ made.many made.long.seats c.work_all.ensures.many c.disband.ensures.long in
    let runs = rw (c.assemble.ensures.worker_set, ← c.disband.ensures.team) at c.work_all.ensures.ran in
    phase_ran c.args.lock b (box_value c.close.result) c.args.phase.now _ _ _ _ _ _
    (omega (arith, c.requires.some, c.args.seats.ok.0)) made.long.seats made.long.answers made.long.ledgers left.0 left.1 left.2
    c.requires.may
    (numbered_from 0 _ (λ i s e. c.requires.seats.4 i s e
    ∙ omega arith)) c.close.ensures.lawful c.close.ensures.head
    (λ k d lt. let stands = c.close.ensures.seen k d lt in (stands.begins, stands.own_lines)) runs
