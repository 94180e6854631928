-- one call more is one more of the worker's calls, and at the end all are made
use Rattle.std.proofs.Common.{append-nil, rules, arith, ◌∙◌, ◌+◌, sym, ap, subst, ℕ, box_value}
use Rattle.std.proofs.lemmas.Grind.{common_steps}
use Rattle.hull_book.specs.Ledgers.{IsLedgerOf}
use Rattle.ticket_lock.specs.Tokens.{opening_book, seat_seen}
use base.Growing.{prefix_trans}
use Rattle.hull_pool.proofs.Worked.{not_begun_at, one_more, finished}
use Rattle.hull_pool.proofs.worker.work.Goals as goal

pub loop-call-init : goal.loop-call-init
loop-call-init g c = grind (arith, common_steps, not_begun_at, append-nil)

pub loop-call-preserved : goal.loop-call-preserved
loop-call-preserved g c =
    let inv = c.loop-call.invariant in record {
      own = c.make_call-next.ensures.back.own;
      seat_is = c.make_call-next.ensures.back.number;
      number_is = inv.number_is;
      same_number = inv.same_number;
      away = inv.away;
      begins = prefix_trans _ _ _ inv.begins c.make_call-next.ensures.back.begins;
      ledger_is = c.make_call-next.ensures.back.ledger;
      worked = one_more (box_value (opening_book c.args.lock.now)).head.journal _ _ _ _ _ _ _ _ _ _
          c.make_call-next.result.1 inv.worked c.loop-call-test.true (sym c.call-item.is)
          c.make_call-next.ensures.served c.push_reserved.ensures.items;
      index_is = ap (λ (n : ℕ). n + 1) inv.index_is;
      space = omega (
        arith,
        c.push_reserved.ensures.len,
        c.push_reserved.ensures.capacity,
        inv.space,
        c.loop-call-test.true,
      );
      same_space = c.push_reserved.ensures.capacity ∙ inv.same_space;
    }

pub returns : goal.returns
returns g c =
    let inv = c.loop-call.invariant in record {
      seated = search (rules, common_steps);
      number = inv.same_number;
      own = rw c.replace-none.ensures.after (
        inv.own,
        inv.seat_is ∙ sym inv.number_is,
        inv.begins,
        subst (λ (k : ℕ). IsLedgerOf k (seat_seen c.loop-call.seat) c.loop-call.worker.ledger)
            (sym inv.number_is) inv.ledger_is,
        finished _ _ _ _ _ c.args.phase.now _ _ _ _ inv.number_is c.calls-call-items.ensures
            c.loop-call.auto.call-index-end c.loop-call-test.false inv.worked,
      );
      space = inv.same_space;
    }
