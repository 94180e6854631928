-- the look returns all that is required of the guard, and the ledger counts the lines found as it counted those seen
use Rattle.std.proofs.Common.{rules, sym, ◌∙◌}
use Rattle.explorer.proofs.Entered.{counts_found}
use Rattle.explorer.proofs.tests.player.make_step.Goals as goal

pub returns-in-Entered : goal.returns-in-Entered
returns-in-Entered g c =
    let ticket = rw (← c.in-Some-take.ensures.value) at c.requires.waits in
    let returned = c.in-Entered.ensures in record {
      below = c.requires.below;
      seated = search rules;
      waits = search rules;
      holds = rw (c.put-in-Entered.ensures, c.look_in-guard.ensures) record {
        own = returned.entered.0;
        head = returned.entered.3;
        number = returned.entered.1 ∙ ticket.number;
        lawful = returned.finds.lawful;
        same_head = returned.finds.same_head;
        turn = returned.finds.turn ∙ sym returned.entered.2;
        seen = returned.seen;
        counts = rw returned.seen (counts_found _ _ _ _ _ ticket.number returned.finds.own_lines ticket.counts);
      };
    }
