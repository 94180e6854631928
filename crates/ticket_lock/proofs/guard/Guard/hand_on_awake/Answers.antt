-- the store of the next number is an event hand on, after which the seat is idle
use Rattle.ticket_lock.specs.Forms.{partitioned_form}
use Rattle.ticket_lock.proofs.FormsKept.{partitioned_laws}
use Rattle.std.proofs.Common.{rules, ℕ, ◌+◌, refl, sym, ap, ◌∙◌}
use Rattle.ticket_lock.specs.World.{wrap}
use Rattle.ticket_lock.proofs.Steps.{gives_from, gave_from, handed_is, given_is}
use Rattle.ticket_lock.proofs.guard.Guard.hand_on_awake.Goals as goal

pub store-requires : goal.store-requires
store-requires g c = (
  search rules,
  search rules,
  gives_from g.B.Chronicle partitioned_form partitioned_laws _ _ _ _ _ _ _ c.args.self.place.me _ c.args.self.book
      c.exchange-left.ensures.3
      (c.args.self.holding.0, refl, refl, c.args.self.holding.3) c.requires.head c.requires.hands
      (ap (λ (z : ℕ). wrap (z + 1)) (sym c.args.self.holding.2)),
)

pub returns : goal.returns
returns g c =
    let after = gave_from g.B.Chronicle partitioned_form partitioned_laws c.args.self.place.me
    c.exchange-left.new.seat.me c.store.new.seat.me c.args.self.book c.exchange-left.ensures.3 c.args.self.holding.3
    c.store.ensures.2 in
    let returned = given_is _ _ _ c.args.self.holding.0 (ap (λ m. m.0) after) in record {
      own = (
        search rules,
        returned.same.1 ∙ c.requires.head,
        handed_is g.B.Chronicle partitioned_form partitioned_laws c.args.self.place.me c.store.new.seat.me
            (g.B.Chronicle.lines c.args.self.book) c.args.self.seat c.args.self.holding.0 c.args.self.holding.1 after,
      );
      seat = sym c.args.self.holding.1;
      seen = returned.seen;
    }
