-- the exchange preserves the rule
use Rattle.std.proofs.Common.{sym, ◌∙◌}
use Rattle.published_snapshots.proofs.AddedLines.{adds_moves}
use Rattle.published_snapshots.proofs.history.Prefix.add.Goals as goal

pub compare_exchange-found-requires : goal.compare_exchange-found-requires
compare_exchange-found-requires g c =
    let h = c.args.history.now.of_history in
    let offer = c.plain-offer.ensures in
    let pen = c.no_pen-pen.ensures in (
      h.0,
      c.requires.history,
      pen.0 ∙ c.requires.history,
      offer.0,
      rw (h.1, pen.1, offer.1, offer.3)
          (adds_moves c.args.self.now.seen.log c.args.line c.args.self.now.count (sym c.args.self.now.counted)),
    )
