-- the exchange preserves the rule
use Rattle.std.proofs.Common.{◌∙◌, ap}
use Rattle.published_snapshots.specs.declared.newest.Rise.{Rise}
use Rattle.published_snapshots.proofs.RaisedWords.{raises_moves}
use Rattle.published_snapshots.proofs.newest.Newest.raise.Goals as goal

pub compare_exchange-found-requires : goal.compare_exchange-found-requires
compare_exchange-found-requires c =
    let h = c.args.self.now.of_word in
    let offer = c.plain-offer.ensures in
    let pen = c.no_pen-pen.ensures in (
      h.0,
      c.requires.word,
      pen.0 ∙ c.requires.word,
      offer.0,
      rw (h.1, pen.1, offer.3)
          (raises_moves c.args.watermark.now.seen.log c.plain-offer.result.ask c.args.from c.args.to c.requires.rising
          (ap (λ (r : Rise). r.by) offer.1)),
    )
