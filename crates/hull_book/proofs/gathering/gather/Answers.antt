-- the counts sum to the length of the journal, and the journal has no more lines than its capacity
use Rattle.std.proofs.Common.{◌∙◌, ap, arith, length}
use Rattle.hull_book.proofs.Counts.{all_counts}
use Rattle.hull_book.proofs.gathering.gather.Goals as goal

pub sum_of-requires : goal.sum_of-requires
sum_of-requires g c =
    omega (
      arith,
      all_counts _ _ c.requires.lawful c.requires.ledgers,
      c.requires.lawful.within,
      c.allowed-allowed.ensures,
    )

pub returns-clause-length : goal.returns-clause-length
returns-clause-length g c =
    let law = g.met.B.JournaledBook in let book = c.args.book.now in
    c.sum_of.ensures ∙ all_counts _ _ c.requires.lawful c.requires.ledgers ∙ ap length (law.has_lines book)
    ∙ law.as_many _
