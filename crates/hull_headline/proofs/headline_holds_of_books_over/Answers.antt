-- the law of the lock leads to a good world, which implies each sentence
use Rattle.hull_book.specs.Kinds.{kept}
use Rattle.hull_headline.proofs.Good.{first_come, one_holder, bridges, multiplicities, legal, in_order, ledgers}
use Rattle.hull_headline.proofs.headline_holds_of_books_over.Goals as goal

pub returns : goal.returns
returns g c = let law = c.partitioned_schedules_hold.ensures in let set = g.S.HullSet in record {
  first_come = first_come set (kept set) (λ b lawful. lawful) law;
  one_holder = one_holder set (kept set) (λ b lawful. lawful) law;
  sound = bridges set (kept set) (λ b lawful. lawful) (λ t points. set.sound t) (λ t sound. sound) law;
  multiplicities = multiplicities set (kept set) (λ b lawful. lawful) law;
  legal = legal set (kept set) (λ b lawful. lawful) law;
  in_order = in_order set (kept set) (λ b lawful. lawful) law;
  ledgers = ledgers set (kept set) (λ b lawful. lawful) law;
}
