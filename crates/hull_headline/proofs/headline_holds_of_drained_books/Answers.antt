-- the law of the lock leads to a good world, which implies each sentence about the whole
use Rattle.std.proofs.Common.{refl}
use Rattle.hull_headline.proofs.Good.{first_come, one_holder, bridges, multiplicities, legal, in_order, ledgers}
use Rattle.hull_headline.proofs.Tickets.{tickets}
use Rattle.hull_headline.specs.Headline.{StoresBridgesOf, drained}
use Rattle.hull_tree.specs.Sets.{hull_tree}
use Rattle.hull_headline.proofs.headline_holds_of_drained_books.Goals as goal

pub returns : goal.returns
returns c = let law = c.partitioned_schedules_hold.ensures in record {
  first_come = first_come hull_tree drained (λ b lawful. lawful) law;
  one_holder = one_holder hull_tree drained (λ b lawful. lawful) law;
  bridges = bridges hull_tree drained (λ b lawful. lawful) StoresBridgesOf (λ t sound. (sound.built, refl)) law;
  multiplicities = multiplicities hull_tree drained (λ b lawful. lawful) law;
  legal = legal hull_tree drained (λ b lawful. lawful) law;
  in_order = in_order hull_tree drained (λ b lawful. lawful) law;
  tickets = tickets drained;
  ledgers = ledgers hull_tree drained (λ b lawful. lawful) law;
  segments = λ seats book opening now steps led free. c.segments_are_the_journal.ensures.journal _;
}
