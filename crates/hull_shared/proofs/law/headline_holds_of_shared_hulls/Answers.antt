-- the law of the lock leads to a good world, which implies each sentence for the whole journal
use Rattle.std.proofs.Common.{refl}
use Rattle.hull_headline.proofs.Good.{first_come, one_holder, bridges, multiplicities, legal, in_order, ledgers}
use Rattle.hull_headline.proofs.Tickets.{tickets}
use Rattle.bucket_tree.specs.Sets.{bucket_set}
use Rattle.hull_shared.specs.Locks.{StoresBridgesOf, shared_hull}
use Rattle.hull_shared.proofs.law.headline_holds_of_shared_hulls.Goals as goal

pub returns : goal.returns
returns c = let law = c.partitioned_schedules_hold.ensures in record {
  first_come = first_come bucket_set shared_hull (λ b lawful. lawful) law;
  one_holder = one_holder bucket_set shared_hull (λ b lawful. lawful) law;
  bridges = bridges bucket_set shared_hull (λ b lawful. lawful) StoresBridgesOf (λ t sound. (sound.built, refl)) law;
  multiplicities = multiplicities bucket_set shared_hull (λ b lawful. lawful) law;
  legal = legal bucket_set shared_hull (λ b lawful. lawful) law;
  in_order = in_order bucket_set shared_hull (λ b lawful. lawful) law;
  tickets = tickets shared_hull;
  ledgers = ledgers bucket_set shared_hull (λ b lawful. lawful) law;
  segments = λ seats book opening now steps led free. c.segments_are_the_journal.ensures.journal _;
}
