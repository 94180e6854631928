-- the headline of books over any set, for this one, whose soundness describes what it stores
use Rattle.std.proofs.Common.{refl}
use Rattle.hull_headline.proofs.Good.{bridges_of}
use Rattle.hull_headline.specs.Headline.{StoresBridgesInBuckets, bucketed}
use Rattle.bucket_tree.specs.Sets.{bucket_set}
use Rattle.hull_headline.proofs.headline_holds_of_bucketed_books.Goals as goal

pub returns : goal.returns
returns c = let all = c.headline_holds_of_books_over.ensures in record {
  first_come = all.first_come;
  one_holder = all.one_holder;
  bridges = bridges_of bucket_set bucketed StoresBridgesInBuckets (λ t sound. (sound.built, refl)) all.sound all.multiplicities;
  multiplicities = all.multiplicities;
  legal = all.legal;
  in_order = all.in_order;
  ledgers = all.ledgers;
}
