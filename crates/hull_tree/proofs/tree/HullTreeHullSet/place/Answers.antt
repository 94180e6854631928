-- the points of the whole half are those of the set
use Rattle.hull_tree.proofs.tree.HullTreeHullSet.place.Goals as goal

pub returns-in-Some : goal.returns-in-Some
returns-in-Some c = rw c.in-Some.ensures.points c.place.ensures
