-- one of the two contains the other, or neither does
use Rattle.std.proofs.Common.{refl}
use Rattle.lattice.proofs.Tests.{failed}
use Rattle.hull_polygon.proofs.polygon.Polygon.relation.Goals as goal

pub relation_of_neither-requires : goal.relation_of_neither-requires
relation_of_neither-requires c = record {
  neither = λ S o T t. (
    failed _ _ refl (c.in-false-false.ensures S o T t),
    failed _ _ refl (c.in-false-false.ensures' T t S o),
  );
}

pub returns-in-true-true : goal.returns-in-true-true
returns-in-true-true c = λ S o T t. ((c.in-true-true.ensures S o T t).0 refl, (c.in-true-true.ensures' T t S o).0 refl)

pub returns-in-true-false : goal.returns-in-true-false
returns-in-true-false c = λ S o T t.
    ((c.in-true-false.ensures S o T t).0 refl, failed _ _ refl (c.in-true-false.ensures' T t S o))

pub returns-in-false-true : goal.returns-in-false-true
returns-in-false-true c = λ S o T t.
    (failed _ _ refl (c.in-false-true.ensures S o T t), (c.in-false-true.ensures' T t S o).0 refl)
