-- one more relation was written
use Rattle.std.proofs.Common.{◌∙◌}
use Rattle.std.proofs.lemmas.List.{length-set}
use Rattle.hull_c.proofs.Written.{one_more}
use Rattle.hull_c.specs.Many.{IsRelationTo}
use Rattle.hull_c.proofs.many.relations.Goals as goal

pub loop-i-preserved : goal.loop-i-preserved
loop-i-preserved c = record {
  written = one_more (λ o n. IsRelationTo c.args.vertices.now o.now n) c.args.others.now c.loop-i.out c.loop-i.i _
      c.index-others-i.result c.loop-i-test.true c.loop-i.invariant.long c.loop-i.invariant.written c.index-others-i.is c.relation_to.ensures;
  long = length-set c.loop-i.out c.loop-i.i _ ∙ c.loop-i.invariant.long;
}
