-- one point more was copied
use Rattle.std.proofs.Common.{◌∷◌, [], ◌++◌, ◌∙◌, sym, ap, List, arith}
use Rattle.std.proofs.lemmas.Grind.{common_steps}
use Rattle.std.proofs.lemmas.List.Edits.{between_more}
use Rattle.std.specs.List.{between}
use Rattle.lattice.specs.Plane.{Pair}
use Rattle.tiered_list.proofs.list.TieredList.copy_rest.Goals as goal

pub loop-i-preserved : goal.loop-i-preserved
loop-i-preserved c =
    let within = c.loop-i-test.true in
    record {
      rest = c.push_reserved.ensures.items
          ∙ ap (λ (z : List Pair). z ++ c.get.result ∷ []) c.loop-i.invariant.rest
          ∙ ap (λ (p : Pair). between c.args.from c.loop-i.i c.args.self.now.items ++ p ∷ []) c.get.ensures
          ∙ sym (between_more c.args.self.now.items c.args.from c.loop-i.i c.get.result c.loop-i.auto.i
          (omega (arith, within, c.len-i-end.ensures)));
      capacity = c.push_reserved.ensures.capacity ∙ c.loop-i.invariant.capacity;
    }

-- grind closes these at once; the tactic that is tried first takes long
pub returns-clause-rest : goal.returns-clause-rest
returns-clause-rest c = grind (arith, common_steps)

pub push_reserved-requires : goal.push_reserved-requires
push_reserved-requires c = grind (arith, common_steps)
