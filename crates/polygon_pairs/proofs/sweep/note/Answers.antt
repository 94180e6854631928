-- the pair is after those that were found, or there is no space for it
use Rattle.std.proofs.Common.{List, ◌∷◌, [], ◌+◌, sym, subst}
use Rattle.polygon_pairs.specs.Sweeps.{Adds}
use Rattle.polygon_pairs.specs.declared.pair.HullPair.{HullPair}
use Rattle.polygon_pairs.proofs.Fronts.{adds_counted, adds_written}
use Rattle.polygon_pairs.proofs.sweep.note.Goals.{then-count-out, else-count-out}
use Rattle.polygon_pairs.proofs.sweep.note.Goals as goal

pub returns : goal.returns
returns c = elim c.if-count-out.branch [
  | then-count-out w ↦
      subst (λ (z : List HullPair). Adds (c.args.pair ∷ []) c.args.out.now c.args.count z (c.args.count + 1)) (sym w.out-is)
      (adds_written c.args.out.now c.args.count c.args.pair w.if-count-out.true)
  | else-count-out w ↦
      subst (λ (z : List HullPair). Adds (c.args.pair ∷ []) c.args.out.now c.args.count z (c.args.count + 1)) (sym w.out-is)
      (adds_counted c.args.out.now c.args.count c.args.pair w.if-count-out.false)
]
