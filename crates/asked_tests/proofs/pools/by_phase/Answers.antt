-- the workers may run the first phase of a script all of whose phases they may run
use Rattle.std.proofs.Common.{sym, ap, ◌∙◌, ◌∷◌, [], subst, List, arith}
use Rattle.std.specs.Prelude.{slice_index_or}
use Rattle.hull_plain.specs.Sets.{plain_set}
use Rattle.hull_book.specs.Scripts.{PhaseValue}
use Rattle.hull_pool.specs.Runs.{MayRunAll}
use Rattle.hull_pool.proofs.Fronts.{may_first}
use Rattle.asked_tests.proofs.pools.by_phase.Goals as goal

pub run_phase-end-requires-after_bounds : goal.run_phase-end-requires-after_bounds
run_phase-end-requires-after_bounds g c = λ κs bounds.
    subst (λ (p : PhaseValue). MayRunAll plain_set c.ready-book.result.0 c.ready-book.result.1 (p ∷ []))
    (sym (c.index-phases-0.is
    ∙ ap (λ (z : List PhaseValue). slice_index_or z 0 c.index-phases-0.result) c.phases.ensures.phases))
    (may_first c.ready-book.result.0 c.ready-book.result.1 c.args.script.now.phases c.index-phases-0.result
    c.ready-book.ensures (omega (arith, c.requires)))
