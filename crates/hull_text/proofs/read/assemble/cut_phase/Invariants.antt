-- No item so far ends the phase.
use Rattle.std.proofs.Common.{◌≡◌, ℕ, ◌<◌, None}
use Rattle.std.specs.List.{slice_index_or}
use Rattle.hull_text.proofs.read.assemble.cut_phase.Given as goal

abbrev pub invariant-loop-i : goal.invariant-loop-i
invariant-loop-i l = (k : ℕ) → k < l.i → slice_index_or l.items k None ≡ None → ⊥
