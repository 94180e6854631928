-- The bytes so far have the form, so the whole has it if the rest has it after them.
use Rattle.std.proofs.Common.{◌≡◌, length, true}
use Rattle.hull_text.specs.Form.{has_form_after}
use Rattle.hull_text.proofs.read.script_line.is_well_formed.Given as goal

abbrev pub invariant-loop-rest : goal.invariant-loop-rest
invariant-loop-rest l = has_form_after true l.line ≡ has_form_after l.spaced l.rest

abbrev pub decreases-loop-rest : goal.decreases-loop-rest
decreases-loop-rest l = length l.rest
