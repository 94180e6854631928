-- Nothing was read: no item, and one worker.
use Rattle.hull_text.proofs.Drafts.{draft_empty}
use Rattle.hull_text.proofs.read.script_draft.ScriptDraft.new.Goals as goal

pub invariant_of-result : goal.invariant_of-result
invariant_of-result c = record { is_draft = draft_empty _ c.new.ensures.items }
