-- Laws of changes.
use Rattle.std.specs.Prelude.{◌≡◌}
use Rattle.hull_set.specs.Held.{Held}
use Rattle.hull_set.specs.Replies.{after}
use Rattle.hull_set.specs.declared.call.Call.{Call}
use Rattle.hull_set.specs.declared.reply.Reply.{Reply}
use Rattle.hull_snapshots.specs.Changes.{change_of, changed}

-- the change of a call with its reply has the effect of that reply on the set
abbrev pub ChangesHaveTheEffect : Type 0
ChangesHaveTheEffect = (held : Held) (call : Call) (reply : Reply) → changed held (change_of call reply) ≡ after held call reply
