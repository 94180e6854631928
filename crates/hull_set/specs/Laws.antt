-- The law of the replies, which is the contract of a public function with an empty body.
use Rattle.std.specs.Prelude.{◌≡◌, ◌⊎◌, ℕ}
use Rattle.hull_set.specs.Held.{Held}
use Rattle.hull_set.specs.Replies.{Answers}
use Rattle.hull_set.specs.declared.rules.Rules.{Rules}
use Rattle.hull_set.specs.declared.call.Call.{Call}
use Rattle.hull_set.specs.declared.reply.Reply.{Reply}
use Rattle.hull_set.specs.declared.reply.Reply.TheVariants.{NoMemory}

-- the two replies are equal, or one of them is that memory was refused
abbrev pub AgreesWith : Reply → Reply → Type 0
AgreesWith reply other = (reply ≡ other) ⊎ ((reply ≡ NoMemory) ⊎ (other ≡ NoMemory))

-- with either rules a call has only one possible reply, except that memory may be refused
abbrev pub RepliesAreUnique : Type 0
RepliesAreUnique =
    (rules : Rules) (held : Held) (limit : ℕ) (call : Call) (reply other : Reply)
    → Answers rules held limit call reply → Answers rules held limit call other → AgreesWith reply other
