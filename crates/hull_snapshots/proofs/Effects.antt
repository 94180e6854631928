-- A change has the effect of the reply that it was made from.
use Rattle.std.proofs.Common.{◌≡◌, refl}
use Rattle.lattice.specs.Plane.{Pair}
use Rattle.hull_set.specs.Held.{Held}
use Rattle.hull_set.specs.Replies.{after, after_add, after_remove}
use Rattle.hull_set.specs.declared.call.Call.TheVariants.{Add, Remove}
use Rattle.hull_set.specs.declared.reply.Reply.{Reply}
use Rattle.hull_set.specs.declared.reply.Reply.TheVariants.{Added, Again, Left, Removed}
use Rattle.hull_snapshots.specs.Changes.{change_of, change_of_add, change_of_remove, changed}
use Rattle.hull_snapshots.specs.Laws.{ChangesHaveTheEffect}

-- the change of an addition has the effect of its reply
of_add : (held : Held) (p : Pair) (reply : Reply) → changed held (change_of_add p reply) ≡ after_add held p reply
of_add held p Added = refl
of_add held p (Again n) = refl
of_add held p _ = refl

-- the change of a removal has the effect of its reply
of_remove : (held : Held) (p : Pair) (reply : Reply) → changed held (change_of_remove p reply) ≡ after_remove held p reply
of_remove held p Removed = refl
of_remove held p (Left n) = refl
of_remove held p _ = refl

-- the change of a call has the effect of its reply
pub effect : ChangesHaveTheEffect
effect held (Add p) reply = of_add held p reply
effect held (Remove p) reply = of_remove held p reply
effect held _ reply = refl
