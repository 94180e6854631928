-- The replies that a call may have, by the rules, the contents of the set before it, and the limit on the number of
-- points; and the effect of a reply on the contents. In questions S is the list of the set's points.
use Rattle.std.specs.Prelude.{◌≡◌, ◌≢◌, ◌⊎◌, ℕ, ◌+◌, ◌<◌, ◌≤◌, pos, List, [], length, Option, Some, None, Result, Ok}
use Rattle.std.specs.Prelude.{Err, Vec}
use Rattle.std.specs.List.{Contains}
use Rattle.lattice.specs.Plane.{Pair}
use Rattle.lattice.specs.Covers.{Covers}
use Rattle.lattice.specs.Places.{IsInside, IsOnBoundary, IsOutside}
use Rattle.lattice.specs.Vertices.{IsVertexList, IsDoubledArea}
use Rattle.hull_set.specs.Held.{Held, with_new, with_again, with_one_less, with_none}
use Rattle.hull_geometry.specs.Tangents.{IsFirstFarthest, IsLeftTangent, IsRightTangent}
use Rattle.hull_set.specs.declared.set.Place.{Place as WherePlaced}
use Rattle.hull_set.specs.declared.set.Place.TheVariants.{Inside, On, Outside}
use Rattle.hull_set.specs.declared.call.Call.{Call}
use Rattle.hull_set.specs.declared.call.Call.TheVariants as call
use Rattle.hull_set.specs.declared.reply.Reply.{Reply}
use Rattle.hull_set.specs.declared.reply.Reply.TheVariants as reply
use Rattle.hull_set.specs.declared.TheConstants.{MULTIPLICITY_LIMIT}
use Rattle.hull_set.specs.declared.rules.Rules.{Rules}
use Rattle.hull_set.specs.declared.rules.Rules.TheVariants.{Set, Counted}
use Rattle.hull_set.specs.declared.set.AddReply.{AddReply}
use Rattle.hull_set.specs.declared.set.AddReply.TheVariants as add
use Rattle.hull_set.specs.declared.set.RemoveReply.{RemoveReply}
use Rattle.hull_set.specs.declared.set.RemoveReply.TheVariants as remove

-- the replies to `add p`: `already` if points are not counted; `again n` if they are and p has multiplicity n-1, with n
-- from 2 to the limit of multiplicities
abbrev pub AnswersAdd : Rules → Held → ℕ → Pair → Reply → Type 0
AnswersAdd rules held limit p reply.Added = ¬ Contains held.points p × (length held.points < limit)
AnswersAdd rules held limit p reply.NoMemory = ¬ Contains held.points p × (length held.points < limit)
AnswersAdd rules held limit p reply.Already = (rules ≡ Set) × Contains held.points p
AnswersAdd rules held limit p (reply.Again n) =
    (rules ≡ Counted) × Contains held.points p × (n ≡ held.multiplicities p + 1) × (2 ≤ n) × (n ≤ MULTIPLICITY_LIMIT)
AnswersAdd rules held limit p reply.TooMany =
    (¬ Contains held.points p × (length held.points ≡ limit))
    ⊎ ((rules ≡ Counted) × Contains held.points p × (held.multiplicities p ≡ MULTIPLICITY_LIMIT))
AnswersAdd rules held limit p _ = ⊥

-- the replies to `remove p`: if points are counted, `removed` if p has multiplicity 1, and `left n` if it has
-- multiplicity n+1, with n at least 1
abbrev pub AnswersRemove : Rules → Held → Pair → Reply → Type 0
AnswersRemove rules held p reply.Removed = Contains held.points p × (rules ≡ Counted → held.multiplicities p ≡ 1)
AnswersRemove rules held p (reply.Left n) = (rules ≡ Counted) × Contains held.points p × (held.multiplicities p ≡ n + 1) × (1 ≤ n)
AnswersRemove rules held p reply.Absent = ¬ Contains held.points p
AnswersRemove rules held p _ = ⊥

-- the replies to `extreme d`
abbrev pub AnswersExtreme : List Pair → Pair → Reply → Type 0
AnswersExtreme S d (reply.Farthest t) = IsFirstFarthest S d t
AnswersExtreme S d reply.Empty = S ≡ []
AnswersExtreme S d _ = ⊥

-- the place of q
abbrev pub LiesAt : List Pair → Pair → WherePlaced → Type 0
LiesAt S q Inside = IsInside S q
LiesAt S q On = IsOnBoundary S q
LiesAt S q Outside = IsOutside S q

-- the replies to `place q`
abbrev pub AnswersPlace : List Pair → Pair → Reply → Type 0
AnswersPlace S q (reply.Lies where_it_lies) = LiesAt S q where_it_lies
AnswersPlace S q _ = ⊥

-- the replies to `tangents q`
abbrev pub AnswersTangents : List Pair → Pair → Reply → Type 0
AnswersTangents S q (reply.TangentPoints l r) = ¬ Covers S q × IsLeftTangent S q l × IsRightTangent S q r
AnswersTangents S q reply.NoTangent = (S ≡ []) ⊎ Covers S q
AnswersTangents S q _ = ⊥

-- the replies to `vertices`
abbrev pub AnswersVertices : List Pair → Reply → Type 0
AnswersVertices S (reply.VertexList vertices) = IsVertexList S vertices
AnswersVertices S reply.NoMemory = S ≢ []
AnswersVertices S _ = ⊥

-- the replies to `area`
abbrev pub AnswersArea : List Pair → Reply → Type 0
AnswersArea S (reply.DoubledArea n) = IsDoubledArea S (pos n)
AnswersArea S _ = ⊥

-- the replies to `count`
abbrev pub AnswersCount : List Pair → Reply → Type 0
AnswersCount S (reply.PointCount n) = n ≡ length S
AnswersCount S _ = ⊥

-- the reply is allowed for the call
abbrev pub Answers : Rules → Held → ℕ → Call → Reply → Type 0
Answers rules held limit (call.Add p) reply = AnswersAdd rules held limit p reply
Answers rules held limit (call.Remove p) reply = AnswersRemove rules held p reply
-- written by tools/table.py: a case for each question
Answers rules held limit (call.Extreme d) reply = AnswersExtreme held.points d reply
Answers rules held limit (call.Place q) reply = AnswersPlace held.points q reply
Answers rules held limit (call.Tangents q) reply = AnswersTangents held.points q reply
Answers rules held limit call.Vertices reply = AnswersVertices held.points reply
Answers rules held limit call.Area reply = AnswersArea held.points reply
Answers rules held limit call.Count reply = AnswersCount held.points reply

-- end of what tools/table.py writes

-- the contents after the reply to `add p`
abbrev pub after_add : Held → Pair → Reply → Held
after_add held p reply.Added = with_new p held
after_add held p (reply.Again n) = with_again p held
after_add held p _ = held

-- the contents after the reply to `remove p`
abbrev pub after_remove : Held → Pair → Reply → Held
after_remove held p reply.Removed = with_none p held
after_remove held p (reply.Left n) = with_one_less p held
after_remove held p _ = held

-- the effect of a reply: the multiplicity of p is raised by one after `added` and `again`, and lowered by one after
-- `removed` and `left`; else nothing changes
abbrev pub after : Held → Call → Reply → Held
after held (call.Add p) reply = after_add held p reply
after held (call.Remove p) reply = after_remove held p reply
after held _ reply = held

-- the reply is possible with the rules: `already` if points are not counted, `again` and `left` if they are, with a
-- number that a multiplicity may be; every other reply is possible with both
abbrev pub IsReplyOf : Rules → Reply → Type 0
IsReplyOf rules reply.Already = rules ≡ Set
IsReplyOf rules (reply.Again n) = (rules ≡ Counted) × (n ≤ MULTIPLICITY_LIMIT)
IsReplyOf rules (reply.Left n) = (rules ≡ Counted) × (n ≤ MULTIPLICITY_LIMIT)
IsReplyOf rules _ = Unit {0}

-- ---- the results of a set's calls, as replies

-- the result of `add` as a reply
abbrev pub reply_to_add : AddReply → Reply
reply_to_add add.Added = reply.Added
reply_to_add (add.Again n) = reply.Again n
reply_to_add add.TooMany = reply.TooMany
reply_to_add add.NoMemory = reply.NoMemory

-- the result of `remove` as a reply
abbrev pub reply_to_remove : RemoveReply → Reply
reply_to_remove remove.Removed = reply.Removed
reply_to_remove (remove.Left n) = reply.Left n
reply_to_remove remove.Absent = reply.Absent

-- the result of `extreme` as a reply
abbrev pub reply_to_extreme : Option Pair → Reply
reply_to_extreme None = reply.Empty
reply_to_extreme (Some t) = reply.Farthest t

-- the result of `tangents` as a reply
abbrev pub reply_to_tangents : Option (Pair × Pair) → Reply
reply_to_tangents None = reply.NoTangent
reply_to_tangents (Some ends) = reply.TangentPoints ends.0 ends.1

-- the result of `vertices` as a reply
abbrev pub reply_to_vertices : {A E : Type 0} → Result (Vec Pair A) E → Reply
reply_to_vertices (Ok v) = reply.VertexList v.items
reply_to_vertices (Err e) = reply.NoMemory
