-- How values are spelled as fields.
use Rattle.std.specs.Prelude.{◌≡◌, ◌<◌, ◌≤◌, ◌^◌, ℕ, ℤ, pos, negsuc, List, [], ◌∷◌, ◌++◌, length, decimal}
use Rattle.std.specs.List.{join_with_byte}
use Rattle.std.specs.Fmt.{signed_decimal}
use Rattle.lattice.specs.Plane.{Pair}
use Rattle.hull_set.specs.declared.TheConstants.{POINT_LIMIT}
use Rattle.hull_set.specs.declared.call.Call.{Call}
use Rattle.hull_set.specs.declared.call.Call.TheVariants as call
use Rattle.hull_set.specs.declared.reply.Reply.{Reply}
use Rattle.hull_set.specs.declared.reply.Reply.TheVariants as reply
use Rattle.hull_set.specs.Replies.{IsReplyOf}
use Rattle.hull_set.specs.declared.set.Place.{Place as Where}
use Rattle.hull_set.specs.declared.set.Place.TheVariants.{Inside, On, Outside}
use Rattle.hull_text.specs.declared.version.Version.{Version}
use Rattle.hull_text.specs.declared.words.CallWord.TheVariants as word
use Rattle.hull_text.specs.declared.words.ReplyWord.TheVariants as returned
use Rattle.hull_text.specs.Version.{coordinate_limit, version_rules}
use Rattle.hull_text.specs.Words.{call_word_text, reply_word_text}

-- at most the limit in size
abbrev pub IsSized : ℕ → ℤ → Type 0
IsSized limit (pos n) = n ≤ limit
IsSized limit (negsuc n) = n < limit

-- a pair of coordinates
abbrev pub IsPair : Version → Pair → Type 0
IsPair v p = IsSized (coordinate_limit v) p.x × IsSized (coordinate_limit v) p.y

-- both are spelled as signed numbers
abbrev pub pair_fields : Pair → List (List ℕ)
pair_fields p = signed_decimal p.x ∷ signed_decimal p.y ∷ []

-- a pair that is a direction
abbrev pub IsSomeDirection : Version → Pair → Type 0
IsSomeDirection v d = IsPair v d × (d.x ≡ pos 0 → d.y ≡ pos 0 → ⊥)

-- a call that the texts of a version can spell
abbrev pub IsCall : Version → Call → Type 0
-- written by tools/table.py: a case for each call, said
IsCall v (call.Add p) = IsPair v p
IsCall v (call.Remove p) = IsPair v p
IsCall v (call.Extreme d) = IsSomeDirection v d
IsCall v (call.Place p) = IsPair v p
IsCall v (call.Tangents p) = IsPair v p
IsCall v call.Vertices = Unit {0}
IsCall v call.Area = Unit {0}
IsCall v call.Count = Unit {0}

-- end of what tools/table.py writes

-- a call is spelled by its word, and by the fields that belong to it
abbrev pub call_fields : Call → List (List ℕ)
-- written by tools/table.py: a case for each call, spelled
call_fields (call.Add p) = call_word_text word.Add ∷ pair_fields p
call_fields (call.Remove p) = call_word_text word.Remove ∷ pair_fields p
call_fields (call.Extreme d) = call_word_text word.Extreme ∷ pair_fields d
call_fields (call.Place p) = call_word_text word.Place ∷ pair_fields p
call_fields (call.Tangents p) = call_word_text word.Tangents ∷ pair_fields p
call_fields call.Vertices = call_word_text word.Vertices ∷ []
call_fields call.Area = call_word_text word.Area ∷ []
call_fields call.Count = call_word_text word.Count ∷ []

-- end of what tools/table.py writes

-- a point in a reply is spelled as in a call
abbrev pub points_fields : List Pair → List (List ℕ)
points_fields [] = []
points_fields (p ∷ ps) = pair_fields p ++ points_fields ps

-- the points are ones of the version
abbrev pub ArePairs : Version → List Pair → Type 0
ArePairs v [] = Unit {0}
ArePairs v (p ∷ ps) = IsPair v p × ArePairs v ps

-- the points of a reply are ones of the version, and its numbers are within the limits of their places
abbrev pub IsReplyInRange : Version → Reply → Type 0
-- written by tools/table.py: a case for each reply, said
IsReplyInRange v (reply.Farthest p) = IsPair v p
IsReplyInRange v (reply.TangentPoints l r) = IsPair v l × IsPair v r
IsReplyInRange v (reply.VertexList ps) = (length ps ≤ POINT_LIMIT) × ArePairs v ps
IsReplyInRange v (reply.DoubledArea n) = n < 2 ^ 128
IsReplyInRange v (reply.PointCount n) = n ≤ 4294967295
-- end of what tools/table.py writes
IsReplyInRange v _ = Unit {0}

-- a reply that the journals of a version can spell: one of its rules, with such points and numbers
abbrev pub IsReply : Version → Reply → Type 0
IsReply v r = IsReplyOf (version_rules v) r × IsReplyInRange v r

-- the fields of a point's location
abbrev pub place_fields : Where → List (List ℕ)
place_fields Inside = reply_word_text returned.Inside ∷ []
place_fields On = reply_word_text returned.On ∷ []
place_fields Outside = reply_word_text returned.Outside ∷ []

-- a reply is spelled by its word, and by the fields that belong to it
abbrev pub reply_fields : Reply → List (List ℕ)
-- written by tools/table.py: a case for each reply, spelled
reply_fields reply.Added = reply_word_text returned.Added ∷ []
reply_fields reply.Already = reply_word_text returned.Already ∷ []
reply_fields (reply.Again n) = reply_word_text returned.Again ∷ decimal n ∷ []
reply_fields reply.TooMany = reply_word_text returned.TooMany ∷ []
reply_fields reply.NoMemory = reply_word_text returned.NoMemory ∷ []
reply_fields reply.Removed = reply_word_text returned.Removed ∷ []
reply_fields (reply.Left n) = reply_word_text returned.Left ∷ decimal n ∷ []
reply_fields reply.Absent = reply_word_text returned.Absent ∷ []
reply_fields (reply.Farthest p) = reply_word_text returned.Point ∷ pair_fields p
reply_fields reply.Empty = reply_word_text returned.Empty ∷ []
reply_fields (reply.Lies place) = place_fields place
reply_fields (reply.TangentPoints l r) = reply_word_text returned.Tangents ∷ (pair_fields l ++ pair_fields r)
reply_fields reply.NoTangent = reply_word_text returned.NoTangent ∷ []
reply_fields (reply.VertexList ps) = reply_word_text returned.List ∷ decimal (length ps) ∷ points_fields ps
reply_fields (reply.DoubledArea n) = reply_word_text returned.Area ∷ decimal n ∷ []
reply_fields (reply.PointCount n) = reply_word_text returned.Count ∷ decimal n ∷ []

-- end of what tools/table.py writes

-- a line of a text: its fields, with one space between each two, and a newline
abbrev pub line_text : List (List ℕ) → List ℕ
line_text fields = join_with_byte 32 fields ++ 10 ∷ []
