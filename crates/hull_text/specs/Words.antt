-- The words of calls and replies, in one table.
use Rattle.std.specs.Prelude.{ℕ, List, [], ◌∷◌, Option, Some, None, codes, if◌then◌else◌}
use Rattle.std.specs.Str.{bytes_eq}
use Rattle.hull_text.specs.declared.words.CallWord.{CallWord}
use Rattle.hull_text.specs.declared.words.CallWord.TheVariants as call
use Rattle.hull_text.specs.declared.words.ReplyWord.{ReplyWord}
use Rattle.hull_text.specs.declared.words.ReplyWord.TheVariants as reply

-- the first of these words that the field spells
abbrev pub word_in : {W : Type 0} → (W → List ℕ) → List W → List ℕ → Option W
word_in text [] field = None
word_in text (w ∷ ws) field = if bytes_eq field (text w) then Some w else word_in text ws field

-- written by tools/table.py: words

-- how a call word is spelled
abbrev pub call_word_text : CallWord → List ℕ
call_word_text call.Add = codes "add"
call_word_text call.Remove = codes "remove"
call_word_text call.Extreme = codes "extreme"
call_word_text call.Place = codes "place"
call_word_text call.Tangents = codes "tangents"
call_word_text call.Vertices = codes "vertices"
call_word_text call.Area = codes "area"
call_word_text call.Count = codes "count"

-- all call words
abbrev pub call_words : List CallWord
call_words = call.Add ∷ call.Remove ∷ call.Extreme ∷ call.Place ∷ call.Tangents ∷ call.Vertices ∷ call.Area ∷ call.Count
    ∷ []

-- how a reply word is spelled
abbrev pub reply_word_text : ReplyWord → List ℕ
reply_word_text reply.Added = codes "added"
reply_word_text reply.Already = codes "already"
reply_word_text reply.Again = codes "again"
reply_word_text reply.TooMany = codes "toomany"
reply_word_text reply.NoMemory = codes "nomemory"
reply_word_text reply.Removed = codes "removed"
reply_word_text reply.Left = codes "left"
reply_word_text reply.Absent = codes "absent"
reply_word_text reply.Count = codes "count"
reply_word_text reply.Point = codes "point"
reply_word_text reply.Empty = codes "empty"
reply_word_text reply.Inside = codes "inside"
reply_word_text reply.On = codes "on"
reply_word_text reply.Outside = codes "outside"
reply_word_text reply.Tangents = codes "tangents"
reply_word_text reply.NoTangent = codes "notangent"
reply_word_text reply.List = codes "list"
reply_word_text reply.Area = codes "area"

-- the reply words that answer a question
abbrev pub answer_words : List ReplyWord
answer_words = reply.Count ∷ reply.Point ∷ reply.Empty ∷ reply.Inside ∷ reply.On ∷ reply.Outside ∷ reply.Tangents
    ∷ reply.NoTangent ∷ reply.List ∷ reply.Area ∷ []

-- all reply words: first those that tell what a change did
abbrev pub reply_words : List ReplyWord
reply_words = reply.Added ∷ reply.Already ∷ reply.Again ∷ reply.TooMany ∷ reply.NoMemory ∷ reply.Removed ∷ reply.Left
    ∷ reply.Absent ∷ answer_words

-- end of what tools/table.py writes

-- the call word that a field spells
unfoldable pub call_word_of : List ℕ → Option CallWord
call_word_of field = word_in call_word_text call_words field

-- the reply word that a field spells
unfoldable pub reply_word_of : List ℕ → Option ReplyWord
reply_word_of field = word_in reply_word_text reply_words field
