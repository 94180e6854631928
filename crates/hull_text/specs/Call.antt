-- The calls that fields spell.
use Rattle.std.specs.Prelude.{List, [], ◌∷◌, Option, Some, None, Result, Ok, Err}
use Rattle.hull_set.specs.declared.call.Call.{Call}
use Rattle.hull_set.specs.declared.call.Call.TheVariants as call
use Rattle.hull_text.specs.declared.fault.FaultKind.{FaultKind}
use Rattle.hull_text.specs.declared.fault.FaultKind.TheVariants.{Form, Word}
use Rattle.hull_text.specs.declared.version.Version.{Version}
use Rattle.hull_text.specs.declared.words.CallWord.{CallWord}
use Rattle.hull_text.specs.declared.words.CallWord.TheVariants as word
use Rattle.hull_text.specs.Field.{Field, ◌>>=◌, point_at, direction_at}
use Rattle.hull_text.specs.Words.{call_word_of}

-- a call, from the fields after its word
unfoldable pub call_after : Version → Option CallWord → List Field → Result (Call × List Field) FaultKind
call_after v None fs = Err Word
-- written by tools/table.py: a case for each call word
call_after v (Some word.Add) fs = point_at v fs >>= λ p. Ok (call.Add p.0, p.1)
call_after v (Some word.Remove) fs = point_at v fs >>= λ p. Ok (call.Remove p.0, p.1)
call_after v (Some word.Extreme) fs = direction_at v fs >>= λ p. Ok (call.Extreme p.0, p.1)
call_after v (Some word.Place) fs = point_at v fs >>= λ p. Ok (call.Place p.0, p.1)
call_after v (Some word.Tangents) fs = point_at v fs >>= λ p. Ok (call.Tangents p.0, p.1)
call_after v (Some word.Vertices) fs = Ok (call.Vertices, fs)
call_after v (Some word.Area) fs = Ok (call.Area, fs)
call_after v (Some word.Count) fs = Ok (call.Count, fs)

-- end of what tools/table.py writes

-- a call: its word and the fields that belong to it
unfoldable pub call_at : Version → List Field → Result (Call × List Field) FaultKind
call_at v [] = Err Form
call_at v (f ∷ fs) = call_after v (call_word_of f) fs
