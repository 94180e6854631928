-- The item of one line of a script, or its first fault from the left.
use Rattle.std.specs.Prelude.{ℕ, List, [], ◌∷◌, Option, Some, None, Result, Ok, Err, ◌==◌, not, if◌then◌else◌, codes}
use Rattle.std.specs.Str.{bytes_eq}
use Rattle.hull_text.specs.declared.fault.FaultKind.{FaultKind}
use Rattle.hull_text.specs.declared.fault.FaultKind.TheVariants.{Form}
use Rattle.hull_text.specs.Item.{Item}
use Rattle.hull_text.specs.Version.{newest}
use Rattle.hull_text.specs.Form.{has_form}
use Rattle.hull_text.specs.Field.{Field, ◌>>=◌, fields_of, seat_at, ended}
use Rattle.hull_text.specs.Call.{call_at}

-- a worker and its call
unfoldable pub served_at : List Field → Result (Option Item) FaultKind
served_at fs = do
  w ← seat_at fs
  c ← call_at newest w.1
  ended (Some (Some (w.0, c.0))) c.1

-- a line of a script; an empty line and a comment have no item
unfoldable pub script_line_of : List ℕ → Result (Option Item) FaultKind
script_line_of [] = Ok None
script_line_of (b ∷ bs) =
    if b == 35 then Ok None
    else if not (has_form (b ∷ bs)) then Err Form
    else if bytes_eq (b ∷ bs) (codes "join") then Ok (Some None)
    else served_at (fields_of (b ∷ bs))
