-- The form of a line.
use Rattle.std.specs.Prelude.{ℕ, List, [], ◌∷◌, ◌==◌, ◌&&◌, not, nat_le, Bool, true, false, if◌then◌else◌}

-- The form of the bytes after a space or the line's beginning (then spaced is true), or after another byte.
abbrev pub has_form_after : Bool → List ℕ → Bool
has_form_after spaced [] = not spaced
has_form_after spaced (b ∷ bs) =
    if b == 32 then (not spaced && has_form_after true bs) else (nat_le 33 b && nat_le b 126 && has_form_after false bs)

-- all bytes are from 32 to 126, no space is first or last, and no two are adjacent
unfoldable pub has_form : List ℕ → Bool
has_form line = has_form_after true line
