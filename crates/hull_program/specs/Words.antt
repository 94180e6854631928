-- The words that a program was started with.
use Rattle.std.specs.Prelude.{◌≡◌, ℕ, List, String, map, slice_get, string_bytes, Some}
use Rattle.std.specs.Global.{Global}
use Rattle.std.specs.Borrow.{Bor}

-- the words as texts
abbrev pub texts_of : List (Bor (List ℕ)) → List (List ℕ)
texts_of words = map (λ w. w.now) words

-- the text is one of these
abbrev pub IsOneOf : List (List ℕ) → List ℕ → Type 0
IsOneOf texts text = (k : ℕ) × (slice_get texts k ≡ Some text)

-- strings as texts
abbrev pub words_as_texts : List (String Global) → List (List ℕ)
words_as_texts words = map string_bytes words
