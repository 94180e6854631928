-- Texts from pieces.
use Rattle.std.specs.Prelude.{ℕ, List, [], ◌∷◌, ◌++◌, decimal}

-- a number after some words
abbrev pub returned : List ℕ → ℕ → List ℕ
returned words n = words ++ decimal n

-- the texts of the items of a list, one after the other
unfoldable pub texts : {A : Type 0} → (A → List ℕ) → List A → List ℕ
texts text [] = []
texts text (x ∷ xs) = text x ++ texts text xs
