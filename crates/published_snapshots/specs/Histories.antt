-- A history whose word is how many lines it has, and the results of the steps on that word.
use Rattle.std.specs.Prelude.{ℕ, ◌≡◌, ◌==◌, ◌<◌, true, List, [], ◌∷◌, ◌++◌, length, MatchBool}
use mathlib.Core.List.{IsPrefix}
use Rattle.logbook.specs.Pages.{Cell, Step, View}

module _ {L : Type 0} where
  -- the first word is the length of the history; a book has two words, and here the second stays 0
  pub record HasLength (cells : List Cell) (log : List L) : Type 0 where
    pub words : cells ≡ (length log, true) ∷ (0, true) ∷ []

  -- the line was added after all lines that had been seen; or the history has as many lines as were found, and these
  -- are seen now
  abbrev pub Adds : Step L → View L ℕ → ℕ → View L ℕ → Type 0
  Adds s v found w = MatchBool (found == s.old) (w.0 ≡ v.0 ++ s.ask ∷ []) (length w.0 ≡ found)

  -- ys begins with xs and has more lines
  abbrev pub IsLonger : List L → List L → Type 0
  IsLonger xs ys = IsPrefix xs ys × (length xs < length ys)
