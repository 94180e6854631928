-- The result of a run of a script, phase by phase.
use Rattle.std.specs.Prelude.{◌≡◌, ◌++◌, List, [], ◌∷◌}
use Rattle.hull_book.specs.Books.{BookValue}
use Rattle.hull_book.specs.Scripts.{PhaseValue}
use Rattle.hull_pool.specs.Answers.{WorkersValue}
use Rattle.hull_pool.specs.Runs.{HasRunAll}
use Rattle.hull_set.specs.declared.set.HullSet.{Ghosts}

-- the phases were run one after the other: all lines of a phase are before those of the next
abbrev pub HasRunPhases : {S : Type 0} → Ghosts S → BookValue S → WorkersValue → List PhaseValue → BookValue S
    → WorkersValue → Type 0
HasRunPhases {S = S} K b w [] c v = (c ≡ b) × (v ≡ w)
HasRunPhases {S = S} K b w (phase ∷ phases) c v =
    (m : BookValue S) × (x : WorkersValue) × HasRunAll K b w (phase ∷ []) m x × HasRunPhases K m x phases c v

-- the phases were run, one after the other, with their result in all
abbrev pub Runs : {S : Type 0} → Ghosts S → BookValue S → WorkersValue → List PhaseValue → BookValue S
    → WorkersValue → Type 0
Runs K b w phases c v = HasRunPhases K b w phases c v × HasRunAll K b w phases c v

-- the phases before one that was refused were run, and nothing of it and of those after it
abbrev pub RunsFront : {S : Type 0} → Ghosts S → BookValue S → WorkersValue → List PhaseValue → BookValue S
    → WorkersValue → Type 0
RunsFront K b w phases c v =
    (front : List PhaseValue) × (refused : PhaseValue) × (back : List PhaseValue) × (phases ≡ front ++ refused ∷ back)
    × Runs K b w front c v
