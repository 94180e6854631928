-- Two lists side by side, with the same numbers.
use Rattle.std.proofs.lemmas.Grind.{common_steps}
use Rattle.std.proofs.Common.{◌≡◌, ℕ, zero, suc, List, [], ◌∷◌, ◌++◌, map, length, sym, ap, ◌∙◌, arith, All}
use Rattle.ticket_lock.specs.declared.chronicle.Chronicle.{Ghosts}
use Rattle.ticket_lock.specs.World.{own}
use Rattle.ticket_lock.specs.Tokens.{Stands}

-- the first number, or d
abbrev head_or : ℕ → List ℕ → ℕ
head_or d [] = d
head_or d (x ∷ xs) = x

-- all but the first
abbrev behind : List ℕ → List ℕ
behind [] = []
behind (x ∷ xs) = xs

module _ {A C : Type 0} (f : A → ℕ) (g : C → ℕ) where
  -- both lists got one more, with the same number
  pub matched : (xs new : List A) (ys more : List C) (x : A) (y : C) → new ≡ xs ++ x ∷ [] → more ≡ ys ++ y ∷ []
      → map f xs ≡ map g ys → f x ≡ g y → map f new ≡ map g more
  matched xs new ys more x y is there before same = grind (arith, common_steps, before)

module _ {A C B H L : Type 0} (K : Ghosts B H L) (b : B) (k : A → ℕ) (seen : A → List L) (number count : C → ℕ) where
  -- what is true of each seat is true of each tally
  pub tallied : (seats : List A) (tallies : List C) → map k seats ≡ map number tallies
      → map (λ s. length (own K (k s) (seen s))) seats ≡ map count tallies → All (λ s. Stands K (k s) (seen s) b) seats
      → All (λ t. length (own K (number t) (K.lines b)) ≡ count t) tallies
  tallied seats [] numbers counts stands i d l = absurd (omega arith)
  tallied [] (t ∷ ts) numbers counts stands i d l = absurd (let n = ap length numbers in omega arith)
  tallied (s ∷ ss) (t ∷ ts) numbers counts stands zero d l =
      let one = stands 0 s (omega arith) in
      let same : k s ≡ number t = ap (head_or (k s)) numbers in
      ap (λ (z : ℕ). length (own K z (K.lines b))) (sym same)
      ∙ (ap length one.own_lines ∙ ap (head_or (count t)) counts)
  tallied (s ∷ ss) (t ∷ ts) numbers counts stands (suc i) d l =
      tallied ss ts (ap behind numbers) (ap behind counts) (λ j e m. stands (suc j) e (omega arith)) i d (omega arith)
