-- Writing one text after another.
use Rattle.std.proofs.Common.{◌≡◌, ◌++◌, ◌∙◌, ℕ, zero, suc, List, take, drop, Option, refl, sym, ap}
use Rattle.std.proofs.Common.{append_assoc}
use Rattle.std.proofs.lemmas.List.{take-append-drop}
use Rattle.std.specs.Io.KnownBytes.{Appends}
use Rattle.std.proofs.KnownBytes.{Appends-trans}
use Rattle.text_io.specs.Count.{CountsTaken}

-- The text that a loop over pieces has written so far.
pub record Written (a b : Option (List ℕ)) (piece rest : List ℕ) : Type 0 where
  pub front : List ℕ
  pub whole : piece ≡ front ++ rest
  pub grown : Appends a b front

-- One write more took a part of the rest.
pub written_more : (a b c : Option (List ℕ)) (piece rest : List ℕ) (n : ℕ) → Written a b piece rest
    → Appends b c (take n rest) → Written a c piece (drop n rest)
written_more a b c piece rest n w p = record {
  front = w.front ++ take n rest;
  whole = w.whole ∙ ap (λ (t : List ℕ). w.front ++ t) (sym (take-append-drop n rest))
      ∙ sym (append_assoc w.front (take n rest) (drop n rest));
  grown = Appends-trans a b c w.front (take n rest) w.grown p;
}

-- A write that took something leaves the count unchanged.
pub count_kept : (n len old new : ℕ) → (n ≡ 0 → ⊥) → CountsTaken n len old new → new ≡ old
count_kept zero len old new h p = absurd (h refl)
count_kept (suc n) len old new h p = p
